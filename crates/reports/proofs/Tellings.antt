-- What is told of a sheet that is cleared, or not, answers it.
use Rattle.std.proofs.Common.{◌≡◌, ℕ, true, false, List, [], ◌∷◌, ◌++◌, replicate, ℤ, Ok, Result, sym, refl, ap, ap₂, ◌∙◌, subst, rules}
use Rattle.offers.specs.declared.records.Package.{Package}
use Rattle.offers.specs.declared.refusals.Refusal.{Refusal}
use Rattle.pricing.specs.Prices.{Bounded, filed_price}
use Rattle.clearing.specs.Lawful.{View, surplus, filled_sales}
use Rattle.bounds.specs.Blocks.{Answers}
use Rattle.search.specs.Search.{Standing}
use Rattle.rounds.specs.declared.awarded_round.AwardedRound.{AwardedRound}
use Rattle.rounds.specs.Model.{Search, Done, open_and_vacant}
use Rattle.rounds.specs.Promises.{OfAward}
use Rattle.reports.specs.declared.report.Report.{Report}
use Rattle.reports.specs.declared.report.Sold.{Sold}
use Rattle.reports.specs.Answering.{AnswersDocket, AnswersSheet}
use Rattle.reports.specs.Cleared.{Cleared, NotCleared, sheet_calls}
use Rattle.reports.specs.Reports.{Reports}
use Rattle.reports.specs.Text.{text_of, report_text, award_text, refused_text}
use Rattle.reports.proofs.SheetDockets.{closing_of, docket_of, refused_of}

-- equal values have equal text
same_text : (n n' m m' : ℕ) (packages packages' : List ℕ) (bands bands' : List Sold) (worth worth' : ℤ)
    → n ≡ n' → m ≡ m' → packages ≡ packages' → bands ≡ bands' → worth ≡ worth'
    → text_of n m packages bands worth ≡ text_of n' m' packages' bands' worth'
same_text n n' m m' packages packages' bands bands' worth worth' a b c d e =
    ap₂ (λ (i j : ℕ). text_of i j packages bands worth) a b
    ∙ ap₂ (λ (ps : List ℕ) (bs : List Sold). text_of n' m' ps bs worth) c d
    ∙ ap (text_of n' m' packages' bands') e

-- so a report of a leader has the text of its choice
told : (v : View) (at : Standing) (report : Report) → Reports v at report → at.surplus ≡ surplus v at.leader (filled_sales v at.leader) → report_text report ≡ award_text v at.leader
told v at report r worth =
    same_text _ _ _ _ _ _ _ _ _ _ r.open_packages r.all_choices r.packages r.sales (r.worth ∙ worth)

first_done : (a b : Result Unit Refusal) → Done a ∷ Done b ∷ [] ≡ Done (Ok tt) ∷ Done (Ok tt) ∷ [] → a ≡ Ok tt
first_done a b e = cc

filed_bounded : (p : Package) → Bounded (filed_price p)
filed_bounded p = search rules

-- The text of the report of a round that a sheet is cleared to answers the sheet.
pub awarded_answers : (rule : Answers) (sheet : List ℕ) (round : AwardedRound) (report : Report) → Cleared rule open_and_vacant sheet round → Reports round.docket round.at report
    → AnswersSheet sheet false (report_text report)
awarded_answers rule sheet round report cleared reports =
    let v = round.docket in
    let at = round.at in
    let f = cleared.finished in
    let award : OfAward (sheet_calls sheet ++ replicate f.searches (Search rule f.steps)) v at = f.run (sheet_calls sheet) (tt, (filed_bounded, tt)) refl in
    let docket = docket_of sheet v (first_done _ _ cleared.accepted) (closing_of sheet f.searches rule f.steps v award.closing) in
    subst (λ (r : Result View Refusal). AnswersDocket r false (report_text report)) (sym docket)
    (refl, record { choice = at.leader; best = award.award.best; so = told v at report reports award.award.worth })

-- And so does the text of the refusal of one that is not cleared.
pub refused_answers : (sheet : List ℕ) (why : Refusal) → NotCleared open_and_vacant sheet why → AnswersSheet sheet true (refused_text (record { 0 = why }))
refused_answers sheet why refused =
    subst (λ (r : Result View Refusal). AnswersDocket r true (refused_text (record { 0 = why }))) (sym (refused_of sheet why refused)) (refl, refl)
