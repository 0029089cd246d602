-- A sheet has one answer.
use Rattle.std.proofs.Common.{◌≡◌, ℕ, ◌≤◌, Bool, List, length, take, ◌≤ℤ◌, Option, IfSome, Ok, Err, Result, sym, ap, ◌∙◌, arith}
use Rattle.std.specs.Io.KnownBytes.{Appends}
use Rattle.std.proofs.lemmas.Int.{ints}
use Rattle.offers.specs.declared.refusals.Refusal.{Refusal}
use Rattle.clearing.specs.Lawful.{View, Best, surplus, filled_sales}
use Rattle.reports.specs.Answering.{AnswersDocket, AnswersSheet, sheet_docket, Answered}
use Rattle.reports.specs.Text.{award_text}

-- Two choices that are best are worth the same, and so each is the earliest.
one_best : (v : View) (a b : ℕ) → Best v a → Best v b → a ≡ b
one_best v a b x y =
    let most : surplus v b (filled_sales v b) ≤ℤ surplus v a (filled_sales v a) = x.greatest b (filled_sales v b) y.below y.lawful in
    let least : surplus v a (filled_sales v a) ≤ℤ surplus v b (filled_sales v b) = y.greatest a (filled_sales v a) x.below x.lawful in
    let same : surplus v a (filled_sales v a) ≡ surplus v b (filled_sales v b) = omega (arith, ints) in
    omega (arith, x.earliest b (filled_sales v b) y.below y.lawful (sym same), y.earliest a (filled_sales v a) x.below x.lawful same)

one_answer : (r : Result View Refusal) (refused other : Bool) (text told : List ℕ) → AnswersDocket r refused text → AnswersDocket r other told → (other ≡ refused) × (told ≡ text)
one_answer (Ok v) refused other text told a b = (b.0 ∙ sym a.0, b.1.so ∙ ap (award_text v) (one_best v b.1.choice a.1.choice b.1.best a.1.best) ∙ sym a.1.so)
one_answer (Err why) refused other text told a b = (b.0 ∙ sym a.0, b.1 ∙ sym a.1)

-- So a sheet that is read is answered by the text that is written, if that answers it.
pub answered : (left before after : Option (List ℕ)) (refused : Bool) (sheet text : List ℕ) → length sheet ≤ 4096 → IfSome left (λ all. sheet ≡ take 4096 all)
    → AnswersSheet sheet refused text → Appends before after text → Answered left before after refused
answered left before after refused sheet text few read answers written = record {
  sheet = sheet;
  few = few;
  read = read;
  text = text;
  answers = answers;
  only = λ other told. one_answer (sheet_docket sheet) refused other text told answers;
  written = written;
}
