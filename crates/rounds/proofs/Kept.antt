-- The promise of a run with one call more, by what the call left.
use Rattle.std.proofs.Common.{◌≡◌, ℕ, zero, suc, List, [], ◌∷◌, ◌++◌, map, replicate, sym, ap, ◌∙◌, subst}
use Rattle.std.specs.List.{AllByRecursion as Every}
use Rattle.offers.specs.declared.records.Package.{Package}
use Rattle.pricing.specs.Prices.{Bounded, Meaning}
use Rattle.bounds.specs.Blocks.{Answers, SoundRule}
use Rattle.rounds.specs.declared.requests.Request.{Request}
use Rattle.rounds.specs.declared.requests.Request.TheVariants as request
use Rattle.rounds.specs.Requests.{call_of}
use Rattle.rounds.specs.Model.{open_and_vacant, after_from, after, Stepped, Call, PlainRound, step}
use Rattle.rounds.specs.Promises.{LawfulCall, Promise, Promised, Keeps}
use Rattle.rounds.specs.Views.{Continues, Serves}
use Rattle.rounds.proofs.Histories.{after_append, after_more}
use Rattle.rounds.proofs.Runs.{promised}
use Rattle.rounds.proofs.Keepings.{keeps_step}

lawful_append : (xs ys : List Call) → Every LawfulCall xs → Every LawfulCall ys → Every LawfulCall (xs ++ ys)
lawful_append [] ys laws more = more
lawful_append (x ∷ xs) ys laws more = (laws.0, lawful_append xs ys laws.1 more)

-- a call that gives what the plain round's step gives continues every run
continues : (before : PlainRound) (call : Call) (s : Stepped) → LawfulCall call → s ≡ step before call → Continues before call s
continues before call s law e calls laws at =
    let same : s ≡ step (after calls) call = e ∙ sym (ap (λ (m : PlainRound). step m call) at) in
    let round : s.after ≡ after (calls ++ call ∷ []) = ap (λ (x : Stepped). x.after) same ∙ sym (after_more calls call) in
    record {
      round = round;
      answer = ap (λ (x : Stepped). x.answer) same;
      promise = subst (Promise (calls ++ call ∷ [])) (sym round) (promised (calls ++ call ∷ []) (lawful_append calls (call ∷ []) laws (law, tt)));
    }

-- and so it owes nothing more
pub serves : (before : PlainRound) (call : Call) (s : Stepped) → LawfulCall call → s ≡ step before call → Serves before call s
serves before call s law e = record { step = e; keeps = subst (Keeps before call) (sym e) (keeps_step before call); run = continues before call s law e }

lawful_again : (call : Call) (n : ℕ) → LawfulCall call → Every LawfulCall (replicate n call)
lawful_again call zero law = tt
lawful_again call (suc n) law = (law, lawful_again call n law)

-- so many of one call more
pub promised_again : (before : PlainRound) (call : Call) (n : ℕ) (left : PlainRound) → LawfulCall call → left ≡ after_from before (replicate n call)
    → (calls : List Call) → Every LawfulCall calls → after calls ≡ before → Promise (calls ++ replicate n call) left
promised_again before call n left law is calls laws led =
    let more = replicate n call in
    let same : left ≡ after (calls ++ more) = is ∙ sym (ap (λ (m : PlainRound). after_from m more) led) ∙ sym (after_append open_and_vacant calls more) in
    subst (Promise (calls ++ more)) (sym same) (promised (calls ++ more) (lawful_append calls more laws (lawful_again call n law)))

module _ {P B : Type 0} (meaning : P → Meaning) (answers : B → Answers) (bounded : (rule : P) (p : Package) → Bounded (meaning rule p)) (sound : (rule : B) → SoundRule (answers rule)) where
  -- a request is a lawful call, since rules show their laws
  pub lawful_request : (r : Request P B) → LawfulCall (call_of meaning answers r)
  lawful_request (request.File n offer) = tt
  lawful_request (request.Withdraw k n) = tt
  lawful_request (request.CatchUp sheet) = tt
  lawful_request (request.Close rule) = bounded rule
  lawful_request (request.Search rule count) = sound rule
  lawful_request request.Reopen = tt
  lawful_request (request.ReadAward lent) = tt
  lawful_request (request.ReadFees rates lent) = tt
  lawful_request (request.WriteSheet buffer) = tt

  -- and so are those of a run
  pub lawful_requests : (requests : List (Request P B)) → Every LawfulCall (map (call_of meaning answers) requests)
  lawful_requests [] = tt
  lawful_requests (r ∷ rs) = (lawful_request r, lawful_requests rs)

-- the first of lawful calls are lawful
lawful_first : (before later : List Call) → Every LawfulCall (before ++ later) → Every LawfulCall before
lawful_first [] later laws = tt
lawful_first (call ∷ before) later laws = (laws.0, lawful_first before later laws.1)

-- the promise of a whole run
pub promised_all : (calls : List Call) → Every LawfulCall calls → Promised calls
promised_all calls laws = record {
  kept = λ before later e. promised before (lawful_first before later (subst (λ (xs : List Call). Every LawfulCall xs) e laws));
  each = λ before later call e. keeps_step (after before) call;
}
