-- Which contents are taken: those that pass every check. And what a refused one's refusal carries.
use Rattle.std.proofs.Common.{◌≡◌, ℕ, ◌-◌, Bool, true, false, cond, List, [], ◌∷◌, set, Some, None, Ok, Err, Option, Result, refl, subst, arith, rules}
use Rattle.std.proofs.lemmas.Bool.{cond_both, eq-eqb, eqb-true}
use Rattle.offers.specs.declared.refusals.Refusal.{Refusal}
use Rattle.offers.specs.declared.registers.Entry.{Entry}
use Rattle.offers.specs.Fields.{within}
use Rattle.offers.specs.Layouts.{Layout, fault_of}
use Rattle.offers.specs.Refusals.{Carries}
use Rattle.offers.specs.Registers.{entry, numbered}
use Rattle.sheets.specs.declared.fields.Cursor.{Cursor}
use Rattle.sheets.specs.Fields.{Check, rises, agrees, joined_entry, number_in, status_in, withdrawn_in, record_in, first_failed, content_checks, enter_content}

-- every check of a row is passed
abbrev AllPassed : List Check → Type 0
AllPassed [] = Unit {0}
AllPassed (c ∷ cs) = (c.passed ≡ true) × AllPassed cs

-- then none fails first
none_failed : (cs : List Check) → AllPassed cs → first_failed cs ≡ None
none_failed [] h = refl
none_failed (c ∷ cs) h = rw h.0 (none_failed cs h.1)

-- a check that is not the first to fail is passed
passed_first : {X : Type 0} (b : Bool) (rest : Option X) (x : X) → cond b rest (Some x) ≡ None → (b ≡ true) × (rest ≡ None)
passed_first true rest x e = (refl, e)
passed_first false rest x e = let z : ◌≡◌ {A = ℕ} 0 1 = cc in absurd (omega arith)

-- and where none fails first, all are
all_passed : (cs : List Check) → first_failed cs ≡ None → AllPassed cs
all_passed [] e = tt
all_passed (c ∷ cs) e =
    let here = passed_first c.passed (first_failed cs) c.refusal e in
    (here.0, all_passed cs here.1)

-- what a content passes that is taken
pub record Passed {R : Type 0} (k : Layout R) (es : List (Entry R)) (cursor : Cursor) (content : List ℕ) : Type 0 where
  pub has_entry : numbered k es (number_in content) ≡ true
  pub rising : rises cursor k.tag (number_in content) ≡ true
  pub status : within 1 2 (status_in content) ≡ true
  pub fine : fault_of k (record_in k content) ≡ 0
  pub accord : agrees k (entry es (number_in content)) (record_in k content) ≡ true

-- a number answered is that of the content, which passed
pub record Accepted {R : Type 0} (k : Layout R) (es : List (Entry R)) (cursor : Cursor) (content : List ℕ) (n : ℕ) : Type 0 where
  pub passed : Passed k es cursor content
  pub is_number : n ≡ number_in content

module _ {R : Type 0} (k : Layout R) (es : List (Entry R)) (cursor : Cursor) (content : List ℕ) where
  -- no check fails of a content that passes
  passes : Passed k es cursor content → first_failed (content_checks k es cursor content) ≡ None
  passes p =
      none_failed (content_checks k es cursor content)
      (p.has_entry, (p.rising, (p.status, (eq-eqb (fault_of k (record_in k content)) 0 p.fine, (p.accord, tt)))))

  -- so its number is the answer
  pub passed-answer : Passed k es cursor content → (enter_content k es cursor content).answer ≡ Ok (number_in content)
  passed-answer p = rw (passes p)

  -- and its number's entry is joined with its record
  pub passed-left : Passed k es cursor content → (enter_content k es cursor content).after ≡ set es (number_in content - 1) (joined_entry (entry es (number_in content)) (withdrawn_in content) (record_in k content))
  passed-left p = rw (passes p)

  -- only a content that passes is answered by a number
  pub accepted : (n : ℕ) → (enter_content k es cursor content).answer ≡ Ok n → Accepted k es cursor content n
  accepted n = by (first_failed (content_checks k es cursor content)) refl
    where
      by : (o : Option Refusal) → first_failed (content_checks k es cursor content) ≡ o → (enter_content k es cursor content).answer ≡ Ok n → Accepted k es cursor content n
      by None e answer =
          let all = all_passed (content_checks k es cursor content) e in
          let same : ◌≡◌ {A = Result ℕ Refusal} (Ok (number_in content)) (Ok n) = rw e at answer in
          record {
            passed = record {
              has_entry = all.0;
              rising = all.1.0;
              status = all.1.1.0;
              fine = eqb-true (fault_of k (record_in k content)) 0 all.1.1.1.0;
              accord = all.1.1.1.1.0;
            };
            is_number = cc;
          }
      by (Some said) e answer =
          let same : ◌≡◌ {A = Result ℕ Refusal} (Err said) (Ok n) = rw e at answer in
          let z : ◌≡◌ {A = ℕ} 0 1 = cc in
          absurd (omega arith)

-- a refusal, if there is one, carries no more than its code does
abbrev pub Fair : {X : Type 0} → Result X Refusal → Type 0
Fair (Ok x) = Unit {0}
Fair (Err said) = Carries said

-- what is fair and refused carries no more than its code does
pub fair_carries : {X : Type 0} {r : Result X Refusal} (said : Refusal) → Fair r → r ≡ Err said → Carries said
fair_carries said fair e = subst Fair e fair

-- the same of the first check to fail
abbrev FairFailure : Option Refusal → Type 0
FairFailure None = Unit {0}
FairFailure (Some said) = Carries said

-- every check's refusal carries no more than its code does
abbrev AllFair : List Check → Type 0
AllFair [] = Unit {0}
AllFair (c ∷ cs) = Carries c.refusal × AllFair cs

-- then so does that of the first to fail
failed_fair : (cs : List Check) → AllFair cs → FairFailure (first_failed cs)
failed_fair [] h = tt
failed_fair (c ∷ cs) h = cond_both c.passed _ _ FairFailure (λ _. failed_fair cs h.1) (λ _. h.0)

module _ {R : Type 0} (k : Layout R) (es : List (Entry R)) (cursor : Cursor) (content : List ℕ) where
  -- the refusals of a content: outside, not rising, a bad status, a bad record, a clash
  checks_fair : AllFair (content_checks k es cursor content)
  checks_fair = search rules

  -- so what a content answers is fair
  pub enter_content_fair : Fair (enter_content k es cursor content).answer
  enter_content_fair = by (first_failed (content_checks k es cursor content)) refl (failed_fair (content_checks k es cursor content) checks_fair)
    where
      by : (o : Option Refusal) → first_failed (content_checks k es cursor content) ≡ o → FairFailure o → Fair (enter_content k es cursor content).answer
      by None e h = rw e tt
      by (Some said) e h = rw e h
