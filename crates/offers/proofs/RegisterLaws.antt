-- Filing and withdrawing keep what every call on a register keeps, for any kind.
use Rattle.std.proofs.Common.{◌≡◌, ℕ, ◌-◌, ◌<◌, ◌≤◌, min, Bool, true, false, cond, eqb, leb, ◌⊎◌, List, length, get_or, set, Some, None, Ok, Err, Result, refl, subst, inl, inr, ⊎_elim, arith, length-set}
use Rattle.std.proofs.lemmas.List.{get_or-set_same, get_or-set_other, set_past}
use Rattle.std.proofs.lemmas.Option.{none-some}
use Rattle.std.proofs.lemmas.Bool.{cond_both, cases_eq, cases_lt, and_parts, leb-true, eqb-true}
use Rattle.offers.specs.declared.refusals.Code.{Code}
use Rattle.offers.specs.declared.refusals.Code.TheVariants.{NumberOutside, AlreadyOpen, AlreadyWithdrawn, NotFiled}
use Rattle.offers.specs.declared.refusals.Refusal.{Refusal}
use Rattle.offers.specs.declared.registers.Entry.{Entry}
use Rattle.offers.specs.declared.registers.Entry.TheVariants.{Vacant, Open, Withdrawn}
use Rattle.offers.specs.Refusals.{Carries}
use Rattle.offers.specs.Layouts.{Layout, fault_of}
use Rattle.offers.specs.Registers.{Outcome, entry, numbered, place, filing, file_over, withdrawing, withdraw_over, refused_number, refused_field, refuse, Onward, Moved, entry_fault, InRange}

-- an entry that stays has gone no step back
pub onward-same : {R : Type 0} (e : Entry R) → Onward e e
onward-same Vacant = tt
onward-same (Open r) = inl refl
onward-same (Withdrawn r) = refl

-- a refusal leaves all as it was
pub refused_moved : {R : Type 0} (es : List (Entry R)) (n : ℕ) (r : Refusal) → Moved es n (Err r) es
refused_moved es n r = record {
  onward = λ i. onward-same (get_or es i Vacant);
  unchanged = λ _ _. refl;
  elsewhere = λ _ _. refl;
  as_long = refl;
}

-- an answer is not both accepted and refused
not_both : (r : Refusal) → ◌≡◌ {A = Result Unit Refusal} (Ok tt) (Err r) → ⊥
not_both r e = let z : ◌≡◌ {A = ℕ} 0 1 = cc in omega arith

-- one entry set to what may come after it
pub accepted_moved : {R : Type 0} (es : List (Entry R)) (n : ℕ) (e : Entry R) → 1 ≤ n → n ≤ length es → Onward (entry es n) e → Moved es n (Ok tt) (set es (n - 1) e)
accepted_moved es n e low high on = record {
  onward = λ i. ⊎_elim (here i) (there i) (cases_eq i (n - 1));
  unchanged = λ r eq. absurd (not_both r eq);
  elsewhere = λ i ne. get_or-set_other es (n - 1) i e Vacant (λ eq. ne (omega arith));
  as_long = length-set es (n - 1) e;
}
  where
    here : (i : ℕ) → i ≡ n - 1 → Onward (get_or es i Vacant) (get_or (set es (n - 1) e) i Vacant)
    here i eq =
        let inside : n - 1 < length es = omega arith in
        rw eq (rw (get_or-set_same es (n - 1) e Vacant inside) on)

    there : (i : ℕ) → (i ≡ n - 1 → ⊥) → Onward (get_or es i Vacant) (get_or (set es (n - 1) e) i Vacant)
    there i ne = rw (get_or-set_other es (n - 1) i e Vacant ne) (onward-same (get_or es i Vacant))

-- what a call on a register keeps, said of its whole outcome
abbrev pub Moves : {R : Type 0} → List (Entry R) → ℕ → Outcome (List (Entry R)) → Type 0
Moves es n o = Moved es n o.answer o.after

module _ {R : Type 0} (k : Layout R) (es : List (Entry R)) (n : ℕ) where
  -- a number that has an entry lies within the register
  pub inside : numbered k es n ≡ true → (1 ≤ n) × (n ≤ length es)
  inside e =
      let parts = and_parts (leb 1 n) (leb n (min k.count (length es))) e in
      let low : 1 ≤ n = leb-true 1 n parts.0 in
      let high : n ≤ min k.count (length es) = leb-true n (min k.count (length es)) parts.1 in
      (low, omega arith)

  -- so has the place that is found for it
  pub found : (at : ℕ) → place k es n ≡ Some at → (numbered k es n ≡ true) × (at ≡ n - 1)
  found at e = by (numbered k es n) e
    where
      by : (b : Bool) → cond b (Some (n - 1)) None ≡ Some at → (b ≡ true) × (at ≡ n - 1)
      by true e = (refl, cc)
      by false e = absurd (none-some at e)

  over-filed : (r : R) → 1 ≤ n → n ≤ length es → (held : Entry R) → entry es n ≡ held → Moves es n (file_over k es n r held)
  over-filed r low high Vacant e = accepted_moved es n (Open r) low high (rw e tt)
  over-filed r low high (Open old) e = refused_moved es n (refused_number k AlreadyOpen n)
  over-filed r low high (Withdrawn old) e = refused_moved es n (refused_number k AlreadyWithdrawn n)

  pub filing_moved : (r : R) → Moves es n (filing k es n r)
  filing_moved r =
      cond_both (numbered k es n) _ _ (Moves es n)
      (λ e. cond_both (eqb (fault_of k r) 0) _ _ (Moves es n)
      (λ _. over-filed r (inside e).0 (inside e).1 (entry es n) refl)
      (λ _. refused_moved es n (refused_field k n (fault_of k r))))
      (λ _. refused_moved es n (refused_number k NumberOutside n))

  over-withdrawn : 1 ≤ n → n ≤ length es → (held : Entry R) → entry es n ≡ held → Moves es n (withdraw_over k es n held)
  over-withdrawn low high Vacant e = refused_moved es n (refused_number k NotFiled n)
  over-withdrawn low high (Open r) e = accepted_moved es n (Withdrawn r) low high (rw e (inr refl))
  over-withdrawn low high (Withdrawn r) e = refused_moved es n (refused_number k AlreadyWithdrawn n)

  pub withdrawing_moved : Moves es n (withdrawing k es n)
  withdrawing_moved =
      cond_both (numbered k es n) _ _ (Moves es n)
      (λ e. over-withdrawn (inside e).0 (inside e).1 (entry es n) refl)
      (λ _. refused_moved es n (refused_number k NumberOutside n))

-- the refusals of an outcome carry no more than their codes do
abbrev pub Fair : {A : Type 0} → Outcome A → Type 0
Fair o = (r : Refusal) → o.answer ≡ Err r → Carries r

-- a refusal is fair if the one that it names carries no more than its code does
fair_refusal : {A : Type 0} (left : A) (said : Refusal) → Carries said → Fair (record { answer = Err said; after = left })
fair_refusal left said ok r e = let same : said ≡ r = cc in subst Carries same ok

module _ {R : Type 0} (k : Layout R) (es : List (Entry R)) (n : ℕ) where
  -- a refusal of the number alone, of whatever code, carries tag and number
  plain-refusal : (code : Code) → Carries (refused_number k code n) → Fair (refuse es (refused_number k code n))
  plain-refusal code = fair_refusal es (refused_number k code n)

  over-filed_fair : (r : R) (held : Entry R) → Fair (file_over k es n r held)
  over-filed_fair r Vacant = λ said e. absurd (not_both said e)
  over-filed_fair r (Open old) = plain-refusal AlreadyOpen (record { tag = tt; number = tt; field = refl; byte = refl; depth = refl })
  over-filed_fair r (Withdrawn old) = plain-refusal AlreadyWithdrawn (record { tag = tt; number = tt; field = refl; byte = refl; depth = refl })

  outside_fair : Fair (refuse es (refused_number k NumberOutside n))
  outside_fair = plain-refusal NumberOutside (record { tag = tt; number = tt; field = refl; byte = tt; depth = refl })

  pub filing_fair : (r : R) → Fair (filing k es n r)
  filing_fair r =
      cond_both (numbered k es n) _ _ Fair
      (λ _. cond_both (eqb (fault_of k r) 0) _ _ Fair
      (λ _. over-filed_fair r (entry es n))
      (λ _. fair_refusal es (refused_field k n (fault_of k r)) (record { tag = tt; number = tt; field = tt; byte = tt; depth = refl })))
      (λ _. outside_fair)

  over-withdrawn_fair : (held : Entry R) → Fair (withdraw_over k es n held)
  over-withdrawn_fair Vacant = plain-refusal NotFiled (record { tag = tt; number = tt; field = refl; byte = refl; depth = refl })
  over-withdrawn_fair (Open r) = λ said e. absurd (not_both said e)
  over-withdrawn_fair (Withdrawn r) = plain-refusal AlreadyWithdrawn (record { tag = tt; number = tt; field = refl; byte = refl; depth = refl })

  pub withdrawing_fair : Fair (withdrawing k es n)
  withdrawing_fair = cond_both (numbered k es n) _ _ Fair (λ _. over-withdrawn_fair (entry es n)) (λ _. outside_fair)

-- a register with one entry set is in range if that entry's record is
pub set-in_range : {R : Type 0} (k : Layout R) (es : List (Entry R)) (at : ℕ) (e : Entry R) → InRange k es → entry_fault k e ≡ 0 → InRange k (set es at e)
set-in_range k es at e ok new i = ⊎_elim here there (cases_eq i at)
  where
    inside_or_past : i ≡ at → (at < length es) ⊎ (length es ≤ at) → entry_fault k (get_or (set es at e) i Vacant) ≡ 0
    inside_or_past same (inl h) = rw (same, get_or-set_same es at e Vacant h) new
    inside_or_past same (inr h) = rw (set_past es at e h) (ok i)

    here : i ≡ at → entry_fault k (get_or (set es at e) i Vacant) ≡ 0
    here same = inside_or_past same (cases_lt at (length es))

    there : (i ≡ at → ⊥) → entry_fault k (get_or (set es at e) i Vacant) ≡ 0
    there ne = rw (get_or-set_other es at i e Vacant ne) (ok i)

-- an outcome whose entries are in range
abbrev Ranged : {R : Type 0} → Layout R → Outcome (List (Entry R)) → Type 0
Ranged k o = InRange k o.after

-- a register in range stays so: only a record in range is filed, and a withdrawn entry holds the record that it held open
module _ {R : Type 0} (k : Layout R) (es : List (Entry R)) (n : ℕ) (ok : InRange k es) where
  over-filed_in_range : (r : R) → fault_of k r ≡ 0 → (held : Entry R) → Ranged k (file_over k es n r held)
  over-filed_in_range r fine Vacant = set-in_range k es (n - 1) (Open r) ok fine
  over-filed_in_range r fine (Open old) = ok
  over-filed_in_range r fine (Withdrawn old) = ok

  pub filing-in_range : (r : R) → InRange k (filing k es n r).after
  filing-in_range r =
      cond_both (numbered k es n) _ _ (Ranged k)
      (λ _. cond_both (eqb (fault_of k r) 0) _ _ (Ranged k)
      (λ fine. over-filed_in_range r (eqb-true (fault_of k r) 0 fine) (entry es n))
      (λ _. ok))
      (λ _. ok)

  over-withdrawn_in_range : (held : Entry R) → entry es n ≡ held → Ranged k (withdraw_over k es n held)
  over-withdrawn_in_range Vacant e = ok
  over-withdrawn_in_range (Open r) e = set-in_range k es (n - 1) (Withdrawn r) ok (rw e at (ok (n - 1)))
  over-withdrawn_in_range (Withdrawn r) e = ok

  pub withdrawing-in_range : InRange k (withdrawing k es n).after
  withdrawing-in_range = cond_both (numbered k es n) _ _ (Ranged k) (λ _. over-withdrawn_in_range (entry es n) refl) (λ _. ok)
