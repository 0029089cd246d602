-- What holds of one register lifted to the entries of every kind.
use Rattle.std.proofs.Common.{◌≡◌, ℕ, List, get_or, Result, refl, sym, ap, ◌∙◌, subst}
use Rattle.offers.specs.declared.refusals.Refusal.{Refusal}
use Rattle.offers.specs.declared.registers.Entry.{Entry}
use Rattle.offers.specs.declared.registers.Entry.TheVariants.{Vacant}
use Rattle.offers.specs.declared.memory.Offer.{Offer}
use Rattle.offers.specs.declared.memory.Offer.TheVariants as offer
use Rattle.offers.specs.declared.kinds.Kind.{Kind}
use Rattle.offers.specs.declared.kinds.Kind.TheVariants as kind
use Rattle.offers.specs.Registers.{Outcome, filing, withdrawing, Onward}
use Rattle.offers.specs.Memory.{Entries, RecordOf, layout_of, entries_of, with_entries, lifted, file_kind, file_offer, withdraw_offer, Kept}
use Rattle.offers.proofs.RegisterLaws.{onward-same, Moves, Fair, filing_moved, filing_fair, withdrawing_moved, withdrawing_fair}

-- the entries of a kind put back leave all as it was
pub with_own : (all : Entries) (k : Kind) → with_entries all k (entries_of all k) ≡ all
with_own all kind.Package = refl
with_own all kind.Band = refl
with_own all kind.Pair = refl
with_own all kind.Exclusion = refl
with_own all kind.Limit = refl

-- a relation that each entry has with itself, and the entries of one kind with their new ones, holds throughout
module _ (P : (k : Kind) → List (Entry (RecordOf k)) → List (Entry (RecordOf k)) → Type 0) (same : (k : Kind) (es : List (Entry (RecordOf k))) → P k es es) where
  pub lifted-each : (all : Entries) (k : Kind) (es : List (Entry (RecordOf k))) → P k (entries_of all k) es → (j : Kind) → P j (entries_of all j) (entries_of (with_entries all k es) j)
  lifted-each all kind.Package es h kind.Package = h
  lifted-each all kind.Package es h kind.Band = same kind.Band all.bands
  lifted-each all kind.Package es h kind.Pair = same kind.Pair all.pairs
  lifted-each all kind.Package es h kind.Exclusion = same kind.Exclusion all.exclusions
  lifted-each all kind.Package es h kind.Limit = same kind.Limit all.limits
  lifted-each all kind.Band es h kind.Package = same kind.Package all.packages
  lifted-each all kind.Band es h kind.Band = h
  lifted-each all kind.Band es h kind.Pair = same kind.Pair all.pairs
  lifted-each all kind.Band es h kind.Exclusion = same kind.Exclusion all.exclusions
  lifted-each all kind.Band es h kind.Limit = same kind.Limit all.limits
  lifted-each all kind.Pair es h kind.Package = same kind.Package all.packages
  lifted-each all kind.Pair es h kind.Band = same kind.Band all.bands
  lifted-each all kind.Pair es h kind.Pair = h
  lifted-each all kind.Pair es h kind.Exclusion = same kind.Exclusion all.exclusions
  lifted-each all kind.Pair es h kind.Limit = same kind.Limit all.limits
  lifted-each all kind.Exclusion es h kind.Package = same kind.Package all.packages
  lifted-each all kind.Exclusion es h kind.Band = same kind.Band all.bands
  lifted-each all kind.Exclusion es h kind.Pair = same kind.Pair all.pairs
  lifted-each all kind.Exclusion es h kind.Exclusion = h
  lifted-each all kind.Exclusion es h kind.Limit = same kind.Limit all.limits
  lifted-each all kind.Limit es h kind.Package = same kind.Package all.packages
  lifted-each all kind.Limit es h kind.Band = same kind.Band all.bands
  lifted-each all kind.Limit es h kind.Pair = same kind.Pair all.pairs
  lifted-each all kind.Limit es h kind.Exclusion = same kind.Exclusion all.exclusions
  lifted-each all kind.Limit es h kind.Limit = h

-- no entry of a register went back, and no record changed
abbrev Onwards : (k : Kind) → List (Entry (RecordOf k)) → List (Entry (RecordOf k)) → Type 0
Onwards k before after = (i : ℕ) → Onward (get_or before i Vacant) (get_or after i Vacant)

-- a call on one number of one kind keeps what every call keeps
lifted_kept : (all : Entries) (k : Kind) (n : ℕ) (o : Outcome (List (Entry (RecordOf k)))) → Moves (entries_of all k) n o → Fair o → Kept all (lifted all k o).answer (lifted all k o).after
lifted_kept all k n o moved fair = record {
  onward = lifted-each Onwards (λ _ es i. onward-same (get_or es i Vacant)) all k o.after moved.onward;
  unchanged = λ r e. ap (with_entries all k) (moved.unchanged r e) ∙ with_own all k;
  carries = fair;
}

filed_kind_kept : (all : Entries) (n : ℕ) (k : Kind) (r : RecordOf k) → Kept all (file_kind all n k r).answer (file_kind all n k r).after
filed_kind_kept all n k r =
    lifted_kept all k n (filing (layout_of k) (entries_of all k) n r)
    (filing_moved (layout_of k) (entries_of all k) n r)
    (filing_fair (layout_of k) (entries_of all k) n r)

pub file_kept : (all : Entries) (n : ℕ) (x : Offer) → Kept all (file_offer all n x).answer (file_offer all n x).after
file_kept all n (offer.Package r) = filed_kind_kept all n kind.Package r
file_kept all n (offer.Band r) = filed_kind_kept all n kind.Band r
file_kept all n (offer.Pair r) = filed_kind_kept all n kind.Pair r
file_kept all n (offer.Exclusion r) = filed_kind_kept all n kind.Exclusion r
file_kept all n (offer.Limit r) = filed_kind_kept all n kind.Limit r

pub withdraw_kept : (all : Entries) (k : Kind) (n : ℕ) → Kept all (withdraw_offer all k n).answer (withdraw_offer all k n).after
withdraw_kept all k n =
    lifted_kept all k n (withdrawing (layout_of k) (entries_of all k) n)
    (withdrawing_moved (layout_of k) (entries_of all k) n)
    (withdrawing_fair (layout_of k) (entries_of all k) n)

-- What a call on one kind's entries does, said of all offers: its outcome, and what every call keeps.
pub record Done (all : Entries) (call : Outcome Entries) (answer : Result Unit Refusal) (after : Entries) : Type 0 where
  pub answer_is : answer ≡ call.answer
  pub after_is : after ≡ call.after
  pub kept : Kept all answer after

-- a call that keeps what every call keeps, and is the one on this kind's entries
done : (all : Entries) (k : Kind) (o : Outcome (List (Entry (RecordOf k)))) (call : Outcome Entries) → call ≡ lifted all k o → Kept all call.answer call.after
    → (answer : Result Unit Refusal) (es : List (Entry (RecordOf k))) → answer ≡ o.answer → es ≡ o.after → Done all call answer (with_entries all k es)
done all k o call is kept answer es e f =
    let a : answer ≡ call.answer = e ∙ ap (λ (c : Outcome Entries). c.answer) (sym is) in
    let l : with_entries all k es ≡ call.after = ap (with_entries all k) f ∙ ap (λ (c : Outcome Entries). c.after) (sym is) in
    record { answer_is = a; after_is = l; kept = rw (a, l) kept }

-- filing in the entries of a kind, of offers that hold them
pub filed : {all held : Entries} → all ≡ held → (n : ℕ) (x : Offer) (k : Kind) (r : RecordOf k) → file_offer all n x ≡ file_kind all n k r
    → (answer : Result Unit Refusal) (es : List (Entry (RecordOf k)))
    → answer ≡ (filing (layout_of k) (entries_of all k) n r).answer → es ≡ (filing (layout_of k) (entries_of all k) n r).after
    → Done held (file_offer held n x) answer (with_entries all k es)
filed {all} has n x k r is answer es e f =
    subst (λ now. Done now (file_offer now n x) answer (with_entries all k es)) has
    (done all k (filing (layout_of k) (entries_of all k) n r) (file_offer all n x) is (file_kept all n x) answer es e f)

-- withdrawing in the entries of a kind, of offers that hold them
pub withdrawn : {all held : Entries} → all ≡ held → (j : Kind) (n : ℕ) (k : Kind) → j ≡ k → (answer : Result Unit Refusal) (es : List (Entry (RecordOf k)))
    → answer ≡ (withdrawing (layout_of k) (entries_of all k) n).answer → es ≡ (withdrawing (layout_of k) (entries_of all k) n).after
    → Done held (withdraw_offer held j n) answer (with_entries all k es)
withdrawn {all} has j n k is answer es e f =
    subst (λ now. Done now (withdraw_offer now j n) answer (with_entries all k es)) has
    (done all k (withdrawing (layout_of k) (entries_of all k) n) (withdraw_offer all j n) (ap (λ i. withdraw_offer all i n) is) (withdraw_kept all j n) answer es e f)
