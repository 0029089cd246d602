-- The offers of a round, kind by kind: filing, withdrawing, and what they keep.
use Rattle.std.specs.Prelude.{◌≡◌, ℕ, List, length, replicate, Err, Result, slice_index_or}
use Rattle.offers.specs.declared.refusals.Refusal.{Refusal}
use Rattle.offers.specs.declared.registers.Entry.{Entry}
use Rattle.offers.specs.declared.registers.Entry.TheVariants.{Vacant}
use Rattle.offers.specs.declared.records.Package.{Package}
use Rattle.offers.specs.declared.records.Band.{Band}
use Rattle.offers.specs.declared.records.Pair.{Pair}
use Rattle.offers.specs.declared.records.Exclusion.{Exclusion}
use Rattle.offers.specs.declared.records.Limit.{Limit}
use Rattle.offers.specs.declared.memory.Offer.{Offer}
use Rattle.offers.specs.declared.memory.Offer.TheVariants as offer
use Rattle.offers.specs.declared.kinds.Kind.{Kind}
use Rattle.offers.specs.declared.kinds.Kind.TheVariants as kind
use Rattle.offers.specs.declared.memory.Offers.{Offers}
use Rattle.offers.specs.Layouts.{Layout}
use Rattle.offers.specs.Refusals.{Carries}
use Rattle.offers.specs.Registers.{Outcome, filing, withdrawing, Onward, InRange}
use Rattle.offers.specs.Tables.{package_layout, band_layout, pair_layout, exclusion_layout, limit_layout, PACKAGES, BANDS, PAIRS, EXCLUSIONS, LIMITS}

-- the entries of all kinds: number n of a kind at place n - 1
abbrev pub Entries : Type 0
Entries = Offers

-- the records of a kind
abbrev pub RecordOf : Kind → Type 0
RecordOf kind.Package = Package
RecordOf kind.Band = Band
RecordOf kind.Pair = Pair
RecordOf kind.Exclusion = Exclusion
RecordOf kind.Limit = Limit

abbrev pub layout_of : (k : Kind) → Layout (RecordOf k)
layout_of kind.Package = package_layout
layout_of kind.Band = band_layout
layout_of kind.Pair = pair_layout
layout_of kind.Exclusion = exclusion_layout
layout_of kind.Limit = limit_layout

-- the entries of one kind
abbrev pub entries_of : Entries → (k : Kind) → List (Entry (RecordOf k))
entries_of all kind.Package = all.packages
entries_of all kind.Band = all.bands
entries_of all kind.Pair = all.pairs
entries_of all kind.Exclusion = all.exclusions
entries_of all kind.Limit = all.limits

-- other entries for one kind, the other kinds staying as they are
abbrev pub with_entries : Entries → (k : Kind) → List (Entry (RecordOf k)) → Entries
with_entries all kind.Package es = record { packages = es; bands = all.bands; pairs = all.pairs; exclusions = all.exclusions; limits = all.limits }
with_entries all kind.Band es = record { packages = all.packages; bands = es; pairs = all.pairs; exclusions = all.exclusions; limits = all.limits }
with_entries all kind.Pair es = record { packages = all.packages; bands = all.bands; pairs = es; exclusions = all.exclusions; limits = all.limits }
with_entries all kind.Exclusion es = record { packages = all.packages; bands = all.bands; pairs = all.pairs; exclusions = es; limits = all.limits }
with_entries all kind.Limit es = record { packages = all.packages; bands = all.bands; pairs = all.pairs; exclusions = all.exclusions; limits = es }

-- every number of every kind is vacant
abbrev pub all_vacant : Entries
all_vacant = record {
  packages = replicate PACKAGES Vacant;
  bands = replicate BANDS Vacant;
  pairs = replicate PAIRS Vacant;
  exclusions = replicate EXCLUSIONS Vacant;
  limits = replicate LIMITS Vacant;
}

-- entries as a round holds them: each number of each kind has one, and every record is in range
pub record Sound (all : Entries) : Type 0 where
  pub in_range : (k : Kind) → InRange (layout_of k) (entries_of all k)
  pub numbered : (k : Kind) → length (entries_of all k) ≡ (layout_of k).count

-- what a call on one kind leaves, as what it leaves of all kinds
abbrev pub lifted : Entries → (k : Kind) → Outcome (List (Entry (RecordOf k))) → Outcome Entries
lifted all k o = record { answer = o.answer; after = with_entries all k o.after }

-- filing a record of a kind under a number
abbrev pub file_kind : Entries → ℕ → (k : Kind) → RecordOf k → Outcome Entries
file_kind all n k r = lifted all k (filing (layout_of k) (entries_of all k) n r)

abbrev pub file_offer : Entries → ℕ → Offer → Outcome Entries
file_offer all n (offer.Package r) = file_kind all n kind.Package r
file_offer all n (offer.Band r) = file_kind all n kind.Band r
file_offer all n (offer.Pair r) = file_kind all n kind.Pair r
file_offer all n (offer.Exclusion r) = file_kind all n kind.Exclusion r
file_offer all n (offer.Limit r) = file_kind all n kind.Limit r

-- withdrawing a number of a kind
abbrev pub withdraw_offer : Entries → Kind → ℕ → Outcome Entries
withdraw_offer all k n = lifted all k (withdrawing (layout_of k) (entries_of all k) n)

-- What every call that changes offers keeps, whatever the kind.
pub record Kept (before : Entries) (answer : Result Unit Refusal) (after : Entries) : Type 0 where
  -- no number goes back, and a record never changes
  pub onward : (k : Kind) (i : ℕ) → Onward (slice_index_or (entries_of before k) i Vacant) (slice_index_or (entries_of after k) i Vacant)
  -- a refusal changes nothing
  pub unchanged : (r : Refusal) → answer ≡ Err r → after ≡ before
  -- and it carries no more than its code does
  pub carries : (r : Refusal) → answer ≡ Err r → Carries r
