-- What a round holds is sound: each number of each kind has an entry, and its records are in range.
use Rattle.offers.specs.declared.kinds.Kind.{Kind}
use Rattle.offers.specs.declared.kinds.Kind.TheVariants as kind
use Rattle.offers.specs.Registers.{IsLedger}
use Rattle.offers.specs.Memory.{Entries, Sound, layout_of, entries_of}
use Rattle.offers.specs.Tables.{package_layout, band_layout, pair_layout, exclusion_layout, limit_layout}

-- of the entries that five ledgers hold
module _ (all : Entries) (packages : IsLedger package_layout 40 all.packages) (bands : IsLedger band_layout 64 all.bands)
    (pairs : IsLedger pair_layout 64 all.pairs) (exclusions : IsLedger exclusion_layout 64 all.exclusions) (limits : IsLedger limit_layout 32 all.limits) where
  ledger : (k : Kind) → IsLedger (layout_of k) (layout_of k).count (entries_of all k)
  ledger kind.Package = packages
  ledger kind.Band = bands
  ledger kind.Pair = pairs
  ledger kind.Exclusion = exclusions
  ledger kind.Limit = limits

  pub sound-held : Sound all
  sound-held = record { in_range = λ k. (ledger k).in_range; numbered = λ k. (ledger k).numbered }
