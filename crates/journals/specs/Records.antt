-- Records as words: their fields from the left, as the kind's table has them.
use Rattle.std.specs.Prelude.{ℕ, List, [], ◌∷◌, map, Ok}
use Rattle.offers.specs.Layouts.{Layout}
use Rattle.offers.specs.Tables.{package_layout, band_layout, pair_layout, exclusion_layout, limit_layout}
use Rattle.offers.specs.declared.kinds.Kind.{Kind}
use Rattle.offers.specs.declared.kinds.Kind.TheVariants as kind
use Rattle.offers.specs.declared.memory.Offer.{Offer}
use Rattle.offers.specs.declared.memory.Offer.TheVariants as offer
use Rattle.journals.specs.Readers.{Reading, number_at}
use Rattle.journals.specs.Wrongs.{◌>>=◌}

-- a number for each width, each held by so many bytes
abbrev pub numbers_at : List ℕ → List (List ℕ) → Reading (List ℕ)
numbers_at [] words = Ok ([], words)
numbers_at (width ∷ widths) words = do
  n ← number_at width words
  ns ← numbers_at widths n.1
  Ok (n.0 ∷ ns.0, ns.1)

-- a record of a kind: a number for each field, which its bytes hold; whether it is in range is the round's business
abbrev pub record_at : {R : Type 0} → Layout R → List (List ℕ) → Reading R
record_at k words = do
  values ← numbers_at (map (λ f. f.width) k.fields) words
  Ok (k.record_of values.0, values.1)

abbrev pub as_offer : {R : Type 0} → (R → Offer) → Reading R → Reading Offer
as_offer made reading = do
  r ← reading
  Ok (made r.0, r.1)

-- a record of the kind
abbrev pub offer_at : Kind → List (List ℕ) → Reading Offer
offer_at kind.Package words = as_offer (λ r. offer.Package r) (record_at package_layout words)
offer_at kind.Band words = as_offer (λ r. offer.Band r) (record_at band_layout words)
offer_at kind.Pair words = as_offer (λ r. offer.Pair r) (record_at pair_layout words)
offer_at kind.Exclusion words = as_offer (λ r. offer.Exclusion r) (record_at exclusion_layout words)
offer_at kind.Limit words = as_offer (λ r. offer.Limit r) (record_at limit_layout words)
