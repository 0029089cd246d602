-- The rounds worked out.
use Rattle.std.proofs.Common.{refl, rules}
use lib.Count.{count_trailing_zeros}
use Rattle.acceptance.proofs.Cleared.{clears}
use Rattle.acceptance.proofs.all_rounds.Goals as goal

pub returns : goal.returns
unfolding count_trailing_zeros
returns c = record {
  two_packages = clears (search rules) (record { answers = refl; leader = refl; packages = refl });
  two_packages_under_ceiling = record { not_before = refl; by_then = refl };
  two_packages_under_all_in = record { not_before = refl; by_then = refl };
  no_offers = clears (search rules) (record { answers = refl; leader = refl; packages = refl });
  four_packages = clears (search rules) (record { answers = refl; leader = refl; packages = refl });
  package_3_withdrawn = clears (search rules) (record { answers = refl; leader = refl; packages = refl });
  packages_1_and_3_exclusive = clears (search rules) (record { answers = refl; leader = refl; packages = refl });
  package_3_needs_2 = clears (search rules) (record { answers = refl; leader = refl; packages = refl });
  nameplates_within_50 = clears (search rules) (record { answers = refl; leader = refl; packages = refl });
  nameplates_within_49 = clears (search rules) (record { answers = refl; leader = refl; packages = refl });
  qualified_not_counted = clears (search rules) (record { answers = refl; leader = refl; packages = refl });
  power_before_25_per_cent = clears (search rules) (record { answers = refl; leader = refl; packages = refl });
  power_before_24_per_cent = clears (search rules) (record { answers = refl; leader = refl; packages = refl });
  own_price_below_zero = refl;
  own_price_above_zero = refl;
  older_sheet = record { answers = refl; after = refl };
  another_price_clashes = record { answers = refl; after = refl };
  one_buyer = refl;
}
