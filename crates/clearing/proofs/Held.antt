-- What a docket holds is in range, read at a place.
use Rattle.std.proofs.Common.{◌≡◌, ℕ, ◌<◌, true, List, length, get_or, pos}
use Rattle.offers.specs.declared.records.Exclusion.{Exclusion}
use Rattle.offers.specs.declared.records.Limit.{Limit}
use Rattle.offers.specs.Tables.{exclusion_layout, limit_layout}
use Rattle.clearing.specs.declared.dockets.PricedPackage.{PricedPackage}
use Rattle.clearing.specs.declared.dockets.OpenBand.{OpenBand}
use Rattle.clearing.specs.Lawful.{View}
use Rattle.clearing.specs.Ranged.{Ranged}
use Rattle.clearing.specs.Ranges.{fits, band_fits}
use Rattle.clearing.proofs.Fits.{each_getD, ExclusionRanges, exclusion_ranges, LimitRanges, limit_ranges, OpenRanges, open_ranges}

-- what stands past the end of each list
abbrev pub no_package : PricedPackage
no_package = record {
  number = 0;
  price = pos 0;
  terms = record {
    power = 0;
    energy = 0;
    certificates = 0;
    nameplate = 0;
    price = 0;
    power_zone = 0;
    interconnection_zone = 0;
    export_zone = 0;
    price_zone = 0;
    date = 0;
    unqualified = 0;
    dollar = 0;
  };
}

abbrev pub no_band : OpenBand
no_band = record { number = 0; ahead = 0; terms = record { market = 0; quantity = 0; price = 0; buyer = 0 } }

abbrev pub no_exclusion : Exclusion
no_exclusion = record { group = 0; member = 0 }

abbrev pub no_limit : Limit
no_limit = record { sort = 0; zone = 0; amount = 0 }

module _ {d : View} (ok : Ranged d) (i : ℕ) where
  -- a band that a docket holds is in range
  pub band_held : (bs : List OpenBand) → bs ≡ d.bands → i < length bs → band_fits (get_or bs i no_band) ≡ true
  band_held bs e h = each_getD band_fits bs i no_band h (rw e ok.bands)

  -- with its fields
  pub band_ranged : (bs : List OpenBand) → bs ≡ d.bands → i < length bs → OpenRanges (get_or bs i no_band)
  band_ranged bs e h = open_ranges (get_or bs i no_band) (band_held bs e h)

  -- an exclusion that it holds, with its fields
  pub exclusion_held : (xs : List Exclusion) → xs ≡ d.exclusions → i < length xs → ExclusionRanges (get_or xs i no_exclusion)
  exclusion_held xs e h =
      exclusion_ranges (get_or xs i no_exclusion) (each_getD (fits exclusion_layout) xs i no_exclusion h (rw e ok.exclusions))

  -- a limit that it holds
  pub limit_held : (ls : List Limit) → ls ≡ d.limits → i < length ls → fits limit_layout (get_or ls i no_limit) ≡ true
  limit_held ls e h = each_getD (fits limit_layout) ls i no_limit h (rw e ok.limits)

  -- with its fields
  pub limit_ranged : (ls : List Limit) → ls ≡ d.limits → i < length ls → LimitRanges (get_or ls i no_limit)
  limit_ranged ls e h = limit_ranges (get_or ls i no_limit) (limit_held ls e h)
