-- What every docket keeps, of whatever makes it: few offers, all in range, the bands in order.
use Rattle.std.specs.List.{list_all}
use Rattle.std.specs.Prelude.{◌≡◌, ◌≤◌, true, length}
use Rattle.offers.specs.Tables.{PACKAGES, BANDS, pair_layout, exclusion_layout, limit_layout}
use Rattle.clearing.specs.declared.dockets.Docket.TheInside.{Inside}
use Rattle.clearing.specs.Bands.{rising, aheads, true_aheads}
use Rattle.clearing.specs.Lawful.{View}
use Rattle.clearing.specs.Ranges.{fits, package_fits, band_fits}

-- the lists of a docket
abbrev pub lists : Inside → View
lists d = record { packages = d.packages; bands = d.bands; pairs = d.pairs; exclusions = d.exclusions; limits = d.limits }

-- bands by rising number, each with what is served before it
pub record InOrder (v : View) : Type 0 where
  pub numbers : rising v.bands ≡ true
  pub ahead : aheads v.bands ≡ true_aheads v.bands

pub record Ranged (v : View) : Type 0 where
  pub few_packages : length v.packages ≤ PACKAGES
  pub few_bands : length v.bands ≤ BANDS
  pub packages : list_all package_fits v.packages ≡ true
  pub bands : list_all band_fits v.bands ≡ true
  pub order : InOrder v
  pub pairs : list_all (fits pair_layout) v.pairs ≡ true
  pub exclusions : list_all (fits exclusion_layout) v.exclusions ≡ true
  pub limits : list_all (fits limit_layout) v.limits ≡ true
