-- Ranges of what a docket holds, which its arithmetic rests on.
use Rattle.std.specs.List.{list_all}
use Rattle.std.specs.Prelude.{Bool, ◌&&◌, List, ℤ, ◌==◌, int_le, nat_le, ℕ, ◌*◌}
use Rattle.offers.specs.Fields.{within}
use Rattle.offers.specs.Layouts.{Layout, fault_of}
use Rattle.offers.specs.Tables.{package_layout, band_layout, PACKAGES, BANDS}
use Rattle.pricing.specs.Prices.{least, greatest}
use Rattle.clearing.specs.declared.dockets.PricedPackage.{PricedPackage}
use Rattle.clearing.specs.declared.dockets.OpenBand.{OpenBand}

-- every amount is at most another
abbrev pub at_most : ℕ → List ℕ → Bool
at_most most amounts = list_all (λ n. nat_le n most) amounts

-- the most that packages come to in a market or a zone: each number open, with the most that one package has
abbrev pub MOST_SUPPLY : ℕ
MOST_SUPPLY = PACKAGES * 10000000

-- the most that bands ask for: each number open, with the most that one band asks for
abbrev pub MOST_ASKED : ℕ
MOST_ASKED = BANDS * 100000000

-- a record is in range
abbrev pub fits : {R : Type 0} → Layout R → R → Bool
fits k r = fault_of k r == 0

-- a price is in range
abbrev pub price_fits : ℤ → Bool
price_fits price = int_le least price && int_le price greatest

-- a package's record, number and price are in range
abbrev pub package_fits : PricedPackage → Bool
package_fits p = fits package_layout p.terms && (within 1 PACKAGES p.number && price_fits p.price)

-- a band's record and number are in range, and no more stands ahead of it than all bands could take
abbrev pub band_fits : OpenBand → Bool
band_fits b = fits band_layout b.terms && (within 1 BANDS b.number && nat_le b.ahead MOST_ASKED)
