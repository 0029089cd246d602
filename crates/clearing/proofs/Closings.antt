-- What a closing leaves where each open package has a price.
use Rattle.std.proofs.Common.{◌≡◌, List, Ok}
use Rattle.offers.specs.Memory.{Entries}
use Rattle.clearing.specs.declared.dockets.PricedPackage.{PricedPackage}
use Rattle.clearing.specs.Closing.{open_from, open_records, open_bands, priced, docket_with, closing}
use Rattle.pricing.specs.Prices.{Meaning}
use Rattle.clearing.specs.Lawful.{View}

-- it makes the docket of what is open
pub closing-priced : (before : View) (all : Entries) (meaning : Meaning) (ps : List PricedPackage)
    → priced meaning (open_from 1 all.packages) ≡ Ok ps
    → closing before all meaning ≡ record { answer = Ok tt; after = docket_with all ps }
closing-priced before all meaning ps is = rw is

-- which has these lists
pub docket_is : (v : View) (all : Entries) (ps : List PricedPackage) → v.packages ≡ ps → v.bands ≡ open_bands all.bands
    → v.pairs ≡ open_records all.pairs → v.exclusions ≡ open_records all.exclusions → v.limits ≡ open_records all.limits
    → v ≡ docket_with all ps
docket_is v all ps packages bands pairs exclusions limits =
    λ i. record {
      packages = packages i;
      bands = bands i;
      pairs = pairs i;
      exclusions = exclusions i;
      limits = limits i;
    }
