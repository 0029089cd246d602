-- The offers of the worked rounds, as calls that file them and as a sheet.
use Rattle.std.specs.Prelude.{ℕ, ◌+◌, List, [], ◌∷◌, ◌++◌}
use Rattle.offers.specs.declared.memory.Offer.TheVariants as offer
use Rattle.offers.specs.declared.records.Band.{Band}
use Rattle.offers.specs.declared.records.Package.{Package}
use Rattle.rounds.specs.Model.{Call, File}

-- a package of this power, energy, certificates and price, with all zones 1 and all other fields 0
abbrev pub plain_package : ℕ → ℕ → ℕ → ℕ → Package
plain_package power energy certificates price = record {
  power = power;
  energy = energy;
  certificates = certificates;
  nameplate = 0;
  price = price;
  power_zone = 1;
  interconnection_zone = 1;
  export_zone = 1;
  price_zone = 1;
  date = 0;
  unqualified = 0;
  dollar = 0;
}

-- without connection priority, and with a nameplate equal to its power
abbrev pub unqualified : Package → Package
unqualified p = record p { nameplate = p.power; unqualified = 1 }

-- with a nameplate equal to its power, and connection priority
abbrev pub qualified : Package → Package
qualified p = record p { nameplate = p.power }

-- to be delivered from before the standard date
abbrev pub dated_before : Package → Package
dated_before p = record p { date = 1 }

-- indexed to dollars
abbrev pub in_dollars : Package → Package
in_dollars p = record p { dollar = 1 }

-- a bid of buyer 1 in this market, for this quantity at this price
abbrev pub band : ℕ → ℕ → ℕ → Band
band market quantity price = record { market = market; quantity = quantity; price = price; buyer = 1 }

-- packages filed under this number, the next one and so on
abbrev pub file_packages : ℕ → List Package → List Call
file_packages n [] = []
file_packages n (p ∷ ps) = File n (offer.Package p) ∷ file_packages (n + 1) ps

-- and bands
abbrev pub file_bands : ℕ → List Band → List Call
file_bands n [] = []
file_bands n (b ∷ bs) = File n (offer.Band b) ∷ file_bands (n + 1) bs

-- under a number: a pair of packages, of which the first needs the second
abbrev pub file_pair : ℕ → ℕ → ℕ → Call
file_pair n dependent needed = File n (offer.Pair (record { dependent = dependent; needed = needed }))

-- under a number: a member of a group
abbrev pub file_exclusion : ℕ → ℕ → ℕ → Call
file_exclusion n group member = File n (offer.Exclusion (record { group = group; member = member }))

-- under a number: a limit of this sort, zone and amount
abbrev pub file_limit : ℕ → ℕ → ℕ → ℕ → Call
file_limit n sort zone amount = File n (offer.Limit (record { sort = sort; zone = zone; amount = amount }))

-- the packages of the four-package round
abbrev pub first : Package
first = plain_package 30 120000 120000 120000000

abbrev pub second : Package
second = plain_package 20 0 0 15000000

abbrev pub third : Package
third = plain_package 20 90000 90000 60000000

abbrev pub fourth : Package
fourth = plain_package 30 30000 30000 45000000

-- and its bands: two for power in zone 1, two for energy and two for certificates
abbrev pub six_bands : List Band
six_bands =
    band 1 50 1300000
    ∷ band 1 40 1000000
    ∷ band 4 150000 800
    ∷ band 4 120000 600
    ∷ band 5 150000 350
    ∷ band 5 120000 300
    ∷ []

-- packages filed from number 1 on, and the six bands
abbrev pub with_six_bands : List Package → List Call
with_six_bands packages = file_packages 1 packages ++ file_bands 1 six_bands

-- the four-package round
abbrev pub four_filed : List Call
four_filed = with_six_bands (first ∷ second ∷ third ∷ fourth ∷ [])

-- all of them unqualified
abbrev pub four_unqualified : List Call
four_unqualified = with_six_bands (unqualified first ∷ unqualified second ∷ unqualified third ∷ unqualified fourth ∷ [])

-- all but the first
abbrev pub first_qualified : List Call
first_qualified = with_six_bands (qualified first ∷ unqualified second ∷ unqualified third ∷ unqualified fourth ∷ [])

-- the third dated before
abbrev pub third_before : List Call
third_before = with_six_bands (first ∷ second ∷ dated_before third ∷ fourth ∷ [])

-- a package of 10 MWh at this price
abbrev pub ten_for : ℕ → Package
ten_for price = plain_package 0 10 0 price

-- The 87 bytes of a sheet: a package of 10 MWh for 20 pesos, another for this price, and a band for 10 MWh at 5 pesos.
abbrev pub sheet_with_second_for : ℕ → List ℕ
sheet_with_second_for price =
    0x01 ∷ 0x00 ∷ 0x21 ∷ 0x01 ∷ 0x01
    ∷ 0x00 ∷ 0x00 ∷ 0x00 ∷ 0x00 ∷ 0x00 ∷ 0x00 ∷ 0x00 ∷ 0x0A ∷ 0x00 ∷ 0x00 ∷ 0x00 ∷ 0x00 ∷ 0x00 ∷ 0x00 ∷ 0x00 ∷ 0x00
    ∷ 0x00 ∷ 0x00 ∷ 0x00 ∷ 0x00 ∷ 0x00 ∷ 0x00 ∷ 0x00 ∷ 0x14 ∷ 0x01 ∷ 0x01 ∷ 0x01 ∷ 0x01 ∷ 0x00 ∷ 0x00 ∷ 0x00
    ∷ 0x01 ∷ 0x00 ∷ 0x21 ∷ 0x02 ∷ 0x01
    ∷ 0x00 ∷ 0x00 ∷ 0x00 ∷ 0x00 ∷ 0x00 ∷ 0x00 ∷ 0x00 ∷ 0x0A ∷ 0x00 ∷ 0x00 ∷ 0x00 ∷ 0x00 ∷ 0x00 ∷ 0x00 ∷ 0x00 ∷ 0x00
    ∷ 0x00 ∷ 0x00 ∷ 0x00 ∷ 0x00 ∷ 0x00 ∷ 0x00 ∷ 0x00 ∷ price ∷ 0x01 ∷ 0x01 ∷ 0x01 ∷ 0x01 ∷ 0x00 ∷ 0x00 ∷ 0x00
    ∷ 0x02 ∷ 0x00 ∷ 0x0C ∷ 0x01 ∷ 0x01 ∷ 0x04 ∷ 0x00 ∷ 0x00 ∷ 0x00 ∷ 0x0A ∷ 0x00 ∷ 0x00 ∷ 0x00 ∷ 0x05 ∷ 0x01
    ∷ []

-- that of the two-package round
abbrev pub two_packages_sheet : List ℕ
two_packages_sheet = sheet_with_second_for 20
