-- The five kinds of record, each a table of its fields from the left: bytes, field, least, greatest.
use Rattle.std.specs.Prelude.{not, ◌&&◌, List, [], ◌∷◌, ◌==◌, slice_index, if◌then◌else◌, ℕ}
use Rattle.offers.specs.Fields.{Field, plain, within}
use Rattle.offers.specs.Layouts.{Layout}
use Rattle.offers.specs.declared.records.Package.{Package}
use Rattle.offers.specs.declared.records.Band.{Band}
use Rattle.offers.specs.declared.records.Pair.{Pair}
use Rattle.offers.specs.declared.records.Exclusion.{Exclusion}
use Rattle.offers.specs.declared.records.Limit.{Limit}

-- the offer numbers of each kind are 1 to this
abbrev pub PACKAGES : ℕ
PACKAGES = 40

abbrev pub BANDS : ℕ
BANDS = 64

abbrev pub PAIRS : ℕ
PAIRS = 64

abbrev pub EXCLUSIONS : ℕ
EXCLUSIONS = 64

abbrev pub LIMITS : ℕ
LIMITS = 32

-- and the buyers of bands are 1 to this
abbrev pub BUYERS : ℕ
BUYERS = 16

-- power in MW, energy in MWh and certificates by the year, nameplate in MW, price in pesos;
-- date: 0 standard, 1 before, 2 after; unqualified: 1 without connection priority; dollar: 1 indexed to dollars
abbrev pub package_fields : List (Field Package)
package_fields =
    plain 4 (λ p. p.power) 0 10000
    ∷ plain 4 (λ p. p.energy) 0 10000000
    ∷ plain 4 (λ p. p.certificates) 0 10000000
    ∷ plain 4 (λ p. p.nameplate) 0 100000
    ∷ plain 8 (λ p. p.price) 0 10000000000
    ∷ plain 1 (λ p. p.power_zone) 1 3
    ∷ plain 1 (λ p. p.interconnection_zone) 1 16
    ∷ plain 1 (λ p. p.export_zone) 1 16
    ∷ plain 1 (λ p. p.price_zone) 1 16
    ∷ plain 1 (λ p. p.date) 0 2
    ∷ plain 1 (λ p. p.unqualified) 0 1
    ∷ plain 1 (λ p. p.dollar) 0 1
    ∷ []

-- market: 1 to 3 power in that zone, 4 energy, 5 certificates; quantity in the market's unit, price in pesos for one; buyer: who bids
abbrev pub band_fields : List (Field Band)
band_fields =
    plain 1 (λ b. b.market) 1 5
    ∷ plain 4 (λ b. b.quantity) 1 100000000
    ∷ plain 4 (λ b. b.price) 0 10000000
    ∷ plain 1 (λ b. b.buyer) 1 BUYERS
    ∷ []

-- a package that is taken only with another, the needed one
abbrev pub pair_fields : List (Field Pair)
pair_fields =
    plain 1 (λ p. p.dependent) 1 PACKAGES
    ∷ record {
      width = 1;
      value = λ p. p.needed;
      allowed = λ p. within 1 PACKAGES p.needed && not (p.needed == p.dependent);
    }
    ∷ []

-- a package of a group of which at most one is taken
abbrev pub exclusion_fields : List (Field Exclusion)
exclusion_fields =
    plain 1 (λ e. e.group) 1 16
    ∷ plain 1 (λ e. e.member) 1 PACKAGES
    ∷ []

-- sort: 1 interconnection (amount in MW), 2 export (amount in MWh), 3 percentage;
-- zone of a percentage: 1 power before, 2 power after, 3 certificates before, 4 certificates after
abbrev pub limit_fields : List (Field Limit)
limit_fields =
    plain 1 (λ l. l.sort) 1 3
    ∷ record {
      width = 1;
      value = λ l. l.zone;
      allowed = λ l. if l.sort == 3 then within 1 4 l.zone else within 1 16 l.zone;
    }
    ∷ record {
      width = 4;
      value = λ l. l.amount;
      allowed = λ l. if l.sort == 3 then within 0 100 l.amount else within 0 1000000000 l.amount;
    }
    ∷ []

abbrev pub package_layout : Layout Package
package_layout = record {
  tag = 1;
  count = PACKAGES;
  fields = package_fields;
  record_of = λ vs. record {
    power = slice_index vs 0;
    energy = slice_index vs 1;
    certificates = slice_index vs 2;
    nameplate = slice_index vs 3;
    price = slice_index vs 4;
    power_zone = slice_index vs 5;
    interconnection_zone = slice_index vs 6;
    export_zone = slice_index vs 7;
    price_zone = slice_index vs 8;
    date = slice_index vs 9;
    unqualified = slice_index vs 10;
    dollar = slice_index vs 11;
  };
}

abbrev pub band_layout : Layout Band
band_layout = record {
  tag = 2;
  count = BANDS;
  fields = band_fields;
  record_of = λ vs. record {
    market = slice_index vs 0;
    quantity = slice_index vs 1;
    price = slice_index vs 2;
    buyer = slice_index vs 3;
  };
}

abbrev pub pair_layout : Layout Pair
pair_layout = record {
  tag = 3;
  count = PAIRS;
  fields = pair_fields;
  record_of = λ vs. record { dependent = slice_index vs 0; needed = slice_index vs 1 };
}

abbrev pub exclusion_layout : Layout Exclusion
exclusion_layout = record {
  tag = 4;
  count = EXCLUSIONS;
  fields = exclusion_fields;
  record_of = λ vs. record { group = slice_index vs 0; member = slice_index vs 1 };
}

abbrev pub limit_layout : Layout Limit
limit_layout = record {
  tag = 5;
  count = LIMITS;
  fields = limit_fields;
  record_of = λ vs. record { sort = slice_index vs 0; zone = slice_index vs 1; amount = slice_index vs 2 };
}
