-- Prices in pesos, and what each price rule means.
use Rattle.std.specs.Prelude.{ℕ, suc, ◌+◌, ◌-◌, ◌*◌, ◌/◌, ◌%◌, ◌&&◌, List, ℤ, pos, negsuc, ◌+ℤ◌, ◌*ℤ◌, neg_ℤ, ◌≤ℤ◌, Ok, Err, Result, ◌==◌, int_le, slice_index_or, if◌then◌else◌}
use Rattle.offers.specs.declared.records.Package.{Package}
use Rattle.pricing.specs.declared.numbers.Rates.{Rates}
use Rattle.pricing.specs.declared.numbers.ZoneNumbers.{ZoneNumbers}
use Rattle.pricing.specs.declared.rules.Fault.{Fault}

-- a price rule's meaning: one price or fault for each package, by its terms
abbrev pub Meaning : Type 0
Meaning = Package → Result ℤ Fault

-- the least and the greatest price
abbrev pub least : ℤ
least = neg_ℤ (pos 20000000000)

abbrev pub greatest : ℤ
greatest = pos 20000000000

-- an answer of a rule is a fault or a price between them
abbrev pub Bounded : Result ℤ Fault → Type 0
Bounded (Ok price) = (least ≤ℤ price) × (price ≤ℤ greatest)
Bounded (Err fault) = Unit {0}

-- each answer of a meaning is
abbrev pub BoundedRule : Meaning → Type 0
BoundedRule meaning = (p : Package) → Bounded (meaning p)

-- a price that a rule at some depth came to, or its fault where that lies outside
abbrev pub checked_price : ℕ → ℤ → Result ℤ Fault
checked_price depth price = if int_le least price && int_le price greatest then Ok price else Err (record { depth = depth })

-- a rule above another: a fault from below passes up unchanged, a price is worked on and checked
abbrev pub upon : Result ℤ Fault → ℕ → (ℤ → ℤ) → Result ℤ Fault
upon (Ok price) depth work = checked_price depth (work price)
upon (Err fault) depth work = Err fault

-- the depth of a rule above one at a depth: a byte that wraps
abbrev pub above : ℕ → ℕ
above depth = (depth + 1) % 256

-- the filed rule: what was filed
abbrev pub filed_price : Package → Result ℤ Fault
filed_price p = checked_price 1 (pos p.price)

-- the place rule: the number of the package's price zone, in pesos for each MWh, times its energy is added
abbrev pub place_price : List ℤ → ℕ → Result ℤ Fault → Package → Result ℤ Fault
place_price numbers depth below p =
    upon below depth (λ price. price +ℤ (slice_index_or numbers (p.price_zone - 1) (pos 0) *ℤ pos p.energy))

-- on what is below it
abbrev pub place_on : ZoneNumbers → ℕ → Meaning → Meaning
place_on zones level below p = place_price zones.numbers (above level) (below p) p

-- a hundred-millionth, rounded up to the smallest whole number not below it: a negative one goes toward zero
abbrev pub hundred_millionth : ℤ → ℤ
hundred_millionth (pos n) = pos ((n + 99999999) / 100000000)
hundred_millionth (negsuc n) = neg_ℤ (pos (suc n / 100000000))

-- the currency rule: a dollar package's price is multiplied by both rates, in ten-thousandths, and rounded up
abbrev pub currency_price : ℕ → ℕ → ℕ → Result ℤ Fault → Package → Result ℤ Fault
currency_price preference expectation depth below p =
    upon below depth (λ price.
    if p.dollar == 1 then hundred_millionth (price *ℤ pos (preference * expectation)) else price)

-- on what is below it
abbrev pub currency_on : Rates → ℕ → Meaning → Meaning
currency_on rates level below p = currency_price rates.preference rates.expectation (above level) (below p) p

-- the round's own stack of price rules, with its rates and the numbers of its zones: currency on place on filed
abbrev pub stack_price : ℕ → ℕ → List ℤ → Package → Result ℤ Fault
stack_price preference expectation numbers p =
    currency_price preference expectation (above (above 1)) (place_price numbers (above 1) (filed_price p) p) p
