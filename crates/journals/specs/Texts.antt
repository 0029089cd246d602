-- The text of what a line says, and when it has one.
use Rattle.std.specs.Prelude.{◌≡◌, ℕ, ◌<◌, ◌^◌, true, List, [], ◌∷◌, ◌++◌, length, map, codes, decimal, ℤ, Some, None, Option, IfSome}
use Rattle.std.specs.Fmt.{signed_decimal}
use Rattle.std.specs.List.{flat_map}
use Rattle.hex.specs.Hex.{encode_lower, IsBytes}
use Rattle.offers.specs.Fields.{Field}
use Rattle.offers.specs.Layouts.{Layout}
use Rattle.offers.specs.Tables.{package_layout, band_layout, pair_layout, exclusion_layout, limit_layout}
use Rattle.offers.specs.declared.kinds.Kind.{Kind}
use Rattle.offers.specs.declared.kinds.Kind.TheVariants as kind
use Rattle.offers.specs.declared.memory.Offer.{Offer}
use Rattle.offers.specs.declared.memory.Offer.TheVariants as offer
use Rattle.pricing.specs.Numbers.{zone_numbers, currency_rates}
use Rattle.fees.specs.declared.rates.FeeRates.{FeeRates}
use Rattle.bounds.specs.declared.names.Named.{Named}
use Rattle.bounds.specs.declared.names.Named.TheVariants as rule
use Rattle.journals.specs.Chains.{Rules}
use Rattle.journals.specs.Lines.{Said, File, Withdraw, CatchUp, Close, Search, Reopen, Award, Fees, Sheet}
use Rattle.journals.specs.Stacks.{PlainStack, Filed, Place, Currency}

-- words behind others
abbrev pub behind : List (List ℕ) → List ℕ
behind words = flat_map (λ word. 32 ∷ word) words

-- words with a space between each two
abbrev pub spaced : List (List ℕ) → List ℕ
spaced [] = []
spaced (word ∷ words) = word ++ behind words

abbrev pub kind_word : Kind → List ℕ
kind_word kind.Package = codes "package"
kind_word kind.Band = codes "band"
kind_word kind.Pair = codes "pair"
kind_word kind.Exclusion = codes "exclusion"
kind_word kind.Limit = codes "limit"

abbrev pub rule_word : Named → List ℕ
rule_word rule.Ceiling = codes "ceiling"
rule_word rule.AllIn = codes "all-in"
rule_word rule.OneByOne = codes "one-by-one"
rule_word rule.Limits = codes "limits"
rule_word rule.Shares = codes "shares"
rule_word rule.Tangent = codes "tangent"

abbrev pub kind_of : Offer → Kind
kind_of (offer.Package r) = kind.Package
kind_of (offer.Band r) = kind.Band
kind_of (offer.Pair r) = kind.Pair
kind_of (offer.Exclusion r) = kind.Exclusion
kind_of (offer.Limit r) = kind.Limit

-- a word for each field of a record
abbrev pub field_words : {R : Type 0} → List (Field R) → R → List (List ℕ)
field_words [] r = []
field_words (f ∷ fs) r = decimal (f.value r) ∷ field_words fs r

abbrev pub record_words : {R : Type 0} → Layout R → R → List (List ℕ)
record_words k r = field_words k.fields r

abbrev pub offer_words : Offer → List (List ℕ)
offer_words (offer.Package r) = record_words package_layout r
offer_words (offer.Band r) = record_words band_layout r
offer_words (offer.Pair r) = record_words pair_layout r
offer_words (offer.Exclusion r) = record_words exclusion_layout r
offer_words (offer.Limit r) = record_words limit_layout r

abbrev pub zone_words : List ℤ → List (List ℕ)
zone_words zones = map signed_decimal zones

abbrev pub stack_words : PlainStack → List (List ℕ)
stack_words Filed = codes "filed" ∷ []
stack_words (Place zones) = codes "place" ∷ zone_words zones
stack_words (Currency preference expectation zones) =
    codes "currency" ∷ decimal preference ∷ decimal expectation ∷ zone_words zones

-- rules joined by plus signs, as one word
abbrev pub rules_word : Rules → List ℕ
rules_word rules = rule_word rules.first ++ flat_map (λ other. 43 ∷ rule_word other) rules.others

-- bytes as one word; no word where there are none
abbrev pub bytes_words : List ℕ → List (List ℕ)
bytes_words [] = []
bytes_words (b ∷ bs) = encode_lower (b ∷ bs) ∷ []

abbrev pub length_words : Option ℕ → List (List ℕ)
length_words None = []
length_words (Some length) = decimal length ∷ []

abbrev pub words_of : Said → List (List ℕ)
words_of (File n o) = codes "file" ∷ kind_word (kind_of o) ∷ decimal n ∷ offer_words o
words_of (Withdraw k n) = codes "withdraw" ∷ kind_word k ∷ decimal n ∷ []
words_of (CatchUp bytes) = codes "catch-up" ∷ bytes_words bytes
words_of (Close plain_stack) = codes "close" ∷ stack_words plain_stack
words_of (Search rules steps) = codes "search" ∷ rules_word rules ∷ decimal steps ∷ []
words_of Reopen = codes "reopen" ∷ []
words_of (Award length) = codes "award" ∷ decimal length ∷ []
words_of (Fees rates length) =
    codes "fees" ∷ decimal rates.first ∷ decimal rates.second ∷ decimal rates.third ∷ decimal length ∷ []
words_of (Sheet length) = codes "sheet" ∷ length_words length

-- what is written for a line
abbrev pub line_text : Said → List ℕ
line_text s = spaced (words_of s)

-- a journal has a line for each
abbrev pub journal_text : List Said → List ℕ
journal_text lines = flat_map (λ s. line_text s ++ 10 ∷ []) lines

-- each field's bytes hold its value
abbrev pub FieldsFit : {R : Type 0} → List (Field R) → R → Type 0
FieldsFit [] r = Unit {0}
FieldsFit (f ∷ fs) r = (f.value r < 256 ^ f.width) × FieldsFit fs r

abbrev pub OfferFits : Offer → Type 0
OfferFits (offer.Package r) = FieldsFit package_layout.fields r
OfferFits (offer.Band r) = FieldsFit band_layout.fields r
OfferFits (offer.Pair r) = FieldsFit pair_layout.fields r
OfferFits (offer.Exclusion r) = FieldsFit exclusion_layout.fields r
OfferFits (offer.Limit r) = FieldsFit limit_layout.fields r

-- a number for each of the 16 price zones, in range
abbrev pub ZonesFit : List ℤ → Type 0
ZonesFit zones = (length zones ≡ 16) × (zone_numbers zones ≡ true)

abbrev pub StackFits : PlainStack → Type 0
StackFits Filed = Unit {0}
StackFits (Place zones) = ZonesFit zones
StackFits (Currency preference expectation zones) = (currency_rates preference expectation ≡ true) × ZonesFit zones

abbrev pub RatesFit : FeeRates → Type 0
RatesFit rates = (rates.first < 2 ^ 32) × (rates.second < 2 ^ 32) × (rates.third < 2 ^ 32)

-- Its values are such as a line can say: each number is one that its bytes hold, and a price rule's are in range.
abbrev pub Fits : Said → Type 0
Fits (File n o) = (n < 256) × OfferFits o
Fits (Withdraw k n) = n < 256
Fits (CatchUp bytes) = IsBytes bytes
Fits (Close plain_stack) = StackFits plain_stack
Fits (Search rules steps) = steps < 2 ^ 32
Fits Reopen = Unit {0}
Fits (Award length) = length < 2 ^ 32
Fits (Fees rates length) = RatesFit rates × (length < 2 ^ 32)
Fits (Sheet length) = IfSome length (λ n. n < 2 ^ 32)
