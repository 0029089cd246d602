-- What is written of price rules and bounding rules is read as those rules.
use Rattle.std.proofs.Common.{◌≡◌, ℕ, ◌≤◌, Bool, true, not, eqb, leb, List, [], ◌∷◌, ◌++◌, length, map, ℤ, Some, Ok, refl, sym, ap, ◌∙◌, rules, arith}
use Rattle.std.specs.Fmt.{decimal}
use Rattle.std.specs.List.{flat_map, list_all, slice_split}
use Rattle.std.proofs.lemmas.Bool.{and_parts, and_from, leb-true, not-true, false≢true}
use Rattle.std.proofs.lemmas.List.Folds.{list_all-append}
use Rattle.offers.specs.Fields.{within}
use Rattle.pricing.specs.Numbers.{zone_number, zone_numbers, currency_rates}
use Rattle.bounds.specs.declared.names.Named.{Named}
use Rattle.bounds.specs.declared.names.Named.TheVariants.{Ceiling, AllIn, OneByOne, Limits, Shares, Tangent}
use Rattle.journals.specs.Chains.{Rules, rules_in, chain_at}
use Rattle.journals.specs.Names.{case_named, bounding_rules}
use Rattle.journals.specs.Readers.{name_at}
use Rattle.journals.specs.Stacks.{PlainStack, Filed, Place, Currency, signeds_at, zones_at, weighing_at, stack_at}
use Rattle.journals.specs.Texts.{zone_words, stack_words, rule_word, rules_word, ZonesFit, StackFits}
use Rattle.journals.specs.Words.{is_word}
use Rattle.journals.proofs.Decimals.{above_blank, number_at-decimal, decimal-above, is_word-decimal, signed_at-zone, signed-above, is_word-signed}
use Rattle.journals.proofs.Plain.{Words, Apart, split-joined}

-- numbers of price zones
signeds_at-zones : (zones : List ℤ) → zone_numbers zones ≡ true → signeds_at (length zones) (zone_words zones) ≡ Ok (zones, [])
unfolding signeds_at
signeds_at-zones [] fit = refl
signeds_at-zones (z ∷ zones) fit =
    let parts = and_parts (zone_number z) (zone_numbers zones) fit in
    rw (signed_at-zone z parts.0 (zone_words zones), signeds_at-zones zones parts.1)

zones_at-zones : (zones : List ℤ) → ZonesFit zones → zones_at (zone_words zones) ≡ Ok (zones, [])
unfolding zones_at
zones_at-zones zones fit =
    let read = ap (λ n. signeds_at n (zone_words zones)) (sym fit.0) ∙ signeds_at-zones zones fit.1 in
    rw (read, fit.1)

rates-few : (preference expectation : ℕ) → currency_rates preference expectation ≡ true → (preference ≤ 11000) × (expectation ≤ 20000)
rates-few preference expectation fit =
    let parts = and_parts (within 10000 11000 preference) (within 5000 20000 expectation) fit in
    (leb-true _ _ (and_parts (leb 10000 preference) (leb preference 11000) parts.0).1, leb-true _ _ (and_parts (leb 5000 expectation) (leb expectation 20000) parts.1).1)

weighing_at-rates : (preference expectation : ℕ) (words : List (List ℕ)) → currency_rates preference expectation ≡ true → weighing_at (decimal preference ∷ decimal expectation ∷ words) ≡ Ok ((preference, expectation), words)
unfolding weighing_at
weighing_at-rates preference expectation words fit =
    let few = rates-few preference expectation fit in
    rw (number_at-decimal 4 preference (omega arith) (omega arith) (decimal expectation ∷ words), number_at-decimal 4 expectation (omega arith) (omega arith) words, fit)

-- a stack of price rules
pub stack_at-words : (plain_stack : PlainStack) → StackFits plain_stack → stack_at (stack_words plain_stack) ≡ Ok (plain_stack, [])
unfolding stack_at name_at
stack_at-words Filed fit = refl
stack_at-words (Place zones) fit = rw (zones_at-zones zones fit)
stack_at-words (Currency preference expectation zones) fit =
    rw (weighing_at-rates preference expectation (zone_words zones) fit.0, zones_at-zones zones fit.1)

-- bounding rules: each by its name
case_named-rule : (rule : Named) → case_named bounding_rules (rule_word rule) ≡ Some rule
case_named-rule Ceiling = refl
case_named-rule AllIn = refl
case_named-rule OneByOne = refl
case_named-rule Limits = refl
case_named-rule Shares = refl
case_named-rule Tangent = refl

rules_in-words : (others : List Named) → rules_in (map rule_word others) ≡ Ok others
rules_in-words [] = refl
rules_in-words (rule ∷ others) = rw (case_named-rule rule, rules_in-words others)

-- no name has a plus sign
abbrev no_plus : ℕ → Bool
no_plus b = not (eqb b 43)

abbrev is_plus : ℕ → Bool
is_plus b = eqb b 43

plus-apart : Apart no_plus is_plus
plus-apart b kept = not-true _ kept

rule-word : (rule : Named) → list_all no_plus (rule_word rule) ≡ true
rule-word Ceiling = refl
rule-word AllIn = refl
rule-word OneByOne = refl
rule-word Limits = refl
rule-word Shares = refl
rule-word Tangent = refl

is_word-rule : (rule : Named) → is_word (rule_word rule) ≡ true
is_word-rule Ceiling = refl
is_word-rule AllIn = refl
is_word-rule OneByOne = refl
is_word-rule Limits = refl
is_word-rule Shares = refl
is_word-rule Tangent = refl

rule-words : (others : List Named) → Words no_plus (map rule_word others)
rule-words [] = tt
rule-words (rule ∷ others) = ((is_word-rule rule, rule-word rule), rule-words others)

-- names behind plus signs, by the names' words
plus-words : (others : List Named) → flat_map (λ other. 43 ∷ rule_word other) others ≡ flat_map (λ word. 43 ∷ word) (map rule_word others)
plus-words [] = refl
plus-words (rule ∷ others) = ap (λ rest. (43 ∷ rule_word rule) ++ rest) (plus-words others)

split-rules : (rules : Rules) → slice_split is_plus (rules_word rules) ≡ rule_word rules.first ∷ map rule_word rules.others
split-rules rules =
    ap (λ rest. slice_split is_plus (rule_word rules.first ++ rest)) (plus-words rules.others)
    ∙ split-joined no_plus is_plus plus-apart 43 refl (rule_word rules.first) (map rule_word rules.others) (rule-word rules.first) (rule-words rules.others)

pub chain_at-rules : (rules : Rules) (words : List (List ℕ)) → chain_at (rules_word rules ∷ words) ≡ Ok (rules, words)
unfolding chain_at
chain_at-rules rules words = rw (split-rules rules, case_named-rule rules.first, rules_in-words rules.others)

-- their words
zone-words : (zones : List ℤ) → zone_numbers zones ≡ true → Words above_blank (zone_words zones)
zone-words [] fit = tt
zone-words (z ∷ zones) fit =
    let parts = and_parts (zone_number z) (zone_numbers zones) fit in
    ((is_word-signed z parts.0, signed-above z parts.0), zone-words zones parts.1)

pub stack-words : (plain_stack : PlainStack) → StackFits plain_stack → Words above_blank (stack_words plain_stack)
stack-words Filed fit = ((refl, refl), tt)
stack-words (Place zones) fit = ((refl, refl), zone-words zones fit.1)
stack-words (Currency preference expectation zones) fit =
    let few = rates-few preference expectation fit.0 in
    ((refl, refl), ((is_word-decimal preference (omega arith), decimal-above preference (omega arith)), ((is_word-decimal expectation (omega arith), decimal-above expectation (omega arith)), zone-words zones fit.1.1)))

rule-above : (rule : Named) → list_all above_blank (rule_word rule) ≡ true
rule-above Ceiling = refl
rule-above AllIn = refl
rule-above OneByOne = refl
rule-above Limits = refl
rule-above Shares = refl
rule-above Tangent = refl

plus-above : (others : List Named) → list_all above_blank (flat_map (λ other. 43 ∷ rule_word other) others) ≡ true
plus-above [] = refl
plus-above (rule ∷ others) =
    list_all-append above_blank (43 ∷ rule_word rule) (flat_map (λ other. 43 ∷ rule_word other) others)
    ∙ and_from _ _ (rule-above rule) (plus-above others)

is_word-append : (word rest : List ℕ) → is_word word ≡ true → is_word (word ++ rest) ≡ true
is_word-append [] rest some = absurd (false≢true some)
is_word-append (b ∷ bs) rest some = refl

pub rules-words : (rules : Rules) → Words above_blank (rules_word rules ∷ [])
rules-words rules =
    let rest = flat_map (λ other. 43 ∷ rule_word other) rules.others in (
      (
        is_word-append (rule_word rules.first) rest (is_word-rule rules.first),
        list_all-append above_blank (rule_word rules.first) rest ∙ and_from _ _ (rule-above rules.first) (plus-above rules.others),
      ),
      tt,
    )
