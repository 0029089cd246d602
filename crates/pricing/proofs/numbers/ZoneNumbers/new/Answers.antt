-- `new` looks at every number.
use Rattle.std.proofs.Common.{◌≡◌, sym, ◌∙◌, rules}
use Rattle.std.proofs.lemmas.Iterator.{YieldsList-from_slice}
use Rattle.std.proofs.lemmas.Iterator.Search.{all_from_yields_List}
use borrow.Author.Tests.{tests}
use Rattle.pricing.specs.Numbers.{zone_number, zone_numbers}
use Rattle.pricing.proofs.numbers.ZoneNumbers.new.Goals as goal

pub invariant_of-result : goal.invariant_of-result
invariant_of-result c =
    let all : c.all.result ≡ zone_numbers c.args.numbers =
    all_from_yields_List zone_number _ _ _ c.all.ensures.ran (YieldsList-from_slice c.args.numbers cc) (λ x b q k. search (rules, tests)) in
    record { in_range = sym all ∙ c.if-not-all.false }
