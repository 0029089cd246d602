-- What the rules of a journal's requests mean, in the words of their crates.
use Rattle.std.proofs.Common.{map, vec_items}
use Rattle.pricing.specs.declared.currency.Currency.{Currency}
use Rattle.pricing.specs.declared.filed.Filed.{Filed}
use Rattle.pricing.specs.declared.place.Place.{Place}
use Rattle.pricing.specs.Prices.{filed_price, place_price, currency_price, Meaning}
use Rattle.bounds.specs.declared.chains.Chain.{Chain}
use Rattle.bounds.specs.declared.names.Named.{Named}
use Rattle.bounds.specs.Blocks.{Answers}
use Rattle.bounds.specs.Rules.{chained, named}
use Rattle.rounds.specs.declared.requests.Request.{Request}
use Rattle.rounds.specs.declared.rules.OneOf.{OneOf}
use Rattle.rounds.specs.Model.{Call}
use Rattle.rounds.specs.Requests.{call_of}
use Rattle.rounds.specs.Rules.{either_meaning}

abbrev filed : Filed → Meaning
filed rule p = filed_price p

abbrev place : Place Filed → Meaning
place rule p = place_price rule.numbers.numbers 2 (filed rule.below p) p

abbrev currency : Currency (Place Filed) → Meaning
currency rule p = currency_price rule.rates.preference rule.rates.expectation 3 (place rule.below p) p

abbrev chain : Chain Named → Answers
chain rules = chained (named rules.first) (map named (vec_items rules.others))

-- a request of a journal as a call
abbrev pub call : Request (OneOf Filed (OneOf (Place Filed) (Currency (Place Filed)))) (Chain Named) → Call
call request = call_of (either_meaning filed (either_meaning place currency)) chain request
