-- `pairs_kept`: both packages of a pair have places, where the tests read whether they are taken.
use Rattle.std.proofs.Common.{rules, arith}
use Rattle.std.proofs.lemmas.Iterator.{YieldsList-from_slice}
use Rattle.std.proofs.lemmas.Iterator.Adapters.{serves_from_places}
use Rattle.offers.specs.Tables.{pair_layout}
use Rattle.clearing.specs.Ranges.{fits}
use Rattle.clearing.proofs.Fits.{each_item, pair_ranges}
use Rattle.clearing.proofs.lawful.pairs_kept.Goals as goal

pub all-requires-clause-callable : goal.all-requires-clause-callable
all-requires-clause-callable c =
    let d = c.docket.inside in
    serves_from_places (YieldsList-from_slice d.pairs cc) (λ x q h. search rules)
    (λ x k h e.
    let r = pair_ranges x.now (each_item (fits pair_layout) d.pairs k x.now h e c.docket.invariant.pairs) in
    search (rules, arith))
