-- `zones_kept`: each limit is in range, and is kept where what counts against it is at most its amount.
use Rattle.std.proofs.Common.{◌-◌, leb, eqb, cond, get_or, rules, tests}
use Rattle.std.proofs.lemmas.Iterator.{YieldsList-from_slice}
use Rattle.std.proofs.lemmas.Iterator.Adapters.{serves_from_places}
use Rattle.std.proofs.lemmas.Iterator.Search.{all_from_yields_List}
use Rattle.offers.specs.declared.records.Limit.{Limit}
use Rattle.offers.specs.Tables.{limit_layout}
use Rattle.clearing.specs.Ranges.{fits}
use Rattle.clearing.proofs.Fits.{each_item}
use Rattle.clearing.proofs.Tested.{tested-all, load_decides}
use Rattle.clearing.proofs.lawful.zones_kept.Goals as goal

pub all-requires-clause-callable : goal.all-requires-clause-callable
all-requires-clause-callable c =
    let d = c.docket.inside in
    serves_from_places (YieldsList-from_slice d.limits cc) (λ x q h. search rules)
    (λ x k h e. let ok = each_item (fits limit_layout) d.limits k x.now h e c.docket.invariant.limits in search (rules, ok))

pub returns : goal.returns
returns c =
    let limits = c.args.docket.now.limits in
    let t = c.args.tally.now in
    tested-all (λ (l : Limit). leb (cond (eqb l.sort 1) (get_or t.nameplate (l.zone - 1) 0) (cond (eqb l.sort 2) (get_or t.export (l.zone - 1) 0) 0)) l.amount) _
    (λ l. load_decides l.sort _ _ l.amount) limits c.all.result
    (all_from_yields_List _ _ _ c.all.result c.all.ensures.ran (YieldsList-from_slice limits cc) (λ x b q k. search (rules, tests)))
