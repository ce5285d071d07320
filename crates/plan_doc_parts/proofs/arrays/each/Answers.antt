use Rattle.std.proofs.Common.{refl, Ok}
use Rattle.std.specs.Fn.{FnReturnsAt}
use Rattle.plan_doc_parts.proofs.PairLemmas.{goes_on, stops}
use Rattle.plan_doc_parts.proofs.arrays.each.Goals as goal

pub returns-in-Err : goal.returns-in-Err
returns-in-Err g c =
    stops _ c.args.entries.now c.loop-entry.entry-index c.entry-item.result c.in-Err.fault c.loop-entry-test.true c.entry-item.is
    (record { shown = _; shows = refl; says = record { met = c.in-Err.ensures } })

pub loop-entry-preserved : goal.loop-entry-preserved
loop-entry-preserved g c =
    let says : FnReturnsAt g.F.Fn c.args.read c.entry-item.result (Ok c.in-Ok.item) = record { shown = _; shows = refl; says = record { met = c.in-Ok.ensures } } in
    rw c.in_ok-push-in-Ok.ensures.pushed (goes_on (FnReturnsAt g.F.Fn c.args.read) c.args.entries.now c.loop-entry.entry-index c.entry-item.result c.loop-entry.found c.in-Ok.item c.loop-entry-test.true c.entry-item.is c.loop-entry.invariant says)
