-- A turn writes the next value.
use Rattle.std.proofs.Common.{refl, Ok}
use Rattle.std.specs.Fn.{FnReturnsAt}
use Rattle.plan_text_values.proofs.ListLemmas.{goes_on}
use Rattle.plan_text_values.proofs.lists.each.Goals as goal

pub loop-item-preserved : goal.loop-item-preserved
loop-item-preserved g c =
    let says : FnReturnsAt g.F.Fn c.args.write c.item-item.result (Ok c.in-Ok.value) = record { shown = _; shows = refl; says = record { met = c.in-Ok.ensures } } in
    rw c.in_ok-push-in-Ok.ensures.items (goes_on (FnReturnsAt g.F.Fn c.args.write) c.args.items.now c.loop-item.item-index c.item-item.result c.loop-item.written.items c.in-Ok.value c.loop-item-test.true c.item-item.is c.loop-item.invariant says)
