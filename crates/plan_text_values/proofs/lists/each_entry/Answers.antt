-- A turn writes the next entry.
use Rattle.std.proofs.Common.{◌<◌, length, sym, refl, Ok}
use Rattle.std.specs.Fn.{FnReturnsAt}
use Rattle.std.proofs.lemmas.Option.{get_or_from_slice_get, slice_get_within}
use Rattle.plan_text_values.proofs.ListLemmas.{goes_on}
use Rattle.plan_text_values.proofs.lists.each_entry.Goals as goal

pub loop-i-preserved : goal.loop-i-preserved
loop-i-preserved g c =
    let entry = c.get.result.now in
    let inside : c.loop-i.i < length c.args.arena.now = slice_get_within c.args.arena.now c.loop-i.i entry c.get.ensures.entry in
    let says : FnReturnsAt g.F.Fn c.args.write entry (Ok c.in-Ok.value) = record { shown = _; shows = refl; says = record { met = c.in-Ok.ensures } } in
    rw c.in_ok-push-in-Ok.ensures.items (goes_on (FnReturnsAt g.F.Fn c.args.write) c.args.arena.now c.loop-i.i entry c.loop-i.written.items c.in-Ok.value inside (sym (get_or_from_slice_get c.args.arena.now c.loop-i.i entry entry c.get.ensures.entry)) c.loop-i.invariant says)
