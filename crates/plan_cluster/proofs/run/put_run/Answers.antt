use Rattle.std.proofs.Common.{◌≡◌, ◌∙◌, List, sym, subst, ap, arith, length}
use Rattle.std.specs.List.{slice_get}
use Rattle.plan_cluster.specs.declared.layer.Layer.{Layer}
use Rattle.plan_cluster.proofs.Runs.{Putting, putting_end, putting_first, putting_next}
use Rattle.plan_cluster.proofs.run.put_run.Goals as goal

pub loop-layer-init : goal.loop-layer-init
loop-layer-init c = putting_first c.args.lp.now c.args.places.now c.args.run.now.items c.args.below

pub loop-layer-preserved : goal.loop-layer-preserved
loop-layer-preserved c =
    putting_next c.args.lp.now c.loop-layer.lp c.put_at.new.lp c.args.places.now c.args.run.now.items c.pop.new.self.items c.in-Some.layer c.args.below c.loop-layer.top c.in_ok-top.top c.over-entry.result
    c.requires.within c.requires.differ c.over-entry.ensures
    (subst (λ (ks : List Layer). Putting c.args.lp.now c.loop-layer.lp c.args.places.now c.args.run.now.items ks c.args.below c.loop-layer.top) c.in-Some.ensures.items c.loop-layer.invariant)
    c.place_at.result (let at : length c.pop.new.self.items ≡ c.len.result = omega (arith, c.len.ensures, c.pop.new.self.ok.0) in ap (slice_get c.args.places.now) at ∙ sym c.place_at.ensures) c.in_ok-top.ensures

pub returns : goal.returns
returns c = putting_end c.args.lp.now c.loop-layer.lp c.args.places.now c.args.run.now.items c.loop-layer.run.items c.args.below c.loop-layer.top (omega (arith, c.in_default.ensures.cases.0, c.loop-layer.run.ok.0)) c.loop-layer.invariant
