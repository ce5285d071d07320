use Rattle.std.proofs.Common.{List, All, ◌<◌, length, sym, subst}
use Rattle.plan_core.specs.declared.arena.Node.{Node}
use Rattle.plan_cluster.specs.Chains.{AllDiffer, PutBack}
use Rattle.plan_cluster.proofs.Settling.{layers_sound, places_differ, places_low, settled}
use Rattle.plan_cluster.proofs.cluster_with_columns.settle.Goals as goal

pub rest-requires-clause-stand : goal.rest-requires-clause-stand
rest-requires-clause-stand c = (layers_sound c.args.lp.now c.take_run.new.lp c.args.ex.now c.args.node c.in_ok-below.below c.requires c.take_run.new.places.items c.take_run.new.run.items c.in_ok-below.ensures).stand

pub rest-requires-clause-once : goal.rest-requires-clause-once
rest-requires-clause-once c = (layers_sound c.args.lp.now c.take_run.new.lp c.args.ex.now c.args.node c.in_ok-below.below c.requires c.take_run.new.places.items c.take_run.new.run.items c.in_ok-below.ensures).once

pub put_run-requires-clause-within : goal.put_run-requires-clause-within
put_run-requires-clause-within c =
    subst (λ (l : List Node). All (λ (n : Node). n.0 < length c.take_run.new.lp) l) (sym c.as_slice.ensures.value)
    (places_low c.args.lp.now c.take_run.new.lp c.args.ex.now c.args.node c.in_ok-below.below c.requires c.take_run.new.places.items c.take_run.new.run.items c.in_ok-below.ensures)

pub put_run-requires-clause-differ : goal.put_run-requires-clause-differ
put_run-requires-clause-differ c =
    subst (λ (l : List Node). AllDiffer l) (sym c.as_slice.ensures.value)
    (places_differ c.args.lp.now c.take_run.new.lp c.args.ex.now c.args.node c.in_ok-below.below c.requires c.take_run.new.places.items c.take_run.new.run.items c.in_ok-below.ensures)

pub returns : goal.returns
returns c =
    settled c.args.lp.now c.take_run.new.lp c.args.ex.now c.args.node c.in_ok-below.below c.requires c.take_run.new.places.items c.take_run.new.run.items c.in_ok-below.ensures
    c.put_run.new.lp c.rest.new.run.items c.in_ok-rest.ensures.rested c.in_ok-rest.ensures.roots
    (subst (λ (l : List Node). PutBack c.take_run.new.lp c.put_run.new.lp l c.rest.new.run.items c.in_ok-below.below) c.as_slice.ensures.value c.in_ok-put_run.ensures)
