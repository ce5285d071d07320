use Rattle.plan_collapse.proofs.AndLemmas.{joining-next}
use Rattle.plan_collapse.proofs.joined.and_with.Goals as goal

pub loop-other-preserved : goal.loop-other-preserved
loop-other-preserved c = joining-next c.args.ex.now c.loop-other.ex c.add.new.self c.args.first c.args.others.now c.loop-other.made c.loop-other.other-index (record { 0 = 0 }) c.in_ok-made.made c.loop-other-test.true c.requires c.loop-other.invariant c.in_ok-made.ensures.node c.in_ok-made.ensures.added
