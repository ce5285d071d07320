use Rattle.plan_collapse_laws.specs.Runs.{rested}
use Rattle.plan_cluster.specs.Layers.{layer_roots, links_at}
use Rattle.plan_cluster.proofs.LookLemmas.{part-of, part-stands}
use Rattle.plan_cluster.proofs.RestLemmas.{looks-come, looks-less, looks-rested, looks-still}
use Rattle.plan_cluster.proofs.rest.rest.Goals as goal

pub look-requires-clause-stand : goal.look-requires-clause-stand
look-requires-clause-stand c = part-stands c.args.ex.now (layer_roots c.args.run.now.items) (layer_roots c.loop-moves.run.items) c.loop-moves.invariant.roots c.requires.stand

pub loop-moves-smaller : goal.loop-moves-smaller
loop-moves-smaller c = looks-less (links_at c.args.ex.now c.loop-moves.run.items) (links_at c.args.ex.now c.look.new.run.items) c.loop-moves.moves c.in_ok-moves.moves c.loop-moves-test.true c.in_ok-moves.ensures.looked (λ q. c.in_ok-moves.ensures.moved q)

pub loop-moves-preserved : goal.loop-moves-preserved
loop-moves-preserved c =
    let ks = links_at c.args.ex.now c.loop-moves.run.items in
    let js = links_at c.args.ex.now c.look.new.run.items in
    record {
      comes = looks-come ks js (rested (links_at c.args.ex.now c.args.run.now.items)) c.in_ok-moves.ensures.looked c.loop-moves.invariant.comes;
      still = λ q. looks-still ks js c.in_ok-moves.ensures.looked (c.in_ok-moves.ensures.same q);
      roots = part-of (layer_roots c.args.run.now.items) (layer_roots c.loop-moves.run.items) (layer_roots c.look.new.run.items) c.loop-moves.invariant.roots c.in_ok-moves.ensures.roots;
      once = c.in_ok-moves.ensures.once;
    }

pub returns-clause-rested : goal.returns-clause-rested
returns-clause-rested c = looks-rested (links_at c.args.ex.now c.loop-moves.run.items) _ (c.loop-moves.invariant.still c.loop-moves-test.false) c.loop-moves.invariant.comes
