use Rattle.std.proofs.Common.{◌≡◌, All, cond, false, suc}
use Rattle.plan_collapse_laws.specs.Runs.{looked_at, rested, unrest}
use Rattle.plan_cluster.specs.Layers.{IsOnce, layer_roots, links_at}
use Rattle.plan_cluster.specs.Looks.{ArePart}
use Rattle.plan_cluster.proofs.rest.rest.Given as goal

abbrev pub decreases-loop-moves : goal.decreases-loop-moves
decreases-loop-moves l = cond l.moves (suc (unrest (links_at l.ex l.run.items))) 0

-- the run comes to what it would have come to, of the same expressions, and is at rest once nothing moves
abbrev pub invariant-loop-moves : goal.invariant-loop-moves
invariant-loop-moves l = record {
  comes : rested (links_at l.ex l.run.items) ≡ rested (links_at l.ex l.fn.run.items);
  still : l.moves ≡ false → looked_at (links_at l.ex l.run.items) ≡ links_at l.ex l.run.items;
  roots : ArePart (layer_roots l.fn.run.items) (layer_roots l.run.items);
  once : All IsOnce l.run.items;
}
