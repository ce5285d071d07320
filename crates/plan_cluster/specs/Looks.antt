-- A look over a run, layer by layer.
use Rattle.std.specs.Prelude.{◌≡◌, Bool, true, false, List, ◌++◌, All}
use Rattle.std.specs.List.Sorted.{IsPermutation}
use Rattle.plan_core.specs.declared.arena.Node.{Node}
use Rattle.plan_expr.specs.declared.aexpr.AExpr.{AExpr}
use Rattle.plan_collapse_laws.specs.Runs.{looked_at}
use Rattle.plan_cluster.specs.Layers.{IsOnce, layer_roots, links_at}
use Rattle.plan_cluster.specs.declared.layer.Layer.{Layer}

-- the numbers of one list are a part of those of another, in any order
pub record ArePart (of ns : List Node) : Type 0 where
  pub left : List Node
  pub permutes : IsPermutation of (ns ++ left)

-- a look over a run is done with some layers and comes to others, each topmost first: it makes of the run what a look makes of it, has
-- changed nothing so far or changes something, and keeps its expressions, each list under different names
pub record IsUnderway (ex : List AExpr) (run done left : List Layer) (changed : Bool) : Type 0 where
  pub comes : links_at ex done ++ looked_at (links_at ex left) ≡ looked_at (links_at ex run)
  pub same : changed ≡ false → links_at ex done ++ links_at ex left ≡ links_at ex run
  pub moved : changed ≡ true → looked_at (links_at ex run) ≡ links_at ex run → ⊥
  pub roots : ArePart (layer_roots run) (layer_roots (done ++ left))
  pub once : All IsOnce (done ++ left)
