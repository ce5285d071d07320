-- Walks over the nodes of an arena.
use Rattle.std.specs.Prelude.{List, [], ◌∷◌, ◌++◌}
use Rattle.plan_core.specs.declared.arena.Node.{Node}
use Rattle.plan_tree.specs.Read.{tree_at}
use Rattle.plan_tree.specs.Rose.{rose, no_roses, more}
use Rattle.plan_tree.specs.Stands.{Trees}
use Rattle.plan_ir.specs.declared.ir.IR.{IR}
use Rattle.plan_ir.specs.Parts.{plan_shape}

-- the entries of trees, each with its number: those of the last tree first, and a node before those below it
abbrev pub last_first : {P : Type 0} → Trees P → List (Node × P)
last_first no_roses = []
last_first (more (rose n p kids) rest) = last_first rest ++ ((n, p) ∷ last_first kids)

-- the nodes that a number reaches, each with its number: a node, and then its inputs from last to first
abbrev pub nodes_from : List IR → Node → List (Node × IR)
nodes_from lp n = last_first (tree_at plan_shape lp n)
