use Rattle.std.proofs.Common.{◌∷◌, take}
use Rattle.std.specs.List.{flat_map}
use Rattle.plan_dsl.specs.Appends.{AppendsAll}
use Rattle.plan_dsl.specs.Parts.{children}
use Rattle.plan_dsl.specs.Walks.{preorder}
use Rattle.plan_dsl.proofs.walk.+append_nodes.Given as goal

abbrev pub invariant-loop-index : goal.invariant-loop-index
invariant-loop-index l = AppendsAll (λ r. r.now) l.fn.nodes.items l.nodes.items (l.expr ∷ flat_map preorder (take l.index (children l.expr)))

abbrev pub decreases-append_nodes : goal.decreases-append_nodes
decreases-append_nodes l = goal.size-append_nodes l
