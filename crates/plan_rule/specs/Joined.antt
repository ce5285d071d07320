-- The nodes that collapse makes of others.
use Rattle.std.specs.Prelude.{ℕ, Option, Some, None}
use Rattle.plan_core.specs.declared.arena.Node.{Node}
use Rattle.plan_ir.specs.declared.ir.IR.{IR}
use Rattle.plan_ir.specs.declared.ir.IR.TheVariants.{SimpleProjection, Select, Cache}
use Rattle.plan_pass_laws.specs.Answers.{hits_of}

-- a selection as a projection to the columns that it stores
abbrev pub as_projection_node : IR → IR
as_projection_node (Select input expr schema options) = SimpleProjection input schema
as_projection_node other = other

-- the number of the input of a projection; none for other nodes
abbrev pub projected_input : IR → Option Node
projected_input (SimpleProjection input columns) = Some input
projected_input other = None

-- a projection over another input
abbrev pub projection_onto : IR → Node → IR
projection_onto (SimpleProjection input columns) below = SimpleProjection below columns
projection_onto other below = other

-- a cache that was asked for so often on another one, as one; none where the lower node is no cache
abbrev pub caches_joined : ℕ → IR → Option IR
caches_joined hits (Cache input id more_hits) = Some (Cache input id (hits_of hits more_hits))
caches_joined hits other = None
