-- A projection on top of a node, in an arena.
use Rattle.std.specs.Prelude.{List, [], ◌∷◌, ◌++◌, length, Option, Some, None, slice_get, slice_set, unwrap_or}
use Rattle.plan_core.specs.declared.arena.Node.{Node}
use Rattle.plan_core.specs.Columns.{Columns}
use Rattle.plan_ir.specs.declared.ir.IR.{IR}
use Rattle.plan_ir.specs.declared.ir.IR.TheVariants.{SimpleProjection, Invalid}

-- the node at a new number, and at the number a projection to these columns on top of it
abbrev pub with_top : Columns → List IR → Node → IR → List IR
with_top columns lp n p = slice_set (lp ++ p ∷ []) n.0 (SimpleProjection (record { 0 = length lp }) columns)

-- the node at a number, with a projection to columns on top that takes the number, where there are columns
abbrev pub with_columns_on : Option Columns → List IR → Node → IR → List IR
with_columns_on None lp n p = slice_set lp n.0 p
with_columns_on (Some columns) lp n p = with_top columns lp n p

-- the arena with a projection to columns on top of what stands at a number, where there are columns: that goes to a new number
abbrev pub covered_at : Option Columns → List IR → Node → List IR
covered_at None lp n = lp
covered_at (Some columns) lp n = with_top columns (slice_set lp n.0 Invalid) n (unwrap_or (slice_get lp n.0) Invalid)
