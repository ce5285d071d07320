-- Additions of columns as nodes.
use Rattle.std.specs.Prelude.{ℕ, List, [], Option, Some, None}
use Rattle.plan_core.specs.Columns.{Columns}
use Rattle.plan_core.specs.declared.options.ProjectionOptions.{ProjectionOptions}
use Rattle.plan_expr.specs.Exprs.{Named}
use Rattle.plan_ir.specs.Plans.{Op, hstack}

-- an addition of columns
pub record Addition : Type 0 where
  pub exprs : List Named
  pub schema : Columns
  pub options : ProjectionOptions

-- the addition that a node is, if it is one
abbrev pub addition_of : Op → Option Addition
addition_of (hstack es s o) = Some (record { exprs = es; schema = s; options = o })
addition_of op = None

-- the node that an addition is
abbrev pub as_op : Addition → Op
as_op u = hstack u.exprs u.schema u.options

-- the expressions of an addition; of another node none
abbrev pub added : Option Addition → List Named
added None = []
added (Some u) = u.exprs

-- one for an addition
abbrev pub one_if_added : Option Addition → ℕ
one_if_added None = 0
one_if_added (Some u) = 1
