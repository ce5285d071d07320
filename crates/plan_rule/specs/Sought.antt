-- Where a rule that delays looks in an arena, and what it leaves there.
use Rattle.std.specs.Prelude.{◌≡◌, Bool, true, false, List, Option, Some, None, if◌then◌else◌}
use Rattle.plan_core.specs.declared.arena.Node.{Node}
use Rattle.plan_tree.specs.Rose.{rose, no_roses, more}
use Rattle.plan_tree.specs.Stands.{Rewrites, Trees}
use Rattle.plan_expr.specs.declared.aexpr.AExpr.{AExpr}
use Rattle.plan_ir.specs.declared.ir.IR.{IR}
use Rattle.plan_ir.specs.declared.ir.IR.TheVariants.{Scan, Join, Union}
use Rattle.plan_ir.specs.Parts.{plan_shape, roots_in}
use Rattle.plan_ir.specs.Plans.{bare, plans_of}
use Rattle.plan_pass_laws.specs.Answers.{delayed_in}

-- a scan of files, a union or a join
abbrev pub is_sought : IR → Bool
is_sought (Scan sources file_info hive_parts predicate output_schema scan_type file_options) = true
is_sought (Union inputs options) = true
is_sought (Join input_left input_right schema left_on right_on options) = true
is_sought other = false

-- the first of two numbers that may be there
abbrev pub or_number : Option Node → Option Node → Option Node
or_number None other = other
or_number (Some n) other = Some n

-- the number of the first of them, each node before its inputs and the last tree first; none where there is none
abbrev pub first_sought : Trees IR → Option Node
first_sought no_roses = None
first_sought (more (rose n p kids) rest) = or_number (first_sought rest) (if is_sought p then Some n else first_sought kids)

-- a node without its rechunk mark
abbrev pub unmarked_entry : IR → IR
unmarked_entry (Scan sources file_info hive_parts predicate output_schema scan_type file_options) = Scan sources file_info hive_parts predicate output_schema scan_type (record file_options { rechunk = false })
unmarked_entry (Union inputs options) = Union inputs (record options { rechunk = false })
unmarked_entry other = other

-- the mark of the first scan, union or join of trees is cleared, over the same expressions
pub record Delays (lp new : List IR) (ns : List Node) (t : Trees IR) : Type 0 where
  pub trees : Trees IR
  pub places : Rewrites plan_shape lp new ns t trees
  pub roots : roots_in trees ≡ roots_in t
  pub plans : (ex : List AExpr) → bare (plans_of ex trees) ≡ delayed_in (bare (plans_of ex t))
