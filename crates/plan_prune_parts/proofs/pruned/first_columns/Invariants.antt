use Rattle.std.proofs.Common.{◌≡◌, fold, map}
use Rattle.plan_core.specs.declared.data_type.DataType.{DataType}
use Rattle.plan_core.specs.Columns.{names_of}
use Rattle.plan_expr.specs.Leaves.{Name}
use Rattle.plan_frame.specs.Beside.{with_new}
use Rattle.plan_join.specs.Naming.{right_name}
use Rattle.plan_prune_parts.proofs.pruned.first_columns.Given as goal

-- with what is left it becomes what it becomes with all
abbrev pub invariant-loop-name : goal.invariant-loop-name
invariant-loop-name l = fold with_new l.made (map (λ (c : Name × DataType). (right_name l.suffix (names_of l.left) c.0, c.1)) l.name-iterator) ≡ fold with_new l.left (map (λ (c : Name × DataType). (right_name l.suffix (names_of l.left) c.0, c.1)) l.initial.name-iterator)
