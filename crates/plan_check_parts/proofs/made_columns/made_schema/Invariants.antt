use Rattle.std.proofs.Common.{◌≡◌, take}
use Rattle.plan_expr.specs.Exprs.{all_named_at}
use Rattle.plan_frame.specs.Made.{made_schema}
use Rattle.plan_check_parts.proofs.made_columns.made_schema.Given as goal

abbrev pub invariant-loop-expr : goal.invariant-loop-expr
invariant-loop-expr l = l.made ≡ made_schema l.initial.made (all_named_at l.ex (take l.expr-index l.exprs)) l.schema
