use Rattle.std.proofs.Common.{◌≡◌, true, take, is_some}
use Rattle.std.specs.List.{list_all}
use Rattle.plan_dsl.specs.Typing.{expr_type}
use Rattle.plan_dsl_schema.proofs.typing.+types.Given as goal

abbrev pub invariant-all_typed-loop-expr : goal.invariant-all_typed-loop-expr
invariant-all_typed-loop-expr l = list_all (λ e. is_some (expr_type l.schema e)) (take l.expr-index l.exprs) ≡ true
