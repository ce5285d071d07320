use Rattle.std.proofs.Common.{◌≡◌, true, take}
use Rattle.std.specs.List.{list_all}
use Rattle.plan_dsl.specs.Typing.{is_scalar}
use Rattle.plan_dsl.proofs.+scalar.Given as goal

abbrev pub invariant-form::all_scalar-loop-expr : goal.invariant-form::all_scalar-loop-expr
invariant-form::all_scalar-loop-expr l = list_all is_scalar (take l.expr-index l.exprs) ≡ true
