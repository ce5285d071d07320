use Rattle.std.proofs.Common.{◌≡◌, take}
use Rattle.plan_prune_parts.specs.Kept.{names_at, with_typed}
use Rattle.plan_prune_parts.proofs.exprs.with_typed.Given as goal

abbrev pub invariant-loop-expr : goal.invariant-loop-expr
invariant-loop-expr l = l.columns ≡ with_typed l.initial.columns (names_at (take l.expr-index l.exprs)) l.schema
