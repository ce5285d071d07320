use Rattle.std.proofs.Common.{◌∙◌, ap, arith, List}
use Rattle.plan_expr.specs.declared.expr_ir.ExprIR.{ExprIR}
use Rattle.plan_prune_parts.specs.Kept.{names_at, with_typed}
use Rattle.plan_prune_parts.specs.Said.{columns_at}
use Rattle.plan_prune_parts.proofs.KeptLemmas.{stacked_put}
use Rattle.plan_prune_steps.proofs.hstack.put.Goals as goal

pub returns-clause-placed : goal.returns-clause-placed
returns-clause-placed c = λ ex.
    c.put-2.ensures
    ∙ stacked_put c.args.is_asked c.args.lp.now c.args.node c.args.input c.args.exprs c.args.schema c.in_ok-schema.schema (columns_at c.args.lp.now ex c.args.input) c.args.options c.if-not-is_asked.false (λ z. omega (arith, z, c.len.ensures, c.if-len-eq0.false))
    (c.in_ok-schema.ensures ex
    ∙ ap (λ (l : List ExprIR). with_typed (columns_at c.args.lp.now ex c.args.input) (names_at l) c.args.schema) c.as_slice.ensures)
