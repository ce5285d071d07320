use Rattle.std.proofs.Common.{[], ◌∷◌, All, subst}
use Rattle.plan_expr.specs.declared.expr_ir.ExprIR.{ExprIR}
use Rattle.plan_ir.specs.declared.ir.IR.{IR}
use Rattle.plan_expr.specs.Operands.{IsExpr}
use Rattle.plan_ir.specs.Parts.{exprs_of}
use Rattle.plan_ir.specs.Plans.{op_at}
use Rattle.plan_meaning.specs.Typing.{AllHold, checks}
use Rattle.plan_value.specs.Shown.{schema_of}
use Rattle.plan_eval.proofs.PlanLemmas.{all-first, all-second}
use Rattle.plan_eval.proofs.plan.new_table.Goals as goal

pub select-requires-clause-stand : goal.select-requires-clause-stand
select-requires-clause-stand c = rw c.as_slice.ensures (subst (λ (p : IR). All (λ (e : ExprIR). IsExpr c.args.ex.now e.node) (exprs_of p)) c.in-Select.is c.requires.stand)

pub group_by-requires-clause-keys : goal.group_by-requires-clause-keys
group_by-requires-clause-keys c =
    let all = subst (λ (p : IR). All (λ (e : ExprIR). IsExpr c.args.ex.now e.node) (exprs_of p)) c.in-GroupBy.is c.requires.stand in
    rw c.as_slice-in-GroupBy.ensures (all-first (λ (e : ExprIR). IsExpr c.args.ex.now e.node) c.in-GroupBy.keys c.in-GroupBy.aggs all)

pub group_by-requires-clause-aggs : goal.group_by-requires-clause-aggs
group_by-requires-clause-aggs c =
    let all = subst (λ (p : IR). All (λ (e : ExprIR). IsExpr c.args.ex.now e.node) (exprs_of p)) c.in-GroupBy.is c.requires.stand in
    rw c.as_slice-in-GroupBy-2.ensures (all-second (λ (e : ExprIR). IsExpr c.args.ex.now e.node) c.in-GroupBy.keys c.in-GroupBy.aggs all)

pub group_by-requires-clause-valid : goal.group_by-requires-clause-valid
group_by-requires-clause-valid c =
    let valid = subst (λ (p : IR). AllHold (checks (op_at c.args.ex.now p) (schema_of c.args.table.now ∷ []))) c.in-GroupBy.is c.requires.valid in
    rw (c.as_slice-in-GroupBy.ensures, c.as_slice-in-GroupBy-2.ensures) valid.1
