use Rattle.std.proofs.Common.{All, List, sym, subst}
use Rattle.std.specs.Prelude.{IfOk}
use Rattle.plan_expr.specs.declared.expr_ir.ExprIR.{ExprIR}
use Rattle.plan_expr.specs.Exprs.{all_named_at}
use Rattle.plan_expr.specs.Operands.{IsExpr}
use Rattle.plan_ir.specs.declared.ir.IR.{IR}
use Rattle.plan_ir.specs.Parts.{exprs_of}
use Rattle.plan_ir.specs.Plans.{join, op_at}
use Rattle.plan_join.specs.Told.{told_at}
use Rattle.plan_function_tables.specs.Given.{Gives}
use Rattle.plan_eval.proofs.plan.table_over.Goals as goal

pub join-requires-clause-stand : goal.join-requires-clause-stand
join-requires-clause-stand c = rw (c.as_slice.ensures, c.as_slice-in-Join.ensures) (subst (λ (p : IR). All (λ (e : ExprIR). IsExpr c.args.ex.now e.node) (exprs_of p)) c.in-Join.is c.requires.stand)

pub returns-in-Join : goal.returns-in-Join
returns-in-Join c =
    let ex = c.args.ex.now in
    let ts = c.args.tables.now in
    let gives : List ExprIR → List ExprIR → Type 0 = λ (left_on right_on : List ExprIR).
    IfOk c.join.result (Gives ts (join (all_named_at ex left_on) (all_named_at ex right_on) c.in-Join.schema (told_at ex c.in-Join.options)) c.args.inputs.now) in
    subst (λ (p : IR). IfOk c.join.result (Gives ts (op_at ex p) c.args.inputs.now)) (sym c.in-Join.is)
    (subst (λ (keys : List ExprIR). gives keys c.in-Join.right_on) c.as_slice.ensures (subst (gives c.as_slice.result.now) c.as_slice-in-Join.ensures (c.join.ensures ts c.in-Join.schema)))
