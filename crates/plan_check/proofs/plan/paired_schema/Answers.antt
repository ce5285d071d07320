use Rattle.std.proofs.Common.{◌++◌, All, List, ap, sym, subst}
use Rattle.plan_expr.specs.declared.expr_ir.ExprIR.{ExprIR}
use Rattle.plan_expr.specs.Operands.{IsExpr}
use Rattle.plan_ir.specs.Parts.{condition_of, exprs_of, list_of}
use Rattle.plan_check.proofs.GroupFaults.{keys_stand, aggs_stand}
use Rattle.plan_check.proofs.plan.paired_schema.Goals as goal

pub joined_schema-requires-clause-left_keys : goal.joined_schema-requires-clause-left_keys
joined_schema-requires-clause-left_keys c =
    let j = c.in-Join-len2 in
    let all = subst (λ (es : List ExprIR). All (λ (e : ExprIR). IsExpr c.args.ex.now e.node) es) (ap exprs_of j.is-0) c.requires.exprs in
    subst (λ (es : List ExprIR). All (λ (e : ExprIR). IsExpr c.args.ex.now e.node) es) (sym c.as_slice.ensures) (keys_stand c.args.ex.now j.left_on j.right_on (keys_stand c.args.ex.now (j.left_on ++ j.right_on) (list_of (condition_of j.options)) all))

pub joined_schema-requires-clause-right_keys : goal.joined_schema-requires-clause-right_keys
joined_schema-requires-clause-right_keys c =
    let j = c.in-Join-len2 in
    let all = subst (λ (es : List ExprIR). All (λ (e : ExprIR). IsExpr c.args.ex.now e.node) es) (ap exprs_of j.is-0) c.requires.exprs in
    subst (λ (es : List ExprIR). All (λ (e : ExprIR). IsExpr c.args.ex.now e.node) es) (sym c.as_slice-in-Join-len2.ensures) (aggs_stand c.args.ex.now j.left_on j.right_on (keys_stand c.args.ex.now (j.left_on ++ j.right_on) (list_of (condition_of j.options)) all))

pub joined_schema-requires-clause-condition : goal.joined_schema-requires-clause-condition
joined_schema-requires-clause-condition c =
    let j = c.in-Join-len2 in
    let all = subst (λ (es : List ExprIR). All (λ (e : ExprIR). IsExpr c.args.ex.now e.node) es) (ap exprs_of j.is-0) c.requires.exprs in
    aggs_stand c.args.ex.now (j.left_on ++ j.right_on) (list_of (condition_of j.options)) all
