use Rattle.std.proofs.Common.{[], ◌∷◌, All, SFits, w64, sym, subst, rules}
use Rattle.std.proofs.Math.Facts.{to_z-of_z}
use Rattle.std.specs.Prelude.{ℤ, IfOk}
use Rattle.plan_expr.specs.declared.expr_ir.ExprIR.{ExprIR}
use Rattle.plan_ir.specs.declared.ir.IR.{IR}
use Rattle.plan_expr.specs.Operands.{IsExpr}
use Rattle.plan_ir.specs.Parts.{exprs_of}
use Rattle.plan_ir.specs.Plans.{op_at, slice}
use Rattle.plan_meaning.specs.Typing.{AllHold, checks}
use Rattle.plan_value.specs.Shown.{schema_of}
use Rattle.plan_function_tables.specs.Given.{Gives}
use Rattle.plan_eval.proofs.plan.one_input_table.Goals as goal

pub hstack-requires-clause-stand : goal.hstack-requires-clause-stand
hstack-requires-clause-stand c = rw c.as_slice.ensures (subst (λ (p : IR). All (λ (e : ExprIR). IsExpr c.args.ex.now e.node) (exprs_of p)) c.in-HStack.is c.requires.stand)

pub returns-in-Slice : goal.returns-in-Slice
returns-in-Slice c =
    let ts = c.args.tables.now in
    let fits : SFits w64 c.in-Slice.offset = search rules in
    subst (λ (p : IR). IfOk c.slice.result (Gives ts (op_at c.args.ex.now p) (c.args.table ∷ []))) (sym c.in-Slice.is)
    (subst (λ (z : ℤ). IfOk c.slice.result (Gives ts (slice z c.in-Slice.len) (c.args.table ∷ []))) (to_z-of_z fits) (c.slice.ensures ts))

pub sort-requires-clause-stand : goal.sort-requires-clause-stand
sort-requires-clause-stand c = rw c.as_slice-in-Sort.ensures (subst (λ (p : IR). All (λ (e : ExprIR). IsExpr c.args.ex.now e.node) (exprs_of p)) c.in-Sort.is c.requires.stand)

pub sort-requires-clause-valid : goal.sort-requires-clause-valid
sort-requires-clause-valid c =
    let valid = subst (λ (p : IR). AllHold (checks (op_at c.args.ex.now p) (schema_of c.args.table ∷ []))) c.in-Sort.is c.requires.valid in
    rw c.as_slice-in-Sort.ensures valid.1

pub returns-in-Filter : goal.returns-in-Filter
returns-in-Filter c =
    let ts = c.args.tables.now in
    subst (λ (p : IR). IfOk c.filter.result (Gives ts (op_at c.args.ex.now p) (c.args.table ∷ []))) (sym c.in-Filter.is) (c.filter.ensures ts)
