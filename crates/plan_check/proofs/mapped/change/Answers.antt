use Rattle.std.proofs.Common.{◌∙◌, ap₂, sym, subst, List}
use Rattle.std.proofs.lemmas.Result.{IfOk-weaker}
use Rattle.plan_expr.specs.Leaves.{Name}
use Rattle.plan_ir.specs.declared.functions.FunctionIR.{FunctionIR}
use Rattle.plan_ir.specs.declared.functions.FunctionIR.TheVariants.{Rename}
use Rattle.plan_check.specs.InPlace.{IsChanged}
use Rattle.plan_check.proofs.mapped.change.Goals as goal

pub returns-in-RowIndex : goal.returns-in-RowIndex
returns-in-RowIndex c = IfOk-weaker c.number.result _ _ (λ fits is.
    subst (λ (f : FunctionIR). IsChanged fits f c.args.columns.now c.number.new.columns) (sym c.in-RowIndex.is) (is c.in-RowIndex.offset)) c.number.ensures

pub returns-in-Rename : goal.returns-in-Rename
returns-in-Rename c = IfOk-weaker c.rename.result _ _ (λ fits is.
    subst (λ (f : FunctionIR). IsChanged fits f c.args.columns.now c.rename.new.columns)
    (ap₂ (λ (x y : List Name). Rename x y c.in-Rename.swapping) c.as_slice-in-Rename.ensures c.as_slice-in-Rename-2.ensures ∙ sym c.in-Rename.is)
    (is c.in-Rename.swapping)) c.rename.ensures.changed
