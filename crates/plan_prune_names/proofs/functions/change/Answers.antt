use Rattle.std.proofs.Common.{◌∙◌, ap₂, sym, subst, List}
use Rattle.std.proofs.lemmas.Result.{IfOk-weaker}
use Rattle.plan_expr.specs.Leaves.{Name}
use Rattle.plan_ir.specs.declared.functions.FunctionIR.{FunctionIR}
use Rattle.plan_ir.specs.declared.functions.FunctionIR.TheVariants.{Rename}
use Rattle.plan_prune_names.specs.Known.{IsMade}
use Rattle.plan_prune_names.proofs.functions.change.Goals as goal

pub returns-in-RowIndex-clause-made : goal.returns-in-RowIndex-clause-made
returns-in-RowIndex-clause-made c = IfOk-weaker c.number.result _ _ (λ fits is. λ yes.
    subst (λ (f : FunctionIR). IsMade f c.args.columns.now c.number.new.columns) (sym c.in-RowIndex.is) (is yes c.in-RowIndex.offset)) c.number.ensures.made

pub returns-in-Rename-clause-made : goal.returns-in-Rename-clause-made
returns-in-Rename-clause-made c = IfOk-weaker c.rename.result _ _ (λ fits is. λ yes.
    subst (λ (f : FunctionIR). IsMade f c.args.columns.now c.rename.new.columns)
    (ap₂ (λ (x y : List Name). Rename x y c.in-Rename.swapping) c.as_slice-in-Rename.ensures c.as_slice-in-Rename-2.ensures ∙ sym c.in-Rename.is)
    (is yes c.in-Rename.swapping)) c.rename.ensures.made
