use Rattle.std.proofs.Common.{◌∙◌, ap, sym}
use Rattle.std.proofs.lemmas.Result.{IfOk-weaker}
use Rattle.plan_ir.specs.declared.functions.FunctionIR.{FunctionIR}
use Rattle.plan_meaning.specs.Asked.{function_names}
use Rattle.plan_prune_parts.specs.Said.{columns_at}
use Rattle.plan_prune_steps.proofs.function.needed.Goals as goal

pub returns-in-RowIndex-clause-names : goal.returns-in-RowIndex-clause-names
returns-in-RowIndex-clause-names c = IfOk-weaker c.known_by.result _ _ (λ names is. λ ex. is ex ∙ ap (λ (f : FunctionIR). function_names f c.args.asked.now (columns_at c.args.lp.now ex c.args.input)) (sym c.in-RowIndex.is)) c.known_by.ensures.names
