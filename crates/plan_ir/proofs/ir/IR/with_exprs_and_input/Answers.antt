use Rattle.std.proofs.Common.{◌∙◌, ap, length}
use Rattle.std.proofs.lemmas.Result.{IfOk-weaker}
use Rattle.plan_ir.specs.Parts.{inputs_of, over_parts}
use Rattle.plan_ir.proofs.PartLemmas.{inputs-over, kept-length, own-again}
use Rattle.plan_ir.proofs.ir.IR.with_exprs_and_input.Goals as goal

pub over-requires-clause-exprs_fit : goal.over-requires-clause-exprs_fit
over-requires-clause-exprs_fit c = ap length c.in_ok-exprs.ensures ∙ kept-length c.args.self.now c.args.exprs c.requires.exprs_fit

pub returns-clause-inputs : goal.returns-clause-inputs
returns-clause-inputs c = IfOk-weaker c.over.result _ _ (λ node e. ap inputs_of e ∙ inputs-over c.args.self.now _ c.args.inputs c.requires.inputs_fit) c.over.ensures

pub returns-clause-own : goal.returns-clause-own
returns-clause-own c = λ p q. IfOk-weaker c.over.result _ _ (λ node e. e ∙ ap (λ es. over_parts c.args.self.now es c.args.inputs) c.in_ok-exprs.ensures ∙ own-again c.args.self.now c.args.exprs c.args.inputs p q) c.over.ensures
