use Rattle.std.proofs.Common.{◌∙◌, ap, subst, sym}
use Rattle.std.proofs.lemmas.Result.{IfOk-weaker, on_ok_weaker}
use Rattle.plan_ir.specs.declared.ir.IR.{IR}
use Rattle.plan_ir.specs.Parts.{inputs_of}
use Rattle.plan_prune_names.specs.Known.{KnowsAt}
use Rattle.plan_prune_steps.specs.Steps.{step_of}
use Rattle.plan_prune_steps.proofs.step.prepare_over_one.Goals as goal

pub returns-in-Distinct-clause-step : goal.returns-in-Distinct-clause-step
returns-in-Distinct-clause-step c = IfOk-weaker c.prepare-in-Distinct.result _ _ (λ step same ex. same ex ∙ ap (step_of c.args.lp.now ex c.args.asked) (sym c.in-Distinct.is)) c.prepare-in-Distinct.ensures.step

pub returns-in-MapFunction-clause-step : goal.returns-in-MapFunction-clause-step
returns-in-MapFunction-clause-step c = IfOk-weaker c.prepare-in-MapFunction.result _ _ (λ step same ex. same ex ∙ ap (step_of c.args.lp.now ex c.args.asked) (sym c.in-MapFunction.is)) c.prepare-in-MapFunction.ensures.step

pub prepare-requires-in-Distinct-clause-known : goal.prepare-requires-in-Distinct-clause-known
prepare-requires-in-Distinct-clause-known c = subst (λ (e : IR). KnowsAt c.args.columns.now c.args.lp.now (inputs_of e)) c.in-Distinct.is c.requires.known

pub returns-in-Distinct-clause-known : goal.returns-in-Distinct-clause-known
returns-in-Distinct-clause-known c = on_ok_weaker c.prepare-in-Distinct.result (λ known. subst (λ (e : IR). KnowsAt c.prepare-in-Distinct.new.columns c.args.lp.now (inputs_of e)) (sym c.in-Distinct.is) known) c.prepare-in-Distinct.ensures.known

pub prepare-requires-in-MapFunction-clause-known : goal.prepare-requires-in-MapFunction-clause-known
prepare-requires-in-MapFunction-clause-known c = subst (λ (e : IR). KnowsAt c.args.columns.now c.args.lp.now (inputs_of e)) c.in-MapFunction.is c.requires.known

pub returns-in-MapFunction-clause-known : goal.returns-in-MapFunction-clause-known
returns-in-MapFunction-clause-known c = on_ok_weaker c.prepare-in-MapFunction.result (λ known. subst (λ (e : IR). KnowsAt c.prepare-in-MapFunction.new.columns c.args.lp.now (inputs_of e)) (sym c.in-MapFunction.is) known) c.prepare-in-MapFunction.ensures.known
