use Rattle.std.proofs.lemmas.Result.{IfOk-weaker}
use Rattle.plan_prune_steps.proofs.step.prepare_other.Goals as goal

pub returns-in-DataFrameScan : goal.returns-in-DataFrameScan
returns-in-DataFrameScan c = IfOk-weaker c.prepare-step-in-DataFrameScan.result _ _ (λ step same ex. same c.args.lp.now ex) c.prepare-step-in-DataFrameScan.ensures

pub returns-in-Scan : goal.returns-in-Scan
returns-in-Scan c = IfOk-weaker c.prepare-step.result _ _ (λ step same ex. same c.args.lp.now ex) c.prepare-step.ensures
