use Rattle.std.proofs.Common.{Result, Ok, Err, OnOk}
use Rattle.std.proofs.lemmas.Result.{IfOk-weaker}
use Rattle.plan_prune_steps.proofs.step.prepare.Goals as goal

-- what is so anyway is so where something was made
always : {A E : Type 0} (r : Result A E) {P : Type 0} → P → OnOk r P
always (Ok x) p = p
always (Err e) p = tt

pub returns-then-is_over_one-clause-step : goal.returns-then-is_over_one-clause-step
returns-then-is_over_one-clause-step c = IfOk-weaker c.prepare_over_one.result _ _ (λ step same. same c.args.ex.now) c.prepare_over_one.ensures.step

pub returns-clause-step : goal.returns-clause-step
returns-clause-step c = IfOk-weaker c.prepare_other.result _ _ (λ step same. same c.args.ex.now) c.prepare_other.ensures

pub returns-then-reads_inputs-clause-known : goal.returns-then-reads_inputs-clause-known
returns-then-reads_inputs-clause-known c = always c.prepare_exprs.result c.requires.known

pub returns-clause-known : goal.returns-clause-known
returns-clause-known c = always c.prepare_other.result c.requires.known
