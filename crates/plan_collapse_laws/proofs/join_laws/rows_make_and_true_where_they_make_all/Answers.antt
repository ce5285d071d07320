use Rattle.plan_collapse_laws.proofs.Splits.{and_holds, run_holds}
use Rattle.plan_collapse_laws.proofs.join_laws.rows_make_and_true_where_they_make_all.Goals as goal

pub returns-clause-joined : goal.returns-clause-joined
returns-clause-joined c = λ f i es even w. and_holds f even i es w

pub returns-clause-run : goal.returns-clause-run
returns-clause-run c = λ f i run even w. run_holds f even i run w
