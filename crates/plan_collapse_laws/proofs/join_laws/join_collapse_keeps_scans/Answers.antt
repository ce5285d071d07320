use Rattle.std.proofs.Common.{[]}
use Rattle.plan_collapse_laws.proofs.CollapsedScans.{collapsed_keeps, under_run_scans}
use Rattle.plan_collapse_laws.proofs.join_laws.join_collapse_keeps_scans.Goals as goal

pub returns-clause-same : goal.returns-clause-same
returns-clause-same c = λ p v. under_run_scans p [] v

pub returns-clause-kept : goal.returns-clause-kept
returns-clause-kept c = λ p v. collapsed_keeps p v
