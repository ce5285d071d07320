-- The minterms so far, with the predicates that are left.
use Rattle.std.proofs.Common.{drop}
use Rattle.plan_collapse.proofs.RunMinterms.{Running}
use Rattle.plan_collapse.proofs.run.run_minterms.Given as goal

abbrev pub invariant-loop-node : goal.invariant-loop-node
invariant-loop-node l = Running l.ex l.run l.all (drop l.node-index l.run)
