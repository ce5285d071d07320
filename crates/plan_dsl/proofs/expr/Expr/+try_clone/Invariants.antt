use Rattle.plan_dsl.proofs.CopyLemmas.{IsCopied}
use Rattle.plan_dsl.proofs.expr.Expr.+try_clone.Given as goal

abbrev pub invariant-loop-index : goal.invariant-loop-index
invariant-loop-index l = IsCopied l.self l.index l.parts.items

abbrev pub decreases-try_clone : goal.decreases-try_clone
decreases-try_clone l = goal.size-try_clone l
