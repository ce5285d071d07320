use Rattle.std.proofs.Common.{◌∷◌, take, false}
use Rattle.std.specs.List.{All, flat_map}
use Rattle.std.specs.Fn.{FnReturnsAt}
use Rattle.plan_dsl.specs.Parts.{children}
use Rattle.plan_dsl.specs.Walks.{preorder}
use Rattle.plan_dsl.proofs.find.+has_match.Given as goal

abbrev pub invariant-loop-index : goal.invariant-loop-index
invariant-loop-index g l = All (λ e. FnReturnsAt g.F.Fn l.matches e false) (l.expr ∷ flat_map preorder (take l.index (children l.expr)))

abbrev pub decreases-has_match : goal.decreases-has_match
decreases-has_match g l = goal.size-has_match g l
