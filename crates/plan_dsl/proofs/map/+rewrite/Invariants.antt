use Rattle.std.proofs.Common.{◌+◌, ◌*◌, reverse, length, Ok}
use denote.Param.Weighed.{most}
use Rattle.plan_dsl.specs.declared.expr.Expr.{size-Expr}
use Rattle.plan_dsl.specs.Owned.{owned}
use Rattle.plan_dsl.proofs.MapLemmas.{MapsFront}
use Rattle.plan_dsl.proofs.map.+rewrite.Given as goal

abbrev pub decreases-rewrite : goal.decreases-rewrite
decreases-rewrite g l = 2 * size-Expr l.expr

abbrev pub decreases-rewrite_all : goal.decreases-rewrite_all
decreases-rewrite_all g l = 2 * most size-Expr (owned l.parts) + 1

abbrev pub invariant-rewrite_all-loop-part : goal.invariant-rewrite_all-loop-part
invariant-rewrite_all-loop-part g l =
    g.V.RewritingVisitor.can_mutate l.visitor
    × MapsFront (λ p n a q. g.V.RewritingVisitor.mutates p n (Ok a) q) l.fn.visitor (owned l.fn.parts) (reverse l.pending) l.done.items l.visitor

abbrev pub decreases-rewrite_all-loop-part : goal.decreases-rewrite_all-loop-part
decreases-rewrite_all-loop-part g l = length l.pending
