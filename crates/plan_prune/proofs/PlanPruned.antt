-- What is said of a pruned plan, said of what stands at a number that was pruned.
use Rattle.std.proofs.Common.{◌≡◌, ◌≤◌, ◌+◌, Bool, List, [], ◌∷◌, refl, ap, sym, subst, ◌∙◌}
use Rattle.plan_core.specs.declared.arena.Node.{Node}
use Rattle.plan_tree.specs.Rose.{Roses, rose, no_roses, more}
use Rattle.plan_tree.specs.Stands.{Trees, StandsOnce}
use Rattle.plan_tree.proofs.ReadLemmas.{trees_at-is}
use Rattle.plan_expr.specs.declared.aexpr.AExpr.{AExpr}
use Rattle.plan_ir.specs.declared.ir.IR.{IR}
use Rattle.plan_ir.specs.Parts.{plan_shape, IsPlan}
use Rattle.plan_ir.specs.Plans.{Op, Plan, bare, plans_of}
use Rattle.plan_meaning.specs.Steps.{IsValid}
use Rattle.plan_meaning.specs.Relating.{all, Refines}
use Rattle.plan_meaning.specs.Asked.{sites_of}
use Rattle.plan_meaning.specs.Caches.{AreShared}
use Rattle.plan_meaning.specs.PlanAt.{one_plan, plan_at}
use Rattle.plan_meaning.specs.Counting.{meet_count, meets_count}
use Rattle.plan_pruned.specs.Pruned.{pruned, pruned_all}
use Rattle.plan_meaning.specs.Scans.{scans, nodes}
use Rattle.plan_meaning.specs.Work.{made, kept}
use Rattle.plan_pruned.specs.Reads.{ReadWithin, tops}
use Rattle.plan_pruned.proofs.CachesPruned.{shared_pruned}
use Rattle.plan_pruned.proofs.PrunedNarrows.{pruned_refines}
use Rattle.plan_pruned.proofs.PrunedReads.{pruned_reads, pruned_nodes}
use Rattle.plan_pruned.proofs.PrunedWork.{pruned_made}

-- a plan of which everything is asked, told by a list of its own or by none
pub all_asked : (top : Bool) (ts : Roses (Unit {0}) Op) → pruned_all top ([] ∷ []) ts ≡ pruned_all top [] ts
all_asked top no_roses = refl
all_asked top (more p rest) = refl

one_pruned : (top : Bool) (ts : Roses (Unit {0}) Op) → one_plan (pruned_all top [] ts) ≡ pruned top [] (one_plan ts)
one_pruned top no_roses = refl
one_pruned top (more p rest) = refl

-- caches of one number stand over alike plans where they did
pub shared_at : (top : Bool) (old new : Roses (Unit {0}) Op) → new ≡ pruned_all top [] old → AreShared (one_plan old) → AreShared (one_plan new)
shared_at top old new is s = subst AreShared (sym (ap one_plan is ∙ one_pruned top old)) (shared_pruned top [] (one_plan old) s)

module _ (top : Bool) (old new : Roses (Unit {0}) Op) (is : new ≡ pruned_all top [] old) (v : IsValid (one_plan old)) where
  here : one_plan new ≡ pruned top [] (one_plan old)
  here = ap one_plan is ∙ one_pruned top old

  pub refines_at : Refines (one_plan new) (one_plan old)
  refines_at = subst (λ (x : Plan). Refines x (one_plan old)) (sym here) (pruned_refines top (one_plan old) v)

  pub reads_at : ReadWithin (scans (one_plan new)) (sites_of (one_plan old))
  reads_at = subst (λ (x : Plan). ReadWithin (scans x) (sites_of (one_plan old))) (sym here) (pruned_reads top (one_plan old) v)

  pub nodes_at : nodes (one_plan new) ≤ nodes (one_plan old) + tops (one_plan old) all
  nodes_at = subst (λ (x : Plan). nodes x ≤ nodes (one_plan old) + tops (one_plan old) all) (sym here) (pruned_nodes top (one_plan old) v)

  pub work_at : made (one_plan new) ≤ kept (one_plan old)
  work_at = subst (λ (x : Plan). made x ≤ kept (one_plan old)) (sym here) (pruned_made top (one_plan old) v)

-- whether the plan at a number counts rows
pub meets_at : (lp : List IR) (ex : List AExpr) (n : Node) (h : IsPlan lp ex n) → meet_count (bare (plans_of ex h.nodes)) ≡ meets_count (plan_at lp ex n)
meets_at lp ex n h =
    one h.nodes h.stands.nodes
    ∙ ap (λ (t : Trees IR). meets_count (one_plan (bare (plans_of ex t)))) (sym (trees_at-is plan_shape lp (n ∷ []) h.nodes h.stands.nodes))
  where
    one : (t : Trees IR) → StandsOnce plan_shape lp (n ∷ []) t → meet_count (bare (plans_of ex t)) ≡ meets_count (one_plan (bare (plans_of ex t)))
    one no_roses s = absurd s.stands
    one (more (rose m p kids) no_roses) s = refl
    one (more (rose m p kids) (more (rose k q below) rest)) s = absurd s.stands.4
