use Rattle.std.proofs.Common.{◌||◌, ◌∙◌, ap, Bool, not, subst, List, [], ◌∷◌}
use Rattle.plan_ir.specs.Plans.{bare, plans_at}
use Rattle.plan_expr.specs.Leaves.{Name}
use Rattle.plan_prune_names.proofs.KnownLemmas.{nothing-known}
use Rattle.plan_prune.specs.Prunes.{Prunes}
use Rattle.plan_prune.proofs.PruneLemmas.{pruned_is, pruned_stands}
use Rattle.plan_prune.proofs.PlanPruned.{all_asked, meets_at, refines_at, reads_at, nodes_at, shared_at, work_at}
use Rattle.plan_prune.proofs.push_down.ProjectionPushDown.optimize.Goals as goal

pub returns-clause-pruned : goal.returns-clause-pruned
returns-clause-pruned c =
    let top = not c.args.self.now.is_count_star in
    pruned_is top [] c.args.lp.now c.push_down.new.lp c.args.ex.now c.push_down.new.ex c.args.root c.requires
    (subst (λ (l : List Name). Prunes top l c.args.lp.now c.push_down.new.lp c.args.ex.now c.push_down.new.ex c.args.root c.requires.nodes) c.new-asked.ensures (c.in_ok-push_down.ensures.prunes c.requires.nodes c.requires.stands.nodes))
    ∙ all_asked top (bare (plans_at c.args.lp.now c.args.ex.now (c.args.root ∷ [])))

pub returns-clause-is_plan : goal.returns-clause-is_plan
returns-clause-is_plan c =
    let top = not c.args.self.now.is_count_star in
    pruned_stands top [] c.args.lp.now c.push_down.new.lp c.args.ex.now c.push_down.new.ex c.args.root c.requires
    (subst (λ (l : List Name). Prunes top l c.args.lp.now c.push_down.new.lp c.args.ex.now c.push_down.new.ex c.args.root c.requires.nodes) c.new-asked.ensures (c.in_ok-push_down.ensures.prunes c.requires.nodes c.requires.stands.nodes))

pub returns-clause-refines : goal.returns-clause-refines
returns-clause-refines c = λ v. refines_at (not c.args.self.now.is_count_star) (bare (plans_at c.args.lp.now c.args.ex.now (c.args.root ∷ []))) (bare (plans_at c.push_down.new.lp c.push_down.new.ex (c.args.root ∷ []))) (returns-clause-pruned c) v

pub returns-clause-reads : goal.returns-clause-reads
returns-clause-reads c = λ v. reads_at (not c.args.self.now.is_count_star) (bare (plans_at c.args.lp.now c.args.ex.now (c.args.root ∷ []))) (bare (plans_at c.push_down.new.lp c.push_down.new.ex (c.args.root ∷ []))) (returns-clause-pruned c) v

pub returns-clause-nodes : goal.returns-clause-nodes
returns-clause-nodes c = λ v. nodes_at (not c.args.self.now.is_count_star) (bare (plans_at c.args.lp.now c.args.ex.now (c.args.root ∷ []))) (bare (plans_at c.push_down.new.lp c.push_down.new.ex (c.args.root ∷ []))) (returns-clause-pruned c) v

pub returns-clause-work : goal.returns-clause-work
returns-clause-work c = λ v. work_at (not c.args.self.now.is_count_star) (bare (plans_at c.args.lp.now c.args.ex.now (c.args.root ∷ []))) (bare (plans_at c.push_down.new.lp c.push_down.new.ex (c.args.root ∷ []))) (returns-clause-pruned c) v

pub returns-clause-cached : goal.returns-clause-cached
returns-clause-cached c = λ s. shared_at (not c.args.self.now.is_count_star) (bare (plans_at c.args.lp.now c.args.ex.now (c.args.root ∷ []))) (bare (plans_at c.push_down.new.lp c.push_down.new.ex (c.args.root ∷ []))) (returns-clause-pruned c) s

pub returns-clause-marks : goal.returns-clause-marks
returns-clause-marks c = c.in_ok-push_down.ensures.marks c.requires.nodes c.requires.stands.nodes
    ∙ ap (λ (b : Bool). c.args.self.now.is_count_star || b) (meets_at c.args.lp.now c.args.ex.now c.args.root c.requires)

pub push_down-requires-clause-known : goal.push_down-requires-clause-known
push_down-requires-clause-known c = nothing-known c.new-columns.result c.args.lp.now (c.args.root ∷ []) c.new-columns.ensures.unknown
