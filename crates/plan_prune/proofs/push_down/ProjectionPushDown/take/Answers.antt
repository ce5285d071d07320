use Rattle.std.proofs.Common.{◌∙◌, sym, ap}
use Rattle.std.proofs.lemmas.Result.{IfOk-weaker}
use Rattle.plan_ir.proofs.PlanLemmas.{plan_exprs}
use Rattle.plan_prune.specs.declared.push_down.ProjectionPushDown.{ProjectionPushDown}
use Rattle.plan_prune_parts.specs.Steps.{with_kept}
use Rattle.plan_prune.proofs.PruneLemmas.{input_asks, inputs_taken}
use Rattle.plan_prune_names.specs.Known.{KnowsAt}
use Rattle.plan_prune.proofs.KnownSteps.{always, known_below, known_of, known_taken}
use Rattle.plan_prune.proofs.TakenSteps.{mark_kept, mark_set}
use Rattle.plan_prune.proofs.push_down.ProjectionPushDown.take.Goals.{then-is_count, else-is_count}
use Rattle.plan_prune.proofs.push_down.ProjectionPushDown.take.Goals as goal

pub is_count-requires : goal.is_count-requires
is_count-requires c = plan_exprs c.args.lp.now c.args.ex.now c.args.node c.take-entry.result c.requires.plan c.take-entry.ensures.given

pub keep-requires-clause-exprs : goal.keep-requires-clause-exprs
keep-requires-clause-exprs c = plan_exprs c.args.lp.now c.args.ex.now c.args.node c.take-entry.result c.requires.plan c.take-entry.ensures.given

pub keep-requires-clause-inputs : goal.keep-requires-clause-inputs
keep-requires-clause-inputs c = inputs_taken c.args.lp.now c.take-entry.new.self c.args.node c.take-entry.result c.take-entry.ensures.after.0 c.requires.plan.nodes c.requires.plan.stands.nodes c.take-entry.ensures.given c.take-entry.ensures.after.2

pub prepare-requires-clause-kept : goal.prepare-requires-clause-kept
prepare-requires-clause-kept c = c.in_ok-kept.ensures

pub prepare-requires-clause-exprs : goal.prepare-requires-clause-exprs
prepare-requires-clause-exprs c = plan_exprs c.args.lp.now c.args.ex.now c.args.node c.take-entry.result c.requires.plan c.take-entry.ensures.given

pub prepare-requires-clause-inputs : goal.prepare-requires-clause-inputs
prepare-requires-clause-inputs c = inputs_taken c.args.lp.now c.take-entry.new.self c.args.node c.take-entry.result c.take-entry.ensures.after.0 c.requires.plan.nodes c.requires.plan.stands.nodes c.take-entry.ensures.given c.take-entry.ensures.after.2

pub prepare-requires-clause-plans : goal.prepare-requires-clause-plans
prepare-requires-clause-plans c = λ j i at.
    let k = input_asks c.args.lp.now c.take-entry.new.self c.args.ex.now c.args.node i c.take-entry.result c.take-entry.ensures.after.0 j c.requires.plan c.take-entry.ensures.given c.take-entry.ensures.after.2 at in
    k.plan

pub returns-clause-taken : goal.returns-clause-taken
returns-clause-taken c = IfOk-weaker c.boxed.result _ _ (λ step told. record {
  entry = c.take-entry.result;
  left = c.take-entry.ensures.after.0;
  kept = c.in_ok-kept.kept;
  there = c.take-entry.ensures.given;
  taken = c.take-entry.ensures.after.2;
  marked = elim c.if-is_count.branch [
    | then-is_count w ↦ mark_set c.args.self.now.is_count_star (sym c.is_count.ensures ∙ w.if-is_count.true) (ap (λ (p : ProjectionPushDown). p.is_count_star) w.self-is)
    | else-is_count w ↦ mark_kept c.args.self.now.is_count_star (sym c.is_count.ensures ∙ w.if-is_count.false) (ap (λ (p : ProjectionPushDown). p.is_count_star) w.self-is)
  ];
  kept_is = c.in_ok-kept.ensures;
  step_is = told ∙ c.keeping.ensures ∙ ap (with_kept c.in_ok-kept.kept) c.in_ok-step.ensures.step;
}) c.boxed.ensures

pub returns-in_err-kept-clause-stays : goal.returns-in_err-kept-clause-stays
returns-in_err-kept-clause-stays c = λ e. elim c.if-is_count.branch [
  | then-is_count w ↦ ap (λ (p : ProjectionPushDown). p.is_count_star) w.self-is
  | else-is_count w ↦ ap (λ (p : ProjectionPushDown). p.is_count_star) w.self-is ∙ e
]

pub prepare-requires-clause-known : goal.prepare-requires-clause-known
prepare-requires-clause-known c =
    known_taken c.descend.new.columns c.args.lp.now c.take-entry.new.self c.args.node c.take-entry.result c.take-entry.ensures.after.0 c.requires.plan.nodes c.requires.plan.stands.nodes c.take-entry.ensures.given c.take-entry.ensures.after.2
    (known_below c.args.columns.now c.descend.new.columns c.args.lp.now c.args.node c.get.result.now c.take-entry.result c.requires.plan.nodes c.requires.plan.stands.nodes c.get.ensures.entry c.take-entry.ensures.given (c.in_ok-descend.ensures c.args.lp.now) c.requires.known)

pub returns-clause-known : goal.returns-clause-known
returns-clause-known c = always c.boxed.result (λ p e. known_of c.args.lp.now c.args.node c.take-entry.result p (KnowsAt c.prepare.new.columns c.take-entry.new.self) c.take-entry.ensures.given e c.in_ok-step.ensures.known)
