use Rattle.std.proofs.Common.{◌∙◌, Some, ap, refl, sym}
use Rattle.plan_rule.proofs.Collapsing.{cache_answers, input_valid, other_stays, projection_stays, projection_taken, told_onto}
use Rattle.plan_rule.proofs.collapse.joined.Goals as goal

pub returns-in-Some-clause-answers : goal.returns-in-Some-clause-answers
returns-in-Some-clause-answers c = λ ex t e h v s. rw (c.onto.ensures, c.take.ensures.after.2) (told_onto c.args.lp.now ex c.args.node c.in-SimpleProjection.input c.in-Some.below c.in-SimpleProjection.columns c.take.result c.get-in-SimpleProjection.result.now c.take.ensures.after.0 t e h v (c.get.ensures.entry ∙ ap Some c.in-SimpleProjection.is) c.take.ensures.given c.get-in-SimpleProjection.ensures.entry (sym c.in-Some.is ∙ c.projected_input.ensures))

pub returns-then-branch-clause-answers : goal.returns-then-branch-clause-answers
returns-then-branch-clause-answers c = λ ex t e h v s.
    let entry = c.get.ensures.entry ∙ ap Some c.in-SimpleProjection.is in
    let none = sym c.projected_input.ensures ∙ c.in-None.is in
    let plan = input_valid c.args.lp.now ex c.args.node c.in-SimpleProjection.input c.in-SimpleProjection.columns c.get-in-SimpleProjection.result.now t e h v entry c.get-in-SimpleProjection.ensures.entry none in
    rw c.take-then-branch.ensures.after.2 (projection_taken c.args.lp.now ex c.args.node c.in-SimpleProjection.input c.in-SimpleProjection.columns c.get-in-SimpleProjection.result.now c.take-then-branch.result c.take-then-branch.ensures.after.0 t e h v entry c.get-in-SimpleProjection.ensures.entry c.take-then-branch.ensures.given none (sym (c.in_ok-has_columns-in-None.ensures ex plan.0 plan.1) ∙ c.if-branch.true))

pub returns-else-branch-clause-answers : goal.returns-else-branch-clause-answers
returns-else-branch-clause-answers c = λ ex t e h v s.
    let entry = c.get.ensures.entry ∙ ap Some c.in-SimpleProjection.is in
    let none = sym c.projected_input.ensures ∙ c.in-None.is in
    let plan = input_valid c.args.lp.now ex c.args.node c.in-SimpleProjection.input c.in-SimpleProjection.columns c.get-in-SimpleProjection.result.now t e h v entry c.get-in-SimpleProjection.ensures.entry none in
    projection_stays c.args.lp.now ex c.args.node c.in-SimpleProjection.input c.in-SimpleProjection.columns c.get-in-SimpleProjection.result.now t e h v entry c.get-in-SimpleProjection.ensures.entry none (sym (c.in_ok-has_columns-in-None.ensures ex plan.0 plan.1) ∙ c.if-branch.false)

pub returns-in-Cache-clause-answers : goal.returns-in-Cache-clause-answers
returns-in-Cache-clause-answers c = λ ex t e h v s. cache_answers c.args.lp.now ex c.args.node c.in-Cache.input c.in-Cache.id c.in-Cache.cache_hits c.get-in-Cache.result.now t e c.joined_cache.result h v (c.get.ensures.entry ∙ ap Some c.in-Cache.is) c.get-in-Cache.ensures.entry c.joined_cache.ensures

pub returns-in_default : goal.returns-in_default
returns-in_default c = record {
  answers = λ ex t e h v s. other_stays c.args.lp.now ex c.args.node c.get.result.now t e h c.get.ensures.entry s c.in_default.not-SimpleProjection c.in_default.not-Cache;
  size = refl;
}
