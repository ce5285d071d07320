use Rattle.std.proofs.Common.{◌∙◌, Bool, subst, sym, true}
use Rattle.std.proofs.lemmas.Option.{slice_get_within}
use Rattle.plan_pass_laws.specs.declared.kind.RuleKind.TheVariants as kinds
use Rattle.plan_rule.specs.Calls.{Answers, Leaves}
use Rattle.plan_rule.proofs.Collapsing.{eager_stays, selection_taken, shows_none}
use Rattle.plan_rule.proofs.Placed.{exprs_stand}
use Rattle.plan_rule.proofs.collapse.SimpleProjectionAndCollapseOptimizationRule.optimize_plan.Goals as goal

pub selects_columns-requires : goal.selects_columns-requires
selects_columns-requires c = exprs_stand c.args.lp.now c.args.ex.now c.args.node c.get.result.now c.requires.plan c.get.ensures.entry

pub take-requires : goal.take-requires
take-requires c = slice_get_within c.args.lp.now c.args.node.0 c.get.result.now c.get.ensures.entry

pub returns-then-selects_columns-clause-answers : goal.returns-then-selects_columns-clause-answers
returns-then-selects_columns-clause-answers c = λ t e h. rw (c.as_projection.ensures, c.take.ensures.after.2) (selection_taken c.args.self.now.eager c.args.lp.now c.args.ex.now c.args.node c.get.result.now c.take.result c.take.ensures.after.0 t e h c.requires.valid c.get.ensures.entry c.take.ensures.given (sym c.selects_columns.ensures ∙ c.if-selects_columns.true))

pub returns-then-self-clause-answers : goal.returns-then-self-clause-answers
returns-then-self-clause-answers c = λ t e h.
    subst (λ (b : Bool). Leaves (kinds.Collapse b) true c.args.lp.now c.args.lp.now c.args.ex.now c.args.ex.now c.args.node t e) (sym c.if-self.true)
    (eager_stays c.args.lp.now c.args.ex.now c.args.node c.get.result.now t e h c.get.ensures.entry (sym c.selects_columns.ensures ∙ c.if-selects_columns.false))

pub returns-clause-answers : goal.returns-clause-answers
returns-clause-answers c = λ t e h.
    subst (λ (b : Bool). Answers (kinds.Collapse b) true c.args.lp.now c.joined.new.lp c.args.ex.now c.args.ex.now c.args.node t e c.in_ok-joined.field-0) (sym c.if-self.false)
    (c.in_ok-joined.ensures.answers c.args.ex.now t e h c.requires.valid (shows_none c.args.lp.now c.args.ex.now c.args.node c.get.result.now t e h c.get.ensures.entry (sym c.selects_columns.ensures ∙ c.if-selects_columns.false)))
