use Rattle.std.proofs.Common.{◌∙◌, ◌+◌, ap, sym, Some}
use Rattle.plan_core.specs.declared.error.At.{At}
use Rattle.plan_core.specs.declared.error.PolarsError.TheVariants.{InvalidOperation}
use Rattle.plan_expr.specs.Exprs.{named_at}
use Rattle.plan_meaning.specs.JoinChecks.{is_formed_condition}
use Rattle.plan_meaning.specs.Typing.{first_fault}
use Rattle.plan_schema.proofs.CheckLemmas.{left-next, left-bad, left-end, at-capped}
use Rattle.plan_check_parts.proofs.MadeLemmas.{named-each, stands_here, item_here}
use Rattle.plan_check_parts.proofs.join_form.check_condition_forms.Goals as goal

pub is_condition_formed-requires : goal.is_condition_formed-requires
is_condition_formed-requires c = stands_here c.args.ex.now c.args.exprs.now c.loop-i.i c.index-exprs-i.result c.requires c.loop-i-test.true c.index-exprs-i.is

pub returns-then-not-is_condition_formed : goal.returns-then-not-is_condition_formed
returns-then-not-is_condition_formed c =
    let item = item_here c.args.exprs.now c.loop-i.i c.index-exprs-i.result c.loop-i-test.true c.index-exprs-i.is in
    ap (first_fault c.args.node) (named-each c.args.ex.now c.args.exprs.now InvalidOperation c.args.place (is_formed_condition))
    ∙ left-bad c.args.node InvalidOperation c.args.place (λ e. is_formed_condition (named_at c.args.ex.now e)) c.args.exprs.now c.loop-i.i c.index-exprs-i.result c.loop-i.invariant item (sym c.is_condition_formed.ensures ∙ c.if-not-is_condition_formed.true)
    ∙ ap (λ (a : At). Some (InvalidOperation a)) (sym (c.at.ensures ∙ at-capped c.args.node c.saturating_add.result (c.args.place + c.loop-i.i) c.saturating_add.ensures))

pub loop-i-preserved : goal.loop-i-preserved
loop-i-preserved c =
    let item = item_here c.args.exprs.now c.loop-i.i c.index-exprs-i.result c.loop-i-test.true c.index-exprs-i.is in
    left-next c.args.node InvalidOperation c.args.place (λ e. is_formed_condition (named_at c.args.ex.now e)) c.args.exprs.now c.loop-i.i c.index-exprs-i.result c.loop-i.invariant item (sym c.is_condition_formed.ensures ∙ c.if-not-is_condition_formed.false)

pub returns : goal.returns
returns c =
    ap (first_fault c.args.node) (named-each c.args.ex.now c.args.exprs.now InvalidOperation c.args.place (is_formed_condition))
    ∙ left-end c.args.node InvalidOperation c.args.place (λ e. is_formed_condition (named_at c.args.ex.now e)) c.args.exprs.now c.loop-i.i c.loop-i.invariant c.loop-i-test.false
