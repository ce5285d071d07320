use Rattle.std.proofs.Common.{◌∙◌, ap, sym, Some}
use Rattle.plan_core.specs.declared.error.At.{At}
use Rattle.plan_core.specs.declared.error.PolarsError.TheVariants.{InvalidOperation}
use Rattle.plan_expr.specs.Exprs.{expr_at}
use Rattle.plan_expr.specs.Forms.{has_form}
use Rattle.plan_meaning.specs.Typing.{first_fault}
use Rattle.plan_schema.proofs.CheckLemmas.{left-next, left-bad, left-end}
use Rattle.plan_check_parts.proofs.MadeLemmas.{form-at, stands_here, item_here}
use Rattle.plan_check_parts.proofs.exprs.check_forms.Goals as goal

pub has_form-requires : goal.has_form-requires
has_form-requires c = stands_here c.args.ex.now c.args.exprs.now c.loop-i.i c.index-exprs-i.result c.requires c.loop-i-test.true c.index-exprs-i.is

pub returns-then-not-has_form : goal.returns-then-not-has_form
returns-then-not-has_form c =
    let item = item_here c.args.exprs.now c.loop-i.i c.index-exprs-i.result c.loop-i-test.true c.index-exprs-i.is in
    ap (first_fault c.args.node) (form-at c.args.ex.now c.args.exprs.now)
    ∙ left-bad c.args.node InvalidOperation 1 (λ e. has_form (expr_at c.args.ex.now e.node)) c.args.exprs.now c.loop-i.i c.index-exprs-i.result c.loop-i.invariant item (sym c.has_form.ensures ∙ c.if-not-has_form.true)
    ∙ ap (λ (a : At). Some (InvalidOperation a)) (sym c.at.ensures)

pub loop-i-preserved : goal.loop-i-preserved
loop-i-preserved c =
    let item = item_here c.args.exprs.now c.loop-i.i c.index-exprs-i.result c.loop-i-test.true c.index-exprs-i.is in
    left-next c.args.node InvalidOperation 1 (λ e. has_form (expr_at c.args.ex.now e.node)) c.args.exprs.now c.loop-i.i c.index-exprs-i.result c.loop-i.invariant item (sym c.has_form.ensures ∙ c.if-not-has_form.false)

pub returns : goal.returns
returns c =
    ap (first_fault c.args.node) (form-at c.args.ex.now c.args.exprs.now)
    ∙ left-end c.args.node InvalidOperation 1 (λ e. has_form (expr_at c.args.ex.now e.node)) c.args.exprs.now c.loop-i.i c.loop-i.invariant c.loop-i-test.false
