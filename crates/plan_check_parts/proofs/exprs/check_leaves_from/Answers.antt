use Rattle.std.proofs.Common.{◌∙◌, ◌+◌, ap, sym, Some}
use Rattle.plan_core.specs.declared.error.At.{At}
use Rattle.plan_core.specs.declared.error.PolarsError.TheVariants.{SchemaFieldNotFound}
use Rattle.plan_expr.specs.Exprs.{expr_at}
use Rattle.plan_expr.specs.Leaves.{leaves}
use Rattle.plan_frame.specs.Exprs.{all_known}
use Rattle.plan_meaning.specs.Typing.{first_fault}
use Rattle.plan_schema.proofs.CheckLemmas.{left-next, left-bad, left-end, at-capped}
use Rattle.plan_check_parts.proofs.MadeLemmas.{named-each, stands_here, item_here}
use Rattle.plan_check_parts.proofs.exprs.check_leaves_from.Goals as goal

pub reads_only-requires : goal.reads_only-requires
reads_only-requires c = stands_here c.args.ex.now c.args.exprs.now c.loop-i.i c.index-exprs-i.result c.requires c.loop-i-test.true c.index-exprs-i.is

pub returns-then-not-reads_only : goal.returns-then-not-reads_only
returns-then-not-reads_only c =
    let item = item_here c.args.exprs.now c.loop-i.i c.index-exprs-i.result c.loop-i-test.true c.index-exprs-i.is in
    ap (first_fault c.args.node) (named-each c.args.ex.now c.args.exprs.now SchemaFieldNotFound c.args.place (λ e. all_known (leaves e.expr) c.args.schema.now))
    ∙ left-bad c.args.node SchemaFieldNotFound c.args.place (λ e. all_known (leaves (expr_at c.args.ex.now e.node)) c.args.schema.now) c.args.exprs.now c.loop-i.i c.index-exprs-i.result c.loop-i.invariant item (sym c.reads_only.ensures ∙ c.if-not-reads_only.true)
    ∙ ap (λ (a : At). Some (SchemaFieldNotFound a)) (sym (c.at.ensures ∙ at-capped c.args.node c.saturating_add.result (c.args.place + c.loop-i.i) c.saturating_add.ensures))

pub loop-i-preserved : goal.loop-i-preserved
loop-i-preserved c =
    let item = item_here c.args.exprs.now c.loop-i.i c.index-exprs-i.result c.loop-i-test.true c.index-exprs-i.is in
    left-next c.args.node SchemaFieldNotFound c.args.place (λ e. all_known (leaves (expr_at c.args.ex.now e.node)) c.args.schema.now) c.args.exprs.now c.loop-i.i c.index-exprs-i.result c.loop-i.invariant item (sym c.reads_only.ensures ∙ c.if-not-reads_only.false)

pub returns : goal.returns
returns c =
    ap (first_fault c.args.node) (named-each c.args.ex.now c.args.exprs.now SchemaFieldNotFound c.args.place (λ e. all_known (leaves e.expr) c.args.schema.now))
    ∙ left-end c.args.node SchemaFieldNotFound c.args.place (λ e. all_known (leaves (expr_at c.args.ex.now e.node)) c.args.schema.now) c.args.exprs.now c.loop-i.i c.loop-i.invariant c.loop-i-test.false
