use Rattle.std.proofs.Common.{◌∙◌, ◌+◌, ap, sym, Some, rules}
use Rattle.plan_core.specs.declared.error.At.{At}
use Rattle.plan_core.specs.declared.error.PolarsError.TheVariants.{SchemaMismatch}
use Rattle.plan_core.specs.declared.data_type.DataType.TheVariants.{Boolean}
use Rattle.plan_expr.specs.Exprs.{expr_at}
use Rattle.plan_frame.specs.Exprs.{expr_type, is_type}
use Rattle.plan_meaning.specs.Typing.{first_fault}
use Rattle.plan_schema.proofs.CheckLemmas.{left-next, left-bad, left-end, at-capped}
use Rattle.plan_check_parts.proofs.MadeLemmas.{named-each, stands_here, item_here}
use Rattle.plan_check_parts.proofs.join_types.check_condition_types.Goals as goal

pub expr_type-requires : goal.expr_type-requires
expr_type-requires c = stands_here c.args.ex.now c.args.exprs.now c.loop-i.i c.index-exprs-i.result c.requires c.loop-i-test.true c.index-exprs-i.is

pub returns-then-not-is_boolean : goal.returns-then-not-is_boolean
returns-then-not-is_boolean c =
    let item = item_here c.args.exprs.now c.loop-i.i c.index-exprs-i.result c.loop-i-test.true c.index-exprs-i.is in
    ap (first_fault c.args.node) (named-each c.args.ex.now c.args.exprs.now SchemaMismatch c.args.place (λ e. is_type (expr_type e.expr c.args.columns.now) Boolean))
    ∙ left-bad c.args.node SchemaMismatch c.args.place (λ e. is_type (expr_type (expr_at c.args.ex.now e.node) c.args.columns.now) Boolean) c.args.exprs.now c.loop-i.i c.index-exprs-i.result c.loop-i.invariant item (search rules)
    ∙ ap (λ (a : At). Some (SchemaMismatch a)) (sym (c.at.ensures ∙ at-capped c.args.node c.saturating_add.result (c.args.place + c.loop-i.i) c.saturating_add.ensures))

pub loop-i-preserved : goal.loop-i-preserved
loop-i-preserved c =
    let item = item_here c.args.exprs.now c.loop-i.i c.index-exprs-i.result c.loop-i-test.true c.index-exprs-i.is in
    left-next c.args.node SchemaMismatch c.args.place (λ e. is_type (expr_type (expr_at c.args.ex.now e.node) c.args.columns.now) Boolean) c.args.exprs.now c.loop-i.i c.index-exprs-i.result c.loop-i.invariant item (search rules)

pub returns : goal.returns
returns c =
    ap (first_fault c.args.node) (named-each c.args.ex.now c.args.exprs.now SchemaMismatch c.args.place (λ e. is_type (expr_type e.expr c.args.columns.now) Boolean))
    ∙ left-end c.args.node SchemaMismatch c.args.place (λ e. is_type (expr_type (expr_at c.args.ex.now e.node) c.args.columns.now) Boolean) c.args.exprs.now c.loop-i.i c.loop-i.invariant c.loop-i-test.false
