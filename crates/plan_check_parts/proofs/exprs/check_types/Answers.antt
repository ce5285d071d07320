use Rattle.std.proofs.Common.{◌∙◌, ap, sym, is_some, Some, rules}
use Rattle.plan_core.specs.declared.error.At.{At}
use Rattle.plan_core.specs.declared.error.PolarsError.TheVariants.{SchemaMismatch}
use Rattle.plan_expr.specs.Exprs.{expr_at}
use Rattle.plan_frame.specs.Exprs.{expr_type}
use Rattle.plan_meaning.specs.Typing.{first_fault}
use Rattle.plan_schema.proofs.CheckLemmas.{left-next, left-bad, left-end}
use Rattle.plan_check_parts.proofs.MadeLemmas.{type-at, stands_here, item_here}
use Rattle.plan_check_parts.proofs.exprs.check_types.Goals as goal

pub expr_type-requires : goal.expr_type-requires
expr_type-requires c = stands_here c.args.ex.now c.args.exprs.now c.loop-i.i c.index-exprs-i.result c.requires c.loop-i-test.true c.index-exprs-i.is

pub returns-then-is_none : goal.returns-then-is_none
returns-then-is_none c =
    let item = item_here c.args.exprs.now c.loop-i.i c.index-exprs-i.result c.loop-i-test.true c.index-exprs-i.is in
    ap (first_fault c.args.node) (type-at c.args.ex.now c.args.exprs.now c.args.schema.now)
    ∙ left-bad c.args.node SchemaMismatch 1 (λ e. is_some (expr_type (expr_at c.args.ex.now e.node) c.args.schema.now)) c.args.exprs.now c.loop-i.i c.index-exprs-i.result c.loop-i.invariant item (search rules)
    ∙ ap (λ (a : At). Some (SchemaMismatch a)) (sym c.at.ensures)

pub loop-i-preserved : goal.loop-i-preserved
loop-i-preserved c =
    let item = item_here c.args.exprs.now c.loop-i.i c.index-exprs-i.result c.loop-i-test.true c.index-exprs-i.is in
    left-next c.args.node SchemaMismatch 1 (λ e. is_some (expr_type (expr_at c.args.ex.now e.node) c.args.schema.now)) c.args.exprs.now c.loop-i.i c.index-exprs-i.result c.loop-i.invariant item (search rules)

pub returns : goal.returns
returns c =
    ap (first_fault c.args.node) (type-at c.args.ex.now c.args.exprs.now c.args.schema.now)
    ∙ left-end c.args.node SchemaMismatch 1 (λ e. is_some (expr_type (expr_at c.args.ex.now e.node) c.args.schema.now)) c.args.exprs.now c.loop-i.i c.loop-i.invariant c.loop-i-test.false
