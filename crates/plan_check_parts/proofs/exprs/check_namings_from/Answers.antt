use Rattle.std.proofs.Common.{◌∙◌, ◌+◌, ap, sym, Some}
use Rattle.plan_core.specs.declared.error.At.{At}
use Rattle.plan_core.specs.declared.error.PolarsError.TheVariants.{SchemaMismatch}
use Rattle.plan_expr.specs.Exprs.{expr_at}
use Rattle.plan_expr.specs.Naming.{naming, may_be_named}
use Rattle.plan_meaning.specs.Typing.{first_fault}
use Rattle.plan_schema.proofs.CheckLemmas.{left-next, left-bad, left-end, at-capped}
use Rattle.plan_check_parts.proofs.MadeLemmas.{named-each, stands_here, item_here}
use Rattle.plan_check_parts.proofs.exprs.check_namings_from.Goals as goal

pub may_be_named-requires : goal.may_be_named-requires
may_be_named-requires c = stands_here c.args.ex.now c.args.exprs.now c.loop-i.i c.index-exprs-i.result c.requires c.loop-i-test.true c.index-exprs-i.is

pub returns-then-not-may_be_named : goal.returns-then-not-may_be_named
returns-then-not-may_be_named c =
    let item = item_here c.args.exprs.now c.loop-i.i c.index-exprs-i.result c.loop-i-test.true c.index-exprs-i.is in
    ap (first_fault c.args.node) (named-each c.args.ex.now c.args.exprs.now SchemaMismatch c.args.place (λ e. may_be_named e.name (naming e.expr)))
    ∙ left-bad c.args.node SchemaMismatch c.args.place (λ e. may_be_named e.output_name (naming (expr_at c.args.ex.now e.node))) c.args.exprs.now c.loop-i.i c.index-exprs-i.result c.loop-i.invariant item (sym c.may_be_named.ensures ∙ c.if-not-may_be_named.true)
    ∙ ap (λ (a : At). Some (SchemaMismatch a)) (sym (c.at.ensures ∙ at-capped c.args.node c.saturating_add.result (c.args.place + c.loop-i.i) c.saturating_add.ensures))

pub loop-i-preserved : goal.loop-i-preserved
loop-i-preserved c =
    let item = item_here c.args.exprs.now c.loop-i.i c.index-exprs-i.result c.loop-i-test.true c.index-exprs-i.is in
    left-next c.args.node SchemaMismatch c.args.place (λ e. may_be_named e.output_name (naming (expr_at c.args.ex.now e.node))) c.args.exprs.now c.loop-i.i c.index-exprs-i.result c.loop-i.invariant item (sym c.may_be_named.ensures ∙ c.if-not-may_be_named.false)

pub returns : goal.returns
returns c =
    ap (first_fault c.args.node) (named-each c.args.ex.now c.args.exprs.now SchemaMismatch c.args.place (λ e. may_be_named e.name (naming e.expr)))
    ∙ left-end c.args.node SchemaMismatch c.args.place (λ e. may_be_named e.output_name (naming (expr_at c.args.ex.now e.node))) c.args.exprs.now c.loop-i.i c.loop-i.invariant c.loop-i-test.false
