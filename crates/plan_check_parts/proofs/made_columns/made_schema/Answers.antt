use Rattle.std.proofs.Common.{◌≡◌, ◌∙◌, ap, ap₂, unwrap_or, Option}
use Rattle.plan_core.specs.Columns.{Columns, with_type}
use Rattle.plan_core.specs.declared.data_type.DataType.{DataType}
use Rattle.plan_core.specs.declared.data_type.DataType.TheVariants.{Int64}
use Rattle.plan_expr.specs.Exprs.{expr_at}
use Rattle.plan_expr.specs.Leaves.{Name}
use Rattle.plan_expr.specs.Naming.{name_of}
use Rattle.plan_frame.specs.Exprs.{expr_type}
use Rattle.plan_check_parts.proofs.MadeLemmas.{stands_here, item_here, made-next}
use Rattle.plan_check_parts.proofs.made_columns.made_schema.Goals as goal

pub expr_type-requires : goal.expr_type-requires
expr_type-requires c = stands_here c.args.ex.now c.args.exprs.now c.loop-expr.expr-index c.expr-item.result c.requires c.loop-expr-test.true c.expr-item.is

pub loop-expr-preserved : goal.loop-expr-preserved
loop-expr-preserved c =
    let name : Name = name_of c.expr-item.result.output_name in
    let type : DataType = unwrap_or (expr_type (expr_at c.args.ex.now c.expr-item.result.node) c.args.schema.now) Int64 in
    let named : c.in_ok-name.name ≡ name = c.in_ok-name.ensures ∙ c.output_name.ensures in
    let typed : c.unwrap_or-dtype.result ≡ type = c.unwrap_or-dtype.ensures ∙ ap (λ (o : Option DataType). unwrap_or o Int64) c.expr_type.ensures in
    c.in_ok-with_column.ensures.after
    ∙ ap₂ (with_type c.loop-expr.made) named typed
    ∙ ap (λ (m : Columns). with_type m name type) c.loop-expr.invariant
    ∙ made-next c.args.ex.now c.args.base c.args.exprs.now c.args.schema.now c.loop-expr.expr-index c.expr-item.result (item_here c.args.exprs.now c.loop-expr.expr-index c.expr-item.result c.loop-expr-test.true c.expr-item.is)
