use Rattle.std.proofs.Common.{◌≡◌, ◌∙◌, ap, ap₂, unwrap_or, Option}
use Rattle.plan_core.specs.Columns.{Columns, with_type}
use Rattle.plan_core.specs.declared.data_type.DataType.{DataType}
use Rattle.plan_core.specs.declared.data_type.DataType.TheVariants.{Int64}
use Rattle.plan_expr.specs.Exprs.{expr_at}
use Rattle.plan_expr.specs.Leaves.{Name}
use Rattle.plan_expr.specs.Naming.{name_of}
use Rattle.plan_frame.specs.Exprs.{expr_type}
use Rattle.plan_frame.specs.Grouping.{gathered_expr}
use Rattle.plan_check_parts.proofs.MadeLemmas.{stands_here, item_here}
use Rattle.plan_check.proofs.GroupFaults.{gathered-next}
use Rattle.plan_check.proofs.group_by.with_gathered.Goals as goal

pub gathered_type-requires : goal.gathered_type-requires
gathered_type-requires c = stands_here c.args.ex.now c.args.aggs.now c.loop-agg.agg-index c.agg-item.result c.requires c.loop-agg-test.true c.agg-item.is

pub loop-agg-preserved : goal.loop-agg-preserved
loop-agg-preserved c =
    let name : Name = name_of c.agg-item.result.output_name in
    let type : DataType = unwrap_or (expr_type (gathered_expr (expr_at c.args.ex.now c.agg-item.result.node)) c.args.schema.now) Int64 in
    let named : c.in_ok-name.name ≡ name = c.in_ok-name.ensures ∙ c.output_name.ensures in
    let typed : c.unwrap_or-dtype.result ≡ type = c.unwrap_or-dtype.ensures ∙ ap (λ (o : Option DataType). unwrap_or o Int64) c.gathered_type.ensures in
    c.in_ok-with_column.ensures.after
    ∙ ap₂ (with_type c.loop-agg.made) named typed
    ∙ ap (λ (m : Columns). with_type m name type) c.loop-agg.invariant
    ∙ gathered-next c.args.ex.now c.args.base c.args.aggs.now c.args.schema.now c.loop-agg.agg-index c.agg-item.result (item_here c.args.aggs.now c.loop-agg.agg-index c.agg-item.result c.loop-agg-test.true c.agg-item.is)
