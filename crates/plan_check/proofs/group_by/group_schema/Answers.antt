use Rattle.std.proofs.Common.{◌≡◌, ◌∙◌, IfOk, ap, subst}
use Rattle.plan_core.specs.Columns.{Columns}
use Rattle.plan_expr.specs.Exprs.{all_named_at}
use Rattle.plan_frame.specs.Made.{made_schema}
use Rattle.plan_check.proofs.GroupFaults.{group_made}
use Rattle.plan_check.proofs.group_by.group_schema.Goals as goal

pub returns : goal.returns
returns c =
    let are = group_made c.in_ok-made.made (all_named_at c.args.ex.now c.args.keys.now) (all_named_at c.args.ex.now c.args.aggs.now) c.args.schema.now (c.in_ok-made.ensures ∙ ap (λ (base : Columns). made_schema base (all_named_at c.args.ex.now c.args.keys.now) c.args.schema.now) c.new.ensures) in
    subst (λ (m : Columns). IfOk c.with_gathered.result (λ (made : Columns). made ≡ m)) are c.with_gathered.ensures
