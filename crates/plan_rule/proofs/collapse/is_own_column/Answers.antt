use Rattle.std.proofs.Common.{◌∙◌, ◌&&◌, Bool, not, sym, ap}
use Rattle.plan_pass_laws.specs.Answers.{is_alias}
use Rattle.plan_rule.proofs.OwnColumns.{own_open}
use Rattle.plan_rule.proofs.collapse.is_own_column.Goals as goal

pub returns-then-is_column : goal.returns-then-is_column
returns-then-is_column c =
    ap not (c.is_alias.ensures ∙ ap is_alias c.output_name_inner.ensures)
    ∙ sym (own_open c.args.ex.now c.args.expr.now c.node.result c.get.result.now c.node.ensures c.requires c.get.ensures.entry ∙ ap (λ (b : Bool). b && not (is_alias c.args.expr.now.output_name)) (sym c.is_column.ensures ∙ c.if-is_column.true))

pub returns-else-is_column : goal.returns-else-is_column
returns-else-is_column c =
    c.if-is_column.false
    ∙ sym (own_open c.args.ex.now c.args.expr.now c.node.result c.get.result.now c.node.ensures c.requires c.get.ensures.entry ∙ ap (λ (b : Bool). b && not (is_alias c.args.expr.now.output_name)) (sym c.is_column.ensures ∙ c.if-is_column.false))
