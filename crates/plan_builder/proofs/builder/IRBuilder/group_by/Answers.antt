use Rattle.std.proofs.Common.{◌≡◌, ◌∙◌, ◌++◌, List, [], All, ap, ap₂, refl, sym, subst, OnOk, length}
use Rattle.std.proofs.Math.Seq.{take-append_seam, drop-append_seam}
use Rattle.std.proofs.lemmas.List.Elements.{All-take, All-drop}
use Rattle.plan_core.specs.Columns.{Columns}
use Rattle.plan_expr.specs.declared.expr_ir.ExprIR.{ExprIR}
use Rattle.plan_expr.specs.Exprs.{all_named_at}
use Rattle.plan_expr.specs.Operands.{IsExpr}
use Rattle.plan_ir.specs.declared.ir.IR.TheVariants.{GroupBy}
use Rattle.plan_frame.specs.Grouping.{group_exprs}
use Rattle.plan_frame.specs.Made.{made_schema}
use Rattle.plan_builder.specs.Builds.{Adds, MayFollow, columns_at, grouping}
use Rattle.plan_builder.proofs.Follow.{next_stands}
use Rattle.plan_builder.proofs.builder.IRBuilder.group_by.Goals as goal

pub group_schema-requires-clause-keys : goal.group_schema-requires-clause-keys
group_schema-requires-clause-keys c =
    let ex = c.args.self.now.expr_arena.now in
    let keys = c.args.keys in
    let aggs = c.args.aggs in
    let stand = next_stands c.args.self.now.lp_arena.now ex (grouping c.args.self.now.lp_arena.now ex c.args.self.now.root keys aggs c.args.maintain_order c.args.options) (keys ++ aggs) c.requires.follows refl in
    subst (All (λ (e : ExprIR). IsExpr ex e.node)) (take-append_seam keys aggs ∙ sym c.as_slice.ensures) (All-take (λ (e : ExprIR). IsExpr ex e.node) (length keys) (keys ++ aggs) stand)

pub group_schema-requires-clause-aggs : goal.group_schema-requires-clause-aggs
group_schema-requires-clause-aggs c =
    let ex = c.args.self.now.expr_arena.now in
    let keys = c.args.keys in
    let aggs = c.args.aggs in
    let stand = next_stands c.args.self.now.lp_arena.now ex (grouping c.args.self.now.lp_arena.now ex c.args.self.now.root keys aggs c.args.maintain_order c.args.options) (keys ++ aggs) c.requires.follows refl in
    subst (All (λ (e : ExprIR). IsExpr ex e.node)) (drop-append_seam keys aggs ∙ sym c.as_slice-2.ensures) (All-drop (λ (e : ExprIR). IsExpr ex e.node) (length keys) (keys ++ aggs) stand)

pub add_alp-requires : goal.add_alp-requires
add_alp-requires c =
    let ex = c.args.self.now.expr_arena.now in
    let columns : Columns = columns_at c.args.self.now.lp_arena.now ex c.args.self.now.root in
    let is : c.in_ok-schema.schema ≡ made_schema [] (group_exprs (all_named_at ex c.args.keys) (all_named_at ex c.args.aggs)) columns =
    c.in_ok-schema.ensures
    ∙ ap₂ (λ (ks others : List ExprIR). made_schema [] (group_exprs (all_named_at ex ks) (all_named_at ex others)) c.in_ok-columns.columns) c.as_slice.ensures c.as_slice-2.ensures
    ∙ ap (made_schema [] (group_exprs (all_named_at ex c.args.keys) (all_named_at ex c.args.aggs))) c.in_ok-columns.ensures.columns
    in
    subst (λ (s : Columns). MayFollow c.args.self.now.lp_arena.now ex (GroupBy c.args.self.now.root c.args.keys c.args.aggs s c.args.maintain_order c.args.options)) (sym is) c.requires.follows

pub returns-clause-added : goal.returns-clause-added
returns-clause-added c =
    let ex = c.args.self.now.expr_arena.now in
    let columns : Columns = columns_at c.args.self.now.lp_arena.now ex c.args.self.now.root in
    let is : c.in_ok-schema.schema ≡ made_schema [] (group_exprs (all_named_at ex c.args.keys) (all_named_at ex c.args.aggs)) columns =
    c.in_ok-schema.ensures
    ∙ ap₂ (λ (ks others : List ExprIR). made_schema [] (group_exprs (all_named_at ex ks) (all_named_at ex others)) c.in_ok-columns.columns) c.as_slice.ensures c.as_slice-2.ensures
    ∙ ap (made_schema [] (group_exprs (all_named_at ex c.args.keys) (all_named_at ex c.args.aggs))) c.in_ok-columns.ensures.columns
    in
    subst (λ (s : Columns). OnOk c.add_alp.result (Adds c.args.self.now.lp_arena.now c.add_alp.new.self.lp_arena.now c.add_alp.new.self.root (GroupBy c.args.self.now.root c.args.keys c.args.aggs s c.args.maintain_order c.args.options))) is c.add_alp.ensures.added
