use Rattle.std.proofs.Common.{◌≡◌, ◌∙◌, List, All, ap, refl, sym, subst, OnOk}
use Rattle.plan_core.specs.Columns.{Columns}
use Rattle.plan_expr.specs.declared.expr_ir.ExprIR.{ExprIR}
use Rattle.plan_expr.specs.Exprs.{all_named_at}
use Rattle.plan_expr.specs.Operands.{IsExpr}
use Rattle.plan_ir.specs.declared.ir.IR.TheVariants.{HStack}
use Rattle.plan_frame.specs.Made.{made_schema}
use Rattle.plan_builder.specs.Builds.{Adds, MayFollow, columns_at, addition}
use Rattle.plan_builder.proofs.Follow.{next_stands}
use Rattle.plan_builder.proofs.builder.IRBuilder.with_columns.Goals as goal

pub made_schema-requires : goal.made_schema-requires
made_schema-requires c =
    subst (All (λ (e : ExprIR). IsExpr c.args.self.now.expr_arena.now e.node)) (sym c.as_slice.ensures)
    (next_stands c.args.self.now.lp_arena.now c.args.self.now.expr_arena.now (addition c.args.self.now.lp_arena.now c.args.self.now.expr_arena.now c.args.self.now.root c.args.exprs c.args.options) c.args.exprs c.requires.follows refl)

pub add_alp-requires : goal.add_alp-requires
add_alp-requires c =
    let ex = c.args.self.now.expr_arena.now in
    let columns : Columns = columns_at c.args.self.now.lp_arena.now ex c.args.self.now.root in
    let stored : c.in_ok-columns.columns ≡ columns = c.in_ok-columns.ensures.columns in
    let is : c.in_ok-schema.schema ≡ made_schema columns (all_named_at ex c.args.exprs) columns =
    c.in_ok-schema.ensures
    ∙ ap (λ (b : Columns). made_schema b (all_named_at ex c.as_slice.result.now) c.in_ok-columns.columns) (c.in_ok-base.ensures ∙ stored)
    ∙ ap (λ (l : List ExprIR). made_schema columns (all_named_at ex l) c.in_ok-columns.columns) c.as_slice.ensures
    ∙ ap (made_schema columns (all_named_at ex c.args.exprs)) stored
    in
    subst (λ (s : Columns). MayFollow c.args.self.now.lp_arena.now ex (HStack c.args.self.now.root c.args.exprs s c.args.options)) (sym is) c.requires.follows

pub returns-clause-added : goal.returns-clause-added
returns-clause-added c =
    let ex = c.args.self.now.expr_arena.now in
    let columns : Columns = columns_at c.args.self.now.lp_arena.now ex c.args.self.now.root in
    let stored : c.in_ok-columns.columns ≡ columns = c.in_ok-columns.ensures.columns in
    let is : c.in_ok-schema.schema ≡ made_schema columns (all_named_at ex c.args.exprs) columns =
    c.in_ok-schema.ensures
    ∙ ap (λ (b : Columns). made_schema b (all_named_at ex c.as_slice.result.now) c.in_ok-columns.columns) (c.in_ok-base.ensures ∙ stored)
    ∙ ap (λ (l : List ExprIR). made_schema columns (all_named_at ex l) c.in_ok-columns.columns) c.as_slice.ensures
    ∙ ap (made_schema columns (all_named_at ex c.args.exprs)) stored
    in
    subst (λ (s : Columns). OnOk c.add_alp.result (Adds c.args.self.now.lp_arena.now c.add_alp.new.self.lp_arena.now c.add_alp.new.self.root (HStack c.args.self.now.root c.args.exprs s c.args.options))) is c.add_alp.ensures.added
