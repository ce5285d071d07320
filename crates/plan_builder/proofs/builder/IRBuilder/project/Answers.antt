use Rattle.std.proofs.Common.{◌≡◌, ◌∙◌, List, [], All, ap, arith, length, refl, sym, subst, OnOk}
use Rattle.plan_core.specs.Columns.{Columns}
use Rattle.plan_expr.specs.declared.expr_ir.ExprIR.{ExprIR}
use Rattle.plan_expr.specs.Exprs.{all_named_at}
use Rattle.plan_expr.specs.Operands.{IsExpr}
use Rattle.plan_ir.specs.declared.ir.IR.TheVariants.{Select}
use Rattle.plan_frame.specs.Made.{made_schema}
use Rattle.plan_builder.specs.Builds.{Adds, MayFollow, columns_at, selection}
use Rattle.plan_builder.proofs.Follow.{next_stands}
use Rattle.plan_builder.proofs.builder.IRBuilder.project.Goals as goal

pub made_schema-requires : goal.made_schema-requires
made_schema-requires c =
    let some : c.args.expr ≡ [] → ⊥ = λ none. let z : length c.args.expr ≡ 0 = ap length none in omega (arith, z, c.len.ensures, c.if-len-eq0.false) in
    subst (All (λ (e : ExprIR). IsExpr c.args.self.now.expr_arena.now e.node)) (sym c.as_slice.ensures)
    (next_stands c.args.self.now.lp_arena.now c.args.self.now.expr_arena.now (selection c.args.self.now.lp_arena.now c.args.self.now.expr_arena.now c.args.self.now.root c.args.expr c.args.options) c.args.expr (c.requires.follows some) refl)

pub add_alp-requires : goal.add_alp-requires
add_alp-requires c =
    let ex = c.args.self.now.expr_arena.now in
    let some : c.args.expr ≡ [] → ⊥ = λ none. let z : length c.args.expr ≡ 0 = ap length none in omega (arith, z, c.len.ensures, c.if-len-eq0.false) in
    let is : c.in_ok-schema.schema ≡ made_schema [] (all_named_at ex c.args.expr) (columns_at c.args.self.now.lp_arena.now ex c.args.self.now.root) =
    c.in_ok-schema.ensures
    ∙ ap (λ (b : Columns). made_schema b (all_named_at ex c.as_slice.result.now) c.in_ok-columns.columns) c.new-base.ensures
    ∙ ap (λ (l : List ExprIR). made_schema [] (all_named_at ex l) c.in_ok-columns.columns) c.as_slice.ensures
    ∙ ap (made_schema [] (all_named_at ex c.args.expr)) (c.in_ok-columns.ensures.columns)
    in
    subst (λ (s : Columns). MayFollow c.args.self.now.lp_arena.now ex (Select c.args.self.now.root c.args.expr s c.args.options)) (sym is) (c.requires.follows some)

pub returns-clause-added : goal.returns-clause-added
returns-clause-added c = λ some.
    let ex = c.args.self.now.expr_arena.now in
    let is : c.in_ok-schema.schema ≡ made_schema [] (all_named_at ex c.args.expr) (columns_at c.args.self.now.lp_arena.now ex c.args.self.now.root) =
    c.in_ok-schema.ensures
    ∙ ap (λ (b : Columns). made_schema b (all_named_at ex c.as_slice.result.now) c.in_ok-columns.columns) c.new-base.ensures
    ∙ ap (λ (l : List ExprIR). made_schema [] (all_named_at ex l) c.in_ok-columns.columns) c.as_slice.ensures
    ∙ ap (made_schema [] (all_named_at ex c.args.expr)) (c.in_ok-columns.ensures.columns)
    in
    subst (λ (s : Columns). OnOk c.add_alp.result (Adds c.args.self.now.lp_arena.now c.add_alp.new.self.lp_arena.now c.add_alp.new.self.root (Select c.args.self.now.root c.args.expr s c.args.options))) is c.add_alp.ensures.added
