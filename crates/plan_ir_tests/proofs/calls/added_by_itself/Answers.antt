use Rattle.std.proofs.Common.{◌≡◌, ◌∙◌, ◌∷◌, [], List, Some, ap, subst, sym}
use Rattle.plan_expr.specs.declared.expr_ir.ExprIR.{ExprIR}
use Rattle.plan_ir.specs.Parts.{inputs_of}
use Rattle.plan_builder.specs.Builds.{addition, MayFollow, own_expr}
use Rattle.plan_builder.proofs.Follow.{built_same}
use Rattle.plan_ir_tests.proofs.Again.{adds, inside, one_item, over_one}
use Rattle.plan_ir_tests.proofs.calls.added_by_itself.Goals as goal

pub get-requires : goal.get-requires
get-requires c = inside c.args.lp.now c.args.ex.now c.args.root c.requires.plan

pub with_columns_simple-requires-clause-built : goal.with_columns_simple-requires-clause-built
with_columns_simple-requires-clause-built c =
    let i = c.in-HStack.input in
    let one = over_one c.args.lp.now c.args.ex.now c.args.root c.get.result.now c.requires.plan c.requires.valid c.get.ensures.entry i (ap inputs_of c.in-HStack.is) in
    built_same c.args.lp.now c.new-builder.result.lp_arena.now c.args.ex.now c.new-builder.result.expr_arena.now i c.new-builder.result.root c.new-builder.ensures.nodes c.new-builder.ensures.exprs c.new-builder.ensures.root one.plan one.valid

pub with_columns_simple-requires-clause-follows : goal.with_columns_simple-requires-clause-follows
with_columns_simple-requires-clause-follows c =
    let lp = c.args.lp.now in
    let ex = c.args.ex.now in
    let i = c.in-HStack.input in
    let is : c.in-HStack.exprs ≡ own_expr ex c.in_ok-node-in-len1.node ∷ [] =
    sym c.as_slice.ensures ∙ one_item c.as_slice.result.now c.expr-item.result c.in-len1.len_at_least c.in-len1.len_below c.expr-item.is ∙ ap (λ (x : ExprIR). x ∷ []) (sym c.in_ok-node-in-len1.ensures)
    in
    rw (c.new-builder.ensures.nodes, c.new-builder.ensures.exprs, c.new-builder.ensures.root) (subst (λ (l : List ExprIR). MayFollow lp ex (addition lp ex i l c.in-HStack.options)) is (adds lp ex c.args.root i c.in-HStack.exprs c.in-HStack.schema c.in-HStack.options c.requires.plan c.requires.valid (c.get.ensures.entry ∙ ap Some c.in-HStack.is)))
