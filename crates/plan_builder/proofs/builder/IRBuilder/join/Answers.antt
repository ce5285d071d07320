use Rattle.std.proofs.Common.{◌≡◌, ◌∙◌, List, ap₂, sym, subst, OnOk}
use Rattle.plan_core.specs.Columns.{Columns, HasDistinctNames}
use Rattle.plan_expr.specs.declared.expr_ir.ExprIR.{ExprIR}
use Rattle.plan_ir.specs.declared.ir.IR.TheVariants.{Join}
use Rattle.plan_join.specs.Naming.{join_columns, key_columns, LieIn}
use Rattle.plan_builder.specs.Builds.{Adds, MayFollow, columns_at}
use Rattle.plan_builder.proofs.Joining.{left_within, right_within, stored_once}
use Rattle.plan_builder.proofs.builder.IRBuilder.join.Goals as goal

pub stored_schema-requires : goal.stored_schema-requires
stored_schema-requires c = (c.requires.beside.plan.nodes, c.requires.beside.plan.stands.nodes)

pub join_columns-requires-clause-left_keys : goal.join_columns-requires-clause-left_keys
join_columns-requires-clause-left_keys c =
    let lp = c.args.self.now.lp_arena.now in
    let ex = c.args.self.now.expr_arena.now in
    let args = c.args.options.args in
    let stored : Columns = join_columns args (key_columns ex c.args.left_on) (key_columns ex c.args.right_on) (columns_at lp ex c.args.self.now.root) (columns_at lp ex c.args.other) in
    subst (LieIn ex) (sym c.as_slice.ensures) (left_within lp ex c.args.self.now.root c.args.other stored c.args.left_on c.args.right_on c.args.options c.requires.follows)

pub join_columns-requires-clause-right_keys : goal.join_columns-requires-clause-right_keys
join_columns-requires-clause-right_keys c =
    let lp = c.args.self.now.lp_arena.now in
    let ex = c.args.self.now.expr_arena.now in
    let args = c.args.options.args in
    let stored : Columns = join_columns args (key_columns ex c.args.left_on) (key_columns ex c.args.right_on) (columns_at lp ex c.args.self.now.root) (columns_at lp ex c.args.other) in
    subst (LieIn ex) (sym c.as_slice-2.ensures) (right_within lp ex c.args.self.now.root c.args.other stored c.args.left_on c.args.right_on c.args.options c.requires.follows)

pub join_columns-requires-clause-once : goal.join_columns-requires-clause-once
join_columns-requires-clause-once c =
    let lp = c.args.self.now.lp_arena.now in
    let ex = c.args.self.now.expr_arena.now in
    let args = c.args.options.args in
    let stored : Columns = join_columns args (key_columns ex c.args.left_on) (key_columns ex c.args.right_on) (columns_at lp ex c.args.self.now.root) (columns_at lp ex c.args.other) in
    let right : c.in_ok-right.right ≡ columns_at lp ex c.args.other = c.in_ok-right.ensures ∙ c.in_ok-stored_schema.ensures.valid ex c.requires.beside.plan c.requires.beside.valid in
    let are : join_columns args (key_columns ex c.as_slice.result.now) (key_columns ex c.as_slice-2.result.now) c.in_ok-left.left c.in_ok-right.right ≡ stored =
    ap₂ (λ (ks others : List ExprIR). join_columns args (key_columns ex ks) (key_columns ex others) c.in_ok-left.left c.in_ok-right.right) c.as_slice.ensures c.as_slice-2.ensures
    ∙ ap₂ (join_columns args (key_columns ex c.args.left_on) (key_columns ex c.args.right_on)) c.in_ok-left.ensures.columns right in
    subst HasDistinctNames (sym are) (stored_once lp ex c.args.self.now.root c.args.other stored c.args.left_on c.args.right_on c.args.options c.requires.follows)

pub add_alp-requires : goal.add_alp-requires
add_alp-requires c =
    let lp = c.args.self.now.lp_arena.now in
    let ex = c.args.self.now.expr_arena.now in
    let args = c.args.options.args in
    let stored : Columns = join_columns args (key_columns ex c.args.left_on) (key_columns ex c.args.right_on) (columns_at lp ex c.args.self.now.root) (columns_at lp ex c.args.other) in
    let right : c.in_ok-right.right ≡ columns_at lp ex c.args.other = c.in_ok-right.ensures ∙ c.in_ok-stored_schema.ensures.valid ex c.requires.beside.plan c.requires.beside.valid in
    let are : join_columns args (key_columns ex c.as_slice.result.now) (key_columns ex c.as_slice-2.result.now) c.in_ok-left.left c.in_ok-right.right ≡ stored =
    ap₂ (λ (ks others : List ExprIR). join_columns args (key_columns ex ks) (key_columns ex others) c.in_ok-left.left c.in_ok-right.right) c.as_slice.ensures c.as_slice-2.ensures
    ∙ ap₂ (join_columns args (key_columns ex c.args.left_on) (key_columns ex c.args.right_on)) c.in_ok-left.ensures.columns right in
    subst (λ (s : Columns). MayFollow lp ex (Join c.args.self.now.root c.args.other s c.args.left_on c.args.right_on c.args.options)) (sym (c.in_ok-schema.ensures ∙ are)) c.requires.follows

pub returns-clause-added : goal.returns-clause-added
returns-clause-added c =
    let lp = c.args.self.now.lp_arena.now in
    let ex = c.args.self.now.expr_arena.now in
    let args = c.args.options.args in
    let stored : Columns = join_columns args (key_columns ex c.args.left_on) (key_columns ex c.args.right_on) (columns_at lp ex c.args.self.now.root) (columns_at lp ex c.args.other) in
    let right : c.in_ok-right.right ≡ columns_at lp ex c.args.other = c.in_ok-right.ensures ∙ c.in_ok-stored_schema.ensures.valid ex c.requires.beside.plan c.requires.beside.valid in
    let are : join_columns args (key_columns ex c.as_slice.result.now) (key_columns ex c.as_slice-2.result.now) c.in_ok-left.left c.in_ok-right.right ≡ stored =
    ap₂ (λ (ks others : List ExprIR). join_columns args (key_columns ex ks) (key_columns ex others) c.in_ok-left.left c.in_ok-right.right) c.as_slice.ensures c.as_slice-2.ensures
    ∙ ap₂ (join_columns args (key_columns ex c.args.left_on) (key_columns ex c.args.right_on)) c.in_ok-left.ensures.columns right in
    subst (λ (s : Columns). OnOk c.add_alp.result (Adds lp c.add_alp.new.self.lp_arena.now c.add_alp.new.self.root (Join c.args.self.now.root c.args.other s c.args.left_on c.args.right_on c.args.options))) (c.in_ok-schema.ensures ∙ are) c.add_alp.ensures.added
