use Rattle.std.proofs.Common.{◌≡◌, ◌∙◌, List, ◌∷◌, [], All, Some, ap, ap₂, sym, subst}
use Rattle.plan_core.specs.Columns.{Columns}
use Rattle.plan_tree.specs.Stands.{Trees, StandsOnce}
use Rattle.plan_expr.specs.declared.expr_ir.ExprIR.{ExprIR}
use Rattle.plan_expr.specs.Exprs.{all_named_at}
use Rattle.plan_expr.specs.Operands.{IsExpr}
use Rattle.plan_ir.specs.declared.ir.IR.{IR}
use Rattle.plan_ir.specs.Parts.{inputs_of, plan_shape, roots_of}
use Rattle.plan_join.specs.Told.{told_at}
use Rattle.plan_pruned.specs.JoinPruned.{narrowed_args}
use Rattle.plan_meaning.specs.JoinAsked.{left_asked, origin_of, right_asked}
use Rattle.plan_prune_parts.specs.Places.{StandExprs}
use Rattle.plan_prune_parts.specs.Said.{columns_at}
use Rattle.plan_prune_joins.specs.Joined.{IsKept, step_of_join}
use Rattle.plan_prune_joins.proofs.JoinParts.{join_stands, joined_some, kept_origins, kept_some, left_stands}
use Rattle.plan_prune_joins.proofs.join.prepare_asked.Goals as goal

pub stored_schema-requires : goal.stored_schema-requires
stored_schema-requires c = left_stands c.args.lp.now c.in-Join.input_left c.in-Join.input_right (subst (λ (p : IR). (t : Trees IR) × StandsOnce plan_shape c.args.lp.now (inputs_of p) t) c.in-Join.is c.requires.inputs)

pub asks-requires-clause-left_keys : goal.asks-requires-clause-left_keys
asks-requires-clause-left_keys c = subst (λ (l : List ExprIR). All (λ (x : ExprIR). IsExpr c.args.ex.now x.node) l) (sym c.as_slice.ensures) (join_stands c.args.ex.now c.in-Join.input_left c.in-Join.input_right c.in-Join.schema c.in-Join.left_on c.in-Join.right_on c.in-Join.options (subst (λ (p : IR). StandExprs c.args.ex.now (roots_of p)) c.in-Join.is c.requires.exprs)).left

pub asks-requires-clause-right_keys : goal.asks-requires-clause-right_keys
asks-requires-clause-right_keys c = subst (λ (l : List ExprIR). All (λ (x : ExprIR). IsExpr c.args.ex.now x.node) l) (sym c.as_slice-in-Join.ensures) (join_stands c.args.ex.now c.in-Join.input_left c.in-Join.input_right c.in-Join.schema c.in-Join.left_on c.in-Join.right_on c.in-Join.options (subst (λ (p : IR). StandExprs c.args.ex.now (roots_of p)) c.in-Join.is c.requires.exprs)).right

pub asks-requires-clause-condition : goal.asks-requires-clause-condition
asks-requires-clause-condition c = (join_stands c.args.ex.now c.in-Join.input_left c.in-Join.input_right c.in-Join.schema c.in-Join.left_on c.in-Join.right_on c.in-Join.options (subst (λ (p : IR). StandExprs c.args.ex.now (roots_of p)) c.in-Join.is c.requires.exprs)).condition

pub asks-requires-clause-origins : goal.asks-requires-clause-origins
asks-requires-clause-origins c = λ a.
    let ex = c.args.ex.now in
    let told = told_at ex c.in-Join.options in
    kept_origins c.args.asked.now _ c.args.kept.now (subst (λ (p : IR). IsKept c.args.lp.now ex c.args.asked.now p (Some c.args.kept.now)) c.in-Join.is c.requires.kept) a
    ∙ sym (ap₂ (λ (ls rs : List ExprIR). origin_of (all_named_at ex ls) (all_named_at ex rs) told c.columns.result.now c.columns-in-Join.result.now a) c.as_slice.ensures c.as_slice-in-Join.ensures
    ∙ ap₂ (λ (x y : Columns). origin_of (all_named_at ex c.in-Join.left_on) (all_named_at ex c.in-Join.right_on) told x y a) (c.columns.ensures ∙ c.in_ok-left-in-Join.ensures.stored ex) (c.columns-in-Join.ensures ∙ c.in_ok-right-in-Join.ensures.stored ex))

pub told-requires : goal.told-requires
told-requires c = subst (λ (l : List ExprIR). All (λ (x : ExprIR). IsExpr c.args.ex.now x.node) l) (sym c.as_slice-in-Join-2.ensures) (join_stands c.args.ex.now c.in-Join.input_left c.in-Join.input_right c.in-Join.schema c.in-Join.left_on c.in-Join.right_on c.in-Join.options (subst (λ (p : IR). StandExprs c.args.ex.now (roots_of p)) c.in-Join.is c.requires.exprs)).right

pub returns : goal.returns
returns c =
    let ex = c.args.ex.now in
    let asked = c.args.asked.now in
    let told = told_at ex c.in-Join.options in
    let l : Columns = columns_at c.args.lp.now ex c.in-Join.input_left in
    let r : Columns = columns_at c.args.lp.now ex c.in-Join.input_right in
    let s : c.columns.result.now ≡ l = c.columns.ensures ∙ c.in_ok-left-in-Join.ensures.stored ex in
    let t : c.columns-in-Join.result.now ≡ r = c.columns-in-Join.ensures ∙ c.in_ok-right-in-Join.ensures.stored ex in
    let u : c.columns-columns.result.now ≡ l = c.columns-columns.ensures ∙ c.in_ok-left-in-Join.ensures.stored ex in
    c.in_ok-over-in-Join.ensures
    ∙ joined_some ex asked c.in-Join.input_left c.in-Join.input_right c.in-Join.schema c.in-Join.left_on c.in-Join.right_on c.in-Join.options c.in_ok-options-in-Join.options l r c.in_ok-lists-in-Join.lists (kept_some asked _ c.args.kept.now (subst (λ (p : IR). IsKept c.args.lp.now ex asked p (Some c.args.kept.now)) c.in-Join.is c.requires.kept))
    (c.in_ok-lists-in-Join.ensures
    ∙ ap₂ (λ (ls rs : List ExprIR). left_asked (all_named_at ex ls) (all_named_at ex rs) told asked c.columns.result.now c.columns-in-Join.result.now ∷ right_asked (all_named_at ex ls) (all_named_at ex rs) told asked c.columns.result.now c.columns-in-Join.result.now ∷ []) c.as_slice.ensures c.as_slice-in-Join.ensures
    ∙ ap₂ (λ (x y : Columns). left_asked (all_named_at ex c.in-Join.left_on) (all_named_at ex c.in-Join.right_on) told asked x y ∷ right_asked (all_named_at ex c.in-Join.left_on) (all_named_at ex c.in-Join.right_on) told asked x y ∷ []) s t)
    (c.in_ok-options-in-Join.ensures ∙ ap₂ (λ (rs : List ExprIR) (x : Columns). record c.in-Join.options { args = narrowed_args c.in-Join.options.args asked (all_named_at ex rs) x }) c.as_slice-in-Join-2.ensures u)
    ∙ ap (step_of_join c.args.lp.now ex asked) (sym c.in-Join.is)
