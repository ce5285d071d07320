use Rattle.std.proofs.Common.{◌∙◌, List, Some, All, ap₂, sym, subst}
use Rattle.plan_tree.specs.Stands.{Trees, StandsOnce}
use Rattle.plan_core.specs.Columns.{Columns}
use Rattle.plan_expr.specs.declared.expr_ir.ExprIR.{ExprIR}
use Rattle.plan_expr.specs.Exprs.{all_named_at}
use Rattle.plan_expr.specs.Leaves.{Name}
use Rattle.plan_expr.specs.Operands.{IsExpr}
use Rattle.plan_ir.specs.declared.ir.IR.{IR}
use Rattle.plan_ir.specs.Parts.{inputs_of, plan_shape, roots_of}
use Rattle.plan_join.specs.Naming.{key_columns, origin}
use Rattle.plan_join.specs.Told.{told_at}
use Rattle.plan_prune_parts.proofs.KeyLemmas.{columns_at as keys_at}
use Rattle.plan_meaning.specs.JoinAsked.{origin_of}
use Rattle.plan_prune_joins.specs.Joined.{IsKept}
use Rattle.plan_prune_parts.specs.Places.{StandExprs}
use Rattle.plan_prune_parts.specs.Said.{columns_at}
use Rattle.plan_prune_joins.proofs.JoinParts.{join_stands, keeps_some, left_stands}
use Rattle.plan_prune_joins.proofs.join.keep.Goals as goal

pub stored_schema-requires : goal.stored_schema-requires
stored_schema-requires c = left_stands c.args.lp.now c.in-Join.input_left c.in-Join.input_right (subst (λ (p : IR). (t : Trees IR) × StandsOnce plan_shape c.args.lp.now (inputs_of p) t) c.in-Join.is c.requires.inputs)

pub new-requires-clause-left_keys : goal.new-requires-clause-left_keys
new-requires-clause-left_keys c = subst (λ (l : List ExprIR). All (λ (x : ExprIR). IsExpr c.args.ex.now x.node) l) (sym c.as_slice.ensures) (join_stands c.args.ex.now c.in-Join.input_left c.in-Join.input_right c.in-Join.schema c.in-Join.left_on c.in-Join.right_on c.in-Join.options (subst (λ (p : IR). StandExprs c.args.ex.now (roots_of p)) c.in-Join.is c.requires.exprs)).left

pub new-requires-clause-right_keys : goal.new-requires-clause-right_keys
new-requires-clause-right_keys c = subst (λ (l : List ExprIR). All (λ (x : ExprIR). IsExpr c.args.ex.now x.node) l) (sym c.as_slice-in-Join.ensures) (join_stands c.args.ex.now c.in-Join.input_left c.in-Join.input_right c.in-Join.schema c.in-Join.left_on c.in-Join.right_on c.in-Join.options (subst (λ (p : IR). StandExprs c.args.ex.now (roots_of p)) c.in-Join.is c.requires.exprs)).right

pub returns-in_ok-asked-in-Join : goal.returns-in_ok-asked-in-Join
returns-in_ok-asked-in-Join c =
    let ex = c.args.ex.now in
    let lp = c.args.lp.now in
    let stand = join_stands c.args.ex.now c.in-Join.input_left c.in-Join.input_right c.in-Join.schema c.in-Join.left_on c.in-Join.right_on c.in-Join.options (subst (λ (p : IR). StandExprs c.args.ex.now (roots_of p)) c.in-Join.is c.requires.exprs) in
    let own = origin_of (all_named_at ex c.in-Join.left_on) (all_named_at ex c.in-Join.right_on) (told_at ex c.in-Join.options) (columns_at lp ex c.in-Join.input_left) (columns_at lp ex c.in-Join.input_right) in
    subst (λ (p : IR). IsKept lp ex c.args.asked.now p (Some (record { asked = c.in_ok-asked-in-Join.asked; origins = c.in_ok-origins-in-Join.origins }))) (sym c.in-Join.is)
    (keeps_some c.args.asked.now own (record { asked = c.in_ok-asked-in-Join.asked; origins = c.in_ok-origins-in-Join.origins }) (λ e. c.if-len-eq0.false (c.len.ensures.value ∙ e)) c.in_ok-asked-in-Join.ensures
    (λ a.
    c.in_ok-origins-in-Join.ensures a
    ∙ ap₂ (λ (ls rs : List ExprIR). origin c.in-Join.options.args (key_columns ex ls) (key_columns ex rs) c.columns.result.now c.columns-in-Join.result.now a) c.as_slice.ensures c.as_slice-in-Join.ensures
    ∙ ap₂ (λ (ls rs : List Name). origin c.in-Join.options.args ls rs c.columns.result.now c.columns-in-Join.result.now a) (sym (keys_at ex c.in-Join.left_on stand.left)) (sym (keys_at ex c.in-Join.right_on stand.right))
    ∙ ap₂ (λ (s t : Columns). origin_of (all_named_at ex c.in-Join.left_on) (all_named_at ex c.in-Join.right_on) (told_at ex c.in-Join.options) s t a) (c.columns.ensures ∙ c.in_ok-left-in-Join.ensures.stored ex) (c.columns-in-Join.ensures ∙ c.in_ok-right-in-Join.ensures.stored ex)))
