use Rattle.std.proofs.Common.{◌≡◌, ◌∙◌, List, All, ap₂, refl, sym, subst}
use Rattle.plan_core.specs.Columns.{Columns}
use Rattle.plan_tree.specs.Stands.{Trees, StandsOnce}
use Rattle.plan_expr.specs.declared.expr_ir.ExprIR.{ExprIR}
use Rattle.plan_expr.specs.Exprs.{all_named_at}
use Rattle.plan_expr.specs.Leaves.{Name}
use Rattle.plan_expr.specs.Operands.{IsExpr}
use Rattle.plan_ir.specs.declared.ir.IR.{IR}
use Rattle.plan_ir.specs.declared.ir.IR.TheVariants.{Join}
use Rattle.plan_ir.specs.Parts.{inputs_of, plan_shape, roots_of}
use Rattle.plan_join.specs.Naming.{has_right, join_columns}
use Rattle.plan_join.specs.Told.{column_keys, told_at}
use Rattle.plan_pruned.specs.JoinPruned.{called_now, first_of_each, narrowed_told, topped_if}
use Rattle.plan_prune_parts.specs.Origins.{origin_in}
use Rattle.plan_prune_joins.specs.Joined.{IsJoined, JoinMade}
use Rattle.plan_prune_parts.specs.Places.{StandExprs}
use Rattle.plan_prune_parts.specs.Said.{columns_at}
use Rattle.plan_prune_joins.proofs.JoinParts.{join_stands, left_stands, right_stands}
use Rattle.plan_prune_joins.proofs.join.joined.Goals as goal

pub stored_schema-requires : goal.stored_schema-requires
stored_schema-requires c = left_stands c.args.lp.now c.in-Join.input_left c.in-Join.input_right (subst (λ (p : IR). (t : Trees IR) × StandsOnce plan_shape c.args.lp.now (inputs_of p) t) c.in-Join.is c.requires.inputs)

pub pruned_join-requires-clause-left_keys : goal.pruned_join-requires-clause-left_keys
pruned_join-requires-clause-left_keys c = subst (λ (l : List ExprIR). All (λ (x : ExprIR). IsExpr c.args.ex.now x.node) l) (sym c.as_slice.ensures) (join_stands c.args.ex.now c.in-Join.input_left c.in-Join.input_right c.in-Join.schema c.in-Join.left_on c.in-Join.right_on c.in-Join.options (subst (λ (p : IR). StandExprs c.args.ex.now (roots_of p)) c.in-Join.is c.requires.exprs)).left

pub pruned_join-requires-clause-right_keys : goal.pruned_join-requires-clause-right_keys
pruned_join-requires-clause-right_keys c = subst (λ (l : List ExprIR). All (λ (x : ExprIR). IsExpr c.args.ex.now x.node) l) (sym c.as_slice-in-Join.ensures) (join_stands c.args.ex.now c.in-Join.input_left c.in-Join.input_right c.in-Join.schema c.in-Join.left_on c.in-Join.right_on c.in-Join.options (subst (λ (p : IR). StandExprs c.args.ex.now (roots_of p)) c.in-Join.is c.requires.exprs)).right

pub pruned_join-requires-clause-condition : goal.pruned_join-requires-clause-condition
pruned_join-requires-clause-condition c = (join_stands c.args.ex.now c.in-Join.input_left c.in-Join.input_right c.in-Join.schema c.in-Join.left_on c.in-Join.right_on c.in-Join.options (subst (λ (p : IR). StandExprs c.args.ex.now (roots_of p)) c.in-Join.is c.requires.exprs)).condition

pub stored_schema-requires-in-Join : goal.stored_schema-requires-in-Join
stored_schema-requires-in-Join c = right_stands c.args.lp.now c.in-Join.input_left c.in-Join.input_right (subst (λ (p : IR). (t : Trees IR) × StandsOnce plan_shape c.args.lp.now (inputs_of p) t) c.in-Join.is c.requires.inputs)

pub returns-clause-made : goal.returns-clause-made
returns-clause-made c =
    let ex = c.args.ex.now in
    let lp = c.args.lp.now in
    let o = c.in-Join.options in
    let origins = c.args.kept.origins in
    let s : c.columns.result.now ≡ columns_at lp ex c.in-Join.input_left = c.columns.ensures ∙ c.in_ok-left-in-Join.ensures.stored ex in
    let t : c.columns-in-Join.result.now ≡ columns_at lp ex c.in-Join.input_right = c.columns-in-Join.ensures ∙ c.in_ok-right-in-Join.ensures.stored ex in
    let now : List ExprIR → Columns → Name → Name = λ ls u. called_now o.args (column_keys (all_named_at ex ls)) u (origin_in origins) in
    let cols : List ExprIR → List ExprIR → Columns → Columns → Columns = λ ls rs u v. first_of_each (join_columns o.args (column_keys (all_named_at ex ls)) (column_keys (all_named_at ex rs)) u v) in
    let made = c.in_ok-made-in-Join.made in
    let whole : IR = Join c.in-Join.input_left c.in-Join.input_right made.schema c.in-Join.left_on c.in-Join.right_on made.options in
    let is : IsJoined c.args.kept lp ex c.pruned_join.new.ex c.in-Join.input_left c.in-Join.input_right c.in-Join.left_on c.in-Join.right_on o whole made.top = record {
      now = made.options;
      schema = made.schema;
      is = refl;
      told = c.in_ok-made-in-Join.ensures.told ∙ ap₂ (λ (ls : List ExprIR) (u : Columns). narrowed_told (now ls u) o.args (told_at ex o)) c.as_slice.ensures s;
      columns =
          c.in_ok-made-in-Join.ensures.schema
          ∙ ap₂ (λ (ls rs : List ExprIR). cols ls rs c.columns.result.now c.columns-in-Join.result.now) c.as_slice.ensures c.as_slice-in-Join.ensures
          ∙ ap₂ (λ (u v : Columns). cols c.in-Join.left_on c.in-Join.right_on u v) s t;
      on_top = λ plan. c.in_ok-made-in-Join.ensures.top plan ∙ ap₂ (λ (ls : List ExprIR) (u : Columns). topped_if (has_right o.args.how) (now ls u) c.args.kept.asked made.schema plan) c.as_slice.ensures s;
      place = c.in_ok-made-in-Join.ensures.place;
    } in
    subst (λ (p : IR). JoinMade c.args.kept lp ex c.pruned_join.new.ex p whole made.top) (sym c.in-Join.is) is
