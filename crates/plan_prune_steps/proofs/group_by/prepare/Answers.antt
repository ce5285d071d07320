use Rattle.std.proofs.Common.{◌≡◌, ◌∙◌, ◌++◌, ap, ap₂, sym, subst, All, List, []}
use Rattle.std.proofs.lemmas.Result.{IfOk-at_ok, IfOk-weaker}
use Rattle.plan_core.specs.Columns.{Columns}
use Rattle.plan_expr.specs.declared.expr_ir.ExprIR.{ExprIR}
use Rattle.plan_ir.specs.declared.ir.IR.{IR}
use Rattle.plan_ir.specs.declared.ir.IR.TheVariants.{GroupBy}
use Rattle.plan_ir.specs.Parts.{roots_of}
use Rattle.plan_expr.specs.Operands.{IsExpr}
use Rattle.plan_expr.specs.Exprs.{Named, all_named_at}
use Rattle.plan_expr.specs.Leaves.{Name}
use Rattle.plan_meaning.specs.Asked.{grouping_names}
use Rattle.plan_prune_parts.specs.declared.step.Step.TheVariants.{Over}
use Rattle.plan_prune_parts.specs.Kept.{is_some_name, names_at, stored_after}
use Rattle.plan_prune_parts.specs.Places.{StandExprs}
use Rattle.plan_prune_parts.specs.Said.{columns_at}
use Rattle.plan_prune_steps.specs.Steps.{step_of}
use Rattle.plan_prune_steps.proofs.GroupParts.{aggs_stand, keys_stand}
use Rattle.plan_prune_steps.proofs.group_by.prepare.Goals as goal

pub asks-asked-requires-clause-keys : goal.asks-asked-requires-clause-keys
asks-asked-requires-clause-keys c =
    subst (λ (l : List ExprIR). All (λ (x : ExprIR). IsExpr c.args.ex.now x.node) l) (sym c.as_slice-of_keys.ensures)
    (keys_stand c.args.ex.now c.in-GroupBy.keys c.in-GroupBy.aggs (subst (λ (p : IR). StandExprs c.args.ex.now (roots_of p)) c.in-GroupBy.is c.requires.exprs))

pub asks-asked-requires-clause-aggs : goal.asks-asked-requires-clause-aggs
asks-asked-requires-clause-aggs c =
    subst (λ (l : List ExprIR). All (λ (x : ExprIR). IsExpr c.args.ex.now x.node) l) (sym c.as_slice-of_aggs.ensures)
    (aggs_stand c.args.ex.now c.in-GroupBy.keys c.in-GroupBy.aggs (subst (λ (p : IR). StandExprs c.args.ex.now (roots_of p)) c.in-GroupBy.is c.requires.exprs) c.args.asked.now c.in_ok-aggs-in-GroupBy.aggs c.in_ok-aggs-in-GroupBy.ensures)

pub returns : goal.returns
returns c =
    let asked : List Name = c.args.asked.now in
    let keys : List Named = all_named_at c.args.ex.now c.in-GroupBy.keys in
    let aggs : List ExprIR = c.in_ok-aggs-in-GroupBy.aggs in
    let s : Columns = columns_at c.args.lp.now c.args.ex.now c.in-GroupBy.input in
    let stored : List ExprIR → List ExprIR → Columns = λ ks ls. stored_after (is_some_name asked) [] (names_at (ks ++ ls)) c.in-GroupBy.schema in
    IfOk-weaker c.over.result _ _
    (λ step made.
    made.2
    ∙ ap₂ (λ (l : List Name) (t : Columns). Over c.in-GroupBy.input l (GroupBy c.in-GroupBy.input c.in-GroupBy.keys aggs t c.in-GroupBy.maintain_order c.in-GroupBy.options))
    (IfOk-at_ok (λ (l : List Name). l ≡ grouping_names (all_named_at c.args.ex.now c.as_slice-of_keys.result.now) (all_named_at c.args.ex.now c.as_slice-of_aggs.result.now) asked s) made.1 c.asks-asked.ensures
    ∙ ap₂ (λ (ks ls : List ExprIR). grouping_names (all_named_at c.args.ex.now ks) (all_named_at c.args.ex.now ls) asked s) c.as_slice-of_keys.ensures c.as_slice-of_aggs.ensures)
    (c.in_ok-schema-in-GroupBy.ensures ∙ ap₂ stored c.as_slice-of_keys.ensures c.as_slice-of_aggs.ensures)
    ∙ ap (λ (ks : List ExprIR). Over c.in-GroupBy.input (grouping_names keys (all_named_at c.args.ex.now ks) asked s) (GroupBy c.in-GroupBy.input c.in-GroupBy.keys ks (stored c.in-GroupBy.keys ks) c.in-GroupBy.maintain_order c.in-GroupBy.options)) c.in_ok-aggs-in-GroupBy.ensures
    ∙ ap (step_of c.args.lp.now c.args.ex.now asked) (sym c.in-GroupBy.is))
    c.over.ensures
