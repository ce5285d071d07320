use Rattle.std.proofs.Common.{◌≡◌, ◌∙◌, [], ◌∷◌, All, ap, ap₂, arith, true, subst, sym, Some, List, Option}
use Rattle.std.specs.List.{slice_get}
use Rattle.std.specs.Prelude.{option_map}
use Rattle.std.proofs.lemmas.Result.{IfOk-weaker}
use Rattle.plan_expr.specs.declared.expr_ir.ExprIR.{ExprIR}
use Rattle.plan_expr.specs.Exprs.{all_named_at}
use Rattle.plan_expr.specs.Leaves.{Name}
use Rattle.plan_expr.specs.Operands.{IsExpr}
use Rattle.plan_frame.specs.ExprLists.{counts_rows}
use Rattle.plan_ir.specs.declared.functions.FunctionIR.TheVariants.{FastCount}
use Rattle.plan_ir.specs.declared.ir.IR.{IR}
use Rattle.plan_ir.specs.declared.ir.IR.TheVariants.{Select}
use Rattle.plan_ir.specs.Parts.{inputs_of}
use Rattle.plan_ir.specs.Plans.{Plan, bare, plans_at}
use Rattle.plan_meaning.specs.PlanAt.{plan_at}
use Rattle.plan_scan.specs.declared.file_scan.FileScan.{FileScan}
use Rattle.plan_scan.specs.declared.sources.ScanSources.{ScanSources}
use Rattle.plan_order_laws.specs.Counted.{count_alias, count_of}
use Rattle.plan_order.proofs.CountLemmas.{plan-is}
use Rattle.plan_order.proofs.CountStarLemmas.{count-false, count-other, one-only, selected-alias, selected-count}
use Rattle.plan_order.proofs.NodeExprs.{exprs_stand}
use Rattle.plan_order.proofs.count_star.count_of.Goals.{in_default-via-in-Select+else-counts_rows, in_default-via-in_default}
use Rattle.plan_order.proofs.count_star.count_of.Goals as goal

pub counts_rows-requires : goal.counts_rows-requires
counts_rows-requires c =
    let p : IR = Select c.in-Select.input c.in-Select.expr c.in-Select.schema c.in-Select.options in
    subst (λ (l : List ExprIR). All (λ (e : ExprIR). IsExpr c.args.ex.now e.node) l) (sym c.as_slice.ensures)
    (exprs_stand c.args.lp.now c.args.ex.now c.args.node p c.requires (c.get.ensures.entry ∙ ap Some c.in-Select.is))

pub returns-in-len1 : goal.returns-in-len1
returns-in-len1 c =
    let only : ExprIR = c.only-item.result in
    let one : c.as_slice-in-Select.result.now ≡ only ∷ [] = one-only c.as_slice-in-Select.result.now only (omega (arith, c.in-len1.len_at_least, c.in-len1.len_below)) c.only-item.is in
    let exprs : c.in-Select.expr ≡ only ∷ [] = sym c.as_slice-in-Select.ensures ∙ one in
    let entry : slice_get c.args.lp.now c.args.node.0 ≡ Some (Select c.in-Select.input (only ∷ []) c.in-Select.schema c.in-Select.options) = c.get.ensures.entry ∙ ap Some c.in-Select.is ∙ ap (λ (l : List ExprIR). Some (Select c.in-Select.input l c.in-Select.schema c.in-Select.options)) exprs in
    let counts : counts_rows (all_named_at c.args.ex.now (only ∷ [])) ≡ true = ap (λ (l : List ExprIR). counts_rows (all_named_at c.args.ex.now l)) (sym exprs ∙ sym c.as_slice.ensures) ∙ sym c.counts_rows.ensures ∙ c.if-counts_rows.true in
    IfOk-weaker c.count_over.result _ _ (λ made is.
    is c.args.ex.now
    ∙ ap₂ (λ (a : Option Name) (o : Option (ScanSources × FileScan)). option_map (λ (x : ScanSources × FileScan). FastCount x.0 x.1 a) o)
    (sym (selected-alias c.args.lp.now c.args.ex.now c.args.node c.in-Select.input only c.in-Select.schema c.in-Select.options (c.requires.nodes, c.requires.stands.nodes) entry))
    (sym (selected-count c.args.lp.now c.args.ex.now c.args.node c.in-Select.input only c.in-Select.schema c.in-Select.options (c.requires.nodes, c.requires.stands.nodes) entry counts))) c.count_over.ensures

pub returns-in_default : goal.returns-in_default
returns-in_default c =
    let made : Plan → Option _ = λ p. option_map (λ (x : ScanSources × FileScan). FastCount x.0 x.1 (count_alias p)) (count_of p) in
    ap (option_map (λ (x : ScanSources × FileScan). FastCount x.0 x.1 (count_alias (plan_at c.args.lp.now c.args.ex.now c.args.node))))
    (sym (elim c.in_default.branch [
      | in_default-via-in-Select+else-counts_rows w ↦
          (let p : IR = Select w.in-Select.input w.in-Select.expr w.in-Select.schema w.in-Select.options in
          ap count_of (plan-is c.args.lp.now c.args.ex.now c.args.node p (c.requires.nodes, c.requires.stands.nodes) (c.get.ensures.entry ∙ ap Some w.in-Select.is))
          ∙ count-false (all_named_at c.args.ex.now w.in-Select.expr) w.in-Select.schema w.in-Select.options (bare (plans_at c.args.lp.now c.args.ex.now (inputs_of p)))
          (ap (λ (l : List ExprIR). counts_rows (all_named_at c.args.ex.now l)) (sym w.as_slice.ensures) ∙ sym w.counts_rows.ensures ∙ w.if-counts_rows.false))
      | in_default-via-in_default w ↦
          ap count_of (plan-is c.args.lp.now c.args.ex.now c.args.node c.get.result.now (c.requires.nodes, c.requires.stands.nodes) c.get.ensures.entry)
          ∙ count-other c.args.ex.now c.get.result.now (bare (plans_at c.args.lp.now c.args.ex.now (inputs_of c.get.result.now))) w.in_default.not-Select
    ]))
