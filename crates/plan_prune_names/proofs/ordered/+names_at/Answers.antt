use Rattle.std.proofs.Common.{◌≡◌, ◌∙◌, ◌-◌, suc, ap, sym, subst, refl, arith, true, false, Some}
use Rattle.std.specs.List.{slice_get}
use Rattle.std.proofs.lemmas.Result.{IfOk-weaker}
use Rattle.plan_core.specs.Columns.{Columns, names_of}
use Rattle.plan_tree.proofs.TreeLemmas.{height-falls, StandsOnce-input}
use Rattle.plan_ir.specs.declared.ir.IR.{IR}
use Rattle.plan_ir.specs.declared.ir.IR.TheVariants.{MapFunction}
use Rattle.plan_ir.specs.Parts.{plan_shape}
use Rattle.plan_prune_parts.specs.Said.{columns_at}
use Rattle.plan_prune_names.specs.ByName.{keeps_columns}
use Rattle.plan_prune_names.specs.Known.{Hold}
use Rattle.plan_prune_names.proofs.KnownLemmas.{hold-function, hold-shown, shown-first, shown-same}
use Rattle.plan_prune_names.proofs.ordered.+names_at.Goals.{then-keeps_columns+in_ok-below, else-keeps_columns}
use Rattle.plan_prune_names.proofs.ordered.+names_at.Goals as goal

pub names_at-requires : goal.names_at-requires
names_at-requires t c =
    let e = c.get-entry.ensures.entry in
    let first = shown-first c.get-entry.result.now c.in-Some.input (sym c.in-Some.ensures) in
    let falls = height-falls plan_shape c.args.lp.now c.args.node c.in-Some.input c.get-entry.result.now c.requires.stands.0 0 c.requires.stands.1 e first in
    (omega (arith, falls, c.decreases), (StandsOnce-input plan_shape c.args.lp.now c.args.node c.in-Some.input c.get-entry.result.now 0 c.requires.stands e first, hold-shown c.args.lp.now c.args.node c.in-Some.input c.get-entry.result.now c.args.count c.requires.stands e (sym c.in-Some.ensures) c.requires.hold))

pub returns-in-Some : goal.returns-in-Some
returns-in-Some t c = IfOk-weaker c.names_at.result _ _ (λ names is. λ ex.
    is ex ∙ ap (λ (s : Columns). names_of s) (shown-same c.args.lp.now ex c.args.node c.in-Some.input c.get-entry.result.now c.requires.stands c.get-entry.ensures.entry (sym c.in-Some.ensures))) c.names_at.ensures

pub names_at-requires-then-keeps_columns : goal.names_at-requires-then-keeps_columns
names_at-requires-then-keeps_columns t c =
    let p : IR = MapFunction c.in-MapFunction.input c.in-MapFunction.function in
    let e : slice_get c.args.lp.now c.args.node.0 ≡ Some p = c.get-entry.ensures.entry ∙ ap Some c.in-MapFunction.is in
    let falls = height-falls plan_shape c.args.lp.now c.args.node c.in-MapFunction.input p c.requires.stands.0 0 c.requires.stands.1 e refl in
    let more : c.args.count ≡ suc (c.args.count - 1) = omega (arith, c.if-count-gt0.true) in
    (omega (arith, falls, c.decreases), (StandsOnce-input plan_shape c.args.lp.now c.args.node c.in-MapFunction.input p 0 c.requires.stands e refl, (hold-function c.args.lp.now c.args.node c.in-MapFunction.input c.in-MapFunction.function (c.args.count - 1) c.requires.stands e (subst (Hold c.args.lp.now c.args.node) more c.requires.hold)).0))

pub returns-then-count-gt0 : goal.returns-then-count-gt0
returns-then-count-gt0 t c = IfOk-weaker c.given_names.result _ _ (λ names is. λ ex.
    let p : IR = MapFunction c.in-MapFunction.input c.in-MapFunction.function in
    let e : slice_get c.args.lp.now c.args.node.0 ≡ Some p = c.get-entry.ensures.entry ∙ ap Some c.in-MapFunction.is in
    let more : c.args.count ≡ suc (c.args.count - 1) = omega (arith, c.if-count-gt0.true) in
    let holds = hold-function c.args.lp.now c.args.node c.in-MapFunction.input c.in-MapFunction.function (c.args.count - 1) c.requires.stands e (subst (Hold c.args.lp.now c.args.node) more c.requires.hold) in
    let below : keeps_columns c.in-MapFunction.function ≡ true → names_of (columns_at c.args.lp.now ex c.in-MapFunction.input) ≡ c.if-keeps_columns.below = elim c.if-keeps_columns.branch [
      | then-keeps_columns+in_ok-below w ↦ λ keeps. sym (w.below-is ∙ w.in_ok-below.ensures ex)
      | else-keeps_columns w ↦ λ keeps. (let bad : keeps_columns c.in-MapFunction.function ≡ false = sym c.keeps_columns.ensures ∙ w.if-keeps_columns.false in cc)
    ] in
    is (columns_at c.args.lp.now ex c.in-MapFunction.input) below
    ∙ ap (λ (s : Columns). names_of s) (sym (holds.1 ex))) c.given_names.ensures

pub returns : goal.returns
returns t c = IfOk-weaker c.stored_names.result _ _ (λ names is. λ ex. is ∙ ap (λ (s : Columns). names_of s) (c.columns.ensures ∙ c.in_ok-stored.ensures.stored ex)) c.stored_names.ensures
