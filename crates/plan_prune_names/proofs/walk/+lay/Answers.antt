use Rattle.std.proofs.Common.{◌≡◌, ◌∙◌, [], ◌∷◌, ap, sym, subst, refl, arith, Some}
use Rattle.std.specs.List.{slice_get}
use Rattle.std.proofs.lemmas.Result.{on_ok_weaker}
use Rattle.plan_core.specs.Columns.{Columns, type_of}
use Rattle.plan_tree.proofs.TreeLemmas.{height-falls, StandsOnce-input}
use Rattle.plan_ir.specs.declared.ir.IR.{IR}
use Rattle.plan_ir.specs.declared.ir.IR.TheVariants.{MapFunction}
use Rattle.plan_ir.specs.Parts.{plan_shape}
use Rattle.plan_ir.specs.Plans.{bare, plans_at}
use Rattle.plan_prune_names.specs.Known.{Lays}
use Rattle.plan_prune_names.proofs.KnownLemmas.{lays-shown, lays-stored, plans-open, shown-first}
use Rattle.plan_prune_names.proofs.walk.+lay.Goals as goal

pub lay-requires : goal.lay-requires
lay-requires t c =
    let e = c.get-entry.ensures.entry in
    let first = shown-first c.get-entry.result.now c.in-Some.input (sym c.in-Some.ensures) in
    let falls = height-falls plan_shape c.args.lp.now c.args.node c.in-Some.input c.get-entry.result.now c.requires.0 0 c.requires.1 e first in
    (omega (arith, falls, c.decreases), StandsOnce-input plan_shape c.args.lp.now c.args.node c.in-Some.input c.get-entry.result.now 0 c.requires e first)

pub returns-in-Some : goal.returns-in-Some
returns-in-Some t c = on_ok_weaker c.lay.result (λ h. λ ex.
    lays-shown c.lay.new.columns c.args.lp.now ex c.args.node c.in-Some.input c.get-entry.result.now c.requires c.get-entry.ensures.entry (sym c.in-Some.ensures) (h ex)) c.lay.ensures

pub lay-requires-in-MapFunction : goal.lay-requires-in-MapFunction
lay-requires-in-MapFunction t c =
    let p : IR = MapFunction c.in-MapFunction.input c.in-MapFunction.function in
    let e : slice_get c.args.lp.now c.args.node.0 ≡ Some p = c.get-entry.ensures.entry ∙ ap Some c.in-MapFunction.is in
    let falls = height-falls plan_shape c.args.lp.now c.args.node c.in-MapFunction.input p c.requires.0 0 c.requires.1 e refl in
    (omega (arith, falls, c.decreases), StandsOnce-input plan_shape c.args.lp.now c.args.node c.in-MapFunction.input p 0 c.requires e refl)

pub returns-then-branch : goal.returns-then-branch
returns-then-branch t c = λ ex.
    let p : IR = MapFunction c.in-MapFunction.input c.in-MapFunction.function in
    let e : slice_get c.args.lp.now c.args.node.0 ≡ Some p = c.get-entry.ensures.entry ∙ ap Some c.in-MapFunction.is in
    subst (Lays c.rise.new.columns) (sym (plans-open c.args.lp.now ex c.args.node p c.requires e))
    (c.in_ok-rise.ensures c.if-branch.true (bare (plans_at c.args.lp.now ex (c.in-MapFunction.input ∷ []))) (c.in_ok-lay.ensures ex))

pub returns : goal.returns
returns t c = on_ok_weaker c.restart.result (λ h. λ ex.
    lays-stored c.restart.new.self c.args.lp.now ex c.args.node c.get-entry.result.now c.requires c.get-entry.ensures.entry (sym c.input_shown.ensures ∙ c.in_default.is) h.2
    (λ a. h.0 a ∙ ap (λ (s : Columns). type_of s a) (c.columns.ensures ∙ c.in_ok-stored.ensures.stored ex))) c.restart.ensures
