use Rattle.std.proofs.Common.{◌≡◌, ◌<◌, ◌∙◌, List, [], ◌∷◌, Some, get_or, length, refl, sym, subst, arith}
use Rattle.std.specs.Prelude.{IsTrue}
use Rattle.std.proofs.lemmas.List.{take_all}
use Rattle.std.proofs.lemmas.Option.{slice_get-get_or}
use Rattle.plan_core.specs.declared.arena.Node.{Node}
use Rattle.plan_tree.proofs.TreeLemmas.{height-falls, StandsOnce-input}
use Rattle.plan_ir.specs.Parts.{inputs_of, plan_shape}
use Rattle.plan_ir.specs.Plans.{bare, op_at, plans_at}
use Rattle.plan_ir.proofs.PlanLemmas.{plan_down}
use Rattle.plan_meaning.specs.Contents.{FitsAll}
use Rattle.plan_fit.specs.Fitting.{TablesFit}
use Rattle.plan_fit.specs.Sources.{contents_of}
use Rattle.plan_fit.proofs.FitLemmas.{plan-fits, node-fits, inputs-fit, plan-frames}
use Rattle.plan_fit.proofs.FormedLemmas.{node-frames}
use Rattle.plan_fit.proofs.SideLemmas.{fit-next, frames-next, one-fit}
use Rattle.plan_fit.proofs.fitting.+are_met.Goals as goal

pub returns-then-not-is_met-clause-met : goal.returns-then-not-is_met-clause-met
returns-then-not-is_met-clause-met t c ex h =
    (λ b. cc, λ f. subst IsTrue c.if-not-is_met.true ((c.is_met.ensures.met ex).1 (node-fits c.args.lp.now ex c.args.node c.get-entry.result.now h c.get-entry.ensures.entry c.args.tables.now f)))

pub loop-place-init : goal.loop-place-init
loop-place-init t c ex h = (tt, tt)

option_same : {n m : Node} → Some n ≡ Some m → n ≡ m
option_same e = cc

pub are_met-requires : goal.are_met-requires
are_met-requires t c =
    let here = c.input_at.ensures in
    let falls = height-falls plan_shape c.args.lp.now c.args.node c.input_at.result c.get-entry.result.now c.requires.0 c.loop-place.place c.requires.1 c.get-entry.ensures.entry here in
    (omega (arith, falls, c.decreases), StandsOnce-input plan_shape c.args.lp.now c.args.node c.input_at.result c.get-entry.result.now c.loop-place.place c.requires c.get-entry.ensures.entry here)

pub returns-then-not-are_met-clause-met : goal.returns-then-not-are_met-clause-met
returns-then-not-are_met-clause-met t c ex h =
    let d : Node = c.input_at.result in
    let lp = c.args.lp.now in
    let ts = c.args.tables.now in
    let p = c.get-entry.result.now in
    let entry = c.get-entry.ensures.entry in
    let i = c.loop-place.place in
    let ns : List Node = inputs_of p in
    let lt : i < length ns = omega arith in
    let here : get_or ns i d ≡ d = option_same (sym (slice_get-get_or ns i d lt) ∙ c.input_at.ensures) in
    let below = (plan_down lp ex c.args.node p h entry i d c.input_at.ensures).1 in (
      λ b. cc,
      λ f.
          subst IsTrue c.if-not-are_met.true ((c.are_met.ensures.met ex below).1
          (subst (λ (n : Node). TablesFit ts (plans_at lp ex (n ∷ []))) here (one-fit lp ex ns i d lt ts (inputs-fit lp ex c.args.node p h entry ts f)))),
    )

pub loop-place-preserved : goal.loop-place-preserved
loop-place-preserved t c ex h =
    let d : Node = c.input_at.result in
    let lp = c.args.lp.now in
    let ts = c.args.tables.now in
    let p = c.get-entry.result.now in
    let i = c.loop-place.place in
    let ns : List Node = inputs_of p in
    let lt : i < length ns = omega arith in
    let here : d ≡ get_or ns i d = option_same (sym c.input_at.ensures ∙ slice_get-get_or ns i d lt) in
    let below = (plan_down lp ex c.args.node p h c.get-entry.ensures.entry i d c.input_at.ensures).1 in
    let yes : IsTrue c.are_met.result = subst IsTrue (sym c.if-not-are_met.false) refl in
    let before = c.loop-place.invariant ex h in (
      fit-next lp ex ns i d lt ts before.0 (subst (λ (n : Node). TablesFit ts (plans_at lp ex (n ∷ []))) here ((c.are_met.ensures.met ex below).0 yes)),
      frames-next lp ex ns i d lt (contents_of ts) before.1 (subst (λ (n : Node). FitsAll (contents_of ts) (bare (plans_at lp ex (n ∷ [])))) here (c.are_met.ensures.frames ex below yes)),
    )

pub returns-clause-met : goal.returns-clause-met
returns-clause-met t c ex h =
    let lp = c.args.lp.now in
    let ts = c.args.tables.now in
    let p = c.get-entry.result.now in
    let ns : List Node = inputs_of p in
    let all = take_all c.loop-place.place ns (omega arith) in (
      λ b.
          plan-fits lp ex c.args.node p h c.get-entry.ensures.entry ts ((c.is_met.ensures.met ex).0 (subst IsTrue (sym c.if-not-is_met.false) refl))
          (subst (λ (l : List Node). TablesFit ts (plans_at lp ex l)) all (c.loop-place.invariant ex h).0),
      λ f. refl,
    )

pub returns-clause-frames : goal.returns-clause-frames
returns-clause-frames t c ex h b =
    let lp = c.args.lp.now in
    let ts = c.args.tables.now in
    let p = c.get-entry.result.now in
    let ns : List Node = inputs_of p in
    let all = take_all c.loop-place.place ns (omega arith) in
    let yes : IsTrue c.is_met.result = subst IsTrue (sym c.if-not-is_met.false) refl in
    plan-frames lp ex c.args.node p h c.get-entry.ensures.entry ts (contents_of ts) (node-frames ts (op_at ex p) ((c.is_met.ensures.met ex).0 yes) (c.is_met.ensures.formed ex yes))
    (subst (λ (l : List Node). FitsAll (contents_of ts) (bare (plans_at lp ex l))) all (c.loop-place.invariant ex h).1)
