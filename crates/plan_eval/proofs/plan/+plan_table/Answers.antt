use Rattle.std.proofs.Common.{◌≡◌, ◌<◌, ◌∙◌, Some, get_or, [], ◌∷◌, List, arith, refl, sym, subst, length, length-append}
use Rattle.std.proofs.lemmas.Option.{slice_get-get_or}
use Rattle.plan_core.specs.declared.arena.Node.{Node}
use Rattle.plan_core.specs.Columns.{Columns}
use Rattle.plan_ir.specs.Parts.{exprs_of, inputs_of}
use Rattle.plan_ir.specs.Plans.{bare, op_at, plans_at}
use Rattle.plan_ir.proofs.PlanLemmas.{plan_down}
use Rattle.plan_meaning.specs.Contents.{FitsAll}
use Rattle.plan_meaning.specs.Typing.{AllHold, AllValid, checks}
use Rattle.plan_meaning.proofs.NodeExprs.{all_stand}
use Rattle.plan_function_tables.specs.Given.{GiveAll}
use Rattle.plan_fit.specs.Sources.{contents_of}
use Rattle.plan_eval.proofs.PlanLemmas.{given-rows, inputs-frames, plan-gives, node-valid, inputs-valid}
use Rattle.plan_fit.proofs.SideLemmas.{one-frames}
use Rattle.plan_eval.proofs.GivenLemmas.{give-end, give-next, one-valid}
use Rattle.plan_eval.proofs.plan.+plan_table.Goals as goal

option_same : {n m : Node} → Some n ≡ Some m → n ≡ m
option_same e = cc

pub plan_table-requires : goal.plan_table-requires
plan_table-requires t c =
    let d : Node = c.input_at.result in
    let lp = c.args.lp.now in
    let ex = c.args.ex.now in
    let p = c.get-entry.result.now in
    let entry = c.get-entry.ensures.entry in
    let i = c.loop-place.place in
    let ns : List Node = inputs_of p in
    let lt : i < length ns = omega arith in
    let here : get_or ns i d ≡ d = option_same (sym (slice_get-get_or ns i d lt) ∙ c.input_at.ensures) in
    let down = plan_down lp ex c.args.node p c.requires.stands entry i d c.input_at.ensures in
    let valid = inputs-valid lp ex c.args.node p c.requires.stands entry c.requires.valid in
    let frames = inputs-frames lp ex c.args.node p c.requires.stands entry (contents_of c.args.tables.now) c.requires.fits in (
      omega (arith, down.0, c.decreases),
      (
        down.1,
        (
          subst (λ (n : Node). AllValid (plans_at lp ex (n ∷ []))) here (one-valid lp ex ns i d lt valid),
          subst (λ (n : Node). FitsAll (contents_of c.args.tables.now) (bare (plans_at lp ex (n ∷ [])))) here (one-frames lp ex ns i d lt (contents_of c.args.tables.now) frames),
        ),
      ),
    )

pub loop-place-preserved : goal.loop-place-preserved
loop-place-preserved t c =
    let d : Node = c.input_at.result in
    let lp = c.args.lp.now in
    let ex = c.args.ex.now in
    let ts = c.args.tables.now in
    let i = c.loop-place.place in
    let ns : List Node = inputs_of c.get-entry.result.now in
    let lt : i < length ns = omega arith in
    let here : d ≡ get_or ns i d = option_same (sym c.input_at.ensures ∙ slice_get-get_or ns i d lt) in
    let given = c.loop-place.given.items in
    let table = c.in_ok-plan_table.field-0 in
    let longer = length-append given (table ∷ []) in
    let this = subst (λ (n : Node). GiveAll ts (plans_at lp ex (n ∷ [])) (table ∷ [])) here c.in_ok-plan_table.ensures in
    rw c.in_ok-push.ensures.items (
      give-next lp ex ns i d lt ts given table c.loop-place.invariant.0 this,
      omega (arith, longer, c.loop-place.invariant.1),
    )

pub node_table-requires-clause-each : goal.node_table-requires-clause-each
node_table-requires-clause-each t c = omega (arith, c.loop-place.invariant.1)

pub node_table-requires-clause-stand : goal.node_table-requires-clause-stand
node_table-requires-clause-stand t c = all_stand c.args.lp.now c.args.ex.now c.args.node c.get-entry.result.now (exprs_of c.get-entry.result.now) c.requires.stands c.get-entry.ensures.entry refl

pub node_table-requires-clause-valid : goal.node_table-requires-clause-valid
node_table-requires-clause-valid t c =
    let lp = c.args.lp.now in
    let ex = c.args.ex.now in
    let p = c.get-entry.result.now in
    let below = give-end lp ex c.args.tables.now (inputs_of p) c.loop-place.place c.loop-place.given.items c.loop-place.invariant.0 (omega arith) in
    subst (λ (ss : List Columns). AllHold (checks (op_at ex p) ss)) (sym below.types) (node-valid lp ex c.args.node p c.requires.stands c.get-entry.ensures.entry c.requires.valid)

pub node_table-requires-clause-rows : goal.node_table-requires-clause-rows
node_table-requires-clause-rows t c =
    let lp = c.args.lp.now in
    let ex = c.args.ex.now in
    let p = c.get-entry.result.now in
    let entry = c.get-entry.ensures.entry in
    let below = give-end lp ex c.args.tables.now (inputs_of p) c.loop-place.place c.loop-place.given.items c.loop-place.invariant.0 (omega arith) in
    given-rows c.args.tables.now (plans_at lp ex (inputs_of p)) c.loop-place.given.items (inputs-valid lp ex c.args.node p c.requires.stands entry c.requires.valid) (inputs-frames lp ex c.args.node p c.requires.stands entry (contents_of c.args.tables.now) c.requires.fits) below

pub returns : goal.returns
returns t c =
    let lp = c.args.lp.now in
    let ex = c.args.ex.now in
    let p = c.get-entry.result.now in
    let below = give-end lp ex c.args.tables.now (inputs_of p) c.loop-place.place c.loop-place.given.items c.loop-place.invariant.0 (omega arith) in
    plan-gives lp ex c.args.node p c.requires.stands c.get-entry.ensures.entry c.args.tables.now c.loop-place.given.items c.in_ok-node_table.field-0 below c.in_ok-node_table.ensures
