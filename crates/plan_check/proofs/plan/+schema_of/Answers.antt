use Rattle.std.proofs.Common.{◌≡◌, ◌∙◌, [], ◌∷◌, List, arith, rules, ap, sym, refl, subst, Result, Err}
use Rattle.std.proofs.lemmas.Option.{slice_get-get_or}
use Rattle.std.specs.List.{slice_get}
use Rattle.plan_core.specs.Columns.{Columns}
use Rattle.plan_core.specs.declared.arena.Node.{Node}
use Rattle.plan_core.specs.declared.error.PolarsError.{PolarsError}
use Rattle.plan_ir.specs.Plans.{plans_at}
use Rattle.plan_ir.specs.Parts.{inputs_of}
use Rattle.plan_ir.proofs.PlanLemmas.{plan_down}
use Rattle.plan_meaning.specs.Typed.{IsPlanTyped}
use Rattle.plan_check.proofs.InputLemmas.{typed-next, typed-end, fault-among}
use Rattle.plan_meaning.proofs.NodeExprs.{all_stand}
use Rattle.plan_check.proofs.TypedLemmas.{input_fault, node_answer}
use Rattle.plan_check.proofs.plan.+schema_of.Goals as goal

pub schema_of-requires : goal.schema_of-requires
schema_of-requires t c =
    let d : Node = record { 0 = 0 } in
    let are : c.as_slice-input-items.result.now ≡ inputs_of c.get-entry.result.now = search rules in
    let here = ap (λ (l : List Node). slice_get l c.loop-input.input-index) (sym are) ∙ slice_get-get_or c.as_slice-input-items.result.now c.loop-input.input-index d c.loop-input-test.true in
    let down = plan_down c.args.lp.now c.args.ex.now c.args.node c.get-entry.result.now c.requires c.get-entry.ensures.entry c.loop-input.input-index _ here in
    (omega (arith, down.0, c.decreases), down.1)

pub returns-in_err-schema_of : goal.returns-in_err-schema_of
returns-in_err-schema_of t c =
    let d : Node = record { 0 = 0 } in
    let ns : List Node = c.as_slice-input-items.result.now in
    let are : ns ≡ inputs_of c.get-entry.result.now = search rules in
    let f : PolarsError = c.in_err-schema_of.field-0.0 in
    let r : c.from_residual-in_err-schema_of.result ≡ Err f = search rules in
    let among = fault-among c.args.lp.now c.args.ex.now ns c.loop-input.input-index d c.loop-input.schemas c.loop-input.invariant c.loop-input-test.true f c.in_err-schema_of.ensures in
    let below = subst (λ (l : List Node). IsPlanTyped (Err f) (plans_at c.args.lp.now c.args.ex.now l)) are among in
    subst (λ (x : Result Columns PolarsError). IsPlanTyped x (plans_at c.args.lp.now c.args.ex.now (c.args.node ∷ []))) (sym r) (input_fault c.args.lp.now c.args.ex.now c.args.node c.get-entry.result.now c.requires c.get-entry.ensures.entry f below)

pub loop-input-preserved : goal.loop-input-preserved
loop-input-preserved t c =
    let d : Node = record { 0 = 0 } in
    rw c.in_ok-push.ensures.pushed (typed-next c.args.lp.now c.args.ex.now c.as_slice-input-items.result.now c.loop-input.input-index d c.loop-input.schemas c.loop-input.invariant c.loop-input-test.true c.in_ok-schema_of.field-0 c.in_ok-schema_of.ensures)

pub node_schema-requires-clause-exprs : goal.node_schema-requires-clause-exprs
node_schema-requires-clause-exprs t c = all_stand c.args.lp.now c.args.ex.now c.args.node c.get-entry.result.now _ c.requires c.get-entry.ensures.entry refl

pub returns : goal.returns
returns t c =
    let ns : List Node = c.as_slice-input-items.result.now in
    let are : ns ≡ inputs_of c.get-entry.result.now = search rules in
    let all = typed-end c.args.lp.now c.args.ex.now ns c.loop-input.input-index c.loop-input.schemas c.loop-input.invariant c.loop-input-test.false in
    let inputs = rw are at all in
    node_answer c.args.lp.now c.args.ex.now c.args.node c.get-entry.result.now c.requires c.get-entry.ensures.entry c.loop-input.schemas inputs.good inputs.are c.node_schema.result c.node_schema.ensures
