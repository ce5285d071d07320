use Rattle.std.proofs.Common.{◌≡◌, ◌∙◌, ◌<◌, [], ◌∷◌, ap, sym, subst, map, length, get_or, Some, arith, List, ℕ}
use Rattle.std.specs.List.{slice_get}
use Rattle.std.proofs.lemmas.List.{map-append}
use Rattle.std.proofs.lemmas.Option.{slice_get-get_or}
use Rattle.std.proofs.lemmas.Result.{IfOk-weaker}
use Rattle.plan_core.specs.declared.arena.Node.{Node}
use Rattle.plan_tree.specs.Stands.{StandsOnce, Trees}
use Rattle.plan_tree.proofs.TreeLemmas.{StandsOnce-nth, height, nth, opened, tallest}
use Rattle.plan_ir.specs.declared.ir.IR.{IR}
use Rattle.plan_ir.specs.declared.ir.IR.TheVariants.{Union}
use Rattle.plan_ir.specs.Parts.{inputs_of, plan_shape}
use Rattle.plan_ir.specs.Plans.{bare, plans_at}
use Rattle.plan_meaning.specs.PlanAt.{plan_at}
use Rattle.plan_order_laws.specs.Counted.{counted_each, counted_scans}
use Rattle.plan_order.specs.Counts.{Adds, under_projection}
use Rattle.plan_order.proofs.CountLemmas.{adds-next, entry-within, falls-below, none-all, none-other, plan-is, stands-below, tall-at, tall-below, whole}
use Rattle.plan_order.proofs.scans.+scans.Goals as goal

-- an input, and the tree over it
at : (ns : List Node) (j : ℕ) → j < length ns → slice_get ns j ≡ Some (get_or ns j (record { 0 = 0 }))
at ns j l = slice_get-get_or ns j (record { 0 = 0 }) l

one : (lp : List IR) (ns : List Node) (j : ℕ) → j < length ns → ((f : Trees IR) × StandsOnce plan_shape lp ns f) → (t : Trees IR) × StandsOnce plan_shape lp (get_or ns j (record { 0 = 0 }) ∷ []) t
one lp ns j l f = (nth plan_shape f.0 j, StandsOnce-nth plan_shape lp ns f.0 j (get_or ns j (record { 0 = 0 })) f.1 (at ns j l))

pub add_each-get-requires : goal.add_each-get-requires
add_each-get-requires t c = entry-within c.args.lp.now (get_or c.args.inputs.now c.loop-input.input-index (record { 0 = 0 })) (one c.args.lp.now c.args.inputs.now c.loop-input.input-index c.loop-input-test.true c.requires)

pub add_each-add_scans-requires : goal.add_each-add_scans-requires
add_each-add_scans-requires t c =
    let i : Node = get_or c.args.inputs.now c.loop-input.input-index (record { 0 = 0 }) in
    let stand = one c.args.lp.now c.args.inputs.now c.loop-input.input-index c.loop-input-test.true c.requires in
    let e = c.get.ensures.entry in
    let low = falls-below c.args.lp.now i c.get.result.now stand e in
    let high = tall-at (height plan_shape (length c.args.lp.now) c.args.lp.now) c.args.inputs.now c.loop-input.input-index i (at c.args.inputs.now c.loop-input.input-index c.loop-input-test.true) in
    let same : c.under_projection-below.result ≡ under_projection i c.get.result.now = c.under_projection-below.ensures in
    rw same (omega (arith, low, high, c.decreases), stands-below c.args.lp.now i c.get.result.now stand e)

pub add_each-returns-then-not-branch-clause-none : goal.add_each-returns-then-not-branch-clause-none
add_each-returns-then-not-branch-clause-none t c = λ no ex.
    let i : Node = get_or c.args.inputs.now c.loop-input.input-index (record { 0 = 0 }) in
    none-all c.args.lp.now ex c.args.inputs.now c.loop-input.input-index i c.get.result.now (one c.args.lp.now c.args.inputs.now c.loop-input.input-index c.loop-input-test.true c.requires) c.get.ensures.entry (at c.args.inputs.now c.loop-input.input-index c.loop-input-test.true)
    (ap (λ (n : Node). counted_scans (plan_at c.args.lp.now ex n)) (sym c.under_projection-below.ensures) ∙ c.in_ok-add_scans.ensures.none c.if-not-branch.true ex)

pub add_each-loop-input-preserved : goal.add_each-loop-input-preserved
add_each-loop-input-preserved t c = λ ex.
    let i : Node = get_or c.args.inputs.now c.loop-input.input-index (record { 0 = 0 }) in
    adds-next c.args.lp.now ex c.args.inputs.now c.loop-input.input-index i c.get.result.now (map (λ q. (q.0.now, q.1)) c.args.found.now.items) (map (λ q. (q.0.now, q.1)) c.loop-input.found.items) (map (λ q. (q.0.now, q.1)) c.add_scans.new.found.items)
    (one c.args.lp.now c.args.inputs.now c.loop-input.input-index c.loop-input-test.true c.requires) c.get.ensures.entry (at c.args.inputs.now c.loop-input.input-index c.loop-input-test.true)
    (c.loop-input.invariant ex)
    (subst (λ (n : Node). Adds (counted_scans (plan_at c.args.lp.now ex n)) (map (λ q. (q.0.now, q.1)) c.loop-input.found.items) (map (λ q. (q.0.now, q.1)) c.add_scans.new.found.items)) c.under_projection-below.ensures (c.in_ok-add_scans.ensures.all c.if-not-branch.false ex))

pub add_each-returns-clause-all : goal.add_each-returns-clause-all
add_each-returns-clause-all t c = λ yes ex.
    subst (λ (ns : List Node). Adds (counted_each (bare (plans_at c.args.lp.now ex ns))) (map (λ q. (q.0.now, q.1)) c.args.found.now.items) (map (λ q. (q.0.now, q.1)) c.loop-input.found.items)) (whole c.args.inputs.now c.loop-input.input-index (omega (arith, c.loop-input-test.false))) (c.loop-input.invariant ex)

pub add_scans-add_each-requires : goal.add_scans-add_each-requires
add_scans-add_each-requires t c =
    let p : IR = Union c.in-Union.inputs c.in-Union.options in
    let e : slice_get c.args.lp.now c.args.node.0 ≡ Some p = c.get.ensures.entry ∙ ap Some c.in-Union.is in
    let o = opened plan_shape c.args.lp.now c.args.node p c.requires.0 c.requires.1 e in
    let low = tall-below c.args.lp.now c.args.node p c.requires e in
    let same : tallest plan_shape (height plan_shape (length c.args.lp.now) c.args.lp.now) c.as_slice.result.now ≡ tallest plan_shape (height plan_shape (length c.args.lp.now) c.args.lp.now) c.in-Union.inputs = ap (tallest plan_shape (height plan_shape (length c.args.lp.now) c.args.lp.now)) c.as_slice.ensures in
    (omega (arith, low, same, c.decreases), (o.kids, subst (λ (ns : List Node). StandsOnce plan_shape c.args.lp.now ns o.kids) (sym c.as_slice.ensures) o.inputs))

pub add_scans-returns-in_ok-push-in-Scan-clause-all : goal.add_scans-returns-in_ok-push-in-Scan-clause-all
add_scans-returns-in_ok-push-in-Scan-clause-all t c = λ yes ex. (
  (c.in-Scan.sources, c.in-Scan.scan_type) ∷ [],
  ap counted_scans (plan-is c.args.lp.now ex c.args.node _ c.requires (c.get.ensures.entry ∙ ap Some c.in-Scan.is)),
  ap (map (λ q. (q.0.now, q.1))) c.in_ok-push-in-Scan.ensures.items ∙ map-append (λ q. (q.0.now, q.1)) c.args.found.now.items _,
)

pub add_scans-returns-in-Union-clause-all : goal.add_scans-returns-in-Union-clause-all
add_scans-returns-in-Union-clause-all t c = IfOk-weaker c.add_each.result _ _ (λ all is. λ yes ex.
    subst (λ (o : _). Adds o (map (λ q. (q.0.now, q.1)) c.args.found.now.items) (map (λ q. (q.0.now, q.1)) c.add_each.new.found.items))
    (ap (λ (ns : List Node). counted_each (bare (plans_at c.args.lp.now ex ns))) c.as_slice.ensures
    ∙ sym (ap counted_scans (plan-is c.args.lp.now ex c.args.node (Union c.in-Union.inputs c.in-Union.options) c.requires (c.get.ensures.entry ∙ ap Some c.in-Union.is))))
    (is yes ex)) c.add_each.ensures.all

pub add_scans-returns-in-Union-clause-none : goal.add_scans-returns-in-Union-clause-none
add_scans-returns-in-Union-clause-none t c = IfOk-weaker c.add_each.result _ _ (λ all is. λ no ex.
    ap counted_scans (plan-is c.args.lp.now ex c.args.node (Union c.in-Union.inputs c.in-Union.options) c.requires (c.get.ensures.entry ∙ ap Some c.in-Union.is))
    ∙ ap (λ (ns : List Node). counted_each (bare (plans_at c.args.lp.now ex ns))) (sym c.as_slice.ensures)
    ∙ is no ex) c.add_each.ensures.none

pub add_scans-returns-in_default : goal.add_scans-returns-in_default
add_scans-returns-in_default t c = record {
  all = λ yes. cc;
  none = λ no ex.
      ap counted_scans (plan-is c.args.lp.now ex c.args.node c.get.result.now c.requires c.get.ensures.entry)
      ∙ none-other ex c.get.result.now (bare (plans_at c.args.lp.now ex (inputs_of c.get.result.now))) c.in_default.not-Scan c.in_default.not-Union;
}
