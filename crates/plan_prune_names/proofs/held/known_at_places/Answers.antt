use Rattle.std.proofs.Common.{arith, ◌+◌, ◌≡◌, ◌∙◌, ap, sym, subst, true, false, Bool, is_some, ℕ, List, Option, get_or}
use Rattle.std.proofs.lemmas.Option.{slice_get-get_or}
use Rattle.std.proofs.lemmas.List.Sorted.{IsNonDecreasingBy-from_sort}
use Rattle.plan_core.specs.declared.data_type.DataType.{DataType}
use Rattle.plan_expr.specs.Leaves.{Name}
use Rattle.plan_prune_names.specs.Known.{type_in}
use Rattle.plan_prune_names.proofs.PlaceSteps.{UpTo, up-add, up-end, up-fail, up-none, up-past}
use Rattle.plan_prune_names.proofs.held.known_at_places.Goals.{in-Some+then-is_some+in_ok-add, in-Some+else-is_some, in_default}
use Rattle.plan_prune_names.proofs.held.known_at_places.Goals as goal

pub loop-place-init : goal.loop-place-init
loop-place-init c =
    let test : Name → Bool = λ a. is_some (type_in c.args.columns.now a) in
    subst (λ (l : List Name). UpTo test c.args.names.now c.args.found.now l 0) (sym c.new-known.ensures) (up-none test c.args.names.now c.args.found.now)

pub loop-place-preserved : goal.loop-place-preserved
loop-place-preserved c =
    let test : Name → Bool = λ a. is_some (type_in c.args.columns.now a) in
    let found : List ℕ = c.args.found.now in
    let i = c.loop-place.place-index in
    let p : ℕ = get_or found i 0 in
    let here : _ = slice_get-get_or found i 0 c.loop-place-test.true in
    let rising = IsNonDecreasingBy-from_sort (λ (n : ℕ). n) found c.requires.rising in
    elim c.match-get_at_index.branch [
      | in-Some+then-is_some+in_ok-add w ↦
          (let good : test w.in-Some.name.now ≡ true = ap (λ (d : Option DataType). is_some d) (sym w.get.ensures) ∙ sym w.if-is_some.ensures in
          subst (λ (l : List Name). UpTo test c.args.names.now found l (c.loop-place.place-index + 1)) (sym (w.known-is ∙ w.in_ok-add.ensures.after))
          (up-add test c.args.names.now found rising c.requires.all c.loop-place.known i p here c.loop-place.invariant w.in-Some.name.now c.requires.distinct w.in-Some.ensures.found good))
      | in-Some+else-is_some w ↦
          (let bad : test w.in-Some.name.now ≡ false = ap (λ (d : Option DataType). is_some d) (sym w.get.ensures) ∙ sym w.if-is_some.ensures in
          subst (λ (l : List Name). UpTo test c.args.names.now found l (c.loop-place.place-index + 1)) (sym w.known-is)
          (up-fail test c.args.names.now found rising c.requires.all c.loop-place.known i p here c.loop-place.invariant w.in-Some.name.now w.in-Some.ensures.found bad))
      | in_default w ↦
          subst (λ (l : List Name). UpTo test c.args.names.now found l (c.loop-place.place-index + 1)) (sym w.known-is)
          (up-past test c.args.names.now found rising c.requires.all c.loop-place.known i p here c.loop-place.invariant w.in_default.ensures.none)
    ]

pub returns : goal.returns
returns c =
    up-end (λ (a : Name). is_some (type_in c.args.columns.now a)) c.args.names.now c.args.found.now (IsNonDecreasingBy-from_sort (λ (n : ℕ). n) c.args.found.now c.requires.rising) c.requires.all c.loop-place.known c.loop-place.place-index (omega (arith, c.loop-place-test.false)) c.loop-place.invariant
