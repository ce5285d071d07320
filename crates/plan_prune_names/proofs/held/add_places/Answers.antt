use Rattle.std.proofs.Common.{◌∙◌, ◌++◌, ◌∷◌, [], ap, arith, ℕ, List}
use Rattle.plan_core.specs.declared.data_type.DataType.{DataType}
use Rattle.plan_expr.specs.Leaves.{Name}
use Rattle.plan_prune_names.specs.Places.{places_in}
use Rattle.plan_prune_names.proofs.PlaceSteps.{named_past, places-next}
use Rattle.plan_prune_names.proofs.held.add_places.Goals.{in-Some+in_ok-add_place, in_default}
use Rattle.plan_prune_names.proofs.held.add_places.Goals as goal

pub loop-i-preserved : goal.loop-i-preserved
loop-i-preserved c =
    elim c.match-name_at.branch [
      | in-Some+in_ok-add_place w ↦
          ap (λ (v : _). v.items) w.found-is
          ∙ w.in_ok-add_place.ensures
          ∙ ap (λ (ps : List ℕ). ps ++ places_in c.args.places.now (w.in-Some.name.now ∷ [])) c.loop-i.invariant
          ∙ places-next (λ (c : Name × DataType). c.0) c.args.places.now c.args.columns.now.types c.loop-i.i w.in-Some.name.now c.args.found.now.items w.in-Some.ensures.found
      | in_default w ↦ absurd (named_past (λ (c : Name × DataType). c.0) c.args.columns.now.types c.loop-i.i w.in_default.ensures.none (omega (arith, c.loop-i-test.true, c.len-i-end.ensures)))
    ]
