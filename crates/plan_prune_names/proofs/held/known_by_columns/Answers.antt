use Rattle.std.proofs.Common.{subst, sym, ℕ, List}
use Rattle.std.specs.List.Sorted.{IsPermutation}
use Rattle.plan_expr.specs.Leaves.{Name}
use Rattle.plan_core.specs.Columns.{names_of}
use Rattle.plan_prune_names.specs.Places.{places_in}
use Rattle.plan_prune_names.proofs.PlaceSteps.{all-found}
use Rattle.plan_prune_names.proofs.held.known_by_columns.Goals as goal

pub known_at_places-requires-clause-all : goal.known_at_places-requires-clause-all
known_at_places-requires-clause-all c =
    all-found c.args.names.now c.args.columns.now c.as_slice.result.now c.requires.distinct
    (subst (λ (ps : List ℕ). IsPermutation (places_in c.args.names.now (names_of c.args.columns.now.types)) ps) (sym c.as_slice.ensures.value)
    (subst (λ (ns : List Name). IsPermutation (places_in ns (names_of c.args.columns.now.types)) c.in_ok-found.found.items) c.requires.places c.in_ok-found.ensures.found))
