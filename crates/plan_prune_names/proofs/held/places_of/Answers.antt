use Rattle.std.proofs.Common.{◌∙◌, ◌++◌, ap, subst, ℕ, List}
use Rattle.std.specs.List.Sorted.{IsPermutation}
use Rattle.plan_core.specs.Columns.{names_of}
use Rattle.plan_prune_names.specs.Places.{places_in}
use Rattle.plan_prune_names.proofs.held.places_of.Goals as goal

pub returns-clause-found : goal.returns-clause-found
returns-clause-found c =
    subst (λ (ps : List ℕ). IsPermutation ps c.sort_unstable.new.self.items)
    (c.in_ok-add_places.ensures
    ∙ ap (λ (ps : List ℕ). ps ++ places_in c.args.places.now (names_of c.args.columns.now.types)) c.new-found.ensures.items)
    c.sort_unstable.ensures.permutation
