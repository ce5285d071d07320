-- The first expression that decides a name.
use Rattle.std.proofs.Common.{◌≡◌, ℕ, ◌+◌, ◌<◌, ◌≤◌, List, [], ◌∷◌, ◌++◌, Option, Some, None, take, length, refl, ap, sym, ◌∙◌, arith}
use Rattle.std.specs.List.{slice_get, flat_map, filter_map}
use Rattle.std.proofs.lemmas.List.{take_all}
use Rattle.std.proofs.lemmas.List.Elements.{filter_map-append}
use denote.Param.Weighed.{most}
use Rattle.plan_dsl.specs.declared.expr.Expr.{Expr, size-Expr}
use Rattle.plan_dsl.specs.declared.expr.Expr.TheVariants.{Window'}
use Rattle.plan_dsl.specs.declared.output_name.Naming.{Naming}
use Rattle.plan_dsl.specs.declared.output_name.Naming.TheVariants.{Open, Named, Nameless}
use Rattle.plan_dsl.specs.Naming.{said}
use Rattle.plan_dsl.specs.Names.{named_parts, decision}
use Rattle.plan_dsl.specs.Walks.{walk_by}
use Rattle.plan_dsl.proofs.SizeLemmas.{children_below}
use Rattle.plan_dsl.proofs.WalkLemmas.{walk-is}
use Rattle.plan_expr.proofs.ListLemmas.{flat_map-next}
use Rattle.plan_dsl.proofs.ListLemmas.{flat_map-split, first_stays, none_first}

-- those that may decide a name are less deep
pub named_below : (e : Expr) → most size-Expr (named_parts e) < size-Expr e
named_below (Window' p function s partition_by) = omega (arith, children_below (Window' p function s partition_by))
named_below e = children_below e

-- those that are looked at for a name, in order
abbrev looked_at : Expr → List Expr
looked_at = walk_by named_parts

-- what is decided before a place of the parts
abbrev pub decided_before : Expr → ℕ → List (Option (List ℕ))
decided_before e i = filter_map decision (e ∷ flat_map (walk_by named_parts) (take i (named_parts e)))

-- nothing was decided yet, and nothing is by the next part
pub undecided_next : (e c : Expr) (i : ℕ) → slice_get (named_parts e) i ≡ Some c → decided_before e i ≡ [] → slice_get (filter_map decision (walk_by named_parts c)) 0 ≡ None → decided_before e (i + 1) ≡ []
undecided_next e c i there none open_ =
    let more : e ∷ flat_map looked_at (take (i + 1) (named_parts e)) ≡ (e ∷ flat_map looked_at (take i (named_parts e))) ++ looked_at c = ap (λ (xs : List Expr). e ∷ xs) (flat_map-next looked_at (named_parts e) i c there) in
    ap (filter_map decision) more
    ∙ filter_map-append decision (e ∷ flat_map looked_at (take i (named_parts e))) (looked_at c)
    ∙ ap (λ (ds : List (Option (List ℕ))). ds ++ filter_map decision (looked_at c)) none
    ∙ none_first (filter_map decision (looked_at c)) open_

-- nothing was decided yet, and the next part decides
pub decided_next : (e c : Expr) (i : ℕ) (d : Option (List ℕ)) → slice_get (named_parts e) i ≡ Some c → decided_before e i ≡ [] → slice_get (filter_map decision (walk_by named_parts c)) 0 ≡ Some d → slice_get (filter_map decision (walk_by named_parts e)) 0 ≡ Some d
decided_next e c i d there none found =
    let parts = flat_map-split looked_at (named_parts e) i c there in
    let whole : looked_at e ≡ (e ∷ flat_map looked_at (take i (named_parts e))) ++ (looked_at c ++ parts.0) = walk-is named_parts named_below e ∙ ap (λ (xs : List Expr). e ∷ xs) parts.1 in
    let all : filter_map decision (looked_at e) ≡ filter_map decision (looked_at c) ++ filter_map decision parts.0 =
    ap (filter_map decision) whole
    ∙ filter_map-append decision (e ∷ flat_map looked_at (take i (named_parts e))) (looked_at c ++ parts.0)
    ∙ ap (λ (ds : List (Option (List ℕ))). ds ++ filter_map decision (looked_at c ++ parts.0)) none
    ∙ filter_map-append decision (looked_at c) parts.0 in
    ap (λ (ds : List (Option (List ℕ))). slice_get ds 0) all ∙ first_stays (filter_map decision (looked_at c)) (filter_map decision parts.0) d found

-- nothing was decided by any part
pub undecided_end : (e : Expr) (i : ℕ) → length (named_parts e) ≤ i → decided_before e i ≡ [] → slice_get (filter_map decision (walk_by named_parts e)) 0 ≡ None
undecided_end e i past none =
    let whole : looked_at e ≡ e ∷ flat_map looked_at (take i (named_parts e)) = walk-is named_parts named_below e ∙ ap (λ (ps : List Expr). e ∷ flat_map looked_at ps) (sym (take_all i (named_parts e) past)) in
    ap (λ (ds : List (Option (List ℕ))). slice_get ds 0) (ap (filter_map decision) whole ∙ none)

-- the expression itself decides
pub decided_here : (e : Expr) (d : Option (List ℕ)) → decision e ≡ Some d → slice_get (filter_map decision (walk_by named_parts e)) 0 ≡ Some d
decided_here e d says = ap (λ (xs : List Expr). slice_get (filter_map decision xs) 0) (walk-is named_parts named_below e) ∙ rw says refl

-- what isn't open is decided
pub naming_decides : (n : Naming) → (n ≡ Open → ⊥) → (d : Option (List ℕ)) × (said n ≡ Some d)
naming_decides Open shut = absurd (shut refl)
naming_decides (Named name) shut = (Some name.now, refl)
naming_decides Nameless shut = (None, refl)
