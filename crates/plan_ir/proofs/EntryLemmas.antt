-- The entries at numbers of an arena.
use Rattle.std.proofs.Common.{◌≡◌, ℕ, ◌+◌, ◌<◌, List, [], ◌∷◌, ◌++◌, length, map, take, get_or, Option, Some, refl, ap, ap₂, ◌∙◌, append-nil}
use Rattle.std.specs.List.{cons_option, flat_map, slice_get}
use Rattle.std.proofs.lemmas.List.{map-append, take_more}
use Rattle.std.proofs.lemmas.List.Elements.{filter_map-append}
use Rattle.std.proofs.lemmas.Grind.{flat_map-append}
use Rattle.plan_core.specs.declared.arena.Node.{Node}
use Rattle.plan_tree.specs.declared.walking.Step.{Step}
use Rattle.plan_tree.specs.Rose.{rose, no_roses, more, labels, items}
use Rattle.plan_tree.specs.Stands.{Shape, Trees, Stands}
use Rattle.plan_tree.specs.Walk.{steps_to}
use Rattle.plan_ir.specs.Moved.{entries_at}

module _ {P : Type 0} where
  pub entries_at-append : (arena : List P) (ns ms : List Node) → entries_at arena (ns ++ ms) ≡ entries_at arena ns ++ entries_at arena ms
  entries_at-append arena ns ms = filter_map-append (λ (n : Node). slice_get arena n.0) ns ms

  -- the entry of one number
  pub entries_at-one : (arena : List P) (n : Node) (p : P) → slice_get arena n.0 ≡ Some p → entries_at arena (n ∷ []) ≡ p ∷ []
  entries_at-one arena n p e = ap (λ (o : Option P). cons_option o []) e

  -- the entry of one number more
  pub entries_at-more : (arena : List P) (ns : List Node) (i : ℕ) (d : Node) (p : P) → i < length ns → slice_get arena (get_or ns i d).0 ≡ Some p → entries_at arena (take (i + 1) ns) ≡ entries_at arena (take i ns) ++ p ∷ []
  entries_at-more arena ns i d p lt e =
      ap (entries_at arena) (take_more ns i d lt)
      ∙ entries_at-append arena (take i ns) (get_or ns i d ∷ [])
      ∙ ap (λ (l : List P). entries_at arena (take i ns) ++ l) (entries_at-one arena (get_or ns i d) p e)

  -- the copy of one entry more
  pub map-entries_at-more : {Q : Type 0} (g : P → Q) (arena : List P) (ns : List Node) (i : ℕ) (d : Node) (p : P) → i < length ns → slice_get arena (get_or ns i d).0 ≡ Some p → map g (entries_at arena (take (i + 1) ns)) ≡ map g (entries_at arena (take i ns)) ++ g p ∷ []
  map-entries_at-more g arena ns i d p lt e = ap (map g) (entries_at-more arena ns i d p lt e) ∙ map-append g (entries_at arena (take i ns)) (p ∷ [])

  -- the entries at the labels of trees are their items
  pub entries_at-labels : (S : Shape P) (lp : List P) (ns : List Node) (f : Trees P) → Stands S lp ns f → entries_at lp (labels f) ≡ items f
  entries_at-labels S lp [] no_roses s = refl
  entries_at-labels S lp [] (more (rose n p kids) rest) s = absurd s
  entries_at-labels S lp (m ∷ ns) no_roses s = absurd s
  entries_at-labels S lp (m ∷ ns) (more (rose n p kids) rest) s =
      let here : slice_get lp n.0 ≡ Some p = rw (← s.0) s.1 in
      ap₂ cons_option here
      (entries_at-append lp (labels kids) (labels rest)
      ∙ ap₂ (λ (x y : List P). x ++ y) (entries_at-labels S lp (S.inputs p) kids s.3) (entries_at-labels S lp ns rest s.4))

-- steps to what one entry more names
pub steps-entries_at-more : {P W : Type 0} (w : W) (names : P → List Node) (arena : List P) (ns : List Node) (i : ℕ) (d : Node) (p : P) → i < length ns → slice_get arena (get_or ns i d).0 ≡ Some p → steps_to w (flat_map names (entries_at arena (take (i + 1) ns))) ≡ steps_to w (flat_map names (entries_at arena (take i ns))) ++ steps_to w (names p)
steps-entries_at-more {W = W} w names arena ns i d p lt e =
    ap (λ l. steps_to w (flat_map names l)) (entries_at-more arena ns i d p lt e)
    ∙ ap (steps_to w) (flat_map-append names (entries_at arena (take i ns)) (p ∷ []) ∙ ap (λ (l : List Node). flat_map names (entries_at arena (take i ns)) ++ l) (append-nil (names p)))
    ∙ map-append (λ (n : Node). let s : Step W = record { node = n; mark = w } in s) (flat_map names (entries_at arena (take i ns))) (names p)
