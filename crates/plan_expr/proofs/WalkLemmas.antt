-- The entries of a walk, each with its number.
use Rattle.std.proofs.Common.{◌≡◌, ℕ, ◌+◌, ◌<◌, All, List, [], ◌∷◌, ◌++◌, length, take, get_or, Option, Some, option_map, sym, ap, ap₂, refl, ◌∙◌}
use Rattle.std.specs.List.{AllByRecursion, cons_option, slice_get}
use Rattle.std.proofs.lemmas.List.{take_more}
use Rattle.std.proofs.lemmas.List.Elements.{All-from_recursion, filter_map-append}
use Rattle.std.proofs.lemmas.Option.{slice_get_within}
use Rattle.plan_core.specs.declared.arena.Node.{Node}
use Rattle.plan_tree.specs.Rose.{rose, no_roses, more, labels}
use Rattle.plan_tree.specs.Stands.{Shape, Trees, Stands}
use Rattle.plan_expr.specs.Walks.{numbered, numbered_at}

all_append : {A : Type 0} (P : A → Type 0) (xs ys : List A) → AllByRecursion P xs → AllByRecursion P ys → AllByRecursion P (xs ++ ys)
all_append P [] ys a b = b
all_append P (x ∷ xs) ys a b = (a.0, all_append P xs ys a.1 b)

module _ {P : Type 0} where
  -- what the look-up of a number gives
  abbrev found : List P → Node → Option (Node × P)
  found arena n = option_map (λ (p : P). (n, p)) (slice_get arena n.0)

  numbered_at-append : (arena : List P) (ns ms : List Node) → numbered_at arena (ns ++ ms) ≡ numbered_at arena ns ++ numbered_at arena ms
  numbered_at-append arena ns ms = filter_map-append (found arena) ns ms

  -- one number more
  pub numbered_at-more : (arena : List P) (ns : List Node) (i : ℕ) (d : Node) (p : P) → i < length ns → slice_get arena (get_or ns i d).0 ≡ Some p → numbered_at arena (take (i + 1) ns) ≡ numbered_at arena (take i ns) ++ (get_or ns i d, p) ∷ []
  numbered_at-more arena ns i d p lt e =
      ap (numbered_at arena) (take_more ns i d lt)
      ∙ numbered_at-append arena (take i ns) (get_or ns i d ∷ [])
      ∙ ap (λ (o : Option P). numbered_at arena (take i ns) ++ cons_option (option_map (λ (q : P). (get_or ns i d, q)) o) []) e

  -- what stands at the numbers of trees, in walk order
  pub numbered_at-labels : (S : Shape P) (lp : List P) (ns : List Node) (f : Trees P) → Stands S lp ns f → numbered_at lp (labels f) ≡ numbered f
  numbered_at-labels S lp [] no_roses s = refl
  numbered_at-labels S lp [] (more (rose n p kids) rest) s = absurd s
  numbered_at-labels S lp (m ∷ ns) no_roses s = absurd s
  numbered_at-labels S lp (m ∷ ns) (more (rose n p kids) rest) s =
      let here : slice_get lp n.0 ≡ Some p = rw (← s.0) s.1 in
      let others : numbered_at lp (labels kids ++ labels rest) ≡ numbered kids ++ numbered rest =
      numbered_at-append lp (labels kids) (labels rest)
      ∙ ap₂ (λ (x y : List (Node × P)). x ++ y) (numbered_at-labels S lp (S.inputs p) kids s.3) (numbered_at-labels S lp ns rest s.4) in
      ap₂ (λ (o : Option P) (l : List (Node × P)). cons_option (option_map (λ (q : P). (n, q)) o) l) here others

  labels_in : (S : Shape P) (lp : List P) (ns : List Node) (f : Trees P) → Stands S lp ns f → AllByRecursion (λ (n : Node). n.0 < length lp) (labels f)
  labels_in S lp [] no_roses s = tt
  labels_in S lp [] (more (rose n p kids) rest) s = absurd s
  labels_in S lp (m ∷ ns) no_roses s = absurd s
  labels_in S lp (m ∷ ns) (more (rose n p kids) rest) s = (
    slice_get_within lp n.0 p (ap (λ (x : Node). slice_get lp x.0) (sym s.0) ∙ s.1),
    all_append (λ (k : Node). k.0 < length lp) (labels kids) (labels rest) (labels_in S lp (S.inputs p) kids s.3) (labels_in S lp ns rest s.4),
  )

  -- the numbers of a walk are those of entries
  pub labels_within : (S : Shape P) (lp : List P) (ns : List Node) (f : Trees P) → Stands S lp ns f → All (λ (n : Node). n.0 < length lp) (labels f)
  labels_within S lp ns f s = All-from_recursion (λ (n : Node). n.0 < length lp) (labels f) (labels_in S lp ns f s)
