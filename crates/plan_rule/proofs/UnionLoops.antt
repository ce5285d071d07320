-- The loops over the inputs of a union.
use Rattle.std.proofs.Common.{◌≡◌, ℕ, ◌<◌, ◌≤◌, ◌+◌, ◌||◌, Bool, true, false, List, [], ◌∷◌, ◌++◌, append_assoc, append-nil, length, drop, get_or, Option, Some, sym, ap, ◌∙◌}
use Rattle.std.specs.List.{slice_get}
use Rattle.std.specs.Option.{option_map_or}
use Rattle.std.proofs.lemmas.List.{drop_all, drop_more}
use Rattle.plan_core.specs.declared.arena.Node.{Node}
use Rattle.plan_ir.specs.declared.ir.IR.{IR}
use Rattle.plan_rule.specs.TakenUp.{has_unflattened_node, is_unflattened_node, numbers_for, numbers_taken_up}

module _ (lp : List IR) (ns : List Node) (i : ℕ) where
  module _ (d : Node) (p : IR) (lt : i < length ns) (entry : slice_get lp (get_or ns i d).0 ≡ Some p) where
    some_more : has_unflattened_node lp (drop i ns) ≡ (is_unflattened_node p || has_unflattened_node lp (drop (i + 1) ns))
    some_more = ap (has_unflattened_node lp) (drop_more ns i d lt) ∙ ap (λ (o : Option IR). option_map_or is_unflattened_node o false || has_unflattened_node lp (drop (i + 1) ns)) entry

    pub some_here : is_unflattened_node p ≡ true → has_unflattened_node lp ns ≡ has_unflattened_node lp (drop i ns) → true ≡ has_unflattened_node lp ns
    some_here is h = sym (h ∙ some_more ∙ ap (λ (b : Bool). b || has_unflattened_node lp (drop (i + 1) ns)) is)

    pub some_later : is_unflattened_node p ≡ false → has_unflattened_node lp ns ≡ has_unflattened_node lp (drop i ns) → has_unflattened_node lp ns ≡ has_unflattened_node lp (drop (i + 1) ns)
    some_later is h = h ∙ some_more ∙ ap (λ (b : Bool). b || has_unflattened_node lp (drop (i + 1) ns)) is

    taken_more : numbers_taken_up lp (drop i ns) ≡ numbers_for (get_or ns i d) p ++ numbers_taken_up lp (drop (i + 1) ns)
    taken_more = ap (numbers_taken_up lp) (drop_more ns i d lt) ∙ ap (λ (o : Option IR). option_map_or (numbers_for (get_or ns i d)) o (get_or ns i d ∷ []) ++ numbers_taken_up lp (drop (i + 1) ns)) entry

    pub taken_next : (taken : List Node) → taken ++ numbers_taken_up lp (drop i ns) ≡ numbers_taken_up lp ns → (taken ++ numbers_for (get_or ns i d) p) ++ numbers_taken_up lp (drop (i + 1) ns) ≡ numbers_taken_up lp ns
    taken_next taken h = append_assoc taken (numbers_for (get_or ns i d) p) (numbers_taken_up lp (drop (i + 1) ns)) ∙ sym (ap (λ (l : List Node). taken ++ l) taken_more) ∙ h

  pub some_end : length ns ≤ i → has_unflattened_node lp ns ≡ has_unflattened_node lp (drop i ns) → false ≡ has_unflattened_node lp ns
  some_end le h = sym (h ∙ ap (has_unflattened_node lp) (drop_all i ns le))

  pub taken_end : (taken : List Node) → length ns ≤ i → taken ++ numbers_taken_up lp (drop i ns) ≡ numbers_taken_up lp ns → taken ≡ numbers_taken_up lp ns
  taken_end taken le h = sym (append-nil taken) ∙ sym (ap (λ (l : List Node). taken ++ numbers_taken_up lp l) (drop_all i ns le)) ∙ h
