-- Entries that are taken from an arena one after another: a write at one number leaves the others.
use Rattle.std.proofs.Common.{◌≡◌, ℕ, zero, suc, ◌+◌, ◌<◌, false, List, [], ◌∷◌, ◌++◌, length, map, drop, get_or, Option, Some, nat_eq, refl, sym, ap, ap₂, subst, ◌∙◌, append_assoc}
use Rattle.std.specs.List.{AllByRecursion, IsDistinct, cons_option, slice_get, slice_set}
use Rattle.std.proofs.lemmas.List.{drop_more}
use Rattle.plan_core.specs.declared.arena.Node.{Node}
use Rattle.plan_tree.proofs.Frames.{slice_get-set_other}
use Rattle.plan_tree.proofs.Numbers.{differ-from_nat_eq}
use Rattle.plan_tree.specs.Stands.{numbers}
use Rattle.plan_ir.specs.declared.ir.IR.{IR}
use Rattle.plan_ir.specs.Moved.{entries_at}
use Rattle.plan_ir.specs.Parts.{plan_shape}

-- a write at a number leaves the entries of others
entries_at-set : (arena : List IR) (k : ℕ) (d : IR) (ns : List Node) → AllByRecursion (λ y. nat_eq k y ≡ false) (numbers ns) → entries_at (slice_set arena k d) ns ≡ entries_at arena ns
entries_at-set arena k d [] far = refl
entries_at-set arena k d (n ∷ ns) far =
    ap₂ cons_option
    (slice_get-set_other plan_shape arena k n.0 d (λ e. differ-from_nat_eq k n.0 far.0 (sym e)))
    (entries_at-set arena k d ns far.1)

distinct-drop : (i : ℕ) (ns : List Node) → IsDistinct nat_eq (numbers ns) → IsDistinct nat_eq (numbers (drop i ns))
unfolding IsDistinct
distinct-drop zero ns h = h
distinct-drop (suc i) [] h = h
distinct-drop (suc i) (n ∷ ns) h = distinct-drop i ns h.1

first_far : (n : Node) (ns : List Node) → IsDistinct nat_eq (numbers (n ∷ ns)) → AllByRecursion (λ y. nat_eq n.0 y ≡ false) (numbers ns)
unfolding IsDistinct
first_far n ns h = h.0

-- one entry more is taken
pub taken_more : (g : IR → IR) (listed : List Node) (i : ℕ) (at : Node) (old left new taken grown : List IR) (p d q : IR)
    → IsDistinct nat_eq (numbers listed) → i < length listed → slice_get left (get_or listed i at).0 ≡ Some p → new ≡ slice_set left (get_or listed i at).0 d
    → grown ≡ taken ++ q ∷ [] → q ≡ g p
    → taken ++ map g (entries_at left (drop i listed)) ≡ map g (entries_at old listed)
    → grown ++ map g (entries_at new (drop (i + 1) listed)) ≡ map g (entries_at old listed)
taken_more g listed i at old left new taken grown p d q distinct lt here written grows moved before =
    let n : Node = get_or listed i at in
    let rest : List Node = drop (i + 1) listed in
    let split : drop i listed ≡ n ∷ rest = drop_more listed i at lt in
    let once : IsDistinct nat_eq (numbers (n ∷ rest)) = subst (λ (l : List Node). IsDistinct nat_eq (numbers l)) split (distinct-drop i listed distinct) in
    let same : entries_at new rest ≡ entries_at left rest = ap (λ (a : List IR). entries_at a rest) written ∙ entries_at-set left n.0 d rest (first_far n rest once) in
    let first : entries_at left (drop i listed) ≡ p ∷ entries_at left rest = ap (entries_at left) split ∙ ap (λ (o : Option IR). cons_option o (entries_at left rest)) here in
    ap₂ (λ (x y : List IR). x ++ map g y) (grows ∙ ap (λ (x : IR). taken ++ x ∷ []) moved) same
    ∙ append_assoc taken (g p ∷ []) (map g (entries_at left rest))
    ∙ ap (λ (y : List IR). taken ++ map g y) (sym first)
    ∙ before
