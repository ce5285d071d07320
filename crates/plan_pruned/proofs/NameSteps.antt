-- How lists of names grow that pass a test, or that become others, one name after another.
use Rattle.std.proofs.Common.{◌≡◌, ℕ, ◌+◌, Bool, true, false, cond, List, [], ◌∷◌, ◌++◌, take, Some, None, refl, sym, ap, ◌∙◌, append-nil}
use Rattle.std.specs.List.{slice_get, filter, filter_map}
use Rattle.std.proofs.lemmas.Bool.{false_from_ne_true}
use Rattle.std.proofs.lemmas.List.Elements.{filter-append, filter_map-append}
use Rattle.plan_core.specs.Names.{AreDistinct, has, with_name}
use Rattle.plan_expr.specs.Leaves.{Name}
use Rattle.plan_meaning.specs.Functions.{former}
use Rattle.plan_meaning.proofs.FunctionLemmas.{former_is, formers_are}
use Rattle.plan_pruned.proofs.ListSteps.{Differs, before_differ, has-differs, with_name-last, take-next}

-- names that pass a test, one after another
differs_where : (p : Name → Bool) (names : List Name) (a : Name) → Differs a names → Differs a (filter p names)
differs_where p [] a h = tt
differs_where p (b ∷ names) a h = go (p b) (differs_where p names a h.1)
  where
    go : (t : Bool) → Differs a (filter p names) → Differs a (cond t (b ∷ filter p names) (filter p names))
    go true rest = (h.0, rest)
    go false rest = rest

pub where-next : (p : Name → Bool) (names : List Name) (i : ℕ) (a : Name) → AreDistinct names → slice_get names i ≡ Some a → p a ≡ true → with_name (filter p (take i names)) a ≡ filter p (take (i + 1) names)
where-next p names i a h e good =
    let one : filter p (a ∷ []) ≡ a ∷ [] = rw good refl in
    with_name-last (filter p (take i names)) a (differs_where p (take i names) a (before_differ names i a h e))
    ∙ ap (λ (l : List Name). filter p (take i names) ++ l) (sym one)
    ∙ sym (filter-append p (take i names) (a ∷ []))
    ∙ ap (filter p) (sym (take-next names i a e))

pub where-skip : (p : Name → Bool) (names : List Name) (i : ℕ) (a : Name) → slice_get names i ≡ Some a → p a ≡ false → filter p (take i names) ≡ filter p (take (i + 1) names)
where-skip p names i a e bad =
    let one : filter p (a ∷ []) ≡ [] = rw bad refl in
    sym (append-nil (filter p (take i names)))
    ∙ ap (λ (l : List Name). filter p (take i names) ++ l) (sym one)
    ∙ sym (filter-append p (take i names) (a ∷ []))
    ∙ ap (filter p) (sym (take-next names i a e))

-- names that become others, one after another
module _ (now : Name → Name) (names wanted : List Name) (i : ℕ) (a : Name) (e : slice_get wanted i ≡ Some a) where
  pub former-next : (b : Name) → AreDistinct wanted → former now names a ≡ Some b → with_name (filter_map (former now names) (take i wanted)) b ≡ filter_map (former now names) (take (i + 1) wanted)
  former-next b once is =
      let one : filter_map (former now names) (a ∷ []) ≡ b ∷ [] = rw is refl in
      rw absent refl
      ∙ ap (λ (l : List Name). filter_map (former now names) (take i wanted) ++ l) (sym one)
      ∙ sym (filter_map-append (former now names) (take i wanted) (a ∷ []))
      ∙ ap (filter_map (former now names)) (sym (take-next wanted i a e))
    where
      absent : has (filter_map (former now names) (take i wanted)) b ≡ false
      absent = false_from_ne_true (has (filter_map (former now names) (take i wanted)) b) (λ q.
          let there : has (take i wanted) a ≡ true = ap (has (take i wanted)) (former_is now names a b is).1 ∙ (formers_are now names (take i wanted) b q).1 in
          let none : has (take i wanted) a ≡ false = has-differs (take i wanted) a (before_differ wanted i a once e) in
          no there none)
        where
          no : has (take i wanted) a ≡ true → has (take i wanted) a ≡ false → ⊥
          no p q = cc

  pub former-skip : former now names a ≡ None → filter_map (former now names) (take i wanted) ≡ filter_map (former now names) (take (i + 1) wanted)
  former-skip is =
      let one : filter_map (former now names) (a ∷ []) ≡ [] = rw is refl in
      sym (append-nil (filter_map (former now names) (take i wanted)))
      ∙ ap (λ (l : List Name). filter_map (former now names) (take i wanted) ++ l) (sym one)
      ∙ sym (filter_map-append (former now names) (take i wanted) (a ∷ []))
      ∙ ap (filter_map (former now names)) (sym (take-next wanted i a e))
