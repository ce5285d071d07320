-- Columns picked one after another.
use Rattle.std.proofs.Common.{◌≡◌, ◌∙◌, ℕ, zero, suc, ◌+◌, ◌≤◌, Bool, true, false, List, [], ◌∷◌, ◌++◌, length, min, take, Some, None, is_some, refl, sym, ap, subst, add-one, cond}
use Rattle.std.proofs.lemmas.List.{map-append, take_all}
use Rattle.std.specs.List.{AllByRecursion, slice_get}
use Rattle.std.specs.Str.{bytes_eq}
use Rattle.plan_core.specs.declared.data_type.DataType.{DataType}
use Rattle.plan_core.specs.declared.error.PolarsError.TheVariants.{Duplicate}
use Rattle.plan_core.specs.Columns.{Columns, names_of, type_of, with_type}
use Rattle.plan_core.specs.Errors.{item_at}
use Rattle.plan_core.specs.Names.{has}
use Rattle.plan_expr.specs.Leaves.{Name}
use Rattle.plan_meaning.specs.Checks.{each_new}
use Rattle.plan_frame.proofs.NameSets.{some-type_of}
use Rattle.plan_builder.specs.Picks.{first_item_fault, Picks}
use Rattle.plan_builder.proofs.Faults.{NewLeft, new-all, new-bad, new-end, new-next}

-- a new column goes last
with-new : (cs : Columns) (a : Name) (t : DataType) → is_some (type_of cs a) ≡ false → with_type cs a t ≡ cs ++ (a, t) ∷ []
with-new [] a t e = refl
with-new (c ∷ cs) a t e = go (bytes_eq a c.0) (with-new cs a t) e
  where
    go : (b : Bool) → (is_some (type_of cs a) ≡ false → with_type cs a t ≡ cs ++ (a, t) ∷ []) → is_some (cond b (Some c.1) (type_of cs a)) ≡ false → cond b ((c.0, t) ∷ cs) (c ∷ with_type cs a t) ≡ c ∷ (cs ++ (a, t) ∷ [])
    go true more h = cc
    go false more h = ap (λ (l : Columns). c ∷ l) (more h)

take_suc : (names : List Name) (i : ℕ) (a : Name) → slice_get names i ≡ Some a → take i names ++ a ∷ [] ≡ take (suc i) names
take_suc [] i a e = cc
take_suc (b ∷ names) zero a e = let q : b ≡ a = cc in ap (λ (c : Name). c ∷ []) (sym q)
take_suc (b ∷ names) (suc i) a e = ap (λ (l : List Name). b ∷ l) (take_suc names i a e)

module _ (P : Name × DataType → Type 0) where
  all-last : (cs : Columns) (c : Name × DataType) → AllByRecursion P cs → P c → AllByRecursion P (cs ++ c ∷ [])
  all-last [] c h p = (p, tt)
  all-last (d ∷ cs) c h p = (h.0, all-last cs c h.1 p)

module _ (s : Columns) (names : List Name) where
  -- the names before a place have their columns, and none is one before it
  pub record Picking (columns : Columns) (i : ℕ) : Type 0 where
    pub named : names_of columns ≡ take i names
    pub typed : AllByRecursion (λ (c : Name × DataType). type_of s c.0 ≡ Some c.1) columns
    pub new : NewLeft names (names_of columns) i

  pub picking-none : Picking [] 0
  picking-none = record { named = refl; typed = tt; new = new-all names }

  pub picking-next : (columns : Columns) (i : ℕ) (a : Name) (t : DataType) → Picking columns i → slice_get names i ≡ Some a → type_of s a ≡ Some t → is_some (type_of columns a) ≡ false → Picking (with_type columns a t) (i + 1)
  picking-next columns i a t p e known absent =
      let is : with_type columns a t ≡ columns ++ (a, t) ∷ [] = with-new columns a t absent in
      let last : names_of (columns ++ (a, t) ∷ []) ≡ names_of columns ++ a ∷ [] = map-append (λ (c : Name × DataType). c.0) columns ((a, t) ∷ []) in
      let new : has (names_of columns) a ≡ false = sym (some-type_of columns a) ∙ absent in
      subst (λ (l : Columns). Picking l (i + 1)) (sym is) (record {
        named = last ∙ ap (λ (l : List Name). l ++ a ∷ []) p.named ∙ take_suc names i a e ∙ ap (λ (n : ℕ). take n names) (sym (add-one i));
        typed = all-last (λ (c : Name × DataType). type_of s c.0 ≡ Some c.1) columns (a, t) p.typed known;
        new = subst (λ (l : List Name). NewLeft names l (i + 1)) (sym last) (new-next names (names_of columns) i a p.new e new);
      })

  pub picking-bad : (columns : Columns) (i : ℕ) (a : Name) → Picking columns i → slice_get names i ≡ Some a → is_some (type_of columns a) ≡ true → first_item_fault (each_new 0 [] names) ≡ Some (Duplicate (item_at (min i 4294967295)))
  picking-bad columns i a p e old =
      let has-it : has (names_of columns) a ≡ true = sym (some-type_of columns a) ∙ old in
      new-bad names (names_of columns) i a p.new e has-it

  pub picking-end : (columns : Columns) (i : ℕ) → Picking columns i → length names ≤ i → Picks s names columns
  picking-end columns i p le = record { named = p.named ∙ take_all i names le; typed = p.typed }

  pub picking-fault : (columns : Columns) (i : ℕ) → Picking columns i → length names ≤ i → first_item_fault (each_new 0 [] names) ≡ None
  picking-fault columns i p le = new-end names (names_of columns) i p.new le
