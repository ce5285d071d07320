-- Checks made one after another.
use Rattle.std.proofs.Common.{◌≡◌, ℕ, zero, suc, ◌+◌, ◌<◌, ◌≤◌, ◌^◌, ◌-◌, min, Bool, true, false, not, List, [], ◌∷◌, ◌++◌, length, map, drop, Some, None, refl, sym, ap, ◌∙◌, arith, add-one, add-zero, if◌then◌else◌}
use Rattle.std.specs.List.{slice_get}
use Rattle.plan_core.specs.declared.arena.Node.{Node}
use Rattle.plan_core.specs.declared.error.At.{At}
use Rattle.plan_core.specs.declared.error.PolarsError.{PolarsError}
use Rattle.plan_core.specs.declared.error.PolarsError.TheVariants.{Duplicate}
use Rattle.plan_core.specs.Names.{has}
use Rattle.plan_expr.specs.Leaves.{Name}
use Rattle.plan_meaning.specs.Checks.{Check, check, each, each_new}
use Rattle.plan_meaning.specs.Typing.{first_fault, or_fault, at}

-- the items from a place on
pub drop-at : {A : Type 0} (xs : List A) (i : ℕ) (x : A) → slice_get xs i ≡ Some x → drop i xs ≡ x ∷ drop (suc i) xs
drop-at [] i x e = cc
drop-at (y ∷ ys) zero x e = let q : y ≡ x = cc in ap (λ z. z ∷ ys) q
drop-at (y ∷ ys) (suc i) x e = drop-at ys i x e

pub drop-end : {A : Type 0} (xs : List A) (i : ℕ) → length xs ≤ i → drop i xs ≡ []
drop-end [] zero h = refl
drop-end [] (suc i) h = refl
drop-end (y ∷ ys) zero h = absurd (omega arith)
drop-end (y ∷ ys) (suc i) h = drop-end ys i (omega arith)

module _ {A : Type 0} (n : Node) (fault : At → PolarsError) (k : ℕ) (holds : A → Bool) (xs : List A) where
  -- the checks from a place on say what all of them say
  pub record Left (i : ℕ) : Type 0 where
    pub same : first_fault n (each fault (k + i) holds (drop i xs)) ≡ first_fault n (each fault k holds xs)

  pub left-all : Left 0
  left-all = record { same = rw add-zero refl }

  opened : (i : ℕ) (x : A) → slice_get xs i ≡ Some x → first_fault n (each fault (k + i) holds (drop i xs)) ≡ first_fault n (each fault (k + i) holds (x ∷ drop (suc i) xs))
  opened i x e = ap (λ (l : List A). first_fault n (each fault (k + i) holds l)) (drop-at xs i x e)

  pub left-next : (i : ℕ) (x : A) → Left i → slice_get xs i ≡ Some x → holds x ≡ true → Left (i + 1)
  left-next i x l e good =
      let here : suc (k + i) ≡ k + (i + 1) = omega arith in
      let step : first_fault n (each fault (k + i) holds (x ∷ drop (suc i) xs)) ≡ first_fault n (each fault (suc (k + i)) holds (drop (suc i) xs)) = rw good refl in
      let now : first_fault n (each fault (suc (k + i)) holds (drop (suc i) xs)) ≡ first_fault n (each fault (k + (i + 1)) holds (drop (i + 1) xs)) = rw (here, add-one i) refl in
      record { same = sym now ∙ sym step ∙ sym (opened i x e) ∙ l.same }

  pub left-bad : (i : ℕ) (x : A) → Left i → slice_get xs i ≡ Some x → holds x ≡ false → first_fault n (each fault k holds xs) ≡ Some (fault (at n (k + i)))
  left-bad i x l e bad =
      let step : first_fault n (each fault (k + i) holds (x ∷ drop (suc i) xs)) ≡ Some (fault (at n (k + i))) = rw bad refl in
      sym l.same ∙ opened i x e ∙ step

  pub left-end : (i : ℕ) → Left i → length xs ≤ i → first_fault n (each fault k holds xs) ≡ None
  left-end i l h = sym l.same ∙ ap (λ (l : List A). first_fault n (each fault (k + i) holds l)) (drop-end xs i h)

-- checks that hold, and then others
pub fault_append : (n : Node) (cs ds : List Check) → first_fault n (cs ++ ds) ≡ or_fault (first_fault n cs) (first_fault n ds)
fault_append n [] ds = refl
fault_append n (c ∷ cs) ds = go c.holds (fault_append n cs ds)
  where
    go : (b : Bool) → first_fault n (cs ++ ds) ≡ or_fault (first_fault n cs) (first_fault n ds) → (if b then first_fault n (cs ++ ds) else Some (c.fault (at n c.place))) ≡ or_fault (if b then first_fault n cs else Some (c.fault (at n c.place))) (first_fault n ds)
    go true e = e
    go false e = refl

-- checks on what a function gives for items are checks on the items
pub each-map : {A B : Type 0} (fault : At → PolarsError) (k : ℕ) (holds : B → Bool) (f : A → B) (xs : List A) → each fault k (λ x. holds (f x)) xs ≡ each fault k holds (map f xs)
each-map fault k holds f [] = refl
each-map fault k holds f (x ∷ xs) = ap (λ (cs : List Check). check fault k (holds (f x)) ∷ cs) (each-map fault (suc k) holds f xs)

-- a place that isn't past the end has an item
pub past : {A : Type 0} (xs : List A) (i : ℕ) → slice_get xs i ≡ None → i < length xs → ⊥
past [] i e h = omega arith
past (x ∷ xs) zero e h = cc
past (x ∷ xs) (suc i) e h = past xs i e (omega arith)

-- a place that was counted without going past the last number
pub at-capped : (n : Node) (p q : ℕ) → p ≡ min q (2 ^ 64 - 1) → at n p ≡ at n q
at-capped n p q e = let same : min p 4294967295 ≡ min q 4294967295 = omega arith in ap (λ (x : ℕ). record { node = Some n; place = x }) same

-- no name so far is one before it, and the checks from a place on say what all of them say
pub record NewLeft (n : Node) (k : ℕ) (names before : List Name) (i : ℕ) : Type 0 where
  pub same : first_fault n (each_new (k + i) before (drop i names)) ≡ first_fault n (each_new k [] names)

pub new-all : (n : Node) (k : ℕ) (names : List Name) → NewLeft n k names [] 0
new-all n k names = record { same = rw add-zero refl }

new_fault : (n : Node) (k : ℕ) (before names : List Name) (i : ℕ) (a : Name) → slice_get names i ≡ Some a → first_fault n (each_new k before (drop i names)) ≡ (if not (has before a) then first_fault n (each_new (suc k) (before ++ a ∷ []) (drop (suc i) names)) else Some (Duplicate (at n k)))
new_fault n k before names i a e = ap (λ (l : List Name). first_fault n (each_new k before l)) (drop-at names i a e)

pub new-next : (n : Node) (k : ℕ) (names before : List Name) (i : ℕ) (a : Name) → NewLeft n k names before i → slice_get names i ≡ Some a → has before a ≡ false → NewLeft n k names (before ++ a ∷ []) (i + 1)
new-next n k names before i a l e new =
    let here : suc (k + i) ≡ k + (i + 1) = omega arith in
    let step : first_fault n (each_new (k + i) before (drop i names)) ≡ first_fault n (each_new (suc (k + i)) (before ++ a ∷ []) (drop (suc i) names)) = new_fault n (k + i) before names i a e ∙ rw new refl in
    let now : first_fault n (each_new (suc (k + i)) (before ++ a ∷ []) (drop (suc i) names)) ≡ first_fault n (each_new (k + (i + 1)) (before ++ a ∷ []) (drop (i + 1) names)) = rw (here, add-one i) refl in
    record { same = sym now ∙ sym step ∙ l.same }

pub new-bad : (n : Node) (k : ℕ) (names before : List Name) (i : ℕ) (a : Name) → NewLeft n k names before i → slice_get names i ≡ Some a → has before a ≡ true → first_fault n (each_new k [] names) ≡ Some (Duplicate (at n (k + i)))
new-bad n k names before i a l e old =
    let step : first_fault n (each_new (k + i) before (drop i names)) ≡ Some (Duplicate (at n (k + i))) = new_fault n (k + i) before names i a e ∙ rw old refl in
    sym l.same ∙ step

pub new-end : (n : Node) (k : ℕ) (names before : List Name) (i : ℕ) → NewLeft n k names before i → length names ≤ i → first_fault n (each_new k [] names) ≡ None
new-end n k names before i l h = sym l.same ∙ ap (λ (l : List Name). first_fault n (each_new (k + i) before l)) (drop-end names i h)
