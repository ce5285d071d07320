-- Trees side by side, the first rewritten first; and the items of a list by their places.
use Rattle.std.proofs.Common.{◌≡◌, ℕ, zero, suc, ◌+◌, ◌<◌, ◌≤◌, List, [], ◌∷◌, ◌++◌, length, Option, Some, None, refl, ap, ◌∙◌, inl, inr, arith, ⊎_elim}
use Rattle.std.specs.List.{slice_get}
use Rattle.plan_core.specs.declared.arena.Node.{Node}
use Rattle.plan_tree.proofs.Numbers.{Reaches-within}
use Rattle.plan_tree.proofs.Frames.{Reaches-join, Stands-kept, join-left, join-right}
use Rattle.plan_tree.proofs.SplitLemmas.{StandsOnce-join}
use Rattle.plan_tree.specs.Rose.{join}
use Rattle.plan_tree.specs.Stands.{Shape, Trees, Reaches, Apart, StandsOnce, Rewrites}

module _ {P : Type 0} (S : Shape P) (a b c : List P) (f g : Trees P) (apart : Apart f g) (last : (k : ℕ) → Reaches g k → k < length a) where
  -- what the first trees became has no number of the last
  far : (ns : List Node) (f' : Trees P) → Rewrites S a b ns f f' → Apart f' g
  far ns f' x k u r = ⊎_elim (λ (v : Reaches f k). apart k v r) (λ (v : length a ≤ k). let lt = last k r in absurd (omega (arith, lt, v))) (x.within k u)

  -- the last trees still stand once the first were rewritten
  pub stand_last : (ns ms : List Node) (f' : Trees P) → StandsOnce S a ms g → Rewrites S a b ns f f' → StandsOnce S b ms g
  stand_last ns ms f' h x = record { stands = Stands-kept S a b ms g h.stands (λ k r. x.keeps.same k (last k r) (λ u. apart k u r)); once = h.once }

  -- the first trees were rewritten, and then the last
  pub rewrites_in_turn : (ns ms : List Node) (f' g' : Trees P) → Rewrites S a b ns f f' → Rewrites S b c ms g g' → Rewrites S a c (ns ++ ms) (join f g) (join f' g')
  rewrites_in_turn ns ms f' g' x y = record {
    stands = StandsOnce-join S c ns ms f' g' (record { stands = Stands-kept S b c ns f' x.stands.stands (λ k r. y.keeps.same k (inside k r) (λ u. far ns f' x k r u)); once = x.stands.once }) y.stands (λ k r u. ⊎_elim (λ (v : Reaches g k). far ns f' x k r v) (λ (v : length b ≤ k). let lt = inside k r in absurd (omega (arith, lt, v))) (y.within k u));
    keeps = record {
      grows = let p = x.keeps.grows in let q = y.keeps.grows in omega (arith, p, q);
      same = λ k lt away. y.keeps.same k (let p = x.keeps.grows in omega (arith, lt, p)) (λ r. away (join-right S f g k r)) ∙ x.keeps.same k lt (λ r. away (join-left S f g k r));
    };
    within = λ k r. ⊎_elim
        (λ (u : Reaches f' k). ⊎_elim (λ (v : Reaches f k). inl (join-left S f g k v)) (λ (v : length a ≤ k). inr v) (x.within k u))
        (λ (u : Reaches g' k). ⊎_elim (λ (v : Reaches g k). inl (join-right S f g k v)) (λ (v : length b ≤ k). inr (let p = x.keeps.grows in omega (arith, v, p))) (y.within k u))
        (Reaches-join S f' g' k r);
  }
    where
      inside : (k : ℕ) → Reaches f' k → k < length b
      inside k r = Reaches-within S b ns f' k x.stands.stands r

-- a list in two parts, the first as long as a place: what stands at the place is the first of the rest
pub next_of : {A : Type 0} (gone rest ns : List A) (i : ℕ) (x : A) → gone ++ rest ≡ ns → length gone ≡ i → slice_get ns i ≡ Some x → (more_to_come : List A) × (rest ≡ x ∷ more_to_come)
next_of [] rest [] i x e l h = cc
next_of [] [] (n ∷ ns) i x e l h = cc
next_of [] (r ∷ rest) (n ∷ ns) zero x e l h = (rest, cc)
next_of [] rest (n ∷ ns) (suc i) x e l h = absurd (omega (arith, l))
next_of (y ∷ gone) rest [] i x e l h = cc
next_of (y ∷ gone) rest (n ∷ ns) zero x e l h = absurd (omega (arith, l))
next_of (y ∷ gone) rest (n ∷ ns) (suc i) x e l h = next_of gone rest ns i x (cc) (omega (arith, l)) h

-- where nothing stands at the place, there is no rest
pub none_of : {A : Type 0} (gone rest ns : List A) (i : ℕ) → gone ++ rest ≡ ns → length gone ≡ i → slice_get ns i ≡ None → rest ≡ []
none_of [] [] ns i e l h = refl
none_of [] (r ∷ rest) [] i e l h = cc
none_of [] (r ∷ rest) (n ∷ ns) zero e l h = cc
none_of [] (r ∷ rest) (n ∷ ns) (suc i) e l h = absurd (omega (arith, l))
none_of (y ∷ gone) rest [] i e l h = cc
none_of (y ∷ gone) rest (n ∷ ns) zero e l h = absurd (omega (arith, l))
none_of (y ∷ gone) rest (n ∷ ns) (suc i) e l h = none_of gone rest ns i (cc) (omega (arith, l)) h

-- a list one longer
pub one_longer : {A : Type 0} (gone : List A) (x : A) (i : ℕ) → length gone ≡ i → length (gone ++ x ∷ []) ≡ i + 1
one_longer [] x i e = omega (arith, e)
one_longer (y ∷ gone) x i e = let r = one_longer gone x (length gone) refl in omega (arith, r, e)
