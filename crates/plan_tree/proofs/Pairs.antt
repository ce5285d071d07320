-- Trees side by side, the last rewritten first; also where the numbers that they stand at change.
use Rattle.std.proofs.Common.{ℕ, ◌<◌, ◌≤◌, List, ◌++◌, length, ◌∙◌, inl, inr, arith, ⊎_elim}
use Rattle.plan_core.specs.declared.arena.Node.{Node}
use Rattle.plan_tree.proofs.Numbers.{Reaches-within}
use Rattle.plan_tree.proofs.Frames.{Reaches-join, Stands-kept, join-left, join-right}
use Rattle.plan_tree.proofs.SplitLemmas.{StandsOnce-join}
use Rattle.plan_tree.specs.Rose.{join}
use Rattle.plan_tree.specs.Stands.{Shape, Trees, Reaches, Apart, StandsOnce, Rewrites}

module _ {P : Type 0} (S : Shape P) (a b c : List P) (f g : Trees P) (apart : Apart f g) (first : (k : ℕ) → Reaches f k → k < length a) where
  -- what the last trees became has no number of the first
  far : (ms : List Node) (g' : Trees P) → Rewrites S a b ms g g' → Apart f g'
  far ms g' x k r u = ⊎_elim (λ (v : Reaches g k). apart k r v) (λ (v : length a ≤ k). let lt = first k r in absurd (omega (arith, lt, v))) (x.within k u)

  -- the first trees still stand once the last were rewritten
  pub stand_first : (ns ms : List Node) (g' : Trees P) → StandsOnce S a ns f → Rewrites S a b ms g g' → StandsOnce S b ns f
  stand_first ns ms g' h x = record { stands = Stands-kept S a b ns f h.stands (λ k r. x.keeps.same k (first k r) (λ u. apart k r u)); once = h.once }

  -- the last trees were rewritten, and then the first
  pub rewrites_pair : (ns ms : List Node) (f' g' : Trees P) → Rewrites S a b ms g g' → Rewrites S b c ns f f' → Rewrites S a c (ns ++ ms) (join f g) (join f' g')
  rewrites_pair ns ms f' g' x y = record {
    stands = StandsOnce-join S c ns ms f' g' y.stands (record { stands = Stands-kept S b c ms g' x.stands.stands (λ k r. y.keeps.same k (inside k r) (λ u. far ms g' x k u r)); once = x.stands.once }) (λ k r u. ⊎_elim (λ (v : Reaches f k). far ms g' x k v u) (λ (v : length b ≤ k). let lt = inside k u in absurd (omega (arith, lt, v))) (y.within k r));
    keeps = record {
      grows = let p = x.keeps.grows in let q = y.keeps.grows in omega (arith, p, q);
      same = λ k lt away. y.keeps.same k (let p = x.keeps.grows in omega (arith, lt, p)) (λ r. away (join-left S f g k r)) ∙ x.keeps.same k lt (λ r. away (join-right S f g k r));
    };
    within = λ k r. ⊎_elim
        (λ (u : Reaches f' k). ⊎_elim (λ (v : Reaches f k). inl (join-left S f g k v)) (λ (v : length b ≤ k). inr (let p = x.keeps.grows in omega (arith, v, p))) (y.within k u))
        (λ (u : Reaches g' k). ⊎_elim (λ (v : Reaches g k). inl (join-right S f g k v)) (λ (v : length a ≤ k). inr v) (x.within k u))
        (Reaches-join S f' g' k r);
  }
    where
      inside : (k : ℕ) → Reaches g' k → k < length b
      inside k r = Reaches-within S b ms g' k x.stands.stands r
