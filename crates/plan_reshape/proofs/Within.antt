-- Trees that are rewritten with a tree inside them: they grow as much as it does.
use Rattle.std.proofs.Common.{◌≡◌, ℕ, ◌<◌, ◌≤◌, ◌+◌, List, [], ◌∷◌, length, refl, sym, ap, ◌∙◌, subst, inl, inr, ◌⊎◌, arith, ⊎_elim}
use Rattle.plan_core.specs.declared.arena.Node.{Node}
use Rattle.plan_tree.proofs.Numbers.{Reaches-within}
use Rattle.plan_tree.proofs.TreeLemmas.{Stands-unique}
use Rattle.plan_tree.proofs.Frames.{Stands-kept}
use Rattle.plan_tree.proofs.Replaced.{after, below, same_node}
use Rattle.plan_tree.specs.Rose.{Roses, rose, no_roses, more, size}
use Rattle.plan_tree.specs.Stands.{Shape, Trees, Reaches, Stands, StandsOnce, Rewrites}

module _ {P : Type 0} (S : Shape P) where
  -- trees that were rewritten still reach a number, and grew as much as what was rewritten in them
  pub record Within (old new : List P) (ns : List Node) (f : Trees P) (m : Node) (g h : Trees P) : Type 0 where
    pub trees : Trees P
    pub rewrites : Rewrites S old new ns f trees
    pub reached : Reaches trees m.0
    pub sized : size trees + size g ≡ size f + size h

  -- a number in old trees is one of the old entries
  inside : (old : List P) (ns : List Node) (f : Trees P) (k : ℕ) → Stands S old ns f → Reaches f k → k < length old
  inside old ns f k s r = Reaches-within S old ns f k s r

  -- trees apart from old ones are apart from what these became
  still_apart : (old : List P) (f g : Trees P) (k : ℕ) → k < length old → (Reaches f k → ⊥) → (Reaches g k → Reaches f k ⊎ (length old ≤ k)) → Reaches g k → ⊥
  still_apart old f g k lt away within r = ⊎_elim (λ (u : Reaches f k). away u) (λ (v : length old ≤ k). absurd (omega (arith, lt, v))) (within r)

  -- in the place of the first tree
  before : (old new : List P) (n : Node) (ns : List Node) (p : P) (kids rest h : Trees P) → StandsOnce S old (n ∷ ns) (more (rose n p kids) rest) → Rewrites S old new (n ∷ []) (more (rose n p kids) no_roses) h → Within old new (n ∷ ns) (more (rose n p kids) rest) n (more (rose n p kids) no_roses) h
  before old new n ns p kids rest no_roses s x = absurd x.stands.stands
  before old new n ns p kids rest (more (rose l q us) (more (rose l' q' us') ts)) s x = absurd x.stands.stands.4
  before old new n ns p kids rest (more (rose l q us) no_roses) s x =
      let there = s.stands in
      let y = x.stands.stands in
      let at : n.0 ≡ l.0 = ap (λ (z : Node). z.0) y.0 in
      let far : (k : ℕ) → Reaches rest k → Reaches (more (rose l q us) no_roses) k → ⊥ = λ k r u. still_apart old (more (rose n p kids) no_roses) (more (rose l q us) no_roses) k (inside old ns rest k there.4 r) (λ v. apart k v r) (x.within k) u in
      record {
        trees = more (rose l q us) rest;
        rewrites = record {
          stands = record {
            stands = (y.0, y.1, y.2, y.3, Stands-kept S old new ns rest there.4 (λ k r. x.keeps.same k (inside old ns rest k there.4 r) (λ u. apart k u r)));
            once = (x.stands.once.0, (λ r. far l.0 r (inl refl)), (λ k u r. far k r (inr (inl u))), x.stands.once.3, s.once.4);
          };
          keeps = record { grows = x.keeps.grows; same = λ k lt away. x.keeps.same k lt (λ r. away (alone k r)) };
          within = λ k r. at_place k r;
        };
        reached = inl at;
        sized = omega arith;
      }
    where
      apart : (k : ℕ) → Reaches (more (rose n p kids) no_roses) k → Reaches rest k → ⊥
      apart k (inl e) r = s.once.1 (subst (Reaches rest) e r)
      apart k (inr (inl u)) r = s.once.2 k u r
      apart k (inr (inr v)) r = absurd v

      alone : (k : ℕ) → Reaches (more (rose n p kids) no_roses) k → Reaches (more (rose n p kids) rest) k
      alone k (inl e) = inl e
      alone k (inr (inl u)) = inr (inl u)
      alone k (inr (inr v)) = absurd v

      first : (k : ℕ) → Reaches (more (rose n p kids) no_roses) k ⊎ (length old ≤ k) → Reaches (more (rose n p kids) rest) k ⊎ (length old ≤ k)
      first k (inl u) = inl (alone k u)
      first k (inr v) = inr v

      at_place : (k : ℕ) → Reaches (more (rose l q us) rest) k → Reaches (more (rose n p kids) rest) k ⊎ (length old ≤ k)
      at_place k (inl e) = first k (x.within k (inl e))
      at_place k (inr (inl u)) = first k (x.within k (inr (inl u)))
      at_place k (inr (inr r)) = inl (inr (inr r))

  -- trees are rewritten where the tree at a number that they reach is
  pub replaced_within : (old new : List P) (ns : List Node) (f : Trees P) (m : Node) (g h : Trees P) → StandsOnce S old ns f → Reaches f m.0 → StandsOnce S old (m ∷ []) g → Rewrites S old new (m ∷ []) g h → Within old new ns f m g h
  replaced_within old new ns no_roses m g h s r sg x = absurd r
  replaced_within old new [] (more (rose n p kids) rest) m g h s r sg x = absurd s.stands
  replaced_within old new (n' ∷ ns) (more (rose n p kids) rest) m g h s (inl e) sg x =
      let mn = same_node S m n' (e ∙ sym (ap (λ (z : Node). z.0) s.stands.0)) in
      let nn : n' ≡ n = s.stands.0 in
      let s1 = subst (λ (z : Node). StandsOnce S old (z ∷ ns) (more (rose n p kids) rest)) nn s in
      let m1 : m ≡ n = mn ∙ nn in
      let one : StandsOnce S old (n ∷ []) (more (rose n p kids) no_roses) = record { stands = (refl, s1.stands.1, s1.stands.2, s1.stands.3, tt); once = (s1.once.0, (λ z. z), (λ k u v. v), s1.once.3, tt) } in
      let same : g ≡ more (rose n p kids) no_roses = Stands-unique S old (n ∷ []) g (more (rose n p kids) no_roses) (subst (λ (z : Node). Stands S old (z ∷ []) g) m1 sg.stands) one.stands in
      let x1 = subst (λ (z : Node). Rewrites S old new (z ∷ []) g h) m1 x in
      let x2 = subst (λ (z : Trees P). Rewrites S old new (n ∷ []) z h) same x1 in
      let w = before old new n ns p kids rest h s1 x2 in
      record {
        trees = w.trees;
        rewrites = subst (λ (z : Node). Rewrites S old new (z ∷ ns) (more (rose n p kids) rest) w.trees) (sym nn) w.rewrites;
        reached = subst (Reaches w.trees) (sym e) w.reached;
        sized = (let k = w.sized in let q = ap size same in omega (arith, k, q));
      }
  replaced_within old new (n' ∷ ns) (more (rose n p kids) rest) m g h s (inr (inl u)) sg x =
      let w = replaced_within old new (S.inputs p) kids m g h (record { stands = s.stands.3; once = s.once.3 }) u sg x in
      record { trees = more (rose n p w.trees) rest; rewrites = below S old new n' n ns p kids rest w.trees s w.rewrites; reached = inr (inl w.reached); sized = (let k = w.sized in omega (arith, k)) }
  replaced_within old new (n' ∷ ns) (more (rose n p kids) rest) m g h s (inr (inr v)) sg x =
      let w = replaced_within old new ns rest m g h (record { stands = s.stands.4; once = s.once.4 }) v sg x in
      record { trees = more (rose n p kids) w.trees; rewrites = after S old new n' n ns p kids rest w.trees s w.rewrites; reached = inr (inr w.reached); sized = (let k = w.sized in omega (arith, k)) }
