-- A tree that is rewritten at a number inside others: these are rewritten with it.
use Rattle.std.proofs.Common.{◌≡◌, ℕ, ◌<◌, ◌≤◌, List, [], ◌∷◌, length, refl, sym, ap, ◌∙◌, subst, inl, inr, ◌⊎◌, arith, ⊎_elim}
use Rattle.plan_core.specs.declared.arena.Node.{Node}
use Rattle.plan_tree.proofs.Numbers.{Reaches-within}
use Rattle.plan_tree.proofs.TreeLemmas.{Stands-unique}
use Rattle.plan_tree.proofs.Frames.{Stands-kept}
use Rattle.plan_tree.specs.Rose.{rose, no_roses, more}
use Rattle.plan_tree.specs.Stands.{Shape, Trees, Reaches, Stands, StandsOnce, Rewrites}
use Rattle.plan_tree.specs.Forests.{RewrittenAt}

module _ {P : Type 0} (S : Shape P) where
  -- a number in old trees is one of the old entries
  inside : (old : List P) (ns : List Node) (f : Trees P) (k : ℕ) → Stands S old ns f → Reaches f k → k < length old
  inside old ns f k s r = Reaches-within S old ns f k s r

  -- trees apart from old ones are apart from what these became
  still_apart : (old : List P) (f g : Trees P) (k : ℕ) → k < length old → (Reaches f k → ⊥) → (Reaches g k → Reaches f k ⊎ (length old ≤ k)) → Reaches g k → ⊥
  still_apart old f g k lt away within r = ⊎_elim (λ (u : Reaches f k). away u) (λ (v : length old ≤ k). absurd (omega (arith, lt, v))) (within r)

  -- below a node, with other trees beside it
  pub below : (old new : List P) (n' n : Node) (ns : List Node) (p : P) (kids rest us : Trees P) → StandsOnce S old (n' ∷ ns) (more (rose n p kids) rest) → Rewrites S old new (S.inputs p) kids us → Rewrites S old new (n' ∷ ns) (more (rose n p kids) rest) (more (rose n p us) rest)
  below old new n' n ns p kids rest us h x =
      let lt : n.0 < length old = inside old (n' ∷ ns) (more (rose n p kids) rest) n.0 h.stands (inl refl) in
      let at : n'.0 ≡ n.0 = ap (λ (y : Node). y.0) h.stands.0 in
      let there = h.stands in
      record {
        stands = record {
          stands = (
            there.0,
            x.keeps.same n'.0 (omega (arith, lt, at)) (λ r. h.once.0 (subst (Reaches kids) at r)) ∙ there.1,
            there.2,
            x.stands.stands,
            Stands-kept S old new ns rest there.4 (λ k r. x.keeps.same k (inside old ns rest k there.4 r) (λ u. h.once.2 k u r)),
          );
          once = (
            still_apart old kids us n.0 lt h.once.0 (x.within n.0),
            h.once.1,
            (λ k u r. still_apart old kids us k (inside old ns rest k there.4 r) (λ v. h.once.2 k v r) (x.within k) u),
            x.stands.once,
            h.once.4,
          );
        };
        keeps = record { grows = x.keeps.grows; same = λ k l away. x.keeps.same k l (λ r. away (inr (inl r))) };
        within = λ k r. at_place k r;
      }
    where
      at_place : (k : ℕ) → Reaches (more (rose n p us) rest) k → Reaches (more (rose n p kids) rest) k ⊎ (length old ≤ k)
      at_place k (inl e) = inl (inl e)
      at_place k (inr (inl u)) = ⊎_elim (λ (v : Reaches kids k). inl (inr (inl v))) (λ (v : length old ≤ k). inr v) (x.within k u)
      at_place k (inr (inr r)) = inl (inr (inr r))

  -- beside a tree
  pub after : (old new : List P) (n' n : Node) (ns : List Node) (p : P) (kids rest us : Trees P) → StandsOnce S old (n' ∷ ns) (more (rose n p kids) rest) → Rewrites S old new ns rest us → Rewrites S old new (n' ∷ ns) (more (rose n p kids) rest) (more (rose n p kids) us)
  after old new n' n ns p kids rest us h x =
      let lt : n.0 < length old = inside old (n' ∷ ns) (more (rose n p kids) rest) n.0 h.stands (inl refl) in
      let at : n'.0 ≡ n.0 = ap (λ (y : Node). y.0) h.stands.0 in
      let there = h.stands in
      record {
        stands = record {
          stands = (
            there.0,
            x.keeps.same n'.0 (omega (arith, lt, at)) (λ r. h.once.1 (subst (Reaches rest) at r)) ∙ there.1,
            there.2,
            Stands-kept S old new (S.inputs p) kids there.3 (λ k r. x.keeps.same k (inside old (S.inputs p) kids k there.3 r) (λ u. h.once.2 k r u)),
            x.stands.stands,
          );
          once = (
            h.once.0,
            still_apart old rest us n.0 lt h.once.1 (x.within n.0),
            (λ k r u. still_apart old rest us k (inside old (S.inputs p) kids k there.3 r) (λ v. h.once.2 k r v) (x.within k) u),
            h.once.3,
            x.stands.once,
          );
        };
        keeps = record { grows = x.keeps.grows; same = λ k l away. x.keeps.same k l (λ r. away (inr (inr r))) };
        within = λ k r. at_place k r;
      }
    where
      at_place : (k : ℕ) → Reaches (more (rose n p kids) us) k → Reaches (more (rose n p kids) rest) k ⊎ (length old ≤ k)
      at_place k (inl e) = inl (inl e)
      at_place k (inr (inl u)) = inl (inr (inl u))
      at_place k (inr (inr r)) = ⊎_elim (λ (v : Reaches rest k). inl (inr (inr v))) (λ (v : length old ≤ k). inr v) (x.within k r)

  -- in the place of the first tree
  before : (old new : List P) (n : Node) (ns : List Node) (p : P) (kids rest h : Trees P) → StandsOnce S old (n ∷ ns) (more (rose n p kids) rest) → Rewrites S old new (n ∷ []) (more (rose n p kids) no_roses) h → RewrittenAt S old new (n ∷ ns) (more (rose n p kids) rest) n
  before old new n ns p kids rest no_roses s x = absurd x.stands.stands
  before old new n ns p kids rest (more (rose l q us) (more (rose l' q' us') ts)) s x = absurd x.stands.stands.4
  before old new n ns p kids rest (more (rose l q us) no_roses) s x =
      let there = s.stands in
      let y = x.stands.stands in
      let at : n.0 ≡ l.0 = ap (λ (z : Node). z.0) y.0 in
      let far : (k : ℕ) → Reaches rest k → Reaches (more (rose l q us) no_roses) k → ⊥ = λ k r u. still_apart old (more (rose n p kids) no_roses) (more (rose l q us) no_roses) k (inside old ns rest k there.4 r) (λ v. apart k v r) (x.within k) u in
      record {
        trees = more (rose l q us) rest;
        rewrites = record {
          stands = record {
            stands = (y.0, y.1, y.2, y.3, Stands-kept S old new ns rest there.4 (λ k r. x.keeps.same k (inside old ns rest k there.4 r) (λ u. apart k u r)));
            once = (x.stands.once.0, (λ r. far l.0 r (inl refl)), (λ k u r. far k r (inr (inl u))), x.stands.once.3, s.once.4);
          };
          keeps = record { grows = x.keeps.grows; same = λ k lt away. x.keeps.same k lt (λ r. away (alone k r)) };
          within = λ k r. at_place k r;
        };
        reached = inl at;
      }
    where
      apart : (k : ℕ) → Reaches (more (rose n p kids) no_roses) k → Reaches rest k → ⊥
      apart k (inl e) r = s.once.1 (subst (Reaches rest) e r)
      apart k (inr (inl u)) r = s.once.2 k u r
      apart k (inr (inr v)) r = absurd v

      alone : (k : ℕ) → Reaches (more (rose n p kids) no_roses) k → Reaches (more (rose n p kids) rest) k
      alone k (inl e) = inl e
      alone k (inr (inl u)) = inr (inl u)
      alone k (inr (inr v)) = absurd v

      first : (k : ℕ) → Reaches (more (rose n p kids) no_roses) k ⊎ (length old ≤ k) → Reaches (more (rose n p kids) rest) k ⊎ (length old ≤ k)
      first k (inl u) = inl (alone k u)
      first k (inr v) = inr v

      at_place : (k : ℕ) → Reaches (more (rose l q us) rest) k → Reaches (more (rose n p kids) rest) k ⊎ (length old ≤ k)
      at_place k (inl e) = first k (x.within k (inl e))
      at_place k (inr (inl u)) = first k (x.within k (inr (inl u)))
      at_place k (inr (inr r)) = inl (inr (inr r))

  pub same_node : (m n : Node) → m.0 ≡ n.0 → m ≡ n
  same_node m n e = ap (λ (k : ℕ). record { 0 = k }) e

  -- trees are rewritten where the tree at a number that they reach is
  pub replaced_within : (old new : List P) (ns : List Node) (f : Trees P) (m : Node) (g h : Trees P) → StandsOnce S old ns f → Reaches f m.0 → StandsOnce S old (m ∷ []) g → Rewrites S old new (m ∷ []) g h → RewrittenAt S old new ns f m
  replaced_within old new ns no_roses m g h s r sg x = absurd r
  replaced_within old new [] (more (rose n p kids) rest) m g h s r sg x = absurd s.stands
  replaced_within old new (n' ∷ ns) (more (rose n p kids) rest) m g h s (inl e) sg x =
      let mn = same_node m n' (e ∙ sym (ap (λ (z : Node). z.0) s.stands.0)) in
      let nn : n' ≡ n = s.stands.0 in
      let s1 = subst (λ (z : Node). StandsOnce S old (z ∷ ns) (more (rose n p kids) rest)) nn s in
      let m1 : m ≡ n = mn ∙ nn in
      let one : StandsOnce S old (n ∷ []) (more (rose n p kids) no_roses) = record { stands = (refl, s1.stands.1, s1.stands.2, s1.stands.3, tt); once = (s1.once.0, (λ z. z), (λ k u v. v), s1.once.3, tt) } in
      let same : g ≡ more (rose n p kids) no_roses = Stands-unique S old (n ∷ []) g (more (rose n p kids) no_roses) (subst (λ (z : Node). Stands S old (z ∷ []) g) m1 sg.stands) one.stands in
      let x1 = subst (λ (z : Node). Rewrites S old new (z ∷ []) g h) m1 x in
      let x2 = subst (λ (z : Trees P). Rewrites S old new (n ∷ []) z h) same x1 in
      let w = before old new n ns p kids rest h s1 x2 in
      record {
        trees = w.trees;
        rewrites = subst (λ (z : Node). Rewrites S old new (z ∷ ns) (more (rose n p kids) rest) w.trees) (sym nn) w.rewrites;
        reached = subst (Reaches w.trees) (sym e) w.reached;
      }
  replaced_within old new (n' ∷ ns) (more (rose n p kids) rest) m g h s (inr (inl u)) sg x =
      let w = replaced_within old new (S.inputs p) kids m g h (record { stands = s.stands.3; once = s.once.3 }) u sg x in
      record { trees = more (rose n p w.trees) rest; rewrites = below old new n' n ns p kids rest w.trees s w.rewrites; reached = inr (inl w.reached) }
  replaced_within old new (n' ∷ ns) (more (rose n p kids) rest) m g h s (inr (inr v)) sg x =
      let w = replaced_within old new ns rest m g h (record { stands = s.stands.4; once = s.once.4 }) v sg x in
      record { trees = more (rose n p kids) w.trees; rewrites = after old new n' n ns p kids rest w.trees s w.rewrites; reached = inr (inr w.reached) }
