-- The measure of a recursion over an arena, and the trees of a node's inputs by index.
use Rattle.std.proofs.Common.{false, ◌≡◌, ℕ, zero, suc, ◌+◌, ◌<◌, ◌≤◌, List, [], ◌∷◌, length, max, refl, sym, ◌∙◌, ap, arith, Some}
use Rattle.std.specs.List.{slice_get}
use Rattle.std.specs.Option.{option_map_or}
use Rattle.plan_core.specs.declared.arena.Node.{Node}
use Rattle.plan_tree.proofs.Numbers.{size-le}
use Rattle.plan_tree.specs.Rose.{rose, no_roses, more, size, levels}
use Rattle.plan_tree.specs.Stands.{Shape, Trees, Reaches, IsOnce, Stands, StandsOnce}

module _ {P : Type 0} (S : Shape P) where
  abbrev pub tallest : (Node → ℕ) → List Node → ℕ
  tallest f [] = 0
  tallest f (n ∷ ns) = max (f n) (tallest f ns)

  -- how many levels stand below and at a number, looked for in at most k levels
  unfoldable pub height : ℕ → List P → Node → ℕ
  height zero lp n = 0
  height (suc k) lp n = option_map_or (λ p. 1 + tallest (height k lp) (S.inputs p)) (slice_get lp n.0) 0

  -- the measure of a walk from a number
  abbrev pub height_at : List P → Node → ℕ
  height_at lp n = height (length lp) lp n

  pub levels-le-size : (f : Trees P) → levels f ≤ size f
  levels-le-size no_roses = omega arith
  levels-le-size (more (rose n p kids) rest) = omega (arith, levels-le-size kids, levels-le-size rest)

  pub tallest-is : (k : ℕ) (lp : List P) (ns : List Node) (f : Trees P) → Stands S lp ns f → levels f ≤ k → tallest (height k lp) ns ≡ levels f
  unfolding height
  tallest-is k lp [] no_roses s h = refl
  tallest-is k lp [] (more (rose n p kids) rest) s h = absurd s
  tallest-is k lp (m ∷ ns) no_roses s h = absurd s
  tallest-is zero lp (m ∷ ns) (more (rose n p kids) rest) s h = absurd (omega arith)
  tallest-is (suc k) lp (m ∷ ns) (more (rose n p kids) rest) s h =
      let a : tallest (height k lp) (S.inputs p) ≡ levels kids = tallest-is k lp (S.inputs p) kids s.3 (omega arith) in
      let b : tallest (height (suc k) lp) ns ≡ levels rest = tallest-is (suc k) lp ns rest s.4 (omega arith) in
      rw (s.1, a, b) refl

  pub height-is : (lp : List P) (n : Node) (t : Trees P) → StandsOnce S lp (n ∷ []) t → height_at lp n ≡ levels t
  height-is lp n t h =
      let e : tallest (height (length lp) lp) (n ∷ []) ≡ levels t = tallest-is (length lp) lp (n ∷ []) t h.stands (omega (arith, levels-le-size t, size-le S lp (n ∷ []) t h)) in
      omega arith

  -- the tree at an index, and the trees from an index on
  abbrev pub nth : Trees P → ℕ → Trees P
  nth no_roses j = no_roses
  nth (more (rose n p kids) rest) zero = more (rose n p kids) no_roses
  nth (more (rose n p kids) rest) (suc j) = nth rest j

  abbrev pub from : Trees P → ℕ → Trees P
  from no_roses j = no_roses
  from (more (rose n p kids) rest) zero = more (rose n p kids) rest
  from (more (rose n p kids) rest) (suc j) = from rest j

  pub Stands-nth : (lp : List P) (ns : List Node) (f : Trees P) (j : ℕ) (n : Node) → Stands S lp ns f → slice_get ns j ≡ Some n → Stands S lp (n ∷ []) (nth f j)
  Stands-nth lp [] f j n s e = cc
  Stands-nth lp (m ∷ ns) no_roses j n s e = absurd s
  Stands-nth lp (m ∷ ns) (more (rose k p kids) rest) zero n s e =
      let q : m ≡ n = cc in (sym q ∙ s.0, rw (← q) s.1, s.2, s.3, tt)
  Stands-nth lp (m ∷ ns) (more (rose k p kids) rest) (suc j) n s e = Stands-nth lp ns rest j n s.4 e

  pub IsOnce-nth : (f : Trees P) (j : ℕ) → IsOnce f → IsOnce (nth f j)
  IsOnce-nth no_roses j o = tt
  IsOnce-nth (more (rose k p kids) rest) zero o = (o.0, (λ r. r), (λ k a b. b), o.3, tt)
  IsOnce-nth (more (rose k p kids) rest) (suc j) o = IsOnce-nth rest j o.4

  pub levels-nth : (f : Trees P) (j : ℕ) → levels (nth f j) ≤ levels f
  levels-nth no_roses j = omega arith
  levels-nth (more (rose k p kids) rest) zero = omega arith
  levels-nth (more (rose k p kids) rest) (suc j) = omega (arith, levels-nth rest j)

  pub size-from : (lp : List P) (ns : List Node) (f : Trees P) (j : ℕ) → Stands S lp ns f → j < length ns → size (from f j) ≡ size (nth f j) + size (from f (suc j))
  size-from lp [] f j s h = absurd (omega arith)
  size-from lp (m ∷ ns) no_roses j s h = absurd s
  size-from lp (m ∷ ns) (more (rose k p kids) no_roses) zero s h = omega arith
  size-from lp (m ∷ ns) (more (rose k p kids) (more (rose k2 p2 kids2) rest2)) zero s h = omega arith
  size-from lp (m ∷ ns) (more (rose k p kids) rest) (suc j) s h = size-from lp ns rest j s.4 (omega arith)

  pub size-from_end : (lp : List P) (ns : List Node) (f : Trees P) (j : ℕ) → Stands S lp ns f → length ns ≤ j → size (from f j) ≡ 0
  size-from_end lp [] no_roses j s h = refl
  size-from_end lp [] (more (rose n p kids) rest) j s h = absurd s
  size-from_end lp (m ∷ ns) no_roses j s h = refl
  size-from_end lp (m ∷ ns) (more (rose k p kids) rest) zero s h = absurd (omega arith)
  size-from_end lp (m ∷ ns) (more (rose k p kids) rest) (suc j) s h = size-from_end lp ns rest j s.4 (omega arith)

  pub StandsOnce-nth : (lp : List P) (ns : List Node) (f : Trees P) (j : ℕ) (n : Node) → StandsOnce S lp ns f → slice_get ns j ≡ Some n → StandsOnce S lp (n ∷ []) (nth f j)
  StandsOnce-nth lp ns f j n h e = record { stands = Stands-nth lp ns f j n h.stands e; once = IsOnce-nth f j h.once }

  -- what stands at a number, taken apart
  pub record Opened (lp : List P) (n : Node) (p : P) (t : Trees P) : Type 0 where
    pub kids : Trees P
    pub is : t ≡ more (rose n p kids) no_roses
    pub valid : S.bad p ≡ false
    pub inputs : StandsOnce S lp (S.inputs p) kids
    pub above : Reaches kids n.0 → ⊥

  pub opened : (lp : List P) (n : Node) (p : P) (t : Trees P) → StandsOnce S lp (n ∷ []) t → slice_get lp n.0 ≡ Some p → Opened lp n p t
  opened lp n p no_roses h e = absurd h.stands
  opened lp n p (more (rose m q kids) no_roses) h e =
      let a : n ≡ m = h.stands.0 in
      let b : p ≡ q = (let u = h.stands.1 in cc) in
      record {
        kids = kids;
        is = rw (a, b) refl;
        valid = rw b h.stands.2;
        inputs = record { stands = rw b h.stands.3; once = h.once.3 };
        above = rw a h.once.0;
      }
  opened lp n p (more (rose m q kids) (more (rose m2 q2 kids2) rest2)) h e = absurd h.stands.4

  -- a walk that goes from a number to an input of its node goes down
  pub height-falls : (lp : List P) (n i : Node) (p : P) (t : Trees P) (j : ℕ) → StandsOnce S lp (n ∷ []) t → slice_get lp n.0 ≡ Some p → slice_get (S.inputs p) j ≡ Some i → height_at lp i < height_at lp n
  height-falls lp n i p t j h e k =
      let o = opened lp n p t h e in
      let low : height_at lp i ≡ levels (nth o.kids j) = height-is lp i (nth o.kids j) (StandsOnce-nth lp (S.inputs p) o.kids j i o.inputs k) in
      let high : height_at lp n ≡ levels t = height-is lp n t h in
      let top : levels t ≡ max (1 + levels o.kids) 0 = ap levels o.is in
      omega (arith, levels-nth o.kids j)

  -- the trees under an input of a number's node
  pub StandsOnce-input : (lp : List P) (n i : Node) (p : P) (j : ℕ) → ((t : Trees P) × StandsOnce S lp (n ∷ []) t) → slice_get lp n.0 ≡ Some p → slice_get (S.inputs p) j ≡ Some i → (t : Trees P) × StandsOnce S lp (i ∷ []) t
  StandsOnce-input lp n i p j h e k =
      let o = opened lp n p h.0 h.1 e in
      (nth o.kids j, StandsOnce-nth lp (S.inputs p) o.kids j i o.inputs k)

  -- a tree over one number has its node, and the trees of its inputs
  pub size-opened : (lp : List P) (n : Node) (p : P) (t : Trees P) (o : Opened lp n p t) → size t ≡ 1 + size o.kids
  size-opened lp n p t o = let e : size t ≡ size (more (rose n p o.kids) no_roses) = ap size o.is in omega arith

  -- a list of numbers stands over one list of trees at most
  pub Stands-unique : (lp : List P) (ns : List Node) (f g : Trees P) → Stands S lp ns f → Stands S lp ns g → f ≡ g
  Stands-unique lp [] no_roses no_roses a b = refl
  Stands-unique lp [] no_roses (more (rose m p kids) rest) a b = absurd b
  Stands-unique lp [] (more (rose m p kids) rest) g a b = absurd a
  Stands-unique lp (n ∷ ns) no_roses g a b = absurd a
  Stands-unique lp (n ∷ ns) (more (rose m p kids) rest) no_roses a b = absurd b
  Stands-unique lp (n ∷ ns) (more (rose m p kids) rest) (more (rose m' p' kids') rest') a b =
      let e : m ≡ m' = sym a.0 ∙ b.0 in
      let q : p ≡ p' = (let u = a.1 in let v = b.1 in cc) in
      let k : kids ≡ kids' = Stands-unique lp (S.inputs p) kids kids' a.3 (rw q b.3) in
      let r : rest ≡ rest' = Stands-unique lp ns rest rest' a.4 b.4 in
      rw (e, q, k, r) refl
