-- The walk over nodes that takes the last input first: its turns, and that it meets no number twice.
use Rattle.std.proofs.Common.{◌≡◌, ℕ, ◌<◌, ◌≤◌, Bool, true, false, List, [], ◌∷◌, ◌++◌, length, map, Some, refl, sym, ap, ap₂, ◌∙◌, arith, append-nil, append_assoc}
use Rattle.std.specs.Bool.{nat_eq}
use Rattle.std.specs.List.{IsDistinct, slice_get}
use Rattle.std.specs.List.Sorted.{IsPermutation}
use Rattle.std.proofs.lemmas.Bool.{eq-eqb, eqb-true}
use Rattle.std.proofs.lemmas.List.{map-append}
use Rattle.std.proofs.lemmas.List.Sorted.{IsPermutation-refl, IsPermutation-trans, IsPermutation-append_comm, IsPermutation-append_left, IsPermutation-append_right, IsPermutation-cons}
use Rattle.std.proofs.lemmas.Map.Keys.{IsDistinct-IsPermutation}
use Rattle.std.proofs.lemmas.Option.{slice_get_within}
use Rattle.plan_core.specs.declared.arena.Node.{Node}
use Rattle.plan_tree.specs.Read.{trees_at}
use Rattle.plan_tree.specs.Rose.{rose, no_roses, more, labels, levels, size, join}
use Rattle.plan_tree.specs.Stands.{Trees, numbers, Stands, StandsOnce}
use Rattle.plan_tree.proofs.Frames.{Stands-join}
use Rattle.plan_tree.proofs.JoinLemmas.{levels-join, size-join}
use Rattle.plan_tree.proofs.Numbers.{IsDistinct-labels, size-le}
use Rattle.plan_tree.proofs.ReadLemmas.{gather-is, tree_at-is}
use Rattle.plan_tree.proofs.SplitLemmas.{Stands-split}
use Rattle.plan_tree.proofs.TreeLemmas.{levels-le-size}
use Rattle.plan_ir.specs.declared.ir.IR.{IR}
use Rattle.plan_ir.specs.Parts.{plan_shape, inputs_of}
use Rattle.plan_ir.specs.Walks.{last_first, nodes_from}

-- the entries of trees side by side
last_first-join : {P : Type 0} (f g : Trees P) → last_first (join f g) ≡ last_first g ++ last_first f
last_first-join no_roses g = sym (append-nil (last_first g))
last_first-join (more (rose n p kids) rest) g =
    ap (λ l. l ++ ((n, p) ∷ last_first kids)) (last_first-join rest g) ∙ append_assoc (last_first g) (last_first rest) ((n, p) ∷ last_first kids)

-- the loop at a turn: trees stand at the pending numbers, and what is listed goes on with their entries
pub record Goes (lp : List IR) (root : Node) (listed : List (Node × IR)) (pending : List Node) : Type 0 where
  pub trees : Trees IR
  pub stands : Stands plan_shape lp pending trees
  pub low : levels trees ≤ length lp
  pub is : listed ++ last_first trees ≡ nodes_from lp root

-- the measure of the loop: how many nodes stand at and below the pending numbers
unfoldable pub left : List IR → List Node → ℕ
left lp pending = size (trees_at plan_shape lp pending)

pub goes-init : (lp : List IR) (root : Node) → ((t : Trees IR) × StandsOnce plan_shape lp (root ∷ []) t) → Goes lp root [] (root ∷ [])
goes-init lp root h = record {
  trees = h.0;
  stands = h.1.stands;
  low = omega (arith, levels-le-size plan_shape h.0, size-le plan_shape lp (root ∷ []) h.0 h.1);
  is = ap last_first (sym (tree_at-is plan_shape lp root h.0 h.1));
}

pub goes-end : (lp : List IR) (root : Node) (listed : List (Node × IR)) → Goes lp root listed [] → listed ≡ nodes_from lp root
goes-end lp root listed h = go h.trees h.stands h.is
  where
    go : (t : Trees IR) → Stands plan_shape lp [] t → listed ++ last_first t ≡ nodes_from lp root → listed ≡ nodes_from lp root
    go no_roses s e = sym (append-nil listed) ∙ e
    go (more (rose n p kids) rest) s e = absurd s

-- one turn: what is left, and that it is less
pub record Turn (lp : List IR) (root : Node) (listed : List (Node × IR)) (n : Node) (p : IR) (before after : List Node) : Type 0 where
  pub next : Goes lp root (listed ++ (n, p) ∷ []) after
  pub falls : left lp after < left lp before

module _ (lp : List IR) (root : Node) (listed : List (Node × IR)) (pending : List Node) (n : Node) where
  turn_of : (p : IR) (f g : Trees IR) → Stands plan_shape lp pending f → Stands plan_shape lp (n ∷ []) g → slice_get lp n.0 ≡ Some p → levels (join f g) ≤ length lp → listed ++ last_first (join f g) ≡ nodes_from lp root → Turn lp root listed n p (pending ++ n ∷ []) (pending ++ inputs_of p)
  unfolding left
  turn_of p f no_roses s t e low is = absurd t
  turn_of p f (more (rose m q kids) (more (rose m' q' kids') rest)) s t e low is = absurd t.4
  turn_of p f (more (rose m q kids) no_roses) s t e low is =
      let same : p ≡ q = (let u = t.1 in cc) in
      let top : ◌≡◌ {A = Node × IR} (m, q) (n, p) = ap₂ (λ (x : Node) (y : IR). (x, y)) (sym t.0) (sym same) in
      let below : Stands plan_shape lp (inputs_of p) kids = rw same t.3 in
      let both : Stands plan_shape lp (pending ++ inputs_of p) (join f kids) = Stands-join plan_shape lp pending (inputs_of p) f kids s below in
      let whole : Stands plan_shape lp (pending ++ n ∷ []) (join f (more (rose m q kids) no_roses)) = Stands-join plan_shape lp pending (n ∷ []) f (more (rose m q kids) no_roses) s t in
      let low' : levels (join f kids) ≤ length lp = omega (arith, levels-join f kids, levels-join f (more (rose m q kids) no_roses)) in
      let now : trees_at plan_shape lp (pending ++ n ∷ []) ≡ join f (more (rose m q kids) no_roses) = gather-is plan_shape (length lp) lp (pending ++ n ∷ []) (join f (more (rose m q kids) no_roses)) whole low in
      let then : trees_at plan_shape lp (pending ++ inputs_of p) ≡ join f kids = gather-is plan_shape (length lp) lp (pending ++ inputs_of p) (join f kids) both low' in
      record {
        next = record {
          trees = join f kids;
          stands = both;
          low = low';
          is =
              append_assoc listed ((n, p) ∷ []) (last_first (join f kids))
              ∙ ap (λ l. listed ++ ((n, p) ∷ l)) (last_first-join f kids)
              ∙ ap (λ (x : Node × IR). listed ++ (x ∷ (last_first kids ++ last_first f))) (sym top)
              ∙ ap (λ l. listed ++ l) (sym (last_first-join f (more (rose m q kids) no_roses)))
              ∙ is;
        };
        falls = rw (now, then) (omega (arith, size-join f kids, size-join f (more (rose m q kids) no_roses)));
      }

  pub turn : (before after : List Node) (p : IR) → before ≡ pending ++ n ∷ [] → Goes lp root listed before → slice_get lp n.0 ≡ Some p → after ≡ pending ++ inputs_of p → Turn lp root listed n p before after
  turn before after p b h e a =
      let s = Stands-split plan_shape lp pending (n ∷ []) h.trees (rw b at h.stands) in
      rw (b, a) (turn_of p s.left s.right s.first s.second e (rw s.is at h.low) (rw s.is at h.is))

  -- the number on top is in the arena
  pub on_top : (before : List Node) → before ≡ pending ++ n ∷ [] → Goes lp root listed before → n.0 < length lp
  on_top before b h =
      let s = Stands-split plan_shape lp pending (n ∷ []) h.trees (rw b at h.stands) in
      go s.right s.second
    where
      go : (t : Trees IR) → Stands plan_shape lp (n ∷ []) t → n.0 < length lp
      go no_roses t = absurd t
      go (more (rose m p kids) rest) t = slice_get_within lp n.0 p t.1

-- the numbers of the entries are the labels, in another order
module _ {P : Type 0} where
  abbrev met : Trees P → List ℕ
  met f = map (λ (q : Node × P). q.0.0) (last_first f)

  met-permutes : (f : Trees P) → IsPermutation (numbers (labels f)) (met f)
  met-permutes no_roses = IsPermutation-refl []
  met-permutes (more (rose n p kids) rest) =
      let a : List ℕ = numbers (labels kids) in
      let b : List ℕ = numbers (labels rest) in
      let front : numbers (labels (more (rose n p kids) rest)) ≡ (n.0 ∷ a) ++ b = ap (λ l. n.0 ∷ l) (map-append (λ (m : Node). m.0) (labels kids) (labels rest)) in
      let back : met (more (rose n p kids) rest) ≡ met rest ++ (n.0 ∷ met kids) = map-append (λ (q : Node × P). q.0.0) (last_first rest) ((n, p) ∷ last_first kids) in
      rw (front, back)
      (IsPermutation-trans ((n.0 ∷ a) ++ b) (b ++ (n.0 ∷ a)) (met rest ++ (n.0 ∷ met kids)) (IsPermutation-append_comm (n.0 ∷ a) b)
      (IsPermutation-trans (b ++ (n.0 ∷ a)) (met rest ++ (n.0 ∷ a)) (met rest ++ (n.0 ∷ met kids)) (IsPermutation-append_left (n.0 ∷ a) b (met rest) (met-permutes rest))
      (IsPermutation-append_right (met rest) (n.0 ∷ a) (n.0 ∷ met kids) (IsPermutation-cons n.0 a (met kids) (met-permutes kids)))))

flips : (x y : ℕ) → nat_eq x y ≡ nat_eq y x
flips x y = at (nat_eq x y) (nat_eq y x) refl refl
  where
    at : (a b : Bool) → nat_eq x y ≡ a → nat_eq y x ≡ b → a ≡ b
    at true true e f = refl
    at false false e f = refl
    at true false e f = sym (eq-eqb y x (sym (eqb-true x y e))) ∙ f
    at false true e f = sym e ∙ eq-eqb x y (sym (eqb-true y x f))

-- no number is met twice
pub once : (lp : List IR) (root : Node) (walk : List (Node × IR)) → ((t : Trees IR) × StandsOnce plan_shape lp (root ∷ []) t) → walk ≡ nodes_from lp root → IsDistinct nat_eq (map (λ (q : Node × IR). q.0.0) walk)
once lp root walk h is =
    rw (is, tree_at-is plan_shape lp root h.0 h.1)
    (IsDistinct-IsPermutation nat_eq flips (numbers (labels h.0)) (met h.0) (met-permutes h.0) (IsDistinct-labels h.0 h.1.once))
