-- Lists of which there is one: their elements, and an order that tells these apart, leave no choice.
use Rattle.std.proofs.Common.{◌≡◌, ◌∙◌, ◌<◌, ◌==◌, ℕ, Bool, true, false, cond, List, [], ◌∷◌, Option, Some, None, refl, sym, ap, ap₂, subst, arith, eqb-true}
use Rattle.std.specs.Prelude.{nat_lt}
use Rattle.std.specs.Cmp.{IsTotalOrder, bool_cmp_total}
use Rattle.std.specs.List.{AllByRecursion, IsDistinct, range_with_len, sum_by}
use Rattle.std.specs.List.Sorted.{IsPermutation, IsSorted}
use Rattle.std.specs.Ordering.{is_eq, is_lt, nat_cmp, ordering_reverse, ordering_then}
use Rattle.std.specs.declared.cmp.Ordering.{Ordering}
use Rattle.std.specs.declared.cmp.Ordering.TheVariants.{Less, Equal, Greater}
use Rattle.std.proofs.lemmas.Cmp.{int_cmp_total, nat_cmp_total, nat_list_cmp_total, on_total, then_total}
use Rattle.std.proofs.lemmas.List.Sorted.{sum_by-IsPermutation}
use Rattle.std.proofs.lemmas.List.Sums.{sum_by-cons}
use Rattle.plan_options.specs.declared.join.MaintainOrderJoin.{MaintainOrderJoin}
use Rattle.plan_options.specs.declared.join.MaintainOrderJoin.TheVariants as orders
use Rattle.plan_frame.specs.Values.{Value, null, whole, text, truth, listed, value_cmp}
use Rattle.plan_frame.specs.Meaning.{Cell, value_at}
use Rattle.plan_frame.specs.Orders.{first_mark, key_cmp, rest_marks, rows_cmp}
use Rattle.plan_join.specs.declared.pairs.RowPair.{RowPair}
use Rattle.plan_join.specs.Orders.{Meets, left_right, own_order, place_cmp, right_left}
use Rattle.plan_meaning.specs.Choices.{AreRanked, by_place}
use Rattle.plan_meaning.proofs.FarApart.{far-apart}

module _ {X : Type 0} (cmp : X → X → Ordering) (turned : (x y : X) → cmp x y ≡ ordering_reverse (cmp y x)) (equal : (x y : X) → cmp x y ≡ Equal → x ≡ y) where
  -- whether an element is another, as a number
  abbrev hit : X → X → ℕ
  hit x y = cond (is_eq (cmp x y)) 1 0

  own : (o : Ordering) → o ≡ ordering_reverse o → is_eq o ≡ true
  own Less e = cc
  own Equal e = refl
  own Greater e = cc

  itself : (x : X) → is_eq (cmp x x) ≡ true
  itself x = own (cmp x x) (turned x x)

  level : (o : Ordering) → is_eq o ≡ true → o ≡ Equal
  level Less e = cc
  level Equal e = refl
  level Greater e = cc

  -- what holds of each element holds of one that is there
  held : (P : X → Type 0) (x : X) (ys : List X) → AllByRecursion P ys → 0 < sum_by (hit x) ys → P x
  held P x [] h lt = absurd (omega (arith, lt))
  held P x (y ∷ ys) h lt = at (is_eq (cmp x y)) refl (held P x ys h.1)
    where
      at : (b : Bool) → is_eq (cmp x y) ≡ b → (0 < sum_by (hit x) ys → P x) → P x
      at true e rest = subst P (sym (equal x y (level (cmp x y) e))) h.0
      at false e rest =
          let none : hit x y ≡ 0 = ap (λ (b : Bool). cond b 1 0) e in
          let more = sum_by-cons (hit x) y ys in
          rest (omega (arith, lt, none, more))

  -- an element that heads a list is there
  heads : (x : X) (xs : List X) → 0 < sum_by (hit x) (x ∷ xs)
  heads x xs =
      let one : hit x x ≡ 1 = ap (λ (b : Bool). cond b 1 0) (itself x) in
      let more = sum_by-cons (hit x) x xs in
      omega (arith, one, more)

  -- elements of which none stands before the other are one
  level-same : (x y : X) (o p : Ordering) → cmp x y ≡ o → cmp y x ≡ p → is_lt o ≡ false → is_lt p ≡ false → x ≡ y
  level-same x y Less p e f h k = cc
  level-same x y Equal p e f h k = equal x y e
  level-same x y Greater Less e f h k = cc
  level-same x y Greater Equal e f h k = let t = turned x y in cc
  level-same x y Greater Greater e f h k = let t = turned x y in cc

  same-sums : (xs ys : List X) → IsDistinct (λ x y. is_lt (cmp y x)) xs → IsDistinct (λ x y. is_lt (cmp y x)) ys → ((f : X → ℕ) → sum_by f xs ≡ sum_by f ys) → xs ≡ ys
  unfolding IsDistinct
  same-sums [] [] h k s = refl
  same-sums [] (y ∷ ys) h k s = let e = s (hit y) in let p = heads y ys in absurd (omega (arith, e, p))
  same-sums (x ∷ xs) [] h k s = let e = s (hit x) in let p = heads x xs in absurd (omega (arith, e, p))
  same-sums (x ∷ xs) (y ∷ ys) h k s =
      let own-last : (z : X) → is_lt (cmp z z) ≡ false = λ (z : X). ap is_lt (level (cmp z z) (itself z)) in
      let a : is_lt (cmp x y) ≡ false = held (λ z. is_lt (cmp z y) ≡ false) x (y ∷ ys) (own-last y, k.0) (let e = s (hit x) in let p = heads x xs in omega (arith, e, p)) in
      let b : is_lt (cmp y x) ≡ false = held (λ z. is_lt (cmp z x) ≡ false) y (x ∷ xs) (own-last x, h.0) (let e = s (hit y) in let p = heads y ys in omega (arith, e, p)) in
      let same : x ≡ y = level-same x y (cmp x y) (cmp y x) refl refl a b in
      let rest : (f : X → ℕ) → sum_by f xs ≡ sum_by f ys = λ (f : X → ℕ). let e = s f in let p = sum_by-cons f x xs in let q = sum_by-cons f y ys in let w = ap f same in omega (arith, e, p, q, w) in
      ap₂ (λ (z : X) (zs : List X). z ∷ zs) same (same-sums xs ys h.1 k.1 rest)

  -- elements in two such orders stand in one
  pub one-order : (zs xs ys : List X) → IsPermutation zs xs → IsPermutation zs ys → IsDistinct (λ x y. is_lt (cmp y x)) xs → IsDistinct (λ x y. is_lt (cmp y x)) ys → xs ≡ ys
  one-order zs xs ys p q h k = same-sums xs ys h k (λ f. sum_by-IsPermutation f zs xs p ∙ sym (sum_by-IsPermutation f zs ys q))

-- Rows by keys

then-turned : (a b c d : Ordering) → a ≡ ordering_reverse c → b ≡ ordering_reverse d → ordering_then a b ≡ ordering_reverse (ordering_then c d)
then-turned a b c d e f = ap₂ ordering_then e f ∙ at c
  where
    at : (c : Ordering) → ordering_then (ordering_reverse c) (ordering_reverse d) ≡ ordering_reverse (ordering_then c d)
    at Less = refl
    at Equal = refl
    at Greater = refl

then-second : (a b : Ordering) → ordering_then a b ≡ Equal → b ≡ Equal
then-second Less b e = cc
then-second Equal b e = e
then-second Greater b e = cc

then-first : (a b : Ordering) → ordering_then a b ≡ Equal → a ≡ Equal
then-first Less b e = cc
then-first Equal b e = refl
then-first Greater b e = cc

value-turned : (v w : Value) → value_cmp v w ≡ ordering_reverse (value_cmp w v)
value-turned (whole a) (whole b) = int_cmp_total.antisymm a b
value-turned (text a) (text b) = nat_list_cmp_total.antisymm a b
value-turned (truth a) (truth b) = bool_cmp_total.antisymm a b
value-turned null null = refl
value-turned (listed vs) (listed ws) = refl
value-turned v w = refl

key-turned : (d n : Bool) (v w : Value) → key_cmp d n v w ≡ ordering_reverse (key_cmp d n w v)
key-turned d n null null = refl
key-turned d true null w = refl
key-turned d false null w = refl
key-turned d true v null = refl
key-turned d false v null = refl
key-turned true n v w = ap ordering_reverse (value-turned v w)
key-turned false n v w = value-turned v w

rows-turned : (cs : List Cell) (ds ns : List Bool) (i j : ℕ) → rows_cmp cs ds ns i j ≡ ordering_reverse (rows_cmp cs ds ns j i)
rows-turned [] ds ns i j = refl
rows-turned (c ∷ cs) ds ns i j =
    then-turned (key_cmp (first_mark ds) (first_mark ns) (value_at c i) (value_at c j)) (rows_cmp cs (rest_marks ds) (rest_marks ns) i j)
    (key_cmp (first_mark ds) (first_mark ns) (value_at c j) (value_at c i)) (rows_cmp cs (rest_marks ds) (rest_marks ns) j i)
    (key-turned (first_mark ds) (first_mark ns) (value_at c i) (value_at c j)) (rows-turned cs (rest_marks ds) (rest_marks ns) i j)

nat-equal : (i j : ℕ) → nat_cmp i j ≡ Equal → i ≡ j
nat-equal i j e = at (nat_lt i j) (i == j) refl refl
  where
    at : (a b : Bool) → nat_lt i j ≡ a → (i == j) ≡ b → i ≡ j
    at true b p q = let less : Less ≡ nat_cmp i j = sym (ap (λ (t : Bool). cond t Less (cond (i == j) Equal Greater)) p) in cc
    at false true p q = eqb-true i j q
    at false false p q = let more : nat_cmp i j ≡ Greater = ap₂ (λ (s t : Bool). cond s Less (cond t Equal Greater)) p q in cc

-- rows that are ranked by keys stand in one order
pub one-ranking : (cs : List Cell) (ds ns : List Bool) (h : ℕ) (xs ys : List ℕ) → AreRanked (rows_cmp cs ds ns) h xs → AreRanked (rows_cmp cs ds ns) h ys → xs ≡ ys
one-ranking cs ds ns h xs ys a b =
    one-order (by_place (rows_cmp cs ds ns))
    (λ i j. then-turned (rows_cmp cs ds ns i j) (nat_cmp i j) (rows_cmp cs ds ns j i) (nat_cmp j i) (rows-turned cs ds ns i j) (nat_cmp_total.antisymm i j))
    (λ i j e. nat-equal i j (then-second (rows_cmp cs ds ns i j) (nat_cmp i j) e))
    (range_with_len 0 h) xs ys a.permutes b.permutes a.ranked b.ranked

-- Pairs of rows

place-total : IsTotalOrder place_cmp
place-total = record { antisymm = antisymm; trans = trans; congr = congr }
  where
    antisymm : (x y : Option ℕ) → place_cmp x y ≡ ordering_reverse (place_cmp y x)
    antisymm (Some i) (Some j) = nat_cmp_total.antisymm i j
    antisymm (Some i) None = refl
    antisymm None (Some j) = refl
    antisymm None None = refl

    trans : (x y z : Option ℕ) → place_cmp x y ≡ Less → place_cmp y z ≡ Less → place_cmp x z ≡ Less
    trans (Some i) (Some j) (Some k) e f = nat_cmp_total.trans i j k e f
    trans (Some i) (Some j) None e f = refl
    trans (Some i) None z e f = let none : (w : Option ℕ) → place_cmp None w ≡ Less → ⊥ = never in absurd (none z f)
      where
        never : (w : Option ℕ) → place_cmp None w ≡ Less → ⊥
        never (Some k) g = cc
        never None g = cc
    trans None (Some j) z e f = cc
    trans None None z e f = cc

    congr : (x y z : Option ℕ) → place_cmp x y ≡ Equal → place_cmp x z ≡ place_cmp y z
    congr (Some i) (Some j) (Some k) e = nat_cmp_total.congr i j k e
    congr (Some i) (Some j) None e = refl
    congr (Some i) None z e = cc
    congr None (Some j) z e = cc
    congr None None z e = refl

place-equal : (x y : Option ℕ) → place_cmp x y ≡ Equal → x ≡ y
place-equal (Some i) (Some j) e = ap Some (nat-equal i j e)
place-equal (Some i) None e = cc
place-equal None (Some j) e = cc
place-equal None None e = refl

left-total : IsTotalOrder left_right
left-total = then_total (on_total (λ (p : RowPair). p.left) place-total) (on_total (λ (p : RowPair). p.right) place-total)

right-total : IsTotalOrder right_left
right-total = then_total (on_total (λ (p : RowPair). p.right) place-total) (on_total (λ (p : RowPair). p.left) place-total)

same-pair : (p q : RowPair) → place_cmp p.left q.left ≡ Equal → place_cmp p.right q.right ≡ Equal → p ≡ q
same-pair p q e f = ap₂ (λ (x y : Option ℕ). record { left = x; right = y }) (place-equal p.left q.left e) (place-equal p.right q.right f)

left-equal : (p q : RowPair) → left_right p q ≡ Equal → p ≡ q
left-equal p q e = same-pair p q (then-first (place_cmp p.left q.left) (place_cmp p.right q.right) e) (then-second (place_cmp p.left q.left) (place_cmp p.right q.right) e)

right-equal : (p q : RowPair) → right_left p q ≡ Equal → p ≡ q
right-equal p q e = same-pair p q (then-second (place_cmp p.right q.right) (place_cmp p.left q.left) e) (then-first (place_cmp p.right q.right) (place_cmp p.left q.left) e)

by-left : (zs ps qs : List RowPair) → IsPermutation zs ps → IsPermutation zs qs → IsSorted left_right ps → IsSorted left_right qs → ps ≡ qs
by-left zs ps qs p q h k = one-order left_right left-total.antisymm left-equal zs ps qs p q (far-apart left_right left-total ps h) (far-apart left_right left-total qs k)

by-right : (zs ps qs : List RowPair) → IsPermutation zs ps → IsPermutation zs qs → IsSorted right_left ps → IsSorted right_left qs → ps ≡ qs
by-right zs ps qs p q h k = one-order right_left right-total.antisymm right-equal zs ps qs p q (far-apart right_left right-total ps h) (far-apart right_left right-total qs k)

-- pairs in the order by both sides stand in one order
pub one-pairing : (order : MaintainOrderJoin) (zs ps qs : List RowPair) → IsPermutation zs ps → IsPermutation zs qs → Meets (own_order order) ps → Meets (own_order order) qs → ps ≡ qs
one-pairing orders.None = by-left
one-pairing orders.Left = by-left
one-pairing orders.LeftRight = by-left
one-pairing orders.Right = by-right
one-pairing orders.RightLeft = by-right
