-- What holds of each entry of an arena, and of each label and item of trees that stand in it.
use Rattle.std.proofs.Common.{◌≡◌, ◌<◌, ◌≤◌, ◌+◌, ℕ, zero, suc, List, [], ◌∷◌, ◌++◌, map, Some, refl, sym, ap₂, ◌∙◌, subst, arith}
use Rattle.std.specs.List.{AllByRecursion, flat_map, range_with_len, slice_get}
use Rattle.std.proofs.lemmas.List.{map-append}
use Rattle.plan_core.specs.declared.arena.Node.{Node}
use Rattle.plan_doc_parts.proofs.EntryLemmas.{some_is}
use Rattle.plan_tree.specs.Rose.{Rose, Roses, rose, no_roses, more, labels, items, map_roses}
use Rattle.plan_tree.specs.Stands.{Shape, Trees, numbers, Stands}

-- ---- lists

module _ {A : Type 0} (P : A → Type 0) where
  pub all_append : (xs ys : List A) → AllByRecursion P xs → AllByRecursion P ys → AllByRecursion P (xs ++ ys)
  all_append [] ys a b = b
  all_append (x ∷ xs) ys a b = (a.0, all_append xs ys a.1 b)

  pub all_first : (xs ys : List A) → AllByRecursion P (xs ++ ys) → AllByRecursion P xs
  all_first [] ys a = tt
  all_first (x ∷ xs) ys a = (a.0, all_first xs ys a.1)

  pub all_second : (xs ys : List A) → AllByRecursion P (xs ++ ys) → AllByRecursion P ys
  all_second [] ys a = a
  all_second (x ∷ xs) ys a = all_second xs ys a.1

  all_at : (xs : List A) (i : ℕ) (x : A) → AllByRecursion P xs → slice_get xs i ≡ Some x → P x
  all_at [] i x a e = absurd cc
  all_at (y ∷ ys) zero x a e = subst P (some_is y x e) a.0
  all_at (y ∷ ys) (suc i) x a e = all_at ys i x a.1 e

  module _ {B : Type 0} (f : B → A) where
    pub all_mapped : (xs : List B) → AllByRecursion (λ (x : B). P (f x)) xs → AllByRecursion P (map f xs)
    all_mapped [] a = tt
    all_mapped (x ∷ xs) a = (a.0, all_mapped xs a.1)

    pub all_unmapped : (xs : List B) → AllByRecursion P (map f xs) → AllByRecursion (λ (x : B). P (f x)) xs
    all_unmapped [] a = tt
    all_unmapped (x ∷ xs) a = (a.0, all_unmapped xs a.1)

  module _ {B : Type 0} (f : B → List A) where
    pub all_flat : (xs : List B) → AllByRecursion (λ (x : B). AllByRecursion P (f x)) xs → AllByRecursion P (flat_map f xs)
    all_flat [] a = tt
    all_flat (x ∷ xs) a = all_append (f x) (flat_map f xs) a.0 (all_flat xs a.1)

    pub all_parts : (xs : List B) → AllByRecursion P (flat_map f xs) → AllByRecursion (λ (x : B). AllByRecursion P (f x)) xs
    all_parts [] a = tt
    all_parts (x ∷ xs) a = (all_first (f x) (flat_map f xs) a, all_parts xs (all_second (f x) (flat_map f xs) a))

-- what follows of each from what holds of each
pub all_from : {A : Type 0} (P Q : A → Type 0) → ((x : A) → P x → Q x) → (xs : List A) → AllByRecursion P xs → AllByRecursion Q xs
all_from P Q one [] a = tt
all_from P Q one (x ∷ xs) a = (one x a.0, all_from P Q one xs a.1)

-- and from two facts
pub all_from_both : {A : Type 0} (P Q R : A → Type 0) → ((x : A) → P x → Q x → R x) → (xs : List A) → AllByRecursion P xs → AllByRecursion Q xs → AllByRecursion R xs
all_from_both P Q R one [] a b = tt
all_from_both P Q R one (x ∷ xs) a b = (one x a.0 b.0, all_from_both P Q R one xs a.1 b.1)

-- numbers that follow one another lie below a bound that their end doesn't pass
pub ranged : (bound : ℕ) (ns : List Node) (i k : ℕ) → numbers ns ≡ range_with_len i k → i + k ≤ bound → AllByRecursion (λ (n : Node). n.0 < bound) ns
ranged bound [] i k e h = tt
ranged bound (n ∷ ns) i zero e h = absurd cc
ranged bound (n ∷ ns) i (suc k) e h =
    let first : n.0 ≡ i = cc in
    let others : numbers ns ≡ range_with_len (i + 1) k = cc in
    (omega (arith, first, h), ranged bound ns (i + 1) k others (omega (arith, h)))

-- ---- trees

pub items-map_roses : {N M P Q : Type 0} (f : N → M) (g : P → Q) (t : Roses N P) → items (map_roses f g t) ≡ map g (items t)
items-map_roses f g no_roses = refl
items-map_roses {Q = Q} f g (more (rose n p kids) rest) =
    ap₂ (λ (x y : List Q). g p ∷ (x ++ y)) (items-map_roses f g kids) (items-map_roses f g rest)
    ∙ ap₂ (λ (q : Q) (x : List Q). q ∷ x) refl (sym (map-append g (items kids) (items rest)))

module _ {P : Type 0} (S : Shape P) (lp : List P) where
  -- what holds of each entry holds of each item
  pub items_hold : (Q : P → Type 0) → AllByRecursion Q lp → (ns : List Node) (t : Trees P) → Stands S lp ns t → AllByRecursion Q (items t)
  items_hold Q a [] no_roses s = tt
  items_hold Q a [] (more (rose m p kids) rest) s = absurd s
  items_hold Q a (n ∷ ns) no_roses s = absurd s
  items_hold Q a (n ∷ ns) (more (rose m p kids) rest) s = (all_at Q lp n.0 p a s.1, all_append Q (items kids) (items rest) (items_hold Q a (S.inputs p) kids s.3) (items_hold Q a ns rest s.4))

  -- what holds of each label holds of the numbers that the trees stand over
  pub numbers_hold : (Q : Node → Type 0) (ns : List Node) (t : Trees P) → Stands S lp ns t → AllByRecursion Q (labels t) → AllByRecursion Q ns
  numbers_hold Q [] t s a = tt
  numbers_hold Q (n ∷ ns) no_roses s a = absurd s
  numbers_hold Q (n ∷ ns) (more (rose m p kids) rest) s a = (subst Q (sym s.0) a.0, numbers_hold Q ns rest s.4 (all_second Q (labels kids) (labels rest) a.1))

  -- and of each input of each item
  pub inputs_hold : (Q : Node → Type 0) (ns : List Node) (t : Trees P) → Stands S lp ns t → AllByRecursion Q (labels t) → AllByRecursion (λ (p : P). AllByRecursion Q (S.inputs p)) (items t)
  inputs_hold Q [] no_roses s a = tt
  inputs_hold Q [] (more (rose m p kids) rest) s a = absurd s
  inputs_hold Q (n ∷ ns) no_roses s a = absurd s
  inputs_hold Q (n ∷ ns) (more (rose m p kids) rest) s a =
      let below = all_first Q (labels kids) (labels rest) a.1 in (
        numbers_hold Q (S.inputs p) kids s.3 below,
        all_append (λ (x : P). AllByRecursion Q (S.inputs x)) (items kids) (items rest) (inputs_hold Q (S.inputs p) kids s.3 below) (inputs_hold Q ns rest s.4 (all_second Q (labels kids) (labels rest) a.1)),
      )

-- what holds of each item of some trees holds of those of the first and of the others, and back
module _ {N P : Type 0} (Q : P → Type 0) where
  -- it holds of each item of a tree
  abbrev pub Within : Rose N P → Type 0
  Within r = AllByRecursion Q (items (more r no_roses))

  pub within_more : (r : Rose N P) (rs : Roses N P) → Within r → AllByRecursion Q (items rs) → AllByRecursion Q (items (more r rs))
  within_more (rose n p kids) rs a b = (a.0, all_append Q (items kids) (items rs) (all_first Q (items kids) [] a.1) b)

  pub within_first : (r : Rose N P) (rs : Roses N P) → AllByRecursion Q (items (more r rs)) → Within r
  within_first (rose n p kids) rs a = (a.0, all_append Q (items kids) [] (all_first Q (items kids) (items rs) a.1) tt)

  pub within_rest : (r : Rose N P) (rs : Roses N P) → AllByRecursion Q (items (more r rs)) → AllByRecursion Q (items rs)
  within_rest (rose n p kids) rs a = all_second Q (items kids) (items rs) a.1
