-- Names found by their places.
use Rattle.std.proofs.Common.{◌≡◌, ◌<◌, ◌≤◌, ◌+◌, ◌-◌, ◌∙◌, ℕ, zero, suc, Bool, true, false, cond, not, nat_lt, List, [], ◌∷◌, ◌++◌, map, length, take, position, Option, Some, None, is_some, slice_index_or, refl, sym, ap, ap₂, arith, add-one, append_assoc, ⊎_elim}
use Rattle.std.specs.Prelude.{String, string_bytes}
use Rattle.std.specs.Str.{bytes_eq}
use Rattle.std.specs.List.{Contains, cons_option, filter, position_or_len, slice_get}
use Rattle.std.specs.List.Sorted.{IsNonDecreasing, IsPermutation}
use Rattle.std.specs.declared.alloc.Global.{Global}
use Rattle.std.proofs.lemmas.Bool.{false_from_ne_true, ltb-true, ltb-false}
use Rattle.std.proofs.lemmas.List.{take-map}
use Rattle.std.proofs.lemmas.List.Elements.{filter_map-append}
use Rattle.std.proofs.lemmas.List.Sorted.{Contains-permutation}
use Rattle.plan_core.specs.Columns.{names_of}
use Rattle.plan_core.specs.Names.{AreDistinct, has, with_name}
use Rattle.plan_expr.specs.Leaves.{Name}
use Rattle.plan_frame.proofs.NameSets.{adds_name, has_cons, same_named, some-type_of}
use Rattle.plan_pruned.proofs.ListSteps.{Differs, before_differ, take-next}
use Rattle.plan_pruned.proofs.NameSteps.{where-next, where-skip}
use Rattle.plan_prune_names.specs.declared.known_columns.KnownColumns.{KnownColumns}
use Rattle.plan_prune_names.specs.Known.{type_in}
use Rattle.plan_prune_names.specs.Places.{places_in}

-- what a set with text keys says of places

abbrev pub Keys : Type 0
Keys = List (String Global)

or_len-seen : (ks : Keys) (a : Name) → position_or_len (λ (k : String Global). bytes_eq a (string_bytes k)) ks ≡ position_or_len (bytes_eq a) (map string_bytes ks)
or_len-seen [] a = refl
or_len-seen (k ∷ ks) a = ap (λ (n : ℕ). cond (not (bytes_eq a (string_bytes k))) (1 + n) 0) (or_len-seen ks a)

length-seen : (ks : Keys) → length ks ≡ length (map string_bytes ks)
length-seen [] = refl
length-seen (k ∷ ks) = ap suc (length-seen ks)

pub position-seen : (ks : Keys) (a : Name) → position (λ (k : String Global). bytes_eq a (string_bytes k)) ks ≡ position (bytes_eq a) (map string_bytes ks)
position-seen ks a = ap₂ (λ (n m : ℕ). cond (nat_lt n m) (Some n) None) (or_len-seen ks a) (length-seen ks)

-- a name of distinct names stands at its place
pub place-is : (names : List Name) (j : ℕ) (a : Name) → AreDistinct names → slice_get names j ≡ Some a → position (bytes_eq a) names ≡ Some j
place-is names j a once e = at (nat_lt (position_or_len (bytes_eq a) names) (length names)) refl
  where
    go : (ns : List Name) (i : ℕ) → Differs a (take i ns) → slice_get ns i ≡ Some a → (position_or_len (bytes_eq a) ns ≡ i) × (i < length ns)
    go [] i d e = cc
    go (b ∷ ns) zero d e = let q : b ≡ a = cc in (rw (q, same_named a) refl, omega arith)
    go (b ∷ ns) (suc i) d e =
        let r = go ns i d.1 e in
        let more : 1 + position_or_len (bytes_eq a) ns ≡ suc i = omega (arith, r.0) in
        (rw d.0 more, omega (arith, r.1))

    here : (position_or_len (bytes_eq a) names ≡ j) × (j < length names)
    here = go names j (before_differ names j a once e) e

    at : (b : Bool) → nat_lt (position_or_len (bytes_eq a) names) (length names) ≡ b → cond b (Some (position_or_len (bytes_eq a) names)) None ≡ Some j
    at true q = ap (λ (n : ℕ). Some n) here.0
    at false q = let l : length names ≤ position_or_len (bytes_eq a) names = ltb-false _ _ q in absurd (omega (arith, l, here.0, here.1))

-- the place of one of the names is among their places
pub found-place : (list names : List Name) (a : Name) (j : ℕ) → has names a ≡ true → position (bytes_eq a) list ≡ Some j → Contains (places_in list names) j
found-place list [] a j h e = cc
found-place list (b ∷ bs) a j h e =
    ⊎_elim
    (λ (same : a ≡ b). first (position (bytes_eq b) list) (ap (λ (c : Name). position (bytes_eq c) list) (sym same) ∙ e))
    (λ (rest : has bs a ≡ true). later (position (bytes_eq b) list) (found-place list bs a j rest e))
    (has_cons b bs a h)
  where
    first : (o : Option ℕ) → o ≡ Some j → Contains (cons_option o (places_in list bs)) j
    first None q = cc
    first (Some i) q = let p : i ≡ j = cc in (0, omega arith, p)

    later : (o : Option ℕ) → Contains (places_in list bs) j → Contains (cons_option o (places_in list bs)) j
    later None c = c
    later (Some i) c = (suc c.0, omega (arith, c.1), c.2)

-- each column that is one of the names stands at one of the places
pub all-found : (names : List Name) (o : KnownColumns) (found : List ℕ) → AreDistinct names → IsPermutation (places_in names (names_of o.types)) found → (j : ℕ) (a : Name) → slice_get names j ≡ Some a → is_some (type_in o a) ≡ true → Contains found j
all-found names o found once same j a e there =
    Contains-permutation (places_in names (names_of o.types)) found j same (found-place names (names_of o.types) a j (sym (some-type_of o.types a) ∙ there) (place-is names j a once e))

-- the places of names, one after another
pub places-next : {A : Type 0} (f : A → Name) (list : List Name) (xs : List A) (i : ℕ) (a : Name) (before : List ℕ) → slice_get (map f xs) i ≡ Some a → (before ++ places_in list (map f (take i xs))) ++ places_in list (a ∷ []) ≡ before ++ places_in list (map f (take (i + 1) xs))
places-next f list xs i a before e =
    ap (λ (ns : List Name). (before ++ places_in list ns) ++ places_in list (a ∷ [])) (sym (take-map f i xs))
    ∙ append_assoc before (places_in list (take i (map f xs))) (places_in list (a ∷ []))
    ∙ ap (λ (ps : List ℕ). before ++ ps) (sym (filter_map-append (λ (b : Name). position (bytes_eq b) list) (take i (map f xs)) (a ∷ [])) ∙ ap (places_in list) (sym (take-next (map f xs) i a e)))
    ∙ ap (λ (ns : List Name). before ++ places_in list ns) (take-map f (i + 1) xs)

pub named_past : {A : Type 0} (f : A → Name) (xs : List A) (i : ℕ) → slice_get (map f xs) i ≡ None → i < length xs → ⊥
named_past f [] i e l = omega arith
named_past f (x ∷ xs) zero e l = cc
named_past f (x ∷ xs) (suc i) e l = named_past f xs i e (omega (arith, l))

-- the items before a place past the end, and before the next one
past-end : {A : Type 0} (xs : List A) (i : ℕ) → slice_get xs i ≡ None → take (i + 1) xs ≡ take i xs
past-end {A} xs i e = rw (add-one i) (go xs i e)
  where
    go : (ys : List A) (j : ℕ) → slice_get ys j ≡ None → take (suc j) ys ≡ take j ys
    go [] zero e = refl
    go [] (suc j) e = refl
    go (y ∷ ys) zero e = cc
    go (y ∷ ys) (suc j) e = ap (λ (l : List A). y ∷ l) (go ys j e)

pub take-all : {A : Type 0} (xs : List A) (n : ℕ) → length xs ≤ n → take n xs ≡ xs
take-all [] zero l = refl
take-all [] (suc n) l = refl
take-all (x ∷ xs) zero l = absurd (omega (arith, l))
take-all {A} (x ∷ xs) (suc n) l = ap (λ (ys : List A). x ∷ ys) (take-all xs n (omega (arith, l)))

-- the item that stands at a place, with another one for what is past the end
at-or : (xs : List ℕ) (k q d : ℕ) → slice_get xs k ≡ Some q → (slice_index_or xs k d ≡ q) × (k < length xs)
at-or [] k q d e = cc
at-or (x ∷ xs) zero q d e = let p : x ≡ q = cc in (p, omega arith)
at-or (x ∷ xs) (suc k) q d e = let r = at-or xs k q d e in (r.0, omega (arith, r.1))

got-at : (xs : List ℕ) (k d : ℕ) → k < length xs → slice_get xs k ≡ Some (slice_index_or xs k d)
got-at [] k d l = absurd (omega (arith, l))
got-at (x ∷ xs) zero d l = refl
got-at (x ∷ xs) (suc k) d l = got-at xs k d (omega (arith, l))

rising-at : (xs : List ℕ) → IsNonDecreasing xs → (i k p q : ℕ) → i ≤ k → slice_get xs i ≡ Some p → slice_get xs k ≡ Some q → p ≤ q
rising-at xs rising i k p q l ei ek =
    let a = at-or xs i p 0 ei in
    let b = at-or xs k q 0 ek in
    let r : slice_index_or xs i 0 ≤ slice_index_or xs k 0 = rising i k 0 l b.1 in
    omega (arith, r, a.0, b.0)

-- a name that is there again changes nothing
add-again : (names : List Name) (a : Name) → with_name (with_name names a) a ≡ with_name names a
add-again names a = rw (adds_name names a) refl

module _ (test : Name → Bool) (names : List Name) where
  -- no name from one place up to another passes
  abbrev Free : (m n : ℕ) → Type 0
  Free m n = (j : ℕ) (a : Name) → m ≤ j → j < n → slice_get names j ≡ Some a → test a ≡ false

  over-one : (i : ℕ) → ((a : Name) → slice_get names i ≡ Some a → test a ≡ false) → filter test (take i names) ≡ filter test (take (i + 1) names)
  over-one i h = at (slice_get names i) refl
    where
      at : (o : Option Name) → slice_get names i ≡ o → filter test (take i names) ≡ filter test (take (i + 1) names)
      at None e = ap (filter test) (sym (past-end names i e))
      at (Some a) e = where-skip test names i a e (h a e)

  over-more : (m d : ℕ) → Free m (m + d) → filter test (take m names) ≡ filter test (take (m + d) names)
  over-more m zero h = let e : m ≡ m + zero = omega arith in ap (λ (n : ℕ). filter test (take n names)) e
  over-more m (suc d) h =
      let e : (m + d) + 1 ≡ m + suc d = omega arith in
      over-more m d (λ j a low high g. h j a low (omega (arith, high)) g)
      ∙ over-one (m + d) (λ a g. h (m + d) a (omega arith) (omega arith) g)
      ∙ ap (λ (n : ℕ). filter test (take n names)) e

  over : (m n : ℕ) → m ≤ n → Free m n → filter test (take m names) ≡ filter test (take n names)
  over m n l h =
      let e : m + (n - m) ≡ n = omega (arith, l) in
      over-more m (n - m) (λ j a low high g. h j a low (omega (arith, high, e)) g)
      ∙ ap (λ (k : ℕ). filter test (take k names)) e

  module _ (found : List ℕ) where
    -- names that pass, up to a place behind those that were looked at
    abbrev pub UpTo : List Name → ℕ → Type 0
    UpTo known i = (m : ℕ) × (known ≡ filter test (take m names)) × ((k q : ℕ) → k < i → slice_get found k ≡ Some q → q < m) × ((k q : ℕ) → i ≤ k → slice_get found k ≡ Some q → m ≤ q + 1)

    pub up-none : UpTo [] 0
    up-none = (0, refl, λ k q l e. absurd (omega (arith, l)), λ k q l e. omega arith)

    module _ (rising : IsNonDecreasing found) (all : (j : ℕ) (a : Name) → slice_get names j ≡ Some a → test a ≡ true → Contains found j) where
      module _ (known : List Name) (i p : ℕ) (here : slice_get found i ≡ Some p) (up : UpTo known i) where
        free-here : Free up.0 p
        free-here j a low high e = false_from_ne_true (test a) (λ t. no (all j a e t))
          where
            no : Contains found j → ⊥
            no c = at (nat_lt c.0 i) refl
              where
                there : slice_get found c.0 ≡ Some j
                there = got-at found c.0 j c.1 ∙ ap (λ (n : ℕ). Some n) c.2

                at : (b : Bool) → nat_lt c.0 i ≡ b → ⊥
                at true q = let l : j < up.0 = up.2 c.0 j (ltb-true c.0 i q) there in omega (arith, l, low)
                at false q = let l : p ≤ j = rising-at found rising i c.0 p j (ltb-false c.0 i q) here there in omega (arith, l, high)

        at-most : up.0 ≤ p + 1
        at-most = up.3 i p (omega arith) here

        next : (grown : List Name) → grown ≡ filter test (take (p + 1) names) → UpTo grown (i + 1)
        next grown e = (
          p + 1,
          e,
          λ k q l g. (let r : q ≤ p = rising-at found rising k i q p (omega (arith, l)) g here in omega (arith, r)),
          λ k q l g. (let r : p ≤ q = rising-at found rising i k p q (omega (arith, l)) here g in omega (arith, r)),
        )

        up-skip : ((a : Name) → slice_get names p ≡ Some a → test a ≡ false) → UpTo known (i + 1)
        up-skip bad = next known (up.1 ∙ over up.0 (p + 1) at-most free)
          where
            free : Free up.0 (p + 1)
            free j a low high e = at (nat_lt j p) refl
              where
                at : (b : Bool) → nat_lt j p ≡ b → test a ≡ false
                at true q = free-here j a low (ltb-true j p q) e
                at false q =
                    let l : p ≤ j = ltb-false j p q in
                    let same : j ≡ p = omega (arith, l, high) in
                    bad a (ap (λ (n : ℕ). slice_get names n) (sym same) ∙ e)

        pub up-fail : (b : Name) → slice_get names p ≡ Some b → test b ≡ false → UpTo known (i + 1)
        up-fail b g bad = up-skip (λ a e. same a (sym g ∙ e))
          where
            same : (a : Name) → Some b ≡ Some a → test a ≡ false
            same a q = let r : b ≡ a = cc in ap test (sym r) ∙ bad

        pub up-past : slice_get names p ≡ None → UpTo known (i + 1)
        up-past none = up-skip (λ a e. no a (sym none ∙ e))
          where
            no : (a : Name) → None ≡ Some a → test a ≡ false
            no a q = cc

        pub up-add : (a : Name) → AreDistinct names → slice_get names p ≡ Some a → test a ≡ true → UpTo (with_name known a) (i + 1)
        up-add a once e good = next (with_name known a) (ap (λ (l : List Name). with_name l a) up.1 ∙ at (nat_lt p up.0) refl)
          where
            at : (b : Bool) → nat_lt p up.0 ≡ b → with_name (filter test (take up.0 names)) a ≡ filter test (take (p + 1) names)
            at false q = ap (λ (l : List Name). with_name l a) (over up.0 p (ltb-false p up.0 q) free-here) ∙ where-next test names p a once e good
            at true q =
                let l : p < up.0 = ltb-true p up.0 q in
                let same : up.0 ≡ p + 1 = omega (arith, l, at-most) in
                ap (λ (n : ℕ). with_name (filter test (take n names)) a) same
                ∙ ap (λ (l : List Name). with_name l a) (sym (where-next test names p a once e good))
                ∙ add-again (filter test (take p names)) a
                ∙ where-next test names p a once e good

      pub up-end : (known : List Name) (n : ℕ) → length found ≤ n → UpTo known n → known ≡ filter test names
      up-end known n long up = up.1 ∙ over up.0 (up.0 + length names) (omega arith) free ∙ ap (filter test) (take-all names (up.0 + length names) (omega arith))
        where
          free : Free up.0 (up.0 + length names)
          free j a low high e = false_from_ne_true (test a) (λ t. no (all j a e t))
            where
              no : Contains found j → ⊥
              no c = let l : j < up.0 = up.2 c.0 j (omega (arith, c.1, long)) (got-at found c.0 j c.1 ∙ ap (λ (n : ℕ). Some n) c.2) in omega (arith, l, low)
