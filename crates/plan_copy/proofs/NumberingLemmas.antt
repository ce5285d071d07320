-- Tables of new numbers: a listed number more, and where a listed number goes.
use Rattle.std.proofs.Common.{◌≡◌, ℕ, zero, suc, ◌+◌, ◌<◌, true, false, List, [], ◌∷◌, ◌++◌, length, map, take, get_or, Some, nat_eq, refl, sym, ap, ap₂, ◌∙◌, arith, add-one, inl, inr}
use Rattle.std.specs.List.{AllByRecursion, IsDistinct, list_any, range_with_len, slice_get, slice_set}
use Rattle.std.proofs.lemmas.Bool.{eqb-true}
use Rattle.std.proofs.lemmas.Bool.Decides.{eqb_tells}
use Rattle.std.proofs.lemmas.List.{get_or-set_same, get_or-set_other, map-append, take_more}
use Rattle.plan_core.specs.declared.arena.Node.{Node}
use Rattle.plan_tree.proofs.Numbers.{differ-from_nat_eq, numbers-append}
use Rattle.plan_tree.specs.Stands.{numbers}
use Rattle.plan_ir.specs.Moved.{new_number}

-- the number at a place is none of those before it
pick : (x : ℕ) (ns : List Node) (j : ℕ) (d : Node) → AllByRecursion (λ y. nat_eq x y ≡ false) (numbers ns) → j < length ns → nat_eq x (get_or ns j d).0 ≡ false
pick x [] j d h lt = absurd (omega arith)
pick x (n ∷ ns) zero d h lt = h.0
pick x (n ∷ ns) (suc j) d h lt = pick x ns j d h.1 (omega arith)

others : (ns : List Node) (j : ℕ) (d : Node) → IsDistinct nat_eq (numbers ns) → j < length ns → AllByRecursion (λ k. nat_eq k (get_or ns j d).0 ≡ false) (numbers (take j ns))
unfolding IsDistinct
others [] j d h lt = absurd (omega arith)
others (n ∷ ns) zero d h lt = tt
others (n ∷ ns) (suc j) d h lt = (pick n.0 ns j d h.0 (omega arith), others ns j d h.1 (omega arith))

-- a write at one number leaves the others
kept : (table : List Node) (i : ℕ) (y : Node) (ns : List Node) → AllByRecursion (λ k. nat_eq k i ≡ false) (numbers ns) → map (new_number (slice_set table i y)) ns ≡ map (new_number table) ns
kept table i y [] h = refl
kept table i y (n ∷ ns) h = ap₂ (λ (m : Node) (ms : List Node). m ∷ ms) (get_or-set_other table i n.0 y n (differ-from_nat_eq n.0 i h.0)) (kept table i y ns h.1)

range-more : (a n : ℕ) → range_with_len a (suc n) ≡ range_with_len a n ++ (a + n) ∷ []
range-more a zero = ap (λ (k : ℕ). k ∷ []) (omega arith)
range-more a (suc n) = ap (λ (l : List ℕ). a ∷ l) (range-more (a + 1) n ∙ ap (λ (k : ℕ). range_with_len (a + 1) n ++ k ∷ []) (omega arith))

-- one number more has its new number
pub numbered-more : (table : List Node) (ns : List Node) (i : ℕ) (d : Node) → IsDistinct nat_eq (numbers ns) → i < length ns → (get_or ns i d).0 < length table → numbers (map (new_number table) (take i ns)) ≡ range_with_len 0 i → numbers (map (new_number (slice_set table (get_or ns i d).0 (record { 0 = i }))) (take (i + 1) ns)) ≡ range_with_len 0 (i + 1)
numbered-more table ns i d distinct lt within before =
    let n : Node = get_or ns i d in
    let written : List Node = slice_set table n.0 (record { 0 = i }) in
    let here : new_number written n ≡ record { 0 = i } = get_or-set_same table n.0 (record { 0 = i }) n within in
    ap (λ (l : List Node). numbers (map (new_number written) l)) (take_more ns i d lt)
    ∙ ap numbers (map-append (new_number written) (take i ns) (n ∷ []))
    ∙ numbers-append (map (new_number written) (take i ns)) (new_number written n ∷ [])
    ∙ ap₂ (λ (l : List ℕ) (m : Node). l ++ m.0 ∷ []) (ap numbers (kept table n.0 (record { 0 = i }) (take i ns) (others ns i d distinct lt)) ∙ before) here
    ∙ sym (ap (range_with_len 0) (add-one i) ∙ range-more 0 i ∙ ap (λ (k : ℕ). range_with_len 0 i ++ k ∷ []) (omega arith))

-- where a listed number stands in the list
pub record Found (table : List Node) (ns : List Node) (a : ℕ) (n : Node) : Type 0 where
  pub place : ℕ
  pub stands : slice_get ns place ≡ Some n
  pub new : (new_number table n).0 ≡ a + place

later : (table : List Node) (m n : Node) (ns : List Node) (a : ℕ) → Found table ns (a + 1) n → Found table (m ∷ ns) a n
later table m n ns a f = record { place = suc f.place; stands = f.stands; new = f.new ∙ omega arith }

pub found : (table : List Node) (ns : List Node) (a : ℕ) (n : Node) → list_any (nat_eq n.0) (numbers ns) ≡ true → numbers (map (new_number table) ns) ≡ range_with_len a (length ns) → Found table ns a n
found table [] a n h e = cc
found table (m ∷ ns) a n h e =
    let head : (new_number table m).0 ≡ a = cc in
    let tail : numbers (map (new_number table) ns) ≡ range_with_len (a + 1) (length ns) = cc in
    elim (eqb_tells n.0 m.0) as (λ _. Found table (m ∷ ns) a n) [
      | inl same_number ↦
          let same : m ≡ n = ap (λ (k : ℕ). let x : Node = record { 0 = k } in x) (sym (eqb-true n.0 m.0 same_number.0)) in
          record { place = 0; stands = ap Some same; new = ap (λ (x : Node). (new_number table x).0) (sym same) ∙ head ∙ omega arith }
      | inr other ↦
          let h' : list_any (nat_eq n.0) (numbers ns) ≡ true = rw other.0 at h in
          later table m n ns a (found table ns (a + 1) n h' tail)
    ]

-- the place of a listed number is its new number
pub place_is : (table : List Node) (ns : List Node) (n : Node) → list_any (nat_eq n.0) (numbers ns) ≡ true → numbers (map (new_number table) ns) ≡ range_with_len 0 (length ns) → slice_get ns (new_number table n).0 ≡ Some n
place_is table ns n h e =
    let f = found table ns 0 n h e in
    ap (slice_get ns) (f.new ∙ omega arith) ∙ f.stands
