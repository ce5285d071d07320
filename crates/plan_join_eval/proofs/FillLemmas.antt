-- Partners of columns, from the last pair of keys to the first.
use Rattle.std.proofs.Common.{◌≡◌, ◌∙◌, ◌++◌, ◌+◌, ◌<◌, ◌⊎◌, inl, inr, ℕ, zero, suc, Bool, true, false, cond, List, [], ◌∷◌, length, take, drop, set, replicate, Option, None, Some, get_or, refl, sym, ap, subst, arith, append-nil, length-set}
use Rattle.std.specs.List.{cons_option, slice_get, AllByRecursion, IsDistinct}
use Rattle.std.specs.Option.{option_and_then}
use Rattle.std.specs.Str.{bytes_eq}
use Rattle.std.proofs.lemmas.Bool.{cases_eq}
use Rattle.std.proofs.lemmas.List.{get_or-replicate, get_or-set_other, get_or-set_same, length-replicate}
use Rattle.plan_core.specs.declared.data_type.DataType.{DataType}
use Rattle.plan_core.specs.Columns.{Columns, HasDistinctNames, names_of, place_of, type_of}
use Rattle.plan_core.proofs.ColumnLemmas.{flip_false}
use Rattle.plan_expr.specs.declared.aexpr.AExpr.{AExpr}
use Rattle.plan_expr.specs.declared.expr_ir.ExprIR.{ExprIR}
use Rattle.plan_expr.specs.Leaves.{Name}
use Rattle.plan_expr.specs.Walks.{column_name}
use Rattle.plan_frame.proofs.NameSets.{same_named}
use Rattle.plan_join.specs.Naming.{key_columns}
use Rattle.plan_join.proofs.ColumnLemmas.{key-append, one_column}
use Rattle.plan_join.specs.Sides.{partner}
use Rattle.plan_join_eval.specs.Fills.{ArePartners}

-- the columns among keys, with one key more

pub key-column : (ex : List AExpr) (keys : List ExprIR) (i : ℕ) (key : ExprIR) (entry : AExpr) (name : Name) → i < length keys → slice_get keys i ≡ Some key → slice_get ex key.node.0 ≡ Some entry → column_name entry ≡ Some name
    → key_columns ex (take i keys) ++ name ∷ [] ≡ key_columns ex (take (i + 1) keys)
key-column ex keys i key entry name lt is here column =
    sym (key-append ex keys i key lt is ∙ ap (λ (o : Option Name). key_columns ex (take i keys) ++ cons_option o []) (one_column ex key entry here ∙ column))

pub key-other : (ex : List AExpr) (keys : List ExprIR) (i : ℕ) (key : ExprIR) (entry : AExpr) → i < length keys → slice_get keys i ≡ Some key → slice_get ex key.node.0 ≡ Some entry → column_name entry ≡ None
    → key_columns ex (take i keys) ≡ key_columns ex (take (i + 1) keys)
key-other ex keys i key entry lt is here column =
    sym (key-append ex keys i key lt is ∙ ap (λ (o : Option Name). key_columns ex (take i keys) ++ cons_option o []) (one_column ex key entry here ∙ column) ∙ append-nil (key_columns ex (take i keys)))

-- without keys on a side no column has a partner

partner_none : (ls rs : List Name) (a : Name) → (length ls ≡ 0) ⊎ (length rs ≡ 0) → partner ls rs a ≡ None
partner_none [] rs a e = refl
partner_none (l ∷ ls) [] a e = refl
partner_none (l ∷ ls) (r ∷ rs) a (inl e) = absurd (omega (arith, e))
partner_none (l ∷ ls) (r ∷ rs) a (inr e) = absurd (omega (arith, e))

pub none-partners : (left right : Columns) (ls rs : List Name) → (length ls ≡ 0) ⊎ (length rs ≡ 0) → (places : List (Option ℕ)) → places ≡ replicate (length left) None → ArePartners left right (partner ls rs) places
none-partners left right ls rs e places is = subst (ArePartners left right (partner ls rs)) (sym is) record {
  long = length-replicate (length left) None;
  each = λ i lt. get_or-replicate (length left) i None None lt ∙ sym (ap (option_and_then (place_of right)) (partner_none ls rs (get_or (names_of left) i []) e));
}

-- the name of a place

pub named_at : (s : Columns) (i : ℕ) (a : Name) (d : DataType) → slice_get s i ≡ Some (a, d) → get_or (names_of s) i [] ≡ a
named_at [] i a d e = cc
named_at (c ∷ s) zero a d e = let q : c ≡ (a, d) = cc in ap (λ (x : Name × DataType). x.0) q
named_at (c ∷ s) (suc i) a d e = named_at s i a d e

pub place_within : (s : Columns) (i : ℕ) (c : Name × DataType) → slice_get s i ≡ Some c → i < length s
place_within [] i c e = cc
place_within (d ∷ s) zero c e = omega arith
place_within (d ∷ s) (suc i) c e = let r = place_within s i c e in omega (arith, r)

pub differs : (a : Name) (names : List Name) (j : ℕ) → AllByRecursion (λ b. bytes_eq a b ≡ false) names → j < length names → bytes_eq a (get_or names j []) ≡ false
differs a [] j h lt = absurd (omega (arith, lt))
differs a (b ∷ names) zero h lt = h.0
differs a (b ∷ names) (suc j) h lt = differs a names j h.1 (omega (arith, lt))

-- of distinct names another place has another name
apart : (names : List Name) (i j : ℕ) → IsDistinct bytes_eq names → i < length names → j < length names → (i ≡ j → ⊥) → bytes_eq (get_or names i []) (get_or names j []) ≡ false
unfolding IsDistinct
apart [] i j h li lj other = absurd (omega (arith, li))
apart (a ∷ names) zero zero h li lj other = absurd (other refl)
apart (a ∷ names) zero (suc j) h li lj other = differs a names j h.0 (omega (arith, lj))
apart (a ∷ names) (suc i) zero h li lj other = flip_false a (get_or names i []) (differs a names i h.0 (omega (arith, li)))
apart (a ∷ names) (suc i) (suc j) h li lj other = apart names i j h.1 (omega (arith, li)) (omega (arith, lj)) (λ e. other (ap suc e))

-- a name without a type is that of no place
not_there : (s : Columns) (a : Name) (i : ℕ) → type_of s a ≡ None → i < length s → bytes_eq (get_or (names_of s) i []) a ≡ false
not_there [] a i e lt = absurd (omega (arith, lt))
not_there (c ∷ s) a i e lt = at (bytes_eq a c.0) refl i e lt (λ j f l. not_there s a j f l)
  where
    at : (b : Bool) → bytes_eq a c.0 ≡ b → (i : ℕ) → cond b (Some c.1) (type_of s a) ≡ None → i < suc (length s) → ((j : ℕ) → type_of s a ≡ None → j < length s → bytes_eq (get_or (names_of s) j []) a ≡ false) → bytes_eq (get_or (c.0 ∷ names_of s) i []) a ≡ false
    at true q i e lt rest = cc
    at false q zero e lt rest = flip_false a c.0 q
    at false q (suc i) e lt rest = rest i e (omega (arith, lt))

-- one pair of keys before those that are done

partner_first : (l r : Name) (ls rs : List Name) (a : Name) → a ≡ l → partner (l ∷ ls) (r ∷ rs) a ≡ Some r
partner_first l r ls rs a e = ap (λ (b : Bool). cond b (Some r) (partner ls rs a)) (ap (λ (x : Name). bytes_eq x l) e ∙ same_named l)

partner_later : (l r : Name) (ls rs : List Name) (a : Name) → bytes_eq a l ≡ false → partner (l ∷ ls) (r ∷ rs) a ≡ partner ls rs a
partner_later l r ls rs a e = ap (λ (b : Bool). cond b (Some r) (partner ls rs a)) e

pub names_long : (s : Columns) → length (names_of s) ≡ length s
names_long [] = refl
names_long (c ∷ s) = ap suc (names_long s)

pub partners-put : (left right : Columns) (l r : Name) (ls rs : List Name) (places : List (Option ℕ)) (place : ℕ) (d : DataType) → HasDistinctNames left → slice_get left place ≡ Some (l, d) → ArePartners left right (partner ls rs) places
    → ArePartners left right (partner (l ∷ ls) (r ∷ rs)) (set places place (place_of right r))
partners-put left right l r ls rs places place d once at are = record {
  long = length-set places place (place_of right r) ∙ are.long;
  each = λ i lt. elim (cases_eq i place) as (λ _. get_or (set places place (place_of right r)) i None ≡ option_and_then (place_of right) (partner (l ∷ ls) (r ∷ rs) (get_or (names_of left) i []))) [
    | inl e ↦ ap (λ (k : ℕ). get_or (set places place (place_of right r)) k None) e
        ∙ get_or-set_same places place (place_of right r) None (omega (arith, place_within left place (l, d) at, are.long))
        ∙ sym (ap (option_and_then (place_of right)) (partner_first l r ls rs (get_or (names_of left) i []) (ap (λ (k : ℕ). get_or (names_of left) k []) e ∙ named_at left place l d at)))
    | inr other ↦ get_or-set_other places place i (place_of right r) None other ∙ are.each i lt
        ∙ sym (ap (option_and_then (place_of right)) (partner_later l r ls rs (get_or (names_of left) i [])
        (ap (bytes_eq (get_or (names_of left) i [])) (sym (named_at left place l d at))
        ∙ apart (names_of left) i place once (omega (arith, lt, names_long left)) (omega (arith, place_within left place (l, d) at, names_long left)) other)))
  ];
}

pub partners-absent : (left right : Columns) (l r : Name) (ls rs : List Name) (places : List (Option ℕ)) → type_of left l ≡ None → ArePartners left right (partner ls rs) places → ArePartners left right (partner (l ∷ ls) (r ∷ rs)) places
partners-absent left right l r ls rs places absent are = record {
  long = are.long;
  each = λ i lt. are.each i lt ∙ sym (ap (option_and_then (place_of right)) (partner_later l r ls rs (get_or (names_of left) i []) (not_there left l i absent lt)));
}

-- what is left of a list with one more from the back
pub drop-here : (xs : List Name) (i : ℕ) (x : Name) → slice_get xs i ≡ Some x → drop i xs ≡ x ∷ drop (suc i) xs
drop-here [] i x e = cc
drop-here (y ∷ xs) zero x e = let q : y ≡ x = cc in ap (λ (z : Name). z ∷ xs) q
drop-here (y ∷ xs) (suc i) x e = drop-here xs i x e

module _ (left right : Columns) (ls rs : List Name) (i : ℕ) (l r : Name) (here : slice_get ls i ≡ Some l) (there : slice_get rs i ≡ Some r) where
  back : (places : List (Option ℕ)) → ArePartners left right (partner (l ∷ drop (suc i) ls) (r ∷ drop (suc i) rs)) places → ArePartners left right (partner (drop i ls) (drop i rs)) places
  back places are = subst (λ (xs : List Name). ArePartners left right (partner xs (drop i rs)) places) (sym (drop-here ls i l here))
      (subst (λ (xs : List Name). ArePartners left right (partner (l ∷ drop (suc i) ls) xs) places) (sym (drop-here rs i r there)) are)

  pub step-put : (n : ℕ) (places : List (Option ℕ)) (place : ℕ) (d : DataType) → n ≡ suc i → HasDistinctNames left → slice_get left place ≡ Some (l, d) → ArePartners left right (partner (drop n ls) (drop n rs)) places
      → ArePartners left right (partner (drop i ls) (drop i rs)) (set places place (place_of right r))
  step-put n places place d up once at are = back (set places place (place_of right r)) (partners-put left right l r (drop (suc i) ls) (drop (suc i) rs) places place d once at (subst (λ (k : ℕ). ArePartners left right (partner (drop k ls) (drop k rs)) places) up are))

  pub step-absent : (n : ℕ) (places : List (Option ℕ)) → n ≡ suc i → type_of left l ≡ None → ArePartners left right (partner (drop n ls) (drop n rs)) places → ArePartners left right (partner (drop i ls) (drop i rs)) places
  step-absent n places up absent are = back places (partners-absent left right l r (drop (suc i) ls) (drop (suc i) rs) places absent (subst (λ (k : ℕ). ArePartners left right (partner (drop k ls) (drop k rs)) places) up are))
