-- Unpivots: their value columns, and their columns as these are made.
use Rattle.std.proofs.Common.{◌≡◌, ℕ, zero, suc, ◌+◌, add-one, Bool, true, false, not, ◌&&◌, ◌||◌, List, [], ◌∷◌, ◌++◌, take, drop, length, append_assoc, Some, refl, sym, ap, ap₂, ◌∙◌, subst, arith, ⊎_elim}
use Rattle.std.specs.List.{filter as only_where, slice_get}
use Rattle.std.proofs.Math.Path.{fun_ext}
use Rattle.std.proofs.lemmas.Bool.{and_parts, or_parts, not-true}
use Rattle.std.proofs.Math.Bool.{and-false}
use Rattle.std.proofs.lemmas.List.{map-append, take-append-drop}
use Rattle.std.specs.Str.{bytes_eq}
use Rattle.plan_core.specs.declared.data_type.DataType.{DataType}
use Rattle.plan_core.specs.Columns.{Columns, names_of}
use Rattle.plan_core.specs.Names.{has, with_names}
use Rattle.plan_core.proofs.ColumnLemmas.{flip_false}
use Rattle.plan_ir.specs.declared.functions.UnpivotArgsIR.{UnpivotArgsIR}
use Rattle.plan_expr.specs.Leaves.{Name}
use Rattle.plan_meaning.specs.Functions.{told_names, value_names, all_differ}
use Rattle.plan_frame.specs.Reshaped.{type_or, columns_at}
use Rattle.plan_frame.proofs.NameSets.{has_cons, has_first, has_front, has_back, has-append, has-once, names-append}
use Rattle.plan_schema.proofs.CheckLemmas.{drop-at}

-- value columns

-- where none are told they are those that aren't repeated
pub value_names-rest : (args : UnpivotArgsIR) (names : List Name) → length args.on ≡ 0 → value_names args names ≡ only_where (λ (a : Name). not (has args.index a)) names
value_names-rest args names e = at args.on e
  where
    rest : List Name
    rest = only_where (λ (a : Name). not (has args.index a)) names

    at : (on : List Name) → length on ≡ 0 → told_names on rest ≡ rest
    at [] q = refl
    at (a ∷ on) q = absurd (omega arith)

-- and to leave out the repeated ones is to leave out each of them once
pub rest-once : (index names : List Name) → only_where (λ (a : Name). not (has (with_names [] index) a)) names ≡ only_where (λ (a : Name). not (has index a)) names
rest-once index names = ap (λ (test : Name → Bool). only_where (λ (a : Name). not (test a)) names) (fun_ext (has-once index))

-- names that differ

-- a name behind itself
pub differ_again : (names : List Name) (a : Name) (rest : List Name) → has names a ≡ true → all_differ (names ++ a ∷ rest) ≡ false
differ_again [] a rest i = cc
differ_again (c ∷ names) a rest i = ⊎_elim
    (λ (e : a ≡ c).
    let there : has (names ++ a ∷ rest) c ≡ true = subst (λ (x : Name). has (names ++ a ∷ rest) x ≡ true) e (has_back names (a ∷ rest) a (has_first a rest)) in
    ap (λ (t : Bool). not t && all_differ (names ++ a ∷ rest)) there)
    (λ (e : has names a ≡ true). ap (λ (t : Bool). not (has (names ++ a ∷ rest) c) && t) (differ_again names a rest e) ∙ and-false (not (has (names ++ a ∷ rest) c)))
    (has_cons c names a i)

differ_new : (names : List Name) (a : Name) → all_differ names ≡ true → has names a ≡ false → all_differ (names ++ a ∷ []) ≡ true
differ_new [] a d n = refl
differ_new (c ∷ names) a d n =
    let p = and_parts (not (has names c)) (all_differ names) d in
    let q = or_parts (bytes_eq a c) (has names a) n in
    let none : has (names ++ a ∷ []) c ≡ false = has-append names (a ∷ []) c ∙ ap₂ (λ (x y : Bool). x || (y || false)) (not-true (has names c) p.0) (flip_false a c q.0) in
    ap₂ (λ (x y : Bool). not x && y) none (differ_new names a p.1 q.1)

-- one name more differs where it isn't there yet
pub differ-last : (names : List Name) (a : Name) → all_differ names ≡ true → all_differ (names ++ a ∷ []) ≡ not (has names a)
differ-last names a d = at (has names a) refl
  where
    at : (t : Bool) → has names a ≡ t → all_differ (names ++ a ∷ []) ≡ not t
    at true e = differ_again names a [] e
    at false e = differ_new names a d e

-- the names before others differ where all do
pub differ_front : (names rest : List Name) → all_differ names ≡ false → all_differ (names ++ rest) ≡ false
differ_front [] rest e = cc
differ_front (c ∷ names) rest e = at (has names c) refl (λ q. differ_front names rest q) e
  where
    at : (t : Bool) → has names c ≡ t → (all_differ names ≡ false → all_differ (names ++ rest) ≡ false) → (not t && all_differ names) ≡ false → (not (has (names ++ rest) c) && all_differ (names ++ rest)) ≡ false
    at true q r k = ap (λ (x : Bool). not x && all_differ (names ++ rest)) (has_front names rest c q)
    at false q r k = ap (λ (x : Bool). not (has (names ++ rest) c) && x) (r k) ∙ and-false (not (has (names ++ rest) c))

pub names-at : (s : Columns) (names : List Name) → names_of (columns_at s names) ≡ names
names-at s [] = refl
names-at s (a ∷ names) = ap (λ (l : List Name). a ∷ l) (names-at s names)

take_next : {X : Type 0} (xs : List X) (i : ℕ) (x : X) → slice_get xs i ≡ Some x → take (suc i) xs ≡ take i xs ++ x ∷ []
take_next [] i x e = cc
take_next (y ∷ ys) zero x e = let q : y ≡ x = cc in ap (λ z. z ∷ []) q
take_next (y ∷ ys) (suc i) x e = ap (λ l. y ∷ l) (take_next ys i x e)

pub take-next : {X : Type 0} (xs : List X) (i : ℕ) (x : X) → slice_get xs i ≡ Some x → take (i + 1) xs ≡ take i xs ++ x ∷ []
take-next xs i x e = ap (λ (n : ℕ). take n xs) (add-one i) ∙ take_next xs i x e

not-false : (t : Bool) → not t ≡ false → t ≡ true
not-false true e = refl
not-false false e = cc

module _ (s made : Columns) (names : List Name) (i : ℕ) (a : Name) (here : slice_get names i ≡ Some a) (is : made ≡ columns_at s (take i names)) where
  made-has : has (names_of made) a ≡ has (take i names) a
  made-has = ap (λ (x : Columns). has (names_of x) a) is ∙ ap (λ (l : List Name). has l a) (names-at s (take i names))

  -- a column more
  pub made-next : made ++ (a, type_or s a) ∷ [] ≡ columns_at s (take (i + 1) names)
  made-next =
      ap (λ (x : Columns). x ++ (a, type_or s a) ∷ []) is
      ∙ sym (map-append (λ (b : Name). (b, type_or s b)) (take i names) (a ∷ []))
      ∙ ap (columns_at s) (sym (take-next names i a here))

  pub made_new : all_differ (take i names) ≡ true → not (has (names_of made) a) ≡ true → all_differ (take (i + 1) names) ≡ true
  made_new d n = ap all_differ (take-next names i a here) ∙ differ-last (take i names) a d ∙ ap not (sym made-has) ∙ n

  pub made_again : not (has (names_of made) a) ≡ false → all_differ names ≡ false
  made_again n =
      let split : names ≡ take i names ++ a ∷ drop (suc i) names = sym (take-append-drop i names) ∙ ap (λ (l : List Name). take i names ++ l) (drop-at names i a here) in
      ap all_differ split ∙ differ_again (take i names) a (drop (suc i) names) (sym made-has ∙ not-false (has (names_of made) a) n)

module _ (s made : Columns) (index : List Name) (is : made ≡ columns_at s index) (v w : Name) where
  own_has : has (names_of made) v ≡ has index v
  own_has = ap (λ (x : Columns). has (names_of x) v) is ∙ ap (λ (l : List Name). has l v) (names-at s index)

  -- a first own name that is repeated
  pub own_again : not (has (names_of made) v) ≡ false → all_differ (index ++ v ∷ w ∷ []) ≡ false
  own_again n = differ_again index v (w ∷ []) (sym own_has ∙ not-false (has (names_of made) v) n)

  -- a second one behind a first that is new
  pub own-last : (named : Columns) (t : DataType) → all_differ index ≡ true → not (has (names_of made) v) ≡ true → named ≡ made ++ (v, t) ∷ [] → all_differ (index ++ v ∷ w ∷ []) ≡ not (has (names_of named) w)
  own-last named t d n e =
      let names : names_of named ≡ index ++ v ∷ [] = ap names_of e ∙ names-append made ((v, t) ∷ []) ∙ ap (λ (l : List Name). l ++ v ∷ []) (ap names_of is ∙ names-at s index) in
      ap all_differ (sym (append_assoc index (v ∷ []) (w ∷ [])))
      ∙ differ-last (index ++ v ∷ []) w (differ-last index v d ∙ ap not (sym own_has) ∙ n)
      ∙ ap (λ (l : List Name). not (has l w)) (sym names)
