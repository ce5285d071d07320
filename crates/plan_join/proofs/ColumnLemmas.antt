-- Columns that are put behind others, and names that come twice.
use Rattle.std.proofs.Common.{◌≡◌, ◌∙◌, ◌++◌, ◌∷◌, [], ◌||◌, ◌<◌, ◌+◌, add-one, if◌then◌else◌, cond, List, ℕ, take, length, map, Bool, Bor, true, false, not, is_some, Some, None, Option, refl, sym, ap, append_assoc}
use Rattle.std.specs.Str.{bytes_eq}
use Rattle.std.specs.List.{IsDistinct, AllByRecursion, filter as only_where, cons_option, slice_get}
use Rattle.std.specs.Option.{option_copied}
use Rattle.std.proofs.Math.Seq.{take-suc}
use Rattle.std.proofs.lemmas.List.Elements.{filter_map-append}
use Rattle.std.proofs.lemmas.Option.{get_or_from_slice_get}
use Rattle.std.proofs.Math.Path.{fun_ext}
use Rattle.std.proofs.lemmas.Slice.Eq.{bytes_eq-Decides}
use Rattle.plan_core.specs.declared.data_type.DataType.{DataType}
use Rattle.plan_core.specs.Columns.{Columns, HasDistinctNames, names_of, type_of, with_type}
use Rattle.plan_core.specs.Names.{has, with_name}
use Rattle.plan_core.proofs.ColumnLemmas.{flip_false}
use Rattle.plan_core.proofs.MergeLemmas.{HasDistinctNames-with_type}
use Rattle.std.proofs.lemmas.List.{append-nil}
use Rattle.plan_expr.specs.Leaves.{Name}
use Rattle.plan_expr.specs.Walks.{column_name}
use Rattle.plan_expr.specs.declared.aexpr.AExpr.{AExpr}
use Rattle.plan_expr.specs.declared.expr_ir.ExprIR.{ExprIR}
use Rattle.plan_join.specs.Naming.{but_for, key_column, key_columns}

-- a name is one of the columns exactly where it has a type there
pub has-typed : (cs : Columns) (a : Name) → is_some (type_of cs a) ≡ has (names_of cs) a
has-typed [] a = refl
has-typed (c ∷ cs) a = go (bytes_eq a c.0) (has-typed cs a)
  where
    go : (b : Bool) → is_some (type_of cs a) ≡ has (names_of cs) a → is_some (if b then Some c.1 else type_of cs a) ≡ (b || has (names_of cs) a)
    go true h = refl
    go false h = h

-- a name that has no type goes last
pub with_type-absent : (cs : Columns) (a : Name) (d : DataType) → is_some (type_of cs a) ≡ false → with_type cs a d ≡ cs ++ (a, d) ∷ []
with_type-absent [] a d h = refl
with_type-absent (c ∷ cs) a d h = go (with_type-absent cs a d) (bytes_eq a c.0) refl
  where
    go : (is_some (type_of cs a) ≡ false → with_type cs a d ≡ cs ++ (a, d) ∷ []) → (b : Bool) → bytes_eq a c.0 ≡ b → with_type (c ∷ cs) a d ≡ (c ∷ cs) ++ (a, d) ∷ []
    go rest true q = let absent = rw q at h in cc
    go rest false q = rw q (ap (λ (x : Columns). c ∷ x) (rest (rw q at h)))

-- a name that differs from all before a column is none of them
differs : (x : Name) (cs : Columns) (a : Name) (d : DataType) (rest : Columns) → AllByRecursion (λ (y : Name). bytes_eq x y ≡ false) (names_of (cs ++ (a, d) ∷ rest)) → bytes_eq a x ≡ false
differs x [] a d rest h = flip_false x a h.0
differs x (c ∷ cs) a d rest h = differs x cs a d rest h.1

-- of distinct names the one behind others is none of them
pub is_new : (cs : Columns) (a : Name) (d : DataType) (rest : Columns) → HasDistinctNames (cs ++ (a, d) ∷ rest) → has (names_of cs) a ≡ false
unfolding IsDistinct
is_new [] a d rest h = refl
is_new (c ∷ cs) a d rest h = rw (differs c.0 cs a d rest h.0) (is_new cs a d rest h.1)

differ_without : (x : Name) (cs : Columns) (a : Name) (d : DataType) (rest : Columns) → AllByRecursion (λ (y : Name). bytes_eq x y ≡ false) (names_of (cs ++ (a, d) ∷ rest)) → AllByRecursion (λ (y : Name). bytes_eq x y ≡ false) (names_of (cs ++ rest))
differ_without x [] a d rest h = h.1
differ_without x (c ∷ cs) a d rest h = (h.0, differ_without x cs a d rest h.1)

-- without one of them distinct names are distinct
pub distinct-without : (cs : Columns) (a : Name) (d : DataType) (rest : Columns) → HasDistinctNames (cs ++ (a, d) ∷ rest) → HasDistinctNames (cs ++ rest)
unfolding IsDistinct
distinct-without [] a d rest h = h.1
distinct-without (c ∷ cs) a d rest h = (differ_without c.0 cs a d rest h.0, distinct-without cs a d rest h.1)

-- a look-up finds something exactly where the name is one of the columns
pub found : (cs : Columns) (a : Name) (o : Option (Bor DataType)) (t u : Bool) → option_copied o ≡ type_of cs a → t ≡ is_some o → t ≡ u → has (names_of cs) a ≡ u
found cs a o t u is q e = sym (has-typed cs a) ∙ ap is_some (sym is) ∙ copied o ∙ sym q ∙ e
  where
    copied : (o : Option (Bor DataType)) → is_some (option_copied o) ≡ is_some o
    copied None = refl
    copied (Some d) = refl

or_assoc : (x y z : Bool) → ((x || y) || z) ≡ (x || (y || z))
or_assoc true y z = refl
or_assoc false y z = refl

-- a name is among the names of one list, or else of the other
pub has-append : (xs ys : List Name) (a : Name) → has (xs ++ ys) a ≡ (has xs a || has ys a)
has-append [] ys a = refl
has-append (x ∷ xs) ys a = ap (λ (t : Bool). bytes_eq a x || t) (has-append xs ys a) ∙ sym (or_assoc (bytes_eq a x) (has xs a) (has ys a))

-- with a name more it is among them, or that name
pub has-with : (xs : List Name) (b a : Name) → has (with_name xs b) a ≡ (has xs a || has (b ∷ []) a)
has-with xs b a = at (has xs b) refl
  where
    there : (t : Bool) → bytes_eq a b ≡ t → has xs b ≡ true → has xs a ≡ (has xs a || (t || false))
    there true e h = let same : a ≡ b = (bytes_eq-Decides a b).0 e in ap (has xs) same ∙ h ∙ sym (ap (λ (t : Bool). t || true) (ap (has xs) same ∙ h))
    there false e h = or_false (has xs a)
      where
        or_false : (x : Bool) → x ≡ (x || false)
        or_false true = refl
        or_false false = refl

    at : (t : Bool) → has xs b ≡ t → has (cond t xs (xs ++ b ∷ [])) a ≡ (has xs a || has (b ∷ []) a)
    at true h = there (bytes_eq a b) refl h
    at false h = has-append xs (b ∷ []) a

-- the columns among one key more

pub key-append : (ex : List AExpr) (keys : List ExprIR) (i : ℕ) (key : ExprIR) → i < length keys → slice_get keys i ≡ Some key → key_columns ex (take (i + 1) keys) ≡ key_columns ex (take i keys) ++ key_columns ex (key ∷ [])
key-append ex keys i key within is =
    ap (key_columns ex) (ap (λ (k : ℕ). take k keys) (add-one i) ∙ take-suc keys i key within ∙ ap (λ (k : ExprIR). take i keys ++ k ∷ []) (get_or_from_slice_get keys i key key is))
    ∙ filter_map-append (key_column ex) (take i keys) (key ∷ [])

pub one_column : (ex : List AExpr) (key : ExprIR) (entry : AExpr) → slice_get ex key.node.0 ≡ Some entry → key_column ex key ≡ column_name entry
one_column ex key entry is = rw is refl

pub key-some : (ex : List AExpr) (keys : List ExprIR) (i : ℕ) (key : ExprIR) (entry : AExpr) (names : List Name) (name : Name) → i < length keys → slice_get keys i ≡ Some key → slice_get ex key.node.0 ≡ Some entry → column_name entry ≡ Some name → ((a : Name) → has names a ≡ has (key_columns ex (take i keys)) a) → (a : Name) → has (with_name names name) a ≡ has (key_columns ex (take (i + 1) keys)) a
key-some ex keys i key entry names name within is here column before a =
    let one : key_columns ex (key ∷ []) ≡ name ∷ [] = ap (λ (o : Option Name). cons_option o []) (one_column ex key entry here ∙ column) in
    has-with names name a ∙ ap (λ (t : Bool). t || has (name ∷ []) a) (before a)
    ∙ sym (ap (λ (l : List Name). has l a) (key-append ex keys i key within is ∙ ap (λ (l : List Name). key_columns ex (take i keys) ++ l) one) ∙ has-append (key_columns ex (take i keys)) (name ∷ []) a)

pub key-none : (ex : List AExpr) (keys : List ExprIR) (i : ℕ) (key : ExprIR) (entry : AExpr) (names : List Name) → i < length keys → slice_get keys i ≡ Some key → slice_get ex key.node.0 ≡ Some entry → column_name entry ≡ None → ((a : Name) → has names a ≡ has (key_columns ex (take i keys)) a) → (a : Name) → has names a ≡ has (key_columns ex (take (i + 1) keys)) a
key-none ex keys i key entry names within is here column before a =
    let one : key_columns ex (key ∷ []) ≡ [] = ap (λ (o : Option Name). cons_option o []) (one_column ex key entry here ∙ column) in
    before a ∙ sym (ap (λ (l : List Name). has l a) (key-append ex keys i key within is ∙ ap (λ (l : List Name). key_columns ex (take i keys) ++ l) one ∙ append-nil (key_columns ex (take i keys))))

-- names that are among the same lists are left out alike
pub but_for-same : (xs ys : List Name) (cs : Columns) → ((a : Name) → has xs a ≡ has ys a) → but_for xs cs ≡ but_for ys cs
but_for-same xs ys cs h = ap (λ (test : Name → Bool). only_where (λ (c : Name × DataType). not (test c.0)) cs) (fun_ext h)

-- columns of distinct names, one by one, but for some names

pub record Left (names : List Name) (rest left all : Columns) : Type 0 where
  pub rest-is : rest ++ but_for names left ≡ but_for names all
  pub distinct : HasDistinctNames (rest ++ left)

pub left-kept : (names : List Name) (rest all : Columns) (a : Name) (d : DataType) (left : Columns) → Left names rest ((a, d) ∷ left) all → has names a ≡ false → Left names (with_type rest a d) left all
left-kept names rest all a d left h out =
    let new : with_type rest a d ≡ rest ++ (a, d) ∷ [] = with_type-absent rest a d (has-typed rest a ∙ is_new rest a d left h.distinct) in
    record {
      rest-is = ap (λ (x : Columns). x ++ but_for names left) new ∙ append_assoc rest ((a, d) ∷ []) (but_for names left)
          ∙ ap (λ (t : Bool). rest ++ cond (not t) ((a, d) ∷ but_for names left) (but_for names left)) (sym out) ∙ h.rest-is;
      distinct = rw (new, append_assoc rest ((a, d) ∷ []) left) h.distinct;
    }

pub left-out : (names : List Name) (rest all : Columns) (a : Name) (d : DataType) (left : Columns) → Left names rest ((a, d) ∷ left) all → has names a ≡ true → Left names rest left all
left-out names rest all a d left h out = record {
  rest-is = ap (λ (t : Bool). rest ++ cond (not t) ((a, d) ∷ but_for names left) (but_for names left)) (sym out) ∙ h.rest-is;
  distinct = distinct-without rest a d left h.distinct;
}

-- columns behind others, one by one, under other names

pub record Named (now : Name → Name) (made left all : Columns) : Type 0 where
  pub all-is : made ++ map (λ (c : Name × DataType). (now c.0, c.1)) left ≡ all
  pub distinct : HasDistinctNames made

pub named-next : (now : Name → Name) (made all : Columns) (a : Name) (d : DataType) (left : Columns) → Named now made ((a, d) ∷ left) all → is_some (type_of made (now a)) ≡ false → Named now (with_type made (now a) d) left all
named-next now made all a d left h absent =
    let new : with_type made (now a) d ≡ made ++ (now a, d) ∷ [] = with_type-absent made (now a) d absent in
    record {
      all-is = ap (λ (x : Columns). x ++ map (λ (c : Name × DataType). (now c.0, c.1)) left) new ∙ append_assoc made ((now a, d) ∷ []) (map (λ (c : Name × DataType). (now c.0, c.1)) left) ∙ h.all-is;
      distinct = HasDistinctNames-with_type made (now a) d h.distinct;
    }

pub named-twice : (now : Name → Name) (made all : Columns) (a : Name) (d : DataType) (left : Columns) → Named now made ((a, d) ∷ left) all → is_some (type_of made (now a)) ≡ true → HasDistinctNames all → ⊥
named-twice now made all a d left h there distinct =
    let none : has (names_of made) (now a) ≡ false = is_new made (now a) d (map (λ (c : Name × DataType). (now c.0, c.1)) left) (rw (sym h.all-is) at distinct) in
    let some : has (names_of made) (now a) ≡ true = sym (has-typed made (now a)) ∙ there in
    cc
