-- The first column that is put out under a name.
use Rattle.std.proofs.Common.{◌≡◌, ◌∙◌, ◌++◌, ◌∷◌, [], ◌||◌, ◌&&◌, ◌<◌, ◌≤◌, ◌+◌, add-one, cond, List, ℕ, zero, suc, drop, length, map, Bool, true, false, not, is_some, Some, None, Option, refl, sym, ap, ap₂, arith}
use Rattle.std.specs.Str.{bytes_eq}
use Rattle.std.specs.List.{find, slice_get}
use Rattle.std.proofs.lemmas.List.{append_cancel_right, map-append}
use Rattle.std.proofs.lemmas.Slice.Eq.{bytes_eq-Decides}
use Rattle.plan_core.specs.declared.data_type.DataType.{DataType}
use Rattle.std.specs.Prelude.{IfSome, IfNone}
use Rattle.plan_core.specs.Columns.{Columns, StandsAt, names_of, type_of}
use Rattle.plan_core.specs.Names.{has}
use Rattle.plan_options.specs.declared.join.JoinArgs.{JoinArgs}
use Rattle.plan_options.specs.Join.{coalesces, suffix_of}
use Rattle.plan_expr.specs.declared.aexpr.AExpr.{AExpr}
use Rattle.plan_expr.specs.declared.expr_ir.ExprIR.{ExprIR}
use Rattle.plan_expr.specs.Leaves.{Name}
use Rattle.plan_expr.specs.Walks.{column_name}
use Rattle.plan_join.specs.declared.origin.Side.{Side}
use Rattle.plan_join.specs.declared.origin.Side.TheVariants as sides
use Rattle.plan_join.specs.Naming.{but_for, called, drops_left, has_right, is_called, join_columns, key_column, key_columns, left_rest, right_name, right_rest, sources, origin}
use Rattle.plan_join.specs.Origins.{puts_out_left, puts_out_right, right_origin}
use Rattle.plan_join.proofs.ColumnLemmas.{has-typed, one_column}

-- from a place on

drop-at : {A : Type 0} (xs : List A) (i : ℕ) (x : A) → slice_get xs i ≡ Some x → drop i xs ≡ x ∷ drop (i + 1) xs
drop-at {A = A} xs i x e = at xs i e ∙ ap (λ (k : ℕ). x ∷ drop k xs) (sym (add-one i))
  where
    at : (xs : List A) (i : ℕ) → slice_get xs i ≡ Some x → drop i xs ≡ x ∷ drop (suc i) xs
    at [] i e = cc
    at (y ∷ ys) zero e = let q : y ≡ x = cc in ap (λ (z : A). z ∷ ys) q
    at (y ∷ ys) (suc i) e = at ys i e

pub drop-end : {A : Type 0} (xs : List A) (i : ℕ) → length xs ≤ i → drop i xs ≡ []
drop-end [] zero h = refl
drop-end [] (suc i) h = refl
drop-end (y ∷ ys) zero h = absurd (omega arith)
drop-end (y ∷ ys) (suc i) h = drop-end ys i (omega arith)

pub past : {A : Type 0} (xs : List A) (i : ℕ) → slice_get xs i ≡ None → i < length xs → ⊥
past [] i e h = omega arith
past (x ∷ xs) zero e h = cc
past (x ∷ xs) (suc i) e h = past xs i e (omega arith)

-- keys

-- whether a name is that of a column, if there is one
abbrev pub has_one : Option Name → Name → Bool
has_one None a = false
has_one (Some b) a = bytes_eq a b

-- of the keys from a place on the first is a column, or else none
pub keys-from : (ex : List AExpr) (keys : List ExprIR) (i : ℕ) (key : ExprIR) (entry : AExpr) (a : Name) (o : Option Name) → slice_get keys i ≡ Some key → slice_get ex key.node.0 ≡ Some entry → column_name entry ≡ o → has (key_columns ex (drop i keys)) a ≡ (has_one o a || has (key_columns ex (drop (i + 1) keys)) a)
keys-from ex keys i key entry a o is here column =
    ap (λ (ks : List ExprIR). has (key_columns ex ks) a) (drop-at keys i key is)
    ∙ go o (one_column ex key entry here ∙ column)
  where
    go : (o : Option Name) → key_column ex key ≡ o → has (key_columns ex (key ∷ drop (i + 1) keys)) a ≡ (has_one o a || has (key_columns ex (drop (i + 1) keys)) a)
    go None e = rw e refl
    go (Some b) e = rw e refl

-- names that are put out

has-but_for : (names : List Name) (cs : Columns) (a : Name) → has (names_of (but_for names cs)) a ≡ (not (has names a) && has (names_of cs) a)
has-but_for names [] a = sym (and_false (not (has names a)))
  where
    and_false : (x : Bool) → (x && false) ≡ false
    and_false true = refl
    and_false false = refl
has-but_for names (c ∷ cs) a = go (bytes_eq a c.0) (has names c.0) refl refl (has-but_for names cs a)
  where
    go : (t u : Bool) → bytes_eq a c.0 ≡ t → has names c.0 ≡ u → has (names_of (but_for names cs)) a ≡ (not (has names a) && has (names_of cs) a) → has (names_of (cond (not u) (c ∷ but_for names cs) (but_for names cs))) a ≡ (not (has names a) && (t || has (names_of cs) a))
    go true true p q r = let same : a ≡ c.0 = (bytes_eq-Decides a c.0).0 p in let out : has names a ≡ true = ap (has names) same ∙ q in rw out (r ∙ rw out refl)
    go true false p q r = let same : a ≡ c.0 = (bytes_eq-Decides a c.0).0 p in let kept : has names a ≡ false = ap (has names) same ∙ q in rw (p, kept) refl
    go false true p q r = r
    go false false p q r = rw p r

pub has-left : (args : JoinArgs) (keys : List Name) (left : Columns) (a : Name) → has (names_of (left_rest args keys left)) a ≡ (puts_out_left args keys a && has (names_of left) a)
has-left args keys left a = go (coalesces args.how args.coalesce && drops_left args.how)
  where
    go : (t : Bool) → has (names_of (cond t (but_for keys left) left)) a ≡ (not (t && has keys a) && has (names_of left) a)
    go true = has-but_for keys left a
    go false = refl

-- a right column, and then those behind it
pub right-cons : (args : JoinArgs) (keys : List Name) (c : Name × DataType) (cs : Columns) → right_rest args keys (c ∷ cs) ≡ cond (puts_out_right args keys c.0) (c ∷ right_rest args keys cs) (right_rest args keys cs)
right-cons args keys c cs = go (has_right args.how) (coalesces args.how args.coalesce && not (drops_left args.how)) (has keys c.0) refl
  where
    go : (t u v : Bool) → has keys c.0 ≡ v → cond t (cond u (but_for keys (c ∷ cs)) (c ∷ cs)) [] ≡ cond (t && not (u && v)) (c ∷ cond t (cond u (but_for keys cs) cs) []) (cond t (cond u (but_for keys cs) cs) [])
    go false u v e = refl
    go true false v e = refl
    go true true true e = rw e refl
    go true true false e = rw e refl

-- of the right columns from a place on the first that is put out under the name, or else one of those behind it
module _ (args : JoinArgs) (left_keys right_keys : List Name) (left right : Columns) (a : Name) where
  abbrev test : Side × Name → Bool
  test = is_called (suffix_of args) (names_of (left_rest args left_keys left)) a

  abbrev pub given : Name → Bool
  given b = bytes_eq a (right_name (suffix_of args) (names_of (left_rest args left_keys left)) b) && puts_out_right args right_keys b

  pub right-from : (i : ℕ) (c : Name × DataType) (t : Bool) → slice_get right i ≡ Some c → given c.0 ≡ t → right_origin args left_keys right_keys left (drop i right) a ≡ cond t (Some (sides.Right, c.0)) (right_origin args left_keys right_keys left (drop (i + 1) right) a)
  right-from i c t is e =
      ap (λ (cs : Columns). right_origin args left_keys right_keys left cs a) (drop-at right i c is)
      ∙ ap (λ (cs : Columns). find test (map (λ (c : Name × DataType). (sides.Right, c.0)) cs)) (right-cons args right_keys c (drop (i + 1) right))
      ∙ go (test (sides.Right, c.0)) (puts_out_right args right_keys c.0) refl
      ∙ ap (λ (t : Bool). cond t (Some (sides.Right, c.0)) (right_origin args left_keys right_keys left (drop (i + 1) right) a)) e
    where
      rest : Columns
      rest = right_rest args right_keys (drop (i + 1) right)

      go : (u v : Bool) → test (sides.Right, c.0) ≡ u → find test (map (λ (c : Name × DataType). (sides.Right, c.0)) (cond v (c ∷ rest) rest)) ≡ cond (u && v) (Some (sides.Right, c.0)) (find test (map (λ (c : Name × DataType). (sides.Right, c.0)) rest))
      go true true q = rw q refl
      go false true q = rw q refl
      go true false q = refl
      go false false q = refl

-- left columns first

find_left : (suffix : Name) (names : List Name) (a : Name) (cs : Columns) (others : List (Side × Name)) → find (is_called suffix names a) (map (λ (c : Name × DataType). (sides.Left, c.0)) cs ++ others) ≡ cond (has (names_of cs) a) (Some (sides.Left, a)) (find (is_called suffix names a) others)
find_left suffix names a [] others = refl
find_left suffix names a (c ∷ cs) others = go (bytes_eq a c.0) refl (find_left suffix names a cs others)
  where
    go : (t : Bool) → bytes_eq a c.0 ≡ t → find (is_called suffix names a) (map (λ (c : Name × DataType). (sides.Left, c.0)) cs ++ others) ≡ cond (has (names_of cs) a) (Some (sides.Left, a)) (find (is_called suffix names a) others) → cond t (Some (sides.Left, c.0)) (find (is_called suffix names a) (map (λ (c : Name × DataType). (sides.Left, c.0)) cs ++ others)) ≡ cond (t || has (names_of cs) a) (Some (sides.Left, a)) (find (is_called suffix names a) others)
    go true e r = ap (λ (b : Name). Some (sides.Left, b)) (sym ((bytes_eq-Decides a c.0).0 e))
    go false e r = r

-- the first column under a name is a left one where a left one has it, and else a right one
pub origin-either : (args : JoinArgs) (left_keys right_keys : List Name) (left right : Columns) (a : Name) (t : Bool) → has (names_of (left_rest args left_keys left)) a ≡ t → origin args left_keys right_keys left right a ≡ cond t (Some (sides.Left, a)) (right_origin args left_keys right_keys left right a)
origin-either args left_keys right_keys left right a t e =
    find_left (suffix_of args) (names_of (left_rest args left_keys left)) a (left_rest args left_keys left) (map (λ (c : Name × DataType). (sides.Right, c.0)) (right_rest args right_keys right))
    ∙ ap (λ (t : Bool). cond t (Some (sides.Left, a)) (right_origin args left_keys right_keys left right a)) e

-- names with the suffix

pub same-front : (x y s : Name) → bytes_eq x y ≡ bytes_eq (x ++ s) (y ++ s)
same-front x y s = go (bytes_eq x y) (bytes_eq (x ++ s) (y ++ s)) refl refl
  where
    go : (t u : Bool) → bytes_eq x y ≡ t → bytes_eq (x ++ s) (y ++ s) ≡ u → t ≡ u
    go true true p q = refl
    go false false p q = refl
    go true false p q = let one : bytes_eq (x ++ s) (y ++ s) ≡ true = (bytes_eq-Decides (x ++ s) (y ++ s)).1 (ap (λ (z : Name). z ++ s) ((bytes_eq-Decides x y).0 p)) in cc
    go false true p q = let one : bytes_eq x y ≡ true = (bytes_eq-Decides x y).1 (append_cancel_right x y s ((bytes_eq-Decides (x ++ s) (y ++ s)).0 q)) in cc

-- a name that ends with no such suffix is none with it behind
pub not-joined : (name own s : Name) → ((front : Name) → name ≡ front ++ s → ⊥) → false ≡ bytes_eq name (own ++ s)
not-joined name own s none = go (bytes_eq name (own ++ s)) refl
  where
    go : (t : Bool) → bytes_eq name (own ++ s) ≡ t → false ≡ t
    go true e = absurd (none own ((bytes_eq-Decides name (own ++ s)).0 e))
    go false e = refl

-- a name has a place exactly where it is one of the columns
pub placed : (cs : Columns) (a : Name) (place : Option ℕ) → IfSome place (StandsAt cs a) → IfNone place (type_of cs a ≡ None) → is_some place ≡ has (names_of cs) a
placed cs a None stands absent = sym (sym (has-typed cs a) ∙ ap is_some absent)
placed cs a (Some i) stands absent = sym (sym (has-typed cs a) ∙ ap is_some stands.2)

-- the columns of a join are its sources under their names

named-left : (suffix : Name) (names : List Name) (cs : Columns) → map (λ (s : Side × Name). called suffix names s.0 s.1) (map (λ (c : Name × DataType). (sides.Left, c.0)) cs) ≡ names_of cs
named-left suffix names [] = refl
named-left suffix names (c ∷ cs) = ap (λ (l : List Name). c.0 ∷ l) (named-left suffix names cs)

named-right : (suffix : Name) (names : List Name) (cs : Columns) → map (λ (s : Side × Name). called suffix names s.0 s.1) (map (λ (c : Name × DataType). (sides.Right, c.0)) cs) ≡ names_of (map (λ (c : Name × DataType). (right_name suffix names c.0, c.1)) cs)
named-right suffix names [] = refl
named-right suffix names (c ∷ cs) = ap (λ (l : List Name). right_name suffix names c.0 ∷ l) (named-right suffix names cs)

pub columns-sources : (args : JoinArgs) (left_keys right_keys : List Name) (left right : Columns) → names_of (join_columns args left_keys right_keys left right) ≡ map (λ (s : Side × Name). called (suffix_of args) (names_of (left_rest args left_keys left)) s.0 s.1) (sources args left_keys right_keys left right)
columns-sources args left_keys right_keys left right =
    let suffix : Name = suffix_of args in
    let rest : Columns = left_rest args left_keys left in
    let others : Columns = right_rest args right_keys right in
    map-append (λ (c : Name × DataType). c.0) rest (map (λ (c : Name × DataType). (right_name suffix (names_of rest) c.0, c.1)) others)
    ∙ ap₂ (λ (xs ys : List Name). xs ++ ys) (sym (named-left suffix (names_of rest) rest)) (sym (named-right suffix (names_of rest) others))
    ∙ sym (map-append (λ (s : Side × Name). called suffix (names_of rest) s.0 s.1) (map (λ (c : Name × DataType). (sides.Left, c.0)) rest) (map (λ (c : Name × DataType). (sides.Right, c.0)) others))
