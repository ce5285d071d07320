-- Expressions found by their names, and lists of names that grow.
use Rattle.std.proofs.Common.{◌≡◌, ◌∙◌, ◌<◌, ◌+◌, ℕ, suc, Bool, true, false, not, cond, nat_lt, List, [], ◌∷◌, ◌++◌, map, length, take, position, Some, None, option_map, refl, sym, ap, ap₂, arith, rules, ◌≤◌}
use Rattle.std.specs.Prelude.{String, string_bytes}
use Rattle.std.specs.Str.{bytes_eq}
use Rattle.std.specs.List.{filter as only_where, position_or_len, slice_get}
use Rattle.std.specs.declared.alloc.Global.{Global}
use Rattle.std.proofs.lemmas.List.{append-nil, append_assoc, length-map, map-append, take_all}
use Rattle.std.proofs.lemmas.Bool.{ltb-true}
use Rattle.std.proofs.lemmas.List.Elements.{filter-append, filter_map-append}
use Rattle.std.proofs.lemmas.List.Sums.{fold-append}
use Rattle.std.proofs.lemmas.Option.{slice_get-map}
use Rattle.plan_core.specs.declared.data_type.DataType.{DataType}
use Rattle.plan_core.specs.Columns.{Columns, type_of, with_type, with_types}
use Rattle.plan_core.specs.Names.{AreDistinct, with_name, with_names}
use Rattle.plan_expr.specs.declared.aexpr.AExpr.{AExpr}
use Rattle.plan_expr.specs.declared.expr_ir.ExprIR.{ExprIR}
use Rattle.plan_expr.specs.Exprs.{Named, all_named_at, expr_at, named_at}
use Rattle.plan_expr.specs.Leaves.{Name, leaves}
use Rattle.plan_expr.specs.Naming.{name_of}
use Rattle.plan_frame.specs.ExprLists.{all_leaves, out_names}
use Rattle.plan_pruned.specs.Pruned.{typed_name, typed_names}
use Rattle.plan_pruned.proofs.ListSteps.{before_differ, take-next, with_name-last, with_names-append}
use Rattle.plan_collapse_laws.specs.Meeting.{named_in}
use Rattle.plan_cluster.specs.ExprNames.{expr_name, expr_named, expr_names}

-- what a set with text keys says of places

abbrev pub Keys : Type 0
Keys = List (String Global)

or_len-seen : (ks : Keys) (a : Name) → position_or_len (λ (k : String Global). bytes_eq a (string_bytes k)) ks ≡ position_or_len (bytes_eq a) (map string_bytes ks)
or_len-seen [] a = refl
or_len-seen (k ∷ ks) a = ap (λ (n : ℕ). cond (not (bytes_eq a (string_bytes k))) (1 + n) 0) (or_len-seen ks a)

length-seen : (ks : Keys) → length ks ≡ length (map string_bytes ks)
length-seen [] = refl
length-seen (k ∷ ks) = ap suc (length-seen ks)

pub position-seen : (ks : Keys) (a : Name) → position (λ (k : String Global). bytes_eq a (string_bytes k)) ks ≡ position (bytes_eq a) (map string_bytes ks)
position-seen ks a = ap₂ (λ (n m : ℕ). cond (nat_lt n m) (Some n) None) (or_len-seen ks a) (length-seen ks)

-- an expression is found at the place of its name

found-or_len : (es : List ExprIR) (b : Name) → slice_get es (position_or_len (bytes_eq b) (expr_names es)) ≡ expr_named es b
found-or_len [] b = refl
found-or_len (e ∷ es) b = at (bytes_eq b (expr_name e)) (found-or_len es b)
  where
    at : (t : Bool) → slice_get es (position_or_len (bytes_eq b) (expr_names es)) ≡ expr_named es b → slice_get (e ∷ es) (cond (not t) (1 + position_or_len (bytes_eq b) (expr_names es)) 0) ≡ cond t (Some e) (expr_named es b)
    at true h = refl
    at false h = let q : 1 + position_or_len (bytes_eq b) (expr_names es) ≡ suc (position_or_len (bytes_eq b) (expr_names es)) = omega arith in rw q h

past-or_len : (es : List ExprIR) (b : Name) → nat_lt (position_or_len (bytes_eq b) (expr_names es)) (length (expr_names es)) ≡ false → expr_named es b ≡ None
past-or_len [] b h = refl
past-or_len (e ∷ es) b h = at (bytes_eq b (expr_name e)) (past-or_len es b) h
  where
    at : (t : Bool) → (nat_lt (position_or_len (bytes_eq b) (expr_names es)) (length (expr_names es)) ≡ false → expr_named es b ≡ None) → nat_lt (cond (not t) (1 + position_or_len (bytes_eq b) (expr_names es)) 0) (suc (length (expr_names es))) ≡ false → cond t (Some e) (expr_named es b) ≡ None
    at true rest h = search rules
    at false rest h = rest (search rules)

pub found-at : (es : List ExprIR) (b : Name) (i : ℕ) → position (bytes_eq b) (expr_names es) ≡ Some i → expr_named es b ≡ slice_get es i
found-at es b i h = at (nat_lt (position_or_len (bytes_eq b) (expr_names es)) (length (expr_names es))) h
  where
    at : (t : Bool) → cond t (Some (position_or_len (bytes_eq b) (expr_names es))) None ≡ Some i → expr_named es b ≡ slice_get es i
    at true q = let s : position_or_len (bytes_eq b) (expr_names es) ≡ i = cc in sym (found-or_len es b) ∙ ap (slice_get es) s
    at false q = cc

pub found-none : (es : List ExprIR) (b : Name) → position (bytes_eq b) (expr_names es) ≡ None → expr_named es b ≡ None
found-none es b h = at (nat_lt (position_or_len (bytes_eq b) (expr_names es)) (length (expr_names es))) refl h
  where
    at : (t : Bool) → nat_lt (position_or_len (bytes_eq b) (expr_names es)) (length (expr_names es)) ≡ t → cond t (Some (position_or_len (bytes_eq b) (expr_names es))) None ≡ None → expr_named es b ≡ None
    at true k q = cc
    at false k q = past-or_len es b k

-- expressions read at their numbers

pub names-read : (ex : List AExpr) (es : List ExprIR) → out_names (all_named_at ex es) ≡ expr_names es
names-read ex [] = refl
names-read ex (e ∷ es) = ap (λ (ns : List Name). expr_name e ∷ ns) (names-read ex es)

pub named-read : (ex : List AExpr) (es : List ExprIR) (b : Name) → named_in (all_named_at ex es) b ≡ option_map (named_at ex) (expr_named es b)
named-read ex [] b = refl
named-read ex (e ∷ es) b = at (bytes_eq b (expr_name e)) (named-read ex es b)
  where
    at : (t : Bool) → named_in (all_named_at ex es) b ≡ option_map (named_at ex) (expr_named es b) → cond t (Some (named_at ex e)) (named_in (all_named_at ex es) b) ≡ option_map (named_at ex) (cond t (Some e) (expr_named es b))
    at true h = refl
    at false h = h

-- names that grow

pub with_names-last : (names more : List Name) (a : Name) → with_names names (more ++ a ∷ []) ≡ with_name (with_names names more) a
with_names-last names more a = fold-append with_name names more (a ∷ [])

-- the name of one more expression
pub name-next : (es : List ExprIR) (i : ℕ) (e : ExprIR) → slice_get es i ≡ Some e → take (i + 1) (expr_names es) ≡ take i (expr_names es) ++ expr_name e ∷ []
name-next es i e k = take-next (expr_names es) i (expr_name e) (slice_get-map expr_name es i ∙ ap (option_map expr_name) k)

pub place-next : (es : List ExprIR) (i : ℕ) (e : ExprIR) → AreDistinct (expr_names es) → slice_get es i ≡ Some e → with_name (take i (expr_names es)) (expr_name e) ≡ take (i + 1) (expr_names es)
place-next es i e once k =
    with_name-last (take i (expr_names es)) (expr_name e) (before_differ (expr_names es) i (expr_name e) once (slice_get-map expr_name es i ∙ ap (option_map expr_name) k))
    ∙ sym (name-next es i e k)

-- what passes, of one more
pub where-more : {A : Type 0} (p : A → Bool) (xs : List A) (i : ℕ) (x : A) → slice_get xs i ≡ Some x → p x ≡ true → only_where p (take (i + 1) xs) ≡ only_where p (take i xs) ++ x ∷ []
where-more {A} p xs i x k good =
    let one : only_where p (x ∷ []) ≡ x ∷ [] = rw good refl in
    ap (only_where p) (take-next xs i x k) ∙ filter-append p (take i xs) (x ∷ []) ∙ ap (λ (l : List A). only_where p (take i xs) ++ l) one

pub where-same : {A : Type 0} (p : A → Bool) (xs : List A) (i : ℕ) (x : A) → slice_get xs i ≡ Some x → p x ≡ false → only_where p (take (i + 1) xs) ≡ only_where p (take i xs)
where-same {A} p xs i x k bad =
    let one : only_where p (x ∷ []) ≡ [] = rw bad refl in
    ap (only_where p) (take-next xs i x k) ∙ filter-append p (take i xs) (x ∷ []) ∙ ap (λ (l : List A). only_where p (take i xs) ++ l) one ∙ append-nil (only_where p (take i xs))

-- what comes of all that a loop went over
pub went-over : {A B : Type 0} (F : List A → B) (xs : List A) (i : ℕ) → length xs ≤ i → F (take i xs) ≡ F xs
went-over F xs i h = ap F (take_all i xs h)

-- expressions read at their numbers, with one more
pub read-next : (ex : List AExpr) (es : List ExprIR) (i : ℕ) (e : ExprIR) → slice_get es i ≡ Some e → all_named_at ex (take (i + 1) es) ≡ all_named_at ex (take i es) ++ named_at ex e ∷ []
read-next ex es i e k = ap (all_named_at ex) (take-next es i e k) ∙ map-append (named_at ex) (take i es) (e ∷ [])

pub leaves-append : (xs ys : List Named) → all_leaves (xs ++ ys) ≡ all_leaves xs ++ all_leaves ys
leaves-append [] ys = refl
leaves-append (x ∷ xs) ys = ap (λ (l : List Name). leaves x.expr ++ l) (leaves-append xs ys) ∙ sym (append_assoc (leaves x.expr) (all_leaves xs) (all_leaves ys))

pub leaves-next : (ex : List AExpr) (es : List ExprIR) (i : ℕ) (e : ExprIR) (names : List Name) → slice_get es i ≡ Some e → with_names (with_names names (all_leaves (all_named_at ex (take i es)))) (leaves (expr_at ex e.node)) ≡ with_names names (all_leaves (all_named_at ex (take (i + 1) es)))
leaves-next ex es i e names k =
    sym (with_names-append names (all_leaves (all_named_at ex (take i es))) (leaves (expr_at ex e.node)))
    ∙ ap (with_names names) (sym (ap all_leaves (read-next ex es i e k) ∙ leaves-append (all_named_at ex (take i es)) (named_at ex e ∷ []) ∙ ap (λ (l : List Name). all_leaves (all_named_at ex (take i es)) ++ l) (append-nil (leaves (expr_at ex e.node)))))

-- those that pass, with one more
pub passing-next : (ex : List AExpr) (p : Named → Bool) (es : List ExprIR) (i : ℕ) (e : ExprIR) (names : List Name) → slice_get es i ≡ Some e → p (named_at ex e) ≡ true → with_name (with_names names (out_names (only_where p (all_named_at ex (take i es))))) (expr_name e) ≡ with_names names (out_names (only_where p (all_named_at ex (take (i + 1) es))))
passing-next ex p es i e names k good =
    let one : only_where p (named_at ex e ∷ []) ≡ named_at ex e ∷ [] = rw good refl in
    sym (with_names-last names (out_names (only_where p (all_named_at ex (take i es)))) (expr_name e))
    ∙ ap (with_names names) (sym (ap (λ (l : List Named). out_names (only_where p l)) (read-next ex es i e k)
    ∙ ap out_names (filter-append p (all_named_at ex (take i es)) (named_at ex e ∷ []) ∙ ap (λ (l : List Named). only_where p (all_named_at ex (take i es)) ++ l) one)
    ∙ map-append (λ (d : Named). name_of d.name) (only_where p (all_named_at ex (take i es))) (named_at ex e ∷ [])))

pub passing-same : (ex : List AExpr) (p : Named → Bool) (es : List ExprIR) (i : ℕ) (e : ExprIR) (names : List Name) → slice_get es i ≡ Some e → p (named_at ex e) ≡ false → with_names names (out_names (only_where p (all_named_at ex (take i es)))) ≡ with_names names (out_names (only_where p (all_named_at ex (take (i + 1) es))))
passing-same ex p es i e names k bad =
    let one : only_where p (named_at ex e ∷ []) ≡ [] = rw bad refl in
    ap (λ (l : List Named). with_names names (out_names l)) (sym (ap (only_where p) (read-next ex es i e k)
    ∙ filter-append p (all_named_at ex (take i es)) (named_at ex e ∷ []) ∙ ap (λ (l : List Named). only_where p (all_named_at ex (take i es)) ++ l) one ∙ append-nil (only_where p (all_named_at ex (take i es)))))

pub names-all : (es : List ExprIR) (i : ℕ) → length es ≤ i → take i (expr_names es) ≡ expr_names es
names-all es i h = take_all i (expr_names es) (let l : length (expr_names es) ≡ length es = length-map es expr_name in omega (arith, l, h))

-- a place that is found is one of an expression
pub found-within : (es : List ExprIR) (b : Name) (i : ℕ) → position (bytes_eq b) (expr_names es) ≡ Some i → i < length es
found-within es b i h = at (nat_lt (position_or_len (bytes_eq b) (expr_names es)) (length (expr_names es))) refl h
  where
    at : (t : Bool) → nat_lt (position_or_len (bytes_eq b) (expr_names es)) (length (expr_names es)) ≡ t → cond t (Some (position_or_len (bytes_eq b) (expr_names es))) None ≡ Some i → i < length es
    at true k q =
        let s : position_or_len (bytes_eq b) (expr_names es) ≡ i = cc in
        let l : length (expr_names es) ≡ length es = length-map es expr_name in
        let m = ltb-true (position_or_len (bytes_eq b) (expr_names es)) (length (expr_names es)) k in
        omega (arith, s, l, m)
    at false k q = cc

-- the types of one more name
pub types-next : (s to : Columns) (names : List Name) (i : ℕ) (a : Name) (d : DataType) → slice_get names i ≡ Some a → type_of s a ≡ Some d → with_type (with_types to (typed_names s (take i names))) a d ≡ with_types to (typed_names s (take (i + 1) names))
types-next s to names i a d k is =
    let one : typed_names s (a ∷ []) ≡ (a, d) ∷ [] = rw is refl in
    sym (ap (with_types to) (ap (typed_names s) (take-next names i a k) ∙ filter_map-append (typed_name s) (take i names) (a ∷ []) ∙ ap (λ (l : Columns). typed_names s (take i names) ++ l) one)
    ∙ fold-append (λ (done : Columns) (c : Name × DataType). with_type done c.0 c.1) to (typed_names s (take i names)) ((a, d) ∷ []))

pub types-same : (s to : Columns) (names : List Name) (i : ℕ) (a : Name) → slice_get names i ≡ Some a → type_of s a ≡ None → with_types to (typed_names s (take i names)) ≡ with_types to (typed_names s (take (i + 1) names))
types-same s to names i a k is =
    let one : typed_names s (a ∷ []) ≡ [] = rw is refl in
    sym (ap (with_types to) (ap (typed_names s) (take-next names i a k) ∙ filter_map-append (typed_name s) (take i names) (a ∷ []) ∙ ap (λ (l : Columns). typed_names s (take i names) ++ l) one ∙ append-nil (typed_names s (take i names))))
