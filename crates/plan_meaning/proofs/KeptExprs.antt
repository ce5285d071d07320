-- Expressions that are kept of a list: what holds of each, their names, leaves and height.
use Rattle.std.proofs.Common.{◌≡◌, ℕ, suc, ◌&&◌, Bool, true, false, cond, List, [], ◌∷◌, ◌++◌, refl, sym, ap, ap₂, ◌∙◌, subst, inl, inr, ◌⊎◌, ⊎_elim, is_some, append-nil, map}
use Rattle.std.specs.List.{AllByRecursion, IsDistinct, filter as only_where}
use Rattle.std.specs.Str.{bytes_eq}
use Rattle.std.proofs.lemmas.Bool.{both_ways, and_parts, and_from, or_parts, not-true, false_from_ne_true, cond-true}
use Rattle.plan_core.specs.Columns.{Columns, type_of}
use Rattle.plan_core.specs.Names.{has, AreDistinct}
use Rattle.plan_core.proofs.ColumnLemmas.{flip_false}
use Rattle.plan_expr.specs.Exprs.{Named}
use Rattle.plan_expr.specs.Leaves.{Name, leaves}
use Rattle.plan_expr.specs.Naming.{name_of}
use Rattle.plan_expr.specs.Scalars.{is_scalar}
use Rattle.plan_frame.specs.Exprs.{all_known}
use Rattle.plan_meaning.specs.Checks.{each_new}
use Rattle.plan_meaning.specs.Typing.{AllHold}
use Rattle.plan_frame.specs.ExprLists.{out_names, all_scalar, first_many, all_leaves}
use Rattle.plan_meaning.specs.Relating.{Asked, all}
use Rattle.plan_meaning.specs.Asked.{is_asked, kept_exprs, selected_exprs}
use Rattle.plan_frame.proofs.NameSets.{named, has_cons, has_first, has_later, has_front, has_either, has-append}
use Rattle.plan_meaning.proofs.CheckParts.{known_leaf, pass_names}
use Rattle.plan_meaning.proofs.KeptColumns.{first_apart}

pub all_append : {X : Type 0} (P : X → Type 0) (xs ys : List X) → AllByRecursion P xs → AllByRecursion P ys → AllByRecursion P (xs ++ ys)
all_append P [] ys h k = k
all_append P (x ∷ xs) ys h k = (h.0, all_append P xs ys h.1 k)

-- what holds of each item holds of those that pass a test
pub all_where : {X : Type 0} (P : X → Type 0) (test : X → Bool) (xs : List X) → AllByRecursion P xs → AllByRecursion P (only_where test xs)
all_where P test [] h = tt
all_where P test (x ∷ xs) h = at (test x) (all_where P test xs h.1)
  where
    at : (t : Bool) → AllByRecursion P (only_where test xs) → AllByRecursion P (cond t (x ∷ only_where test xs) (only_where test xs))
    at true r = (h.0, r)
    at false r = r

-- what holds of each expression holds of those that are kept

all_first : (P : Named → Type 0) (es : List Named) → AllByRecursion P es → AllByRecursion P (first_many es)
all_first P [] h = tt
all_first P (e ∷ es) h = at (is_scalar e.expr) (all_first P es h.1)
  where
    at : (t : Bool) → AllByRecursion P (first_many es) → AllByRecursion P (cond t (first_many es) (e ∷ []))
    at true r = r
    at false r = (h.0, tt)

pub all_kept_exprs : (P : Named → Type 0) (a : Asked) (es : List Named) → AllByRecursion P es → AllByRecursion P (kept_exprs a es)
all_kept_exprs P a es h = all_where P (λ (e : Named). is_asked a (name_of e.name)) es h

pub all_selected : (P : Named → Type 0) (a : Asked) (es : List Named) → AllByRecursion P es → AllByRecursion P (selected_exprs a es)
all_selected P a es h = at (all_scalar (kept_exprs a es)) (all_kept_exprs P a es h)
  where
    at : (t : Bool) → AllByRecursion P (kept_exprs a es) → AllByRecursion P (cond t (kept_exprs a es ++ first_many es) (kept_exprs a es))
    at true r = all_append P (kept_exprs a es) (first_many es) r (all_first P es h)
    at false r = r

-- the leaves of expressions that are known are columns
pub known_leaves : (es : List Named) (s : Columns) → AllByRecursion (λ (e : Named). all_known (leaves e.expr) s ≡ true) es → (b : Name) → has (all_leaves es) b ≡ true → is_some (type_of s b) ≡ true
known_leaves [] s h b i = cc
known_leaves (e ∷ es) s h b i = ⊎_elim (λ j. known_leaf (leaves e.expr) s b h.0 j) (λ j. known_leaves es s h.1 b j) (has_either (leaves e.expr) (all_leaves es) b i)

-- names

-- a name that passes a test is among those that do
pub has_where : (test : Name → Bool) (names : List Name) (b : Name) → test b ≡ true → has names b ≡ true → has (only_where test names) b ≡ true
has_where test [] b q i = cc
has_where test (a ∷ names) b q i = at (test a) refl (λ j. has_where test names b q j) (has_cons a names b i)
  where
    at : (t : Bool) → test a ≡ t → (has names b ≡ true → has (only_where test names) b ≡ true) → (b ≡ a) ⊎ (has names b ≡ true) → has (cond t (a ∷ only_where test names) (only_where test names)) b ≡ true
    at true e r (inl p) = subst (λ (x : Name). has (a ∷ only_where test names) x ≡ true) (sym p) (has_first a (only_where test names))
    at true e r (inr j) = has_later a (only_where test names) b (r j)
    at false e r (inl p) = absurd (both_ways (test a) e (ap test (sym p) ∙ q))
    at false e r (inr j) = r j

pub where_has : (test : Name → Bool) (names : List Name) (b : Name) → has (only_where test names) b ≡ true → (has names b ≡ true) × (test b ≡ true)
where_has test [] b i = cc
where_has test (a ∷ names) b i = at (test a) refl (λ j. where_has test names b j) i
  where
    at : (t : Bool) → test a ≡ t → (has (only_where test names) b ≡ true → (has names b ≡ true) × (test b ≡ true)) → has (cond t (a ∷ only_where test names) (only_where test names)) b ≡ true → (has (a ∷ names) b ≡ true) × (test b ≡ true)
    at true e r i = ⊎_elim
        (λ (p : b ≡ a). (subst (λ (x : Name). has (a ∷ names) x ≡ true) (sym p) (has_first a names), ap test p ∙ e))
        (λ (j : has (only_where test names) b ≡ true). (has_later a names b (r j).0, (r j).1))
        (has_cons a (only_where test names) b i)
    at false e r i = (has_later a names b (r i).0, (r i).1)

pub distinct_where : (test : Name → Bool) (names : List Name) → AreDistinct names → AreDistinct (only_where test names)
unfolding IsDistinct
distinct_where test [] d = tt
distinct_where test (a ∷ names) d = at (test a) (distinct_where test names d.1)
  where
    at : (t : Bool) → AreDistinct (only_where test names) → AreDistinct (cond t (a ∷ only_where test names) (only_where test names))
    at true r = (all_where (λ (y : Name). bytes_eq a y ≡ false) test names d.0, r)
    at false r = r

-- names of two lists that share none
distinct_join : (xs ys : List Name) → AreDistinct xs → AreDistinct ys → ((b : Name) → has xs b ≡ true → has ys b ≡ false) → AreDistinct (xs ++ ys)
unfolding IsDistinct
distinct_join [] ys d e apart = e
distinct_join (x ∷ xs) ys d e apart = (
  all_append (λ (y : Name). bytes_eq x y ≡ false) xs ys d.0 (pass_names (λ (y : Name). bytes_eq x y ≡ false) ys (λ y j. false_from_ne_true (bytes_eq x y) (λ q. both_ways (has ys x) (apart x (has_first x xs)) (subst (λ (z : Name). has ys z ≡ true) (sym (named x y q)) j)))),
  distinct_join xs ys d.1 e (λ b i. apart b (has_later x xs b i)),
)

-- the names of kept expressions are the names that are asked
pub names-kept : (a : Asked) (es : List Named) → out_names (kept_exprs a es) ≡ only_where (is_asked a) (out_names es)
names-kept a [] = refl
names-kept a (e ∷ es) = at (is_asked a (name_of e.name)) (names-kept a es)
  where
    at : (t : Bool) → out_names (kept_exprs a es) ≡ only_where (is_asked a) (out_names es) → out_names (cond t (e ∷ kept_exprs a es) (kept_exprs a es)) ≡ cond t (name_of e.name ∷ only_where (is_asked a) (out_names es)) (only_where (is_asked a) (out_names es))
    at true r = ap (λ (x : List Name). name_of e.name ∷ x) r
    at false r = r

pub kept_named : (a : Asked) (es : List Named) (b : Name) → has (out_names (kept_exprs a es)) b ≡ true → (has (out_names es) b ≡ true) × (is_asked a b ≡ true)
kept_named a es b i = where_has (is_asked a) (out_names es) b (subst (λ (x : List Name). has x b ≡ true) (names-kept a es) i)

pub named_kept : (a : Asked) (es : List Named) (b : Name) → is_asked a b ≡ true → has (out_names es) b ≡ true → has (out_names (kept_exprs a es)) b ≡ true
named_kept a es b q i = subst (λ (x : List Name). has x b ≡ true) (sym (names-kept a es)) (has_where (is_asked a) (out_names es) b q i)

pub distinct_kept : (a : Asked) (es : List Named) → AreDistinct (out_names es) → AreDistinct (out_names (kept_exprs a es))
distinct_kept a es d = subst AreDistinct (sym (names-kept a es)) (distinct_where (is_asked a) (out_names es) d)

distinct_first : (es : List Named) → AreDistinct (out_names (first_many es))
unfolding IsDistinct
distinct_first [] = tt
distinct_first (e ∷ es) = at (is_scalar e.expr) (distinct_first es)
  where
    at : (t : Bool) → AreDistinct (out_names (first_many es)) → AreDistinct (out_names (cond t (first_many es) (e ∷ [])))
    at true r = r
    at false r = (tt, tt)

pub names-join : (xs ys : List Named) → out_names (xs ++ ys) ≡ out_names xs ++ out_names ys
names-join [] ys = refl
names-join (x ∷ xs) ys = ap (λ (l : List Name). name_of x.name ∷ l) (names-join xs ys)

pub distinct_selected : (a : Asked) (es : List Named) → AreDistinct (out_names es) → AreDistinct (out_names (selected_exprs a es))
distinct_selected a es d = at (all_scalar (kept_exprs a es)) refl
  where
    at : (t : Bool) → all_scalar (kept_exprs a es) ≡ t → AreDistinct (out_names (cond t (kept_exprs a es ++ first_many es) (kept_exprs a es)))
    at true s = subst AreDistinct (sym (names-join (kept_exprs a es) (first_many es)))
        (distinct_join (out_names (kept_exprs a es)) (out_names (first_many es)) (distinct_kept a es d) (distinct_first es) (λ b i. first_apart a es b s (kept_named a es b i).1))
    at false s = distinct_kept a es d

pub named_selected : (a : Asked) (es : List Named) (b : Name) → is_asked a b ≡ true → has (out_names es) b ≡ true → has (out_names (selected_exprs a es)) b ≡ true
named_selected a es b q i = at (all_scalar (kept_exprs a es)) (named_kept a es b q i)
  where
    at : (t : Bool) → has (out_names (kept_exprs a es)) b ≡ true → has (out_names (cond t (kept_exprs a es ++ first_many es) (kept_exprs a es))) b ≡ true
    at true j = subst (λ (x : List Name). has x b ≡ true) (sym (names-join (kept_exprs a es) (first_many es))) (has_front (out_names (kept_exprs a es)) (out_names (first_many es)) b j)
    at false j = j

named_passes : (P : Name → Type 0) (es : List Named) → AllByRecursion (λ (e : Named). P (name_of e.name)) es → (b : Name) → has (out_names es) b ≡ true → P b
named_passes P [] h b i = cc
named_passes P (e ∷ es) h b i = ⊎_elim (λ (p : b ≡ name_of e.name). subst P (sym p) h.0) (λ (j : has (out_names es) b ≡ true). named_passes P es h.1 b j) (has_cons (name_of e.name) (out_names es) b i)

pass_named : (P : Name → Type 0) (es : List Named) → ((b : Name) → has (out_names es) b ≡ true → P b) → AllByRecursion (λ (e : Named). P (name_of e.name)) es
pass_named P [] h = tt
pass_named P (e ∷ es) h = (h (name_of e.name) (has_first (name_of e.name) (out_names es)), pass_named P es (λ b i. h b (has_later (name_of e.name) (out_names es) b i)))

-- a name of what a selection keeps is one of its names
pub selected_named : (a : Asked) (es : List Named) (b : Name) → has (out_names (selected_exprs a es)) b ≡ true → has (out_names es) b ≡ true
selected_named a es b i =
    let P : Name → Type 0 = λ x. has (out_names es) x ≡ true in
    named_passes P (selected_exprs a es) (all_selected (λ (e : Named). P (name_of e.name)) a es (pass_named P es (λ x j. j))) b i

-- names that are each new stand once

old_apart : (before : List Name) (a b : Name) → has (before ++ a ∷ []) b ≡ false → (has before b ≡ false) × (bytes_eq b a ≡ false)
old_apart before a b n =
    let p = or_parts (has before b) (has (a ∷ []) b) (sym (has-append before (a ∷ []) b) ∙ n) in
    (p.0, (or_parts (bytes_eq b a) false p.1).0)

new_apart : (k : ℕ) (before names : List Name) → AllHold (each_new k before names) → (b : Name) → has names b ≡ true → has before b ≡ false
new_apart k before [] h b i = cc
new_apart k before (a ∷ names) h b i = ⊎_elim
    (λ (e : b ≡ a). ap (has before) e ∙ not-true (has before a) h.0)
    (λ (j : has names b ≡ true). (old_apart before a b (new_apart (suc k) (before ++ a ∷ []) names h.1 b j)).0)
    (has_cons a names b i)

pub new_distinct : (k : ℕ) (before names : List Name) → AllHold (each_new k before names) → AreDistinct names
unfolding IsDistinct
new_distinct k before [] h = tt
new_distinct k before (a ∷ names) h = (
  pass_names (λ (y : Name). bytes_eq a y ≡ false) names (λ y j. flip_false y a (old_apart before a y (new_apart (suc k) (before ++ a ∷ []) names h.1 y j)).1),
  new_distinct (suc k) (before ++ a ∷ []) names h.1,
)

-- height

scalar_join : (xs ys : List Named) → all_scalar xs ≡ true → all_scalar (xs ++ ys) ≡ all_scalar ys
scalar_join [] ys h = refl
scalar_join (x ∷ xs) ys h = let p = and_parts (is_scalar x.expr) (all_scalar xs) h in ap₂ (λ (a b : Bool). a && b) p.0 (scalar_join xs ys p.1)

scalar-first : (es : List Named) → all_scalar (first_many es) ≡ all_scalar es
scalar-first [] = refl
scalar-first (e ∷ es) = at (is_scalar e.expr) refl (scalar-first es)
  where
    at : (t : Bool) → is_scalar e.expr ≡ t → all_scalar (first_many es) ≡ all_scalar es → all_scalar (cond t (first_many es) (e ∷ [])) ≡ (t && all_scalar es)
    at true q r = r
    at false q r = ap (λ (x : Bool). x && true) q

scalar_kept : (a : Asked) (es : List Named) → all_scalar es ≡ true → all_scalar (kept_exprs a es) ≡ true
scalar_kept a [] h = refl
scalar_kept a (e ∷ es) h = let p = and_parts (is_scalar e.expr) (all_scalar es) h in at (is_asked a (name_of e.name)) p.0 (scalar_kept a es p.1)
  where
    at : (t : Bool) → is_scalar e.expr ≡ true → all_scalar (kept_exprs a es) ≡ true → all_scalar (cond t (e ∷ kept_exprs a es) (kept_exprs a es)) ≡ true
    at true q r = and_from (is_scalar e.expr) (all_scalar (kept_exprs a es)) q r
    at false q r = r

-- what a selection keeps is as scalar as the selection
pub scalar-selected : (a : Asked) (es : List Named) → all_scalar (selected_exprs a es) ≡ all_scalar es
scalar-selected a es = at (all_scalar (kept_exprs a es)) refl
  where
    at : (t : Bool) → all_scalar (kept_exprs a es) ≡ t → all_scalar (cond t (kept_exprs a es ++ first_many es) (kept_exprs a es)) ≡ all_scalar es
    at true s = scalar_join (kept_exprs a es) (first_many es) s ∙ scalar-first es
    at false s = s ∙ sym (false_from_ne_true (all_scalar es) (λ q. both_ways (all_scalar (kept_exprs a es)) s (scalar_kept a es q)))

-- asked everything, all are kept

pub kept-all : (es : List Named) → kept_exprs all es ≡ es
kept-all [] = refl
kept-all (e ∷ es) = ap (λ (x : List Named). e ∷ x) (kept-all es)

first-none : (es : List Named) → all_scalar es ≡ true → first_many es ≡ []
first-none [] h = refl
first-none (e ∷ es) h =
    let p = and_parts (is_scalar e.expr) (all_scalar es) h in
    cond-true (is_scalar e.expr) (first_many es) (e ∷ []) p.0 ∙ first-none es p.1

pub selected-all : (es : List Named) → selected_exprs all es ≡ es
selected-all es = ap (λ (ks : List Named). cond (all_scalar ks) (ks ++ first_many es) ks) (kept-all es) ∙ at (all_scalar es) refl
  where
    at : (t : Bool) → all_scalar es ≡ t → cond t (es ++ first_many es) es ≡ es
    at true s = ap (λ (x : List Named). es ++ x) (first-none es s) ∙ append-nil es
    at false s = refl

-- aggregates that are kept are kept however they are written
pub kept-named : (f : Named → Named) → ((e : Named) → (f e).name ≡ e.name) → (a : Asked) (es : List Named) → kept_exprs a (map f es) ≡ map f (kept_exprs a es)
kept-named f same a [] = refl
kept-named f same a (e ∷ es) =
    ap (λ (b : Bool). cond b (f e ∷ kept_exprs a (map f es)) (kept_exprs a (map f es))) (ap (λ n. is_asked a (name_of n)) (same e))
    ∙ at (is_asked a (name_of e.name)) (kept-named f same a es)
  where
    at : (b : Bool) → kept_exprs a (map f es) ≡ map f (kept_exprs a es) → cond b (f e ∷ kept_exprs a (map f es)) (kept_exprs a (map f es)) ≡ map f (cond b (e ∷ kept_exprs a es) (kept_exprs a es))
    at true r = ap (λ (l : List Named). f e ∷ l) r
    at false r = r
