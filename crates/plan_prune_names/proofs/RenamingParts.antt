-- The columns below a renaming, name by name.
use Rattle.std.proofs.Common.{◌≡◌, ◌<◌, ◌≤◌, ℕ, suc, ◌+◌, nat_lt, Bool, true, false, cond, not, ◌||◌, arith, one-add, List, [], ◌∷◌, map, length, take, Option, Some, None, is_some, unwrap_or, refl, sym, ap, subst, ◌∙◌}
use Rattle.std.specs.Prelude.{IfNone}
use Rattle.std.specs.List.{position, position_or_len, slice_get}
use Rattle.std.specs.Str.{bytes_eq}
use Rattle.std.proofs.Math.Path.{fun_ext}
use Rattle.std.proofs.lemmas.Bool.{le-ltb, lt-ltb, ltb-true, ltb-false}
use Rattle.plan_core.specs.declared.data_type.DataType.{DataType}
use Rattle.plan_core.specs.Columns.{Columns, names_of}
use Rattle.plan_core.specs.Names.{AreDistinct, has}
use Rattle.plan_expr.specs.Leaves.{Name}
use Rattle.plan_frame.proofs.NameSets.{named, some-type_of}
use Rattle.plan_meaning.specs.Functions.{former, renamed}
use Rattle.plan_prune_names.specs.declared.known_columns.KnownColumns.{KnownColumns}
use Rattle.plan_prune_names.specs.ByName.{at_name}
use Rattle.plan_prune_names.specs.Known.{Shows, type_in}
use Rattle.plan_prune_names.specs.Renaming.{AreFree, old_in, own_in}
use Rattle.plan_prune_names.proofs.MoveLemmas.{at-next, moved, moved-all, new-at}

-- a name by itself is found where it is one of the names
self-at : (names : List Name) (a : Name) → at_name names names a ≡ cond (has names a) (Some a) None
self-at [] a = refl
self-at (n ∷ names) a = at (bytes_eq a n) refl (self-at names a)
  where
    at : (t : Bool) → bytes_eq a n ≡ t → at_name names names a ≡ cond (has names a) (Some a) None → cond t (Some n) (at_name names names a) ≡ cond (t || has names a) (Some a) None
    at true q h = ap (λ (x : Name). Some x) (sym (named a n q))
    at false q h = h

-- the columns by themselves, by an overlay that shows them
own-shown : (o : KnownColumns) (s : Columns) (b : Name) → Shows o s → at_name (names_of s) (names_of s) b ≡ own_in (type_in o) b
own-shown o s b shows =
    self-at (names_of s) b
    ∙ ap (λ (t : Bool). cond t (Some b) None) (sym (ap (λ (d : Option DataType). is_some d) (shows b) ∙ some-type_of s b))

own_some : (types : Name → Option DataType) (e : Name) → is_some (own_in types e) ≡ true → is_some (types e) ≡ true
own_some types e h = at (is_some (types e)) h
  where
    at : (t : Bool) → is_some (cond t (Some e) None) ≡ true → t ≡ true
    at true q = refl
    at false q = cc

own_none : (types : Name → Option DataType) (a : Name) → types a ≡ None → own_in types a ≡ None
own_none types a h = ap (λ (d : Option DataType). cond (is_some d) (Some a) None) h

-- the column that becomes one of a name, by an overlay that shows the columns
pub former-shown : (old new : List Name) → length old ≡ length new → AreDistinct old → AreDistinct new → (o : KnownColumns) (s : Columns) (a : Name) → AreFree old new (type_in o) → Shows o s → former (renamed old new) (names_of s) a ≡ old_in old new (type_in o) a
former-shown old new same once_old once_new o s a free shows =
    new-at (map (renamed old new) (names_of s)) (names_of s) a
    ∙ ap (λ (now : Name → Name). at_name (map now (names_of s)) (names_of s) a) (fun_ext (λ (b : Name). ap (λ (x : Option Name). unwrap_or x b) (new-at old new b)))
    ∙ moved-all old new same once_old once_new (names_of s) (names_of s) a
    (λ b e at_b there absent. own-shown o s b shows ∙ own_none (type_in o) b (free b e at_b (own_some (type_in o) e (ap (λ (x : Option Name). is_some x) (sym (own-shown o s e shows)) ∙ there)) absent))
    ∙ ap (λ (own : Name → Option Name). moved old new same once_old once_new own a) (fun_ext (λ (b : Name). own-shown o s b shows))

-- a place that is found
at_place : (new old : List Name) (a : Name) → (e : Name) → position_or_len (bytes_eq a) new < length new → slice_get old (position_or_len (bytes_eq a) new) ≡ Some e → at_name new old a ≡ Some e
at_place [] old a e l h = absurd (omega (arith, l))
at_place (n ∷ new) [] a e l h = cc
at_place (n ∷ new) (o ∷ old) a e l h = at (bytes_eq a n) l h (λ m q. at_place new old a e m q)
  where
    at : (t : Bool) → cond (not t) (1 + position_or_len (bytes_eq a) new) 0 < suc (length new) → slice_get (o ∷ old) (cond (not t) (1 + position_or_len (bytes_eq a) new) 0) ≡ Some e → (position_or_len (bytes_eq a) new < length new → slice_get old (position_or_len (bytes_eq a) new) ≡ Some e → at_name new old a ≡ Some e) → cond t (Some o) (at_name new old a) ≡ Some e
    at true m q rest = q
    at false m q rest = rest (omega (arith, m)) (ap (slice_get (o ∷ old)) (sym (one-add (position_or_len (bytes_eq a) new))) ∙ q)

no_place : (new old : List Name) (a : Name) → length new ≤ position_or_len (bytes_eq a) new → at_name new old a ≡ None
no_place [] old a l = refl
no_place (n ∷ new) [] a l = refl
no_place (n ∷ new) (o ∷ old) a l = at (bytes_eq a n) l (λ m. no_place new old a m)
  where
    at : (t : Bool) → suc (length new) ≤ cond (not t) (1 + position_or_len (bytes_eq a) new) 0 → (length new ≤ position_or_len (bytes_eq a) new → at_name new old a ≡ None) → cond t (Some o) (at_name new old a) ≡ None
    at true m rest = absurd (omega (arith, m))
    at false m rest = rest (omega (arith, m))

pub place-within : (new : List Name) (a : Name) (j : ℕ) → position (bytes_eq a) new ≡ Some j → (position_or_len (bytes_eq a) new ≡ j) × (j < length new)
place-within new a j e = at (nat_lt (position_or_len (bytes_eq a) new) (length new)) refl e
  where
    at : (t : Bool) → nat_lt (position_or_len (bytes_eq a) new) (length new) ≡ t → cond t (Some (position_or_len (bytes_eq a) new)) None ≡ Some j → (position_or_len (bytes_eq a) new ≡ j) × (j < length new)
    at true q h = let is : position_or_len (bytes_eq a) new ≡ j = cc in let l = ltb-true _ _ q in (is, omega (arith, l, is))
    at false q h = cc

pub at-some : (old new : List Name) (a : Name) (j : ℕ) (e : Name) → position (bytes_eq a) new ≡ Some j → slice_get old j ≡ Some e → at_name new old a ≡ Some e
at-some old new a j e p h =
    let r = place-within new a j p in
    at_place new old a e (omega (arith, r.0, r.1)) (ap (slice_get old) r.0 ∙ h)

pub at-none : (old new : List Name) (a : Name) → position (bytes_eq a) new ≡ None → at_name new old a ≡ None
at-none old new a e = at (nat_lt (position_or_len (bytes_eq a) new) (length new)) refl e
  where
    at : (t : Bool) → nat_lt (position_or_len (bytes_eq a) new) (length new) ≡ t → cond t (Some (position_or_len (bytes_eq a) new)) None ≡ None → at_name new old a ≡ None
    at true q h = cc
    at false q h = no_place new old a (ltb-false _ _ q)

one-lower : (n m : ℕ) → nat_lt (suc n) (suc m) ≡ nat_lt n m
one-lower n m = at (nat_lt n m) refl
  where
    at : (t : Bool) → nat_lt n m ≡ t → nat_lt (suc n) (suc m) ≡ t
    at true q = let l = ltb-true n m q in lt-ltb (suc n) (suc m) (omega (arith, l))
    at false q = let l = ltb-false n m q in le-ltb (suc n) (suc m) (omega (arith, l))

pub if_none : {X : Type 0} (r : Option X) {P Q : Type 0} → IfNone r P → (P → Q) → IfNone r Q
if_none None h f = f h
if_none (Some x) h f = tt

-- whether a place is found
pub placed : (names : List Name) (a : Name) → is_some (position (bytes_eq a) names) ≡ has names a
placed names a = ap (λ (t : Bool). is_some (cond t (Some (position_or_len (bytes_eq a) names)) None)) (is names) ∙ some (has names a)
  where
    some : (t : Bool) → is_some (cond t (Some (position_or_len (bytes_eq a) names)) None) ≡ t
    some true = refl
    some false = refl

    is : (ns : List Name) → nat_lt (position_or_len (bytes_eq a) ns) (length ns) ≡ has ns a
    is [] = refl
    is (n ∷ ns) = at (bytes_eq a n) (is ns)
      where
        at : (t : Bool) → nat_lt (position_or_len (bytes_eq a) ns) (length ns) ≡ has ns a → nat_lt (cond (not t) (1 + position_or_len (bytes_eq a) ns) 0) (suc (length ns)) ≡ (t || has ns a)
        at true h = lt-ltb 0 (suc (length ns)) (omega arith)
        at false h = ap (λ (k : ℕ). nat_lt k (suc (length ns))) (one-add (position_or_len (bytes_eq a) ns)) ∙ one-lower (position_or_len (bytes_eq a) ns) (length ns) ∙ h

-- one name more that is free
pub free-next : (old new : List Name) (types : Name → Option DataType) (i : ℕ) (e n : Name) → slice_get old i ≡ Some e → slice_get new i ≡ Some n → has (take i new) n ≡ false → (is_some (types e) ≡ true → has old n ≡ false → types n ≡ None) → AreFree old (take i new) types → AreFree old (take (i + 1) new) types
free-next old new types i e n at_e at_n fresh good before a x found there absent =
    at (bytes_eq a n) refl (sym (at-next new old i n e a at_n at_e fresh) ∙ found)
  where
    at : (t : Bool) → bytes_eq a n ≡ t → cond t (Some e) (at_name (take i new) old a) ≡ Some x → types a ≡ None
    at true q h =
        let is : e ≡ x = cc in
        let name : a ≡ n = named a n q in
        ap types name ∙ good (subst (λ (y : Name). is_some (types y) ≡ true) (sym is) there) (subst (λ (y : Name). has old y ≡ false) name absent)
    at false q h = before a x h there absent
