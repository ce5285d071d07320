-- Columns that are taken out, and put back under other names.
use Rattle.std.proofs.Common.{◌≡◌, ◌≤◌, ◌<◌, ◌+◌, Bool, true, false, not, cond, ◌&&◌, ◌||◌, ◌==◌, ℕ, zero, suc, List, [], ◌∷◌, ◌++◌, length, Option, Some, None, unwrap_or, refl, sym, ap, ap₂, ◌∙◌, subst, arith, append_assoc, append-nil, ◌⊎◌, inl, inr}
use Rattle.std.specs.List.{AllByRecursion, IsDistinct, insert, list_any, slice_get}
use Rattle.std.specs.Str.{bytes_eq}
use Rattle.std.proofs.lemmas.Bool.{and_parts, eq-eqb, eqb-true}
use Rattle.plan_core.specs.declared.data_type.DataType.{DataType}
use Rattle.plan_core.specs.Columns.{Columns, HasDistinctNames, names_of, type_of, without}
use Rattle.plan_core.specs.Names.{AreDistinct, has, with_names}
use Rattle.plan_core.proofs.ColumnLemmas.{flip_false}
use Rattle.plan_expr.specs.Leaves.{Name}
use Rattle.plan_frame.specs.Reshaped.{renamed_columns}
use Rattle.plan_frame.proofs.NameSets.{distinct_cons, distinct_names, distinct_none, has-once, has_first, has_later, named, same_named, some-type_of}
use Rattle.plan_meaning.specs.Checks.{each_new, is_known}
use Rattle.plan_meaning.specs.Functions.{become_one, new_name, renamed, stay_apart}
use Rattle.plan_meaning.specs.Typing.{AllHold, rename_checks}
use Rattle.plan_meaning.proofs.CheckParts.{hold_join}
use Rattle.plan_schema.proofs.RenameLemmas.{one_apart, or_false}
use Rattle.plan_check.specs.declared.renamed.TakenColumn.{TakenColumn}
use Rattle.plan_check.specs.Renamed.{MakeUp, HavePlaces, all_free, can_rename, is_free, is_once, put_back}
use Rattle.plan_check.proofs.InPlaceLemmas.{differs, differs_at, still_within}

-- a list of names that is as long as its set

len : (xs : List Name) (x : Name) → length (xs ++ x ∷ []) ≡ suc (length xs)
len [] x = refl
len (y ∷ xs) x = ap suc (len xs x)

fewer : (before names : List Name) → length (with_names before names) ≤ length before + length names
fewer before [] = omega arith
fewer before (a ∷ names) = at (has before a) (fewer before names) (fewer (before ++ a ∷ []) names)
  where
    at : (t : Bool) → length (with_names before names) ≤ length before + length names → length (with_names (before ++ a ∷ []) names) ≤ length (before ++ a ∷ []) + length names → length (with_names (cond t before (before ++ a ∷ [])) names) ≤ length before + suc (length names)
    at true h k = omega (arith, h)
    at false h k = let l = len before a in omega (arith, k, l)

-- no name of them comes twice, and none is one of those before
all_new : (k : ℕ) (before names : List Name) → length (with_names before names) ≡ length before + length names → (with_names before names ≡ before ++ names) × AllHold (each_new k before names)
all_new k before [] e = (sym (append-nil before), tt)
all_new k before (a ∷ names) e = at (has before a) refl e (all_new (suc k) (before ++ a ∷ []) names)
  where
    Rest : Type 0
    Rest = length (with_names (before ++ a ∷ []) names) ≡ length (before ++ a ∷ []) + length names → (with_names (before ++ a ∷ []) names ≡ (before ++ a ∷ []) ++ names) × AllHold (each_new (suc k) (before ++ a ∷ []) names)

    at : (t : Bool) → has before a ≡ t → length (with_names (cond t before (before ++ a ∷ [])) names) ≡ length before + suc (length names) → Rest → (with_names (cond t before (before ++ a ∷ [])) names ≡ before ++ a ∷ names) × ((not t ≡ true) × AllHold (each_new (suc k) (before ++ a ∷ []) names))
    at true q h rest = let l = fewer before names in absurd (omega (arith, h, l))
    at false q h rest =
        let l = len before a in
        let r = rest (omega (arith, h, l)) in
        (r.0 ∙ append_assoc before (a ∷ []) names, (refl, r.1))

as_many : (names : List Name) → is_once names ≡ true → length (with_names [] names) ≡ 0 + length names
as_many names e = let h = eqb-true (length (with_names [] names)) (length names) e in omega (arith, h)

distinct-once : (names : List Name) → is_once names ≡ true → AreDistinct names
distinct-once names e =
    subst AreDistinct (all_new 0 [] names (as_many names e)).0 (distinct_names [] names distinct_none)

new-once : (k : ℕ) (names : List Name) → is_once names ≡ true → AllHold (each_new k [] names)
new-once k names e = (all_new k [] names (as_many names e)).1

-- a single name comes once
pub short-once : (names : List Name) → length names < 2 → is_once names ≡ true
short-once [] h = refl
short-once (a ∷ []) h = refl
short-once (a ∷ b ∷ names) h = absurd (omega (arith, h))

all_free-same : (l m : List Name) (s : Columns) (existing new : List Name) → ((a : Name) → has l a ≡ has m a) → all_free l s existing new ≡ all_free m s existing new
all_free-same l m s [] new h = refl
all_free-same l m s (o ∷ existing) [] h = refl
all_free-same l m s (o ∷ existing) (n ∷ new) h = ap₂ (λ (x y : Bool). (not (is_known s o) || (x || not (is_known s n))) && y) (h n) (all_free-same l m s existing new h)

-- what the test of a renaming finds
pub can_rename-is : (existing new old_names : List Name) (s : Columns) (once r : Bool) → length existing ≡ length new → old_names ≡ with_names [] existing → once ≡ ((length old_names == length existing) && is_once new) → r ≡ (once && all_free old_names s existing new) → r ≡ can_rename existing new s
can_rename-is existing new old_names s once r same are two is =
    is ∙ ap (λ (t : Bool). t && all_free old_names s existing new) two
    ∙ ap (λ (l : List Name). ((length l == length existing) && is_once new) && all_free l s existing new) are
    ∙ ap (λ (t : Bool). (is_once existing && is_once new) && t) (all_free-same (with_names [] existing) existing s existing new (has-once existing))
    ∙ assoc (is_once existing) (is_once new) (all_free existing s existing new)
    ∙ sym (ap (λ (t : Bool). t && (is_once existing && (is_once new && all_free existing s existing new))) (eq-eqb (length existing) (length new) same))
  where
    assoc : (x y z : Bool) → ((x && y) && z) ≡ (x && (y && z))
    assoc true y z = refl
    assoc false y z = refl

-- new names

-- a new name is one of the new names
new_there : (existing new : List Name) (a x : Name) → new_name existing new a ≡ Some x → has new x ≡ true
new_there [] new a x e = cc
new_there (o ∷ existing) [] a x e = cc
new_there (o ∷ existing) (n ∷ new) a x e = at (bytes_eq a o) e (new_there existing new a x)
  where
    at : (t : Bool) → cond t (Some n) (new_name existing new a) ≡ Some x → (new_name existing new a ≡ Some x → has new x ≡ true) → has (n ∷ new) x ≡ true
    at true q rest = let same : n ≡ x = cc in subst (λ (y : Name). has (n ∷ new) y ≡ true) same (has_first n new)
    at false q rest = has_later n new x (rest q)

-- a name without a new one is none of the old names
not_old : (existing new : List Name) (a : Name) → length existing ≡ length new → new_name existing new a ≡ None → has existing a ≡ false
not_old [] new a l e = refl
not_old (o ∷ existing) [] a l e = absurd (omega (arith, l))
not_old (o ∷ existing) (n ∷ new) a l e = at (bytes_eq a o) e (not_old existing new a (omega (arith, l)))
  where
    at : (t : Bool) → cond t (Some n) (new_name existing new a) ≡ None → (new_name existing new a ≡ None → has existing a ≡ false) → (t || has existing a) ≡ false
    at true q rest = cc
    at false q rest = rest q

-- of distinct new names one is that of a single name
one_old : (existing new : List Name) (a b x : Name) → AreDistinct new → new_name existing new a ≡ Some x → new_name existing new b ≡ Some x → a ≡ b
one_old [] new a b x d e f = cc
one_old (o ∷ existing) [] a b x d e f = cc
one_old (o ∷ existing) (n ∷ new) a b x d e f = at (bytes_eq a o) (bytes_eq b o) refl refl e f (one_old existing new a b x (distinct_cons n new d).1)
  where
    parts : (has new n ≡ false) × AreDistinct new
    parts = distinct_cons n new d

    never : (c : Name) → n ≡ x → new_name existing new c ≡ Some x → a ≡ b
    never c same q =
        let there : has new n ≡ true = subst (λ (y : Name). has new y ≡ true) (sym same) (new_there existing new c x q) in
        let not_there : has new n ≡ false = parts.0 in
        cc

    at : (t u : Bool) → bytes_eq a o ≡ t → bytes_eq b o ≡ u → cond t (Some n) (new_name existing new a) ≡ Some x → cond u (Some n) (new_name existing new b) ≡ Some x → (new_name existing new a ≡ Some x → new_name existing new b ≡ Some x → a ≡ b) → a ≡ b
    at true true p q h k rest = named a o p ∙ sym (named b o q)
    at true false p q h k rest = let same : n ≡ x = cc in never b same k
    at false true p q h k rest = let same : n ≡ x = cc in never a same h
    at false false p q h k rest = rest h k

-- where each new name is free, that of a column is one of the old names, or no column
free-at : (old_names : List Name) (s : Columns) (existing new : List Name) → all_free old_names s existing new ≡ true → (a x : Name) → new_name existing new a ≡ Some x → is_known s a ≡ true → has old_names x ≡ false → is_known s x ≡ false
free-at old_names s [] new h a x e k o = cc
free-at old_names s (m ∷ existing) [] h a x e k o = cc
free-at old_names s (m ∷ existing) (n ∷ new) h a x e k o = at (bytes_eq a m) refl e (λ q. free-at old_names s existing new (and_parts (is_free old_names s m n) (all_free old_names s existing new) h).1 a x q k o)
  where
    parts : (is_free old_names s m n ≡ true) × (all_free old_names s existing new ≡ true)
    parts = and_parts (is_free old_names s m n) (all_free old_names s existing new) h

    last : (p q r : Bool) → (not p || (q || not r)) ≡ true → p ≡ true → q ≡ false → r ≡ false
    last false q r i j l = cc
    last true true r i j l = cc
    last true false true i j l = cc
    last true false false i j l = refl

    at : (t : Bool) → bytes_eq a m ≡ t → cond t (Some n) (new_name existing new a) ≡ Some x → (new_name existing new a ≡ Some x → is_known s x ≡ false) → is_known s x ≡ false
    at true p q rest =
        let same : n ≡ x = cc in
        let known : is_known s m ≡ true = ap (is_known s) (sym (named a m p)) ∙ k in
        let none : has old_names n ≡ false = ap (has old_names) same ∙ o in
        ap (is_known s) (sym same) ∙ last (is_known s m) (has old_names n) (is_known s n) parts.0 known none
    at false p q rest = rest q

-- names that stay apart are distinct where those before are

differ : (x y : Bool) → (x && not y) ≡ false → y ≡ false → x ≡ false
differ true true i j = cc
differ true false i j = cc
differ false y i j = refl

none : (x : Bool) → not x ≡ true → x ≡ false
none true e = cc
none false e = refl

others : (now : Name → Name) (a : Name) (t : Columns) → AllByRecursion (λ (y : Name). bytes_eq a y ≡ false) (names_of t) → list_any (become_one now a) (names_of t) ≡ false → AllByRecursion (λ (y : Name). bytes_eq (now a) y ≡ false) (names_of (renamed_columns now t))
others now a [] k e = tt
others now a (c ∷ t) k e =
    let p = or_false (become_one now a c.0) (list_any (become_one now a) (names_of t)) e in
    (differ (bytes_eq (now a) (now c.0)) (bytes_eq a c.0) p.0 k.0, others now a t k.1 p.1)

distinct-renamed : (now : Name → Name) (t : Columns) → HasDistinctNames t → stay_apart now (names_of t) ≡ true → HasDistinctNames (renamed_columns now t)
unfolding IsDistinct
distinct-renamed now [] k e = tt
distinct-renamed now (c ∷ t) k e =
    let p = and_parts (not (list_any (become_one now c.0) (names_of t))) (stay_apart now (names_of t)) e in
    (others now c.0 t k.0 (none (list_any (become_one now c.0) (names_of t)) p.0), distinct-renamed now t k.1 p.1)

module _ (existing new : List Name) (s : Columns) (h : can_rename existing new s ≡ true) where
  first : (length existing == length new) ≡ true × ((is_once existing && (is_once new && all_free existing s existing new)) ≡ true)
  first = and_parts (length existing == length new) (is_once existing && (is_once new && all_free existing s existing new)) h

  second : (is_once existing ≡ true) × ((is_once new && all_free existing s existing new) ≡ true)
  second = and_parts (is_once existing) (is_once new && all_free existing s existing new) first.1

  third : (is_once new ≡ true) × (all_free existing s existing new ≡ true)
  third = and_parts (is_once new) (all_free existing s existing new) second.1

  as_long : length existing ≡ length new
  as_long = eqb-true (length existing) (length new) first.0

  -- a column doesn't get the name of one that keeps its own
  never : (a b x : Name) → new_name existing new a ≡ Some x → new_name existing new b ≡ None → x ≡ b → is_known s a ≡ true → is_known s b ≡ true → ⊥
  never a b x e f same i j =
      let none : has existing x ≡ false = ap (has existing) same ∙ not_old existing new b as_long f in
      let no : is_known s x ≡ false = free-at existing s existing new third.1 a x e i none in
      let yes : is_known s x ≡ true = ap (is_known s) same ∙ j in
      cc

  apart : (a b : Name) → has (names_of s) a ≡ true → has (names_of s) b ≡ true → renamed existing new a ≡ renamed existing new b → a ≡ b
  apart a b i j e = at (new_name existing new a) (new_name existing new b) refl refl e
    where
      known : (c : Name) → has (names_of s) c ≡ true → is_known s c ≡ true
      known c k = some-type_of s c ∙ k

      at : (o p : Option Name) → new_name existing new a ≡ o → new_name existing new b ≡ p → unwrap_or o a ≡ unwrap_or p b → a ≡ b
      at (Some x) (Some y) p q r = one_old existing new a b x (distinct-once new third.0) p (q ∙ ap (λ (z : Name). Some z) (sym r))
      at (Some x) None p q r = absurd (never a b x p q r (known a i) (known b j))
      at None (Some y) p q r = absurd (never b a y q p (sym r) (known b j) (known a i))
      at None None p q r = r

  stay-apart : stay_apart (renamed existing new) (names_of s) ≡ true
  stay-apart = one_apart (renamed existing new) (names_of s) apart

  pub rename-holds : AllHold (rename_checks existing new s)
  unfolding rename_checks
  rename-holds = (
    first.0,
    hold_join (each_new 1 [] existing) _ (new-once 1 existing second.0)
        (hold_join (each_new (suc (length existing)) [] new) _ (new-once (suc (length existing)) new third.0)
        (stay-apart, tt)),
  )

  pub renamed-distinct : HasDistinctNames s → HasDistinctNames (renamed_columns (renamed existing new) s)
  renamed-distinct u = distinct-renamed (renamed existing new) s u stay-apart

-- a column that is taken out

-- the others under names of which one is that of the column alone
module _ (others all : Name → Name) (old new : Name) (hit : all old ≡ new) (miss : (a : Name) → bytes_eq a old ≡ false → all a ≡ others a) where
  without-old : (s : Columns) → type_of s old ≡ None → renamed_columns others s ≡ renamed_columns all s
  without-old [] h = refl
  without-old (c ∷ s) h = at (bytes_eq old c.0) refl (λ k. without-old s k) h
    where
      at : (t : Bool) → bytes_eq old c.0 ≡ t → (type_of s old ≡ None → renamed_columns others s ≡ renamed_columns all s) → cond t (Some c.1) (type_of s old) ≡ None → renamed_columns others (c ∷ s) ≡ renamed_columns all (c ∷ s)
      at true e rest k = cc
      at false e rest k = ap₂ (λ (a : Name) (l : Columns). (a, c.1) ∷ l) (sym (miss c.0 (flip_false old c.0 e))) (rest k)

  with-old : (s : Columns) (i : ℕ) (d : DataType) → HasDistinctNames s → slice_get s i ≡ Some (old, d) → insert (renamed_columns others (without s old)) i (new, d) ≡ renamed_columns all s
  unfolding IsDistinct
  with-old [] i d u e = cc
  with-old (c ∷ s) zero d u e =
      let is : c ≡ (old, d) = ap (λ (o : Option (Name × DataType)). unwrap_or o c) e in
      let name : c.0 ≡ old = ap (λ (x : Name × DataType). x.0) is in
      let mine : bytes_eq old c.0 ≡ true = ap (bytes_eq old) name ∙ same_named old in
      let gone : type_of s old ≡ None = ap (type_of s) (sym name) ∙ differs c.0 s u.0 in
      rw mine (ap₂ (λ (x : Name × DataType) (l : Columns). x ∷ l)
      (ap₂ (λ (a : Name) (t : DataType). (a, t)) (sym (ap all name ∙ hit)) (sym (ap (λ (x : Name × DataType). x.1) is)))
      (without-old s gone))
  with-old (c ∷ s) (suc i) d u e =
      let miss_here : bytes_eq c.0 old ≡ false = differs_at c.0 s i old d u.0 e in
      rw (flip_false c.0 old miss_here) (ap₂ (λ (a : Name) (l : Columns). (a, c.1) ∷ l) (sym (miss c.0 miss_here)) (with-old s i d u.1 e))

-- one column less is left
one-less : (old : Name) (s : Columns) (i : ℕ) (d : DataType) → HasDistinctNames s → slice_get s i ≡ Some (old, d) → length s ≡ suc (length (without s old))
unfolding IsDistinct
one-less old [] i d u e = cc
one-less old (c ∷ s) zero d u e =
    let name : c.0 ≡ old = ap (λ (o : Option (Name × DataType)). (unwrap_or o c).0) e in
    let mine : bytes_eq old c.0 ≡ true = ap (bytes_eq old) name ∙ same_named old in
    rw mine refl
one-less old (c ∷ s) (suc i) d u e =
    let miss : bytes_eq old c.0 ≡ false = flip_false c.0 old (differs_at c.0 s i old d u.0 e) in
    rw miss (ap suc (one-less old s i d u.1 e))

put_back-push : (taken : List TakenColumn) (t : TakenColumn) (s : Columns) → put_back (taken ++ t ∷ []) s ≡ put_back taken (insert s t.index (t.name, t.dtype))
put_back-push [] t s = refl
put_back-push (u ∷ taken) t s = ap (λ (l : Columns). insert l u.index (u.name, u.dtype)) (put_back-push taken t s)

length-push : (taken : List TakenColumn) (t : TakenColumn) → length (taken ++ t ∷ []) ≡ suc (length taken)
length-push [] t = refl
length-push (u ∷ taken) t = ap suc (length-push taken t)

places-push : (taken : List TakenColumn) (t : TakenColumn) (n : ℕ) → HavePlaces taken (suc n) → t.index ≤ n → HavePlaces (taken ++ t ∷ []) n
places-push [] t n h le = (omega (arith, le), tt)
places-push (u ∷ taken) t n h le = let l = length-push taken t in let k = h.0 in (omega (arith, l, k), places-push taken t n h.1 le)

places-pop : (taken : List TakenColumn) (t : TakenColumn) (n : ℕ) → HavePlaces (taken ++ t ∷ []) n → (t.index ≤ n) × HavePlaces taken (suc n)
places-pop [] t n h = let k = h.0 in (omega (arith, k), tt)
places-pop (u ∷ taken) t n h = let l = length-push taken t in let k = h.0 in let r = places-pop taken t n h.1 in (r.0, (omega (arith, l, k), r.1))

module _ (old new : Name) (old_names new_names : List Name) (taken : List TakenColumn) (s made : Columns) where
  miss_old : (a : Name) → bytes_eq a old ≡ false → renamed (old ∷ old_names) (new ∷ new_names) a ≡ renamed old_names new_names a
  miss_old a e = ap (λ (t : Bool). unwrap_or (cond t (Some new) (new_name old_names new_names a)) a) e

  hit_old : renamed (old ∷ old_names) (new ∷ new_names) old ≡ new
  hit_old = ap (λ (t : Bool). unwrap_or (cond t (Some new) (new_name old_names new_names old)) old) (same_named old)

  -- a name of none of the columns
  pub left-none : type_of s old ≡ None → MakeUp taken s (renamed (old ∷ old_names) (new ∷ new_names)) made → MakeUp taken s (renamed old_names new_names) made
  left-none e h = (h.0, ap (put_back taken) (without-old (renamed old_names new_names) (renamed (old ∷ old_names) (new ∷ new_names)) old new hit_old miss_old s e) ∙ h.1)

  -- a name of one
  pub left-one : (t : TakenColumn) → HasDistinctNames s → slice_get s t.index ≡ Some (old, t.dtype) → t.name ≡ new → MakeUp taken s (renamed (old ∷ old_names) (new ∷ new_names)) made → MakeUp (taken ++ t ∷ []) (without s old) (renamed old_names new_names) made
  left-one t u e is h = (
    places-push taken t (length (without s old)) (subst (HavePlaces taken) (one-less old s t.index t.dtype u e) h.0) (still_within old s t.index t.dtype u e),
    put_back-push taken t (renamed_columns (renamed old_names new_names) (without s old))
        ∙ ap (λ (l : Columns). put_back taken l) (ap (λ (a : Name). insert (renamed_columns (renamed old_names new_names) (without s old)) t.index (a, t.dtype)) is ∙ with-old (renamed old_names new_names) (renamed (old ∷ old_names) (new ∷ new_names)) old new hit_old miss_old s t.index t.dtype u e)
        ∙ h.1,
  )

-- names that are no more
left-all : (s : Columns) → renamed_columns (λ (a : Name). a) s ≡ s
left-all [] = refl
left-all (c ∷ s) = ap (λ (l : Columns). c ∷ l) (left-all s)

pub renamed-end : (old_names new_names : List Name) (s : Columns) → (length old_names ≡ 0) ⊎ (length new_names ≡ 0) → renamed_columns (renamed old_names new_names) s ≡ s
renamed-end [] new_names s h = left-all s
renamed-end (o ∷ old_names) [] s h = left-all s
renamed-end (o ∷ old_names) (n ∷ new_names) s (inl h) = absurd (omega (arith, h))
renamed-end (o ∷ old_names) (n ∷ new_names) s (inr h) = absurd (omega (arith, h))

pub all_free-end : (all : List Name) (s : Columns) (old_names new_names : List Name) → (length old_names ≡ 0) ⊎ (length new_names ≡ 0) → all_free all s old_names new_names ≡ true
all_free-end all s [] new_names h = refl
all_free-end all s (o ∷ old_names) [] h = refl
all_free-end all s (o ∷ old_names) (n ∷ new_names) (inl h) = absurd (omega (arith, h))
all_free-end all s (o ∷ old_names) (n ∷ new_names) (inr h) = absurd (omega (arith, h))

-- a column that is put back

insert-all : (P : Name → Type 0) (s : Columns) (i : ℕ) (c : Name × DataType) → AllByRecursion P (names_of (insert s i c)) → P c.0 × AllByRecursion P (names_of s)
insert-all P [] zero c h = (h.0, tt)
insert-all P [] (suc i) c h = (h.0, tt)
insert-all P (x ∷ s) zero c h = h
insert-all P (x ∷ s) (suc i) c h = let r = insert-all P s i c h.1 in (r.0, (h.0, r.1))

pub insert-distinct : (s : Columns) (i : ℕ) (c : Name × DataType) → HasDistinctNames (insert s i c) → (type_of s c.0 ≡ None) × HasDistinctNames s
unfolding IsDistinct
insert-distinct [] zero c u = (refl, tt)
insert-distinct [] (suc i) c u = (refl, tt)
insert-distinct (x ∷ s) zero c u = (differs c.0 (x ∷ s) u.0, u.1)
insert-distinct (x ∷ s) (suc i) c u =
    let h = insert-all (λ (y : Name). bytes_eq x.0 y ≡ false) s i c u.0 in
    let r = insert-distinct s i c u.1 in
    (rw (flip_false x.0 c.0 h.0) r.0, (h.1, r.1))

put-distinct : (taken : List TakenColumn) (s : Columns) → HasDistinctNames (put_back taken s) → HasDistinctNames s
put-distinct [] s u = u
put-distinct (t ∷ taken) s u = put-distinct taken s (insert-distinct (put_back taken s) t.index (t.name, t.dtype) u).1

-- what is known of columns while others are put back
abbrev pub ComeTo : List TakenColumn → Columns → Columns → Type 0
ComeTo taken s made = HavePlaces taken (length s) × (put_back taken s ≡ made)

module _ (taken : List TakenColumn) (t : TakenColumn) (s made : Columns) (u : HasDistinctNames made) (h : ComeTo (taken ++ t ∷ []) s made) where
  whole : put_back taken (insert s t.index (t.name, t.dtype)) ≡ made
  whole = sym (put_back-push taken t s) ∙ h.1

  pub put-within : t.index ≤ length s
  put-within = (places-pop taken t (length s) h.0).0

  pub put-new : type_of s t.name ≡ None
  put-new = (insert-distinct s t.index (t.name, t.dtype) (put-distinct taken (insert s t.index (t.name, t.dtype)) (subst HasDistinctNames (sym whole) u))).0

  pub put-next : ComeTo taken (insert s t.index (t.name, t.dtype)) made
  put-next = (subst (HavePlaces taken) (sym (longer s t.index put-within)) (places-pop taken t (length s) h.0).1, whole)
    where
      longer : (l : Columns) (i : ℕ) → i ≤ length l → length (insert l i (t.name, t.dtype)) ≡ suc (length l)
      longer [] zero le = refl
      longer [] (suc i) le = absurd (omega (arith, le))
      longer (x ∷ l) zero le = refl
      longer (x ∷ l) (suc i) le = ap suc (longer l i (omega (arith, le)))
