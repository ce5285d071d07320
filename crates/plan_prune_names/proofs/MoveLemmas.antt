-- Columns that move to other names.
use Rattle.std.proofs.Common.{◌≡◌, ◌≤◌, ◌<◌, ◌+◌, Bool, true, false, not, cond, ◌||◌, ℕ, zero, suc, List, [], ◌∷◌, ◌++◌, length, map, take, Option, Some, None, is_some, unwrap_or, option_map, refl, sym, ap, ap₂, ◌∙◌, subst, arith, add-one, append_assoc, append-nil}
use Rattle.std.specs.Option.{option_or}
use Rattle.std.specs.List.{slice_get}
use Rattle.std.specs.Str.{bytes_eq}
use Rattle.std.proofs.Math.Path.{fun_ext}
use Rattle.std.proofs.lemmas.Bool.{eq-eqb}
use Rattle.plan_core.specs.declared.data_type.DataType.{DataType}
use Rattle.plan_core.specs.Columns.{Columns, names_of, type_of}
use Rattle.plan_core.specs.Names.{AreDistinct, has, with_names}
use Rattle.plan_expr.specs.Leaves.{Name}
use Rattle.plan_frame.specs.Reshaped.{renamed_columns}
use Rattle.plan_frame.proofs.NameSets.{distinct_cons, distinct_names, distinct_none, has_first, has_later, named, same_named, some-type_of}
use Rattle.plan_ir.specs.declared.functions.FunctionIR.TheVariants.{Rename}
use Rattle.plan_meaning.specs.Checks.{each_new}
use Rattle.plan_meaning.specs.Functions.{new_name, renamed, stay_apart}
use Rattle.plan_meaning.specs.Typing.{AllHold, rename_checks}
use Rattle.plan_meaning.proofs.CheckParts.{hold_join}
use Rattle.plan_schema.specs.Stored.{all_hold}
use Rattle.plan_schema.proofs.RenameLemmas.{names-renamed, one_apart}
use Rattle.plan_prune_names.specs.declared.known_columns.KnownColumns.{KnownColumns}
use Rattle.plan_prune_names.specs.ByName.{at_name, left_of, put_on}
use Rattle.plan_prune_names.specs.Known.{IsMade, type_in}
use Rattle.plan_prune_names.proofs.FunctionLemmas.{has-next, held}

-- a list of names that is as long as its set

pub fewer : (before names : List Name) → length (with_names before names) ≤ length before + length names
fewer before [] = omega arith
fewer before (a ∷ names) = at (has before a) refl (λ xs. fewer xs names)
  where
    len : (xs : List Name) (x : Name) → length (xs ++ x ∷ []) ≡ suc (length xs)
    len [] x = refl
    len (y ∷ xs) x = ap suc (len xs x)

    at : (t : Bool) → has before a ≡ t → ((xs : List Name) → length (with_names xs names) ≤ length xs + length names) → length (with_names (cond t before (before ++ a ∷ [])) names) ≤ length before + suc (length names)
    at true e k = let h = k before in omega (arith, h)
    at false e k = let h = k (before ++ a ∷ []) in let l = len before a in omega (arith, h, l)

-- no name of them comes twice, and none is one of those before
all_new : (k : ℕ) (before names : List Name) → length (with_names before names) ≡ length before + length names → (with_names before names ≡ before ++ names) × AllHold (each_new k before names)
all_new k before [] e = (sym (append-nil before), tt)
all_new k before (a ∷ names) e = at (has before a) refl e (λ h. all_new (suc k) (before ++ a ∷ []) names h)
  where
    len : (xs : List Name) (x : Name) → length (xs ++ x ∷ []) ≡ suc (length xs)
    len [] x = refl
    len (y ∷ xs) x = ap suc (len xs x)

    at : (t : Bool) → has before a ≡ t → length (with_names (cond t before (before ++ a ∷ [])) names) ≡ length before + suc (length names) → (length (with_names (before ++ a ∷ []) names) ≡ length (before ++ a ∷ []) + length names → (with_names (before ++ a ∷ []) names ≡ (before ++ a ∷ []) ++ names) × AllHold (each_new (suc k) (before ++ a ∷ []) names)) → (with_names (cond t before (before ++ a ∷ [])) names ≡ before ++ a ∷ names) × ((not t ≡ true) × AllHold (each_new (suc k) (before ++ a ∷ []) names))
    at true q h rest = let l = fewer before names in absurd (omega (arith, h, l))
    at false q h rest =
        let l = len before a in
        let r = rest (omega (arith, h, l)) in
        (r.0 ∙ append_assoc before (a ∷ []) names, (refl, r.1))

pub distinct-by : (names : List Name) → length (with_names [] names) ≡ length names → AreDistinct names × (with_names [] names ≡ names)
distinct-by names e =
    let r = all_new 0 [] names (omega (arith, e)) in
    (subst AreDistinct r.0 (distinct_names [] names distinct_none), r.0)

-- no name of a list of one comes twice
pub distinct-short : (names : List Name) → length names < 2 → AreDistinct names × (with_names [] names ≡ names)
distinct-short [] h = distinct-by [] refl
distinct-short (a ∷ []) h = distinct-by (a ∷ []) refl
distinct-short (a ∷ b ∷ names) h = absurd (omega (arith, h))

new_hold : (k : ℕ) (names : List Name) → with_names [] names ≡ names → AllHold (each_new k [] names)
new_hold k names e = (all_new k [] names (let l : length (with_names [] names) ≡ length names = ap (λ (l : List Name). length l) e in omega (arith, l))).1

-- look-ups by name

pub in_names : {A : Type 0} (names : List Name) (xs : List A) (a : Name) (x : A) → at_name names xs a ≡ Some x → has names a ≡ true
in_names [] xs a x e = cc
in_names (n ∷ names) [] a x e = cc
in_names (n ∷ names) (y ∷ xs) a x e = at (bytes_eq a n) e (λ q. in_names names xs a x q)
  where
    at : (t : Bool) → cond t (Some y) (at_name names xs a) ≡ Some x → (at_name names xs a ≡ Some x → has names a ≡ true) → (t || has names a) ≡ true
    at true q h = refl
    at false q h = h q

pub in_others : (names others : List Name) (a x : Name) → at_name names others a ≡ Some x → has others x ≡ true
in_others [] others a x e = cc
in_others (n ∷ names) [] a x e = cc
in_others (n ∷ names) (o ∷ others) a x e = at (bytes_eq a n) e (λ q. in_others names others a x q)
  where
    at : (t : Bool) → cond t (Some o) (at_name names others a) ≡ Some x → (at_name names others a ≡ Some x → has others x ≡ true) → has (o ∷ others) x ≡ true
    at true q h = let same : o ≡ x = cc in subst (λ (y : Name). has (o ∷ others) y ≡ true) same (has_first o others)
    at false q h = has_later o others x (h q)

pub lacks : {A : Type 0} (names : List Name) (xs : List A) (a : Name) → length names ≡ length xs → at_name names xs a ≡ None → has names a ≡ false
lacks [] xs a l e = refl
lacks (n ∷ names) [] a l e = absurd (omega (arith, l))
lacks (n ∷ names) (y ∷ xs) a l e = at (bytes_eq a n) e (λ q. lacks names xs a (omega (arith, l)) q)
  where
    at : (t : Bool) → cond t (Some y) (at_name names xs a) ≡ None → (at_name names xs a ≡ None → has names a ≡ false) → (t || has names a) ≡ false
    at true q h = cc
    at false q h = h q

pub back : (names others : List Name) (a x : Name) → AreDistinct others → at_name names others a ≡ Some x → at_name others names x ≡ Some a
back [] others a x d e = cc
back (n ∷ names) [] a x d e = cc
back (n ∷ names) (o ∷ others) a x d e = at (bytes_eq a n) refl e (λ k q. back names others a x k q)
  where
    parts : (has others o ≡ false) × AreDistinct others
    parts = distinct_cons o others d

    at : (t : Bool) → bytes_eq a n ≡ t → cond t (Some o) (at_name names others a) ≡ Some x → (AreDistinct others → at_name names others a ≡ Some x → at_name others names x ≡ Some a) → cond (bytes_eq x o) (Some n) (at_name others names x) ≡ Some a
    at true q h rest =
        let same : o ≡ x = cc in
        let hit : bytes_eq x o ≡ true = ap (bytes_eq x) same ∙ same_named x in
        rw hit (ap (λ (y : Name). Some y) (sym (named a n q)))
    at false q h rest = rw (miss (bytes_eq x o) refl) (rest parts.1 h)
      where
        miss : (u : Bool) → bytes_eq x o ≡ u → u ≡ false
        miss false r = refl
        miss true r =
            let there : has others o ≡ true = subst (λ (y : Name). has others y ≡ true) (named x o r) (in_others names others a x h) in
            let not_there : has others o ≡ false = parts.0 in
            cc

pub at-mapped : {A B : Type 0} (f : A → B) (names : List Name) (xs : List A) (a : Name) → at_name names (map f xs) a ≡ option_map f (at_name names xs a)
at-mapped f [] xs a = refl
at-mapped f (n ∷ names) [] a = refl
at-mapped {A} {B} f (n ∷ names) (x ∷ xs) a = at (bytes_eq a n) (at-mapped f names xs a)
  where
    at : (t : Bool) → at_name names (map f xs) a ≡ option_map f (at_name names xs a) → cond t (Some (f x)) (at_name names (map f xs) a) ≡ option_map f (cond t (Some x) (at_name names xs a))
    at true h = refl
    at false h = h

pub new-at : (existing new : List Name) (a : Name) → new_name existing new a ≡ at_name existing new a
new-at [] new a = refl
new-at (e ∷ existing) [] a = refl
new-at (e ∷ existing) (n ∷ new) a = ap (λ (o : Option Name). cond (bytes_eq a e) (Some n) o) (new-at existing new a)

pub type-at : (s : Columns) (a : Name) → type_of s a ≡ at_name (names_of s) (map (λ (c : Name × DataType). c.1) s) a
type-at [] a = refl
type-at (c ∷ s) a = ap (λ (o : Option DataType). cond (bytes_eq a c.0) (Some c.1) o) (type-at s a)

-- what stands by a name of distinct names, one place further
pub at-next : {A : Type 0} (names : List Name) (xs : List A) (i : ℕ) (n : Name) (x : A) (a : Name) → slice_get names i ≡ Some n → slice_get xs i ≡ Some x → has (take i names) n ≡ false → at_name (take (i + 1) names) xs a ≡ cond (bytes_eq a n) (Some x) (at_name (take i names) xs a)
at-next {A} names xs i n x a e f h = rw (add-one i) (go names xs i e f h)
  where
    go : (ms : List Name) (ys : List A) (j : ℕ) → slice_get ms j ≡ Some n → slice_get ys j ≡ Some x → has (take j ms) n ≡ false → at_name (take (suc j) ms) ys a ≡ cond (bytes_eq a n) (Some x) (at_name (take j ms) ys a)
    go [] ys j p q r = cc
    go (m ∷ ms) [] j p q r = cc
    go (m ∷ ms) (y ∷ ys) zero p q r =
        let one : m ≡ n = cc in
        let two : y ≡ x = cc in
        ap₂ (λ (k : Name) (z : A). cond (bytes_eq a k) (Some z) None) one two
    go (m ∷ ms) (y ∷ ys) (suc j) p q r = at (bytes_eq a m) (bytes_eq a n) refl refl (bytes_eq n m) (has (take j ms) n) refl refl r (λ h. go ms ys j p q h)
      where
        at : (t u : Bool) → bytes_eq a m ≡ t → bytes_eq a n ≡ u → (v w : Bool) → bytes_eq n m ≡ v → has (take j ms) n ≡ w → (v || w) ≡ false → (has (take j ms) n ≡ false → at_name (take (suc j) ms) ys a ≡ cond (bytes_eq a n) (Some x) (at_name (take j ms) ys a)) → cond t (Some y) (at_name (take (suc j) ms) ys a) ≡ cond u (Some x) (cond t (Some y) (at_name (take j ms) ys a))
        at t u k l true w o o' z rest = cc
        at t u k l false true o o' z rest = cc
        at true true k l false false o o' z rest =
            let same : bytes_eq n m ≡ true = ap (λ (b : Name). bytes_eq b m) (sym (named a n l)) ∙ k in
            let other : bytes_eq n m ≡ false = o in
            cc
        at true false k l false false o o' z rest = refl
        at false true k l false false o o' z rest = rest o' ∙ ap (λ (b : Bool). cond b (Some x) (at_name (take j ms) ys a)) l
        at false false k l false false o o' z rest = rest o' ∙ ap (λ (b : Bool). cond b (Some x) (at_name (take j ms) ys a)) l

has-at : (names : List Name) (i : ℕ) (n : Name) → slice_get names i ≡ Some n → has names n ≡ true
has-at [] i n e = cc
has-at (m ∷ names) zero n e = let same : m ≡ n = cc in subst (λ (k : Name). has (m ∷ names) k ≡ true) same (has_first m names)
has-at (m ∷ names) (suc i) n e = has_later m names n (has-at names i n e)

-- a name of distinct names is none of those before it
pub fresh-at : (names : List Name) (i : ℕ) (n : Name) → AreDistinct names → slice_get names i ≡ Some n → has (take i names) n ≡ false
fresh-at [] i n d e = cc
fresh-at (m ∷ names) zero n d e = refl
fresh-at (m ∷ names) (suc i) n d e = at (bytes_eq n m) refl (fresh-at names i n parts.1 e)
  where
    parts : (has names m ≡ false) × AreDistinct names
    parts = distinct_cons m names d

    at : (t : Bool) → bytes_eq n m ≡ t → has (take i names) n ≡ false → (t || has (take i names) n) ≡ false
    at true q h =
        let there : has names m ≡ true = subst (λ (k : Name). has names k ≡ true) (named n m q) (has-at names i n e) in
        let absent : has names m ≡ false = parts.0 in
        cc
    at false q h = h

no-name : {A : Type 0} (names : List Name) (xs : List A) (a : Name) → has names a ≡ false → at_name names xs a ≡ None
no-name [] xs a h = refl
no-name (n ∷ names) [] a h = refl
no-name (n ∷ names) (x ∷ xs) a h = at (bytes_eq a n) h (λ q. no-name names xs a q)
  where
    at : (t : Bool) → (t || has names a) ≡ false → (has names a ≡ false → at_name names xs a ≡ None) → cond t (Some x) (at_name names xs a) ≡ None
    at true q k = cc
    at false q k = k q

-- columns that are taken away, one after another
pub taken-next : (types : Name → Option DataType) (names : List Name) (i : ℕ) (n : Name) → slice_get names i ≡ Some n → map types (take i names) ++ types n ∷ [] ≡ map types (take (i + 1) names)
taken-next types names i n e = rw (add-one i) (go names i e)
  where
    go : (ms : List Name) (j : ℕ) → slice_get ms j ≡ Some n → map types (take j ms) ++ types n ∷ [] ≡ map types (take (suc j) ms)
    go [] j q = cc
    go (m ∷ ms) zero q = let same : m ≡ n = cc in ap (λ (k : Name). types k ∷ []) (sym same)
    go (m ∷ ms) (suc j) q = ap (λ (l : List (Option DataType)). types m ∷ l) (go ms j q)

pub left-next : (types before after : Name → Option DataType) (names : List Name) (i : ℕ) (n : Name) → slice_get names i ≡ Some n → ((a : Name) → before a ≡ left_of (take i names) types a) → ((a : Name) → after a ≡ cond (bytes_eq a n) None (before a)) → (a : Name) → after a ≡ left_of (take (i + 1) names) types a
left-next types before after names i n e so_far put a =
    put a
    ∙ ap (λ (d : Option DataType). cond (bytes_eq a n) None d) (so_far a)
    ∙ either (has (take i names) a) (bytes_eq a n)
    ∙ ap (λ (t : Bool). cond t None (types a)) (sym (has-next names i n a e))
  where
    either : (x y : Bool) → cond y None (cond x None (types a)) ≡ cond (x || y) None (types a)
    either true true = refl
    either true false = refl
    either false true = refl
    either false false = refl

pub left-one : (types before : Name → Option DataType) (names : List Name) (i : ℕ) (n : Name) → has (take i names) n ≡ false → ((a : Name) → before a ≡ left_of (take i names) types a) → before n ≡ types n
left-one types before names i n fresh so_far = so_far n ∙ ap (λ (t : Bool). cond t None (types n)) fresh

-- types that are put on names, one after another
module _ (names : List Name) (own : List (Option DataType)) (types before : Name → Option DataType) (i : ℕ) (n : Name) (at_n : slice_get names i ≡ Some n) (fresh : has (take i names) n ≡ false) (so_far : (a : Name) → before a ≡ put_on (take i names) own types a) where
  abbrev rest : Name → Option (Option DataType)
  rest a = at_name (take i names) own a

  pub put-none : slice_get own i ≡ Some None → (a : Name) → before a ≡ put_on (take (i + 1) names) own types a
  put-none at_d a = so_far a ∙ at (bytes_eq a n) refl ∙ ap (λ (o : Option (Option DataType)). option_or (unwrap_or o None) (types a)) (sym (at-next names own i n None a at_n at_d fresh))
    where
      at : (t : Bool) → bytes_eq a n ≡ t → option_or (unwrap_or (rest a) None) (types a) ≡ option_or (unwrap_or (cond t (Some None) (rest a)) None) (types a)
      at true q = ap (λ (o : Option (Option DataType)). option_or (unwrap_or o None) (types a)) (no-name (take i names) own a (ap (has (take i names)) (named a n q) ∙ fresh))
      at false q = refl

  pub put-next : (after : Name → Option DataType) (d : DataType) → slice_get own i ≡ Some (Some d) → ((a : Name) → after a ≡ cond (bytes_eq a n) (Some d) (before a)) → (a : Name) → after a ≡ put_on (take (i + 1) names) own types a
  put-next after d at_d put a =
      put a ∙ ap (λ (x : Option DataType). cond (bytes_eq a n) (Some d) x) (so_far a)
      ∙ at (bytes_eq a n)
      ∙ ap (λ (o : Option (Option DataType)). option_or (unwrap_or o None) (types a)) (sym (at-next names own i n (Some d) a at_n at_d fresh))
    where
      at : (t : Bool) → cond t (Some d) (option_or (unwrap_or (rest a) None) (types a)) ≡ option_or (unwrap_or (cond t (Some (Some d)) (rest a)) None) (types a)
      at true = refl
      at false = refl

  -- no column had such a name
  abbrev Fresh : List Name → Type 0
  Fresh ns = (a : Name) (d : DataType) → at_name ns own a ≡ Some (Some d) → types a ≡ None

  pub fresh-none : slice_get own i ≡ Some None → Fresh (take i names) → Fresh (take (i + 1) names)
  fresh-none at_d h a d e = at (bytes_eq a n) (sym (at-next names own i n None a at_n at_d fresh) ∙ e)
    where
      at : (t : Bool) → cond t (Some None) (rest a) ≡ Some (Some d) → types a ≡ None
      at true q = cc
      at false q = h a d q

  pub fresh-next : (x : DataType) → slice_get own i ≡ Some (Some x) → before n ≡ None → Fresh (take i names) → Fresh (take (i + 1) names)
  fresh-next x at_d gone h a d e = at (bytes_eq a n) refl (sym (at-next names own i n (Some x) a at_n at_d fresh) ∙ e)
    where
      none : types n ≡ None
      none =
          ap (λ (o : Option (Option DataType)). option_or (unwrap_or o None) (types n)) (sym (no-name (take i names) own n fresh))
          ∙ sym (so_far n) ∙ gone

      at : (t : Bool) → bytes_eq a n ≡ t → cond t (Some (Some x)) (rest a) ≡ Some (Some d) → types a ≡ None
      at true q r = ap types (named a n q) ∙ none
      at false q r = h a d r

-- columns that move from distinct names to distinct names
module _ (old new : List Name) (same : length old ≡ length new) (apart_old : AreDistinct old) (apart_new : AreDistinct new) where
  abbrev now : Name → Name
  now b = unwrap_or (at_name old new b) b

  module _ {A : Type 0} where
    -- what stands by a name once the columns have moved
    abbrev pub moved : (Name → Option A) → Name → Option A
    moved types a = option_or (unwrap_or (option_map types (at_name new old a)) None) (cond (has old a) None (types a))

    -- no column that stays has a name that another one gets
    abbrev pub AreFree : (Name → Option A) → Type 0
    AreFree types = (a e : Name) → at_name new old a ≡ Some e → is_some (types e) ≡ true → has old a ≡ false → types a ≡ None

    moved-same : (types others : Name → Option A) (a : Name) → ((e : Name) → at_name new old a ≡ Some e → types e ≡ others e) → (has old a ≡ false → types a ≡ others a) → moved types a ≡ moved others a
    moved-same types others a h k = ap₂ (λ (x y : Option A). option_or x y) (first (at_name new old a) refl) (last (has old a) refl)
      where
        first : (o : Option Name) → at_name new old a ≡ o → unwrap_or (option_map types o) None ≡ unwrap_or (option_map others o) None
        first None q = refl
        first (Some e) q = h e q

        last : (t : Bool) → has old a ≡ t → cond t None (types a) ≡ cond t None (others a)
        last true q = refl
        last false q = k q

    -- with one column more before the others
    abbrev with : (Name → Option A) → Name → A → Name → Option A
    with types x d b = cond (bytes_eq b x) (Some d) (types b)

    fewer-free : (types : Name → Option A) (x : Name) (d : A) → AreFree (with types x d) → AreFree types
    fewer-free types x d free a e at_e there absent = none (bytes_eq a x) (types a) (free a e at_e (more (bytes_eq e x) (types e) there) absent)
      where
        more : (t : Bool) (o : Option A) → is_some o ≡ true → is_some (cond t (Some d) o) ≡ true
        more true o q = refl
        more false o q = q

        none : (t : Bool) (o : Option A) → cond t (Some d) o ≡ None → o ≡ None
        none true o q = cc
        none false o q = q

    skip : (types : Name → Option A) (x : Name) (d : A) (b : Name) → bytes_eq b x ≡ false → types b ≡ with types x d b
    skip types x d b q = sym (ap (λ (t : Bool). cond t (Some d) (types b)) q)

    hit : (types : Name → Option A) (x : Name) (d : A) → with types x d x ≡ Some d
    hit types x d = ap (λ (t : Bool). cond t (Some d) (types x)) (same_named x)

    one-more : (types : Name → Option A) (x : Name) (d : A) (a : Name) → AreFree (with types x d) → cond (bytes_eq a (now x)) (Some d) (moved types a) ≡ moved (with types x d) a
    one-more types x d a free = at (at_name old new x) refl
      where
        at : (o : Option Name) → at_name old new x ≡ o → cond (bytes_eq a (unwrap_or o x)) (Some d) (moved types a) ≡ moved (with types x d) a
        at (Some n) q = here (bytes_eq a n) refl
          where
            mine : at_name new old n ≡ Some x
            mine = back old new x n apart_new q

            here : (t : Bool) → bytes_eq a n ≡ t → cond t (Some d) (moved types a) ≡ moved (with types x d) a
            here true r =
                let is : at_name new old a ≡ Some x = ap (at_name new old) (named a n r) ∙ mine in
                sym (ap (λ (o : Option Name). option_or (unwrap_or (option_map (with types x d) o) None) (cond (has old a) None (with types x d a))) is
                ∙ ap (λ (o : Option A). option_or o (cond (has old a) None (with types x d a))) (hit types x d))
            here false r = moved-same types (with types x d) a (λ e k. skip types x d e (other e k)) (λ k. skip types x d a (gone k))
              where
                other : (e : Name) → at_name new old a ≡ Some e → bytes_eq e x ≡ false
                other e k = no (bytes_eq e x) refl
                  where
                    no : (u : Bool) → bytes_eq e x ≡ u → u ≡ false
                    no false z = refl
                    no true z =
                        let theirs : at_name old new e ≡ Some a = back new old a e apart_old k in
                        let same_now : at_name old new x ≡ Some a = ap (at_name old new) (sym (named e x z)) ∙ theirs in
                        let one : a ≡ n = ap (λ (o : Option Name). unwrap_or o a) (sym same_now ∙ q) in
                        let yes : bytes_eq a n ≡ true = ap (bytes_eq a) (sym one) ∙ same_named a in
                        let no_one : bytes_eq a n ≡ false = r in
                        cc

                gone : has old a ≡ false → bytes_eq a x ≡ false
                gone k = no (bytes_eq a x) refl
                  where
                    no : (u : Bool) → bytes_eq a x ≡ u → u ≡ false
                    no false z = refl
                    no true z =
                        let there : has old a ≡ true = subst (λ (b : Name). has old b ≡ true) (sym (named a x z)) (in_names old new x n q) in
                        let absent : has old a ≡ false = k in
                        cc
        at None q = here (bytes_eq a x) refl
          where
            absent : has old x ≡ false
            absent = lacks old new x same q

            other : (e b : Name) → at_name new old b ≡ Some e → bytes_eq e x ≡ false
            other e b k = no (bytes_eq e x) refl
              where
                no : (u : Bool) → bytes_eq e x ≡ u → u ≡ false
                no false z = refl
                no true z =
                    let there : has old x ≡ true = subst (λ (y : Name). has old y ≡ true) (named e x z) (in_others new old b e k) in
                    let not_there : has old x ≡ false = lacks old new x same q in
                    cc

            here : (t : Bool) → bytes_eq a x ≡ t → cond t (Some d) (moved types a) ≡ moved (with types x d) a
            here false r = moved-same types (with types x d) a (λ e k. skip types x d e (other e a k)) (λ k. skip types x d a r)
            here true r = subst (λ (b : Name). Some d ≡ moved (with types x d) b) (sym (named a x r)) (first (at_name new old x) refl)
              where
                last : cond (has old x) None (with types x d x) ≡ Some d
                last = ap (λ (t : Bool). cond t None (with types x d x)) absent ∙ hit types x d

                first : (o : Option Name) → at_name new old x ≡ o → Some d ≡ option_or (unwrap_or (option_map (with types x d) o) None) (cond (has old x) None (with types x d x))
                first None k = sym last
                first (Some e) k = theirs (with types x d e) refl
                  where
                    theirs : (o : Option A) → with types x d e ≡ o → Some d ≡ option_or o (cond (has old x) None (with types x d x))
                    theirs None z = sym last
                    theirs (Some y) z =
                        let none : with types x d x ≡ None = free x e k (ap (λ (o : Option A). is_some o) z) absent in
                        let some : with types x d x ≡ Some d = hit types x d in
                        cc

    abbrev nothing : Option A
    nothing = None

    pub moved-all : (names : List Name) (xs : List A) (a : Name) → AreFree (at_name names xs) → at_name (map now names) xs a ≡ moved (at_name names xs) a
    moved-all [] xs a free = none (at_name new old a) (has old a)
      where
        none : (o : Option Name) (t : Bool) → nothing ≡ option_or (unwrap_or (option_map (λ (b : Name). nothing) o) nothing) (cond t nothing nothing)
        none None true = refl
        none None false = refl
        none (Some e) true = refl
        none (Some e) false = refl
    moved-all (n ∷ names) [] a free = none (at_name new old a) (has old a)
      where
        none : (o : Option Name) (t : Bool) → nothing ≡ option_or (unwrap_or (option_map (λ (b : Name). nothing) o) nothing) (cond t nothing nothing)
        none None true = refl
        none None false = refl
        none (Some e) true = refl
        none (Some e) false = refl
    moved-all (n ∷ names) (x ∷ xs) a free =
        ap (λ (o : Option A). cond (bytes_eq a (now n)) (Some x) o) (moved-all names xs a (fewer-free (at_name names xs) n x free))
        ∙ one-more (at_name names xs) n x a free

  -- no two columns get one name
  stay : {A : Type 0} (types : Name → Option A) → AreFree types → (a b : Name) → is_some (types a) ≡ true → is_some (types b) ≡ true → now a ≡ now b → a ≡ b
  stay {A} types free a b there_a there_b e = at (at_name old new a) (at_name old new b) refl refl e
    where
      never : (x y z : Name) → at_name old new x ≡ Some z → at_name old new y ≡ None → z ≡ y → is_some (types x) ≡ true → is_some (types y) ≡ true → ⊥
      never x y z p q r s t =
          let mine : at_name new old y ≡ Some x = ap (at_name new old) (sym r) ∙ back old new x z apart_new p in
          let none : types y ≡ None = free y x mine s (lacks old new y same q) in
          let no : is_some (types y) ≡ false = ap (λ (o : Option A). is_some o) none in
          cc

      at : (o p : Option Name) → at_name old new a ≡ o → at_name old new b ≡ p → unwrap_or o a ≡ unwrap_or p b → a ≡ b
      at (Some n) (Some m) p q r =
          ap (λ (o : Option Name). unwrap_or o a) (sym (back old new a n apart_new p) ∙ ap (at_name new old) r ∙ back old new b m apart_new q)
      at (Some n) None p q r = absurd (never a b n p q r there_a there_b)
      at None (Some m) p q r = absurd (never b a m q p (sym r) there_b there_a)
      at None None p q r = r

module _ (old new : List Name) (same : length old ≡ length new) (once_old : AreDistinct old × (with_names [] old ≡ old)) (once_new : AreDistinct new × (with_names [] new ≡ new)) where
  names-now : (b : Name) → renamed old new b ≡ unwrap_or (at_name old new b) b
  names-now b = ap (λ (o : Option Name). unwrap_or o b) (new-at old new b)

  stay_all : (s : Columns) → AreFree old new same once_old.0 once_new.0 (type_of s) → stay_apart (renamed old new) (names_of s) ≡ true
  stay_all s free = one_apart (renamed old new) (names_of s) (λ a b i j e. stay old new same once_old.0 once_new.0 (type_of s) free a b (some-type_of s a ∙ i) (some-type_of s b ∙ j) (sym (names-now a) ∙ e ∙ names-now b))

  rename-hold : (s : Columns) → AreFree old new same once_old.0 once_new.0 (type_of s) → AllHold (rename_checks old new s)
  unfolding rename_checks
  rename-hold s free = (
    eq-eqb (length old) (length new) same,
    hold_join (each_new 1 [] old) _ (new_hold 1 old once_old.1)
        (hold_join (each_new (suc (length old)) [] new) _ (new_hold (suc (length old)) new once_new.1)
        (stay_all s free, tt)),
  )

  types_renamed : (now : Name → Name) (s : Columns) → map (λ (c : Name × DataType). c.1) (renamed_columns now s) ≡ map (λ (c : Name × DataType). c.1) s
  types_renamed now [] = refl
  types_renamed now (c ∷ s) = ap (λ (l : List DataType). c.1 ∷ l) (types_renamed now s)

  type_moved : (s : Columns) (a : Name) → AreFree old new same once_old.0 once_new.0 (type_of s) → type_of (renamed_columns (renamed old new) s) a ≡ moved old new same once_old.0 once_new.0 (type_of s) a
  type_moved s a free =
      let types : List DataType = map (λ (c : Name × DataType). c.1) s in
      let is : type_of s ≡ at_name (names_of s) types = fun_ext (λ (b : Name). type-at s b) in
      type-at (renamed_columns (renamed old new) s) a
      ∙ ap₂ (λ (ns : List Name) (ts : List DataType). at_name ns ts a) (names-renamed (renamed old new) s ∙ ap (λ (f : Name → Name). map f (names_of s)) (fun_ext names-now)) (types_renamed (renamed old new) s)
      ∙ moved-all old new same once_old.0 once_new.0 (names_of s) types a (subst (AreFree old new same once_old.0 once_new.0) is free)
      ∙ ap (λ (f : Name → Option DataType). moved old new same once_old.0 once_new.0 f a) (sym is)

  pub rename-made : (o p : KnownColumns) (swapping : Bool) (types : List (Option DataType)) → types ≡ map (type_in o) old → ((a : Name) (d : DataType) → at_name new types a ≡ Some (Some d) → left_of old (type_in o) a ≡ None) → ((a : Name) → type_in p a ≡ put_on new types (left_of old (type_in o)) a) → IsMade (Rename old new swapping) o p
  rename-made o p swapping types are fresh put s shows = (
    holds,
    λ a.
        put a
        ∙ ap (λ (x : Option (Option DataType)). option_or (unwrap_or x None) (left_of old (type_in o) a)) (at_types a)
        ∙ moved-same old new same once_old.0 once_new.0 (type_in o) (type_of s) a (λ e k. shows e) (λ k. shows a)
        ∙ sym (type_moved s a free)
        ∙ ap (λ (t : Columns). type_of t a) (sym (ap (λ (b : Bool). cond b (renamed_columns (renamed old new) s) []) holds)),
  )
    where
      at_types : (b : Name) → at_name new types b ≡ option_map (type_in o) (at_name new old b)
      at_types b = ap (λ (ts : List (Option DataType)). at_name new ts b) are ∙ at-mapped (type_in o) new old b

      free : AreFree old new same once_old.0 once_new.0 (type_of s)
      free b e at_b there absent = go (type_of s e) refl there
        where
          go : (d : Option DataType) → type_of s e ≡ d → is_some d ≡ true → type_of s b ≡ None
          go None q r = cc
          go (Some d) q r =
              sym (shows b)
              ∙ sym (ap (λ (t : Bool). cond t None (type_in o b)) absent)
              ∙ fresh b d (at_types b ∙ ap (option_map (type_in o)) at_b ∙ ap (λ (x : Option DataType). Some x) (shows e ∙ q))

      holds : all_hold (rename_checks old new s) ≡ true
      holds = held (rename_checks old new s) (rename-hold s free)
