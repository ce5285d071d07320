-- Names under a renaming, as a map of new names by old ones has them, and lists of names that it keeps apart.
use Rattle.std.proofs.Common.{◌≡◌, ℕ, zero, suc, ◌≤◌, ◌+◌, Bool, true, false, not, cond, ◌&&◌, ◌||◌, List, [], ◌∷◌, ◌++◌, map, drop, length, Option, Some, None, is_some, option_map, refl, sym, ap, ap₂, ◌∙◌, subst, ⊎_elim, append_assoc, one-add, Bor, ◌⊎◌, inl, inr}
use Rattle.std.specs.List.{list_any, slice_get}
use Rattle.std.specs.Str.{bytes_eq}
use Rattle.std.specs.Map.{lookup}
use Rattle.std.specs.Prelude.{String, string_bytes, option_copied}
use Rattle.std.specs.String.{string_eq}
use Rattle.std.specs.declared.alloc.Global.{Global}
use Rattle.indexmap.specs.IndexMap.{insert_entry}
use Rattle.plan_core.specs.declared.arena.Node.{Node}
use Rattle.plan_core.specs.declared.error.PolarsError.TheVariants.{Duplicate}
use Rattle.plan_core.specs.declared.data_type.DataType.{DataType}
use Rattle.plan_core.specs.Columns.{Columns, names_of, type_of, with_type}
use Rattle.plan_core.specs.Names.{has, AreDistinct}
use Rattle.plan_expr.specs.Leaves.{Name}
use Rattle.plan_meaning.specs.Functions.{new_name, name_in, renamed, become_one, stay_apart}
use Rattle.plan_frame.specs.Reshaped.{renamed_columns}
use Rattle.std.proofs.lemmas.Bool.{and_parts, not-true, false_from_ne_true, eq-eqb}
use Rattle.std.proofs.lemmas.List.{append-nil, map-append}
use Rattle.plan_frame.proofs.NameSets.{named, same_named, has_cons, has_first, has_later, has_front, has_back, has_either, only, some-type_of, distinct_cons, names-append}
use Rattle.plan_meaning.specs.Checks.{Check, check, each_new}
use Rattle.plan_meaning.specs.Typing.{first_fault, or_fault, at, rename_checks}
use Rattle.plan_schema.proofs.CheckLemmas.{drop-at, drop-end, fault_append}

abbrev pub Entries : Type 0
Entries = List (String Global × String Global)

abbrev pub seen : Entries → List (Name × Name)
seen es = map (λ (p : String Global × String Global). (string_bytes p.0, string_bytes p.1)) es

pub name_in-seen : (es : Entries) (a : Name) → option_map string_bytes (lookup (λ (k : String Global). bytes_eq a (string_bytes k)) es) ≡ name_in (seen es) a
name_in-seen [] a = refl
name_in-seen (e ∷ es) a = at (bytes_eq a (string_bytes e.0)) (name_in-seen es a)
  where
    at : (t : Bool) → option_map string_bytes (lookup (λ (k : String Global). bytes_eq a (string_bytes k)) es) ≡ name_in (seen es) a → option_map string_bytes (cond t (Some e.1) (lookup (λ (k : String Global). bytes_eq a (string_bytes k)) es)) ≡ cond t (Some (string_bytes e.1)) (name_in (seen es) a)
    at true r = refl
    at false r = r

-- of a pair that is put in the name is found, and else as before
pub name_in-insert : (es : Entries) (k v : String Global) (a : Name) → name_in (seen (insert_entry string_eq es k v)) a ≡ cond (bytes_eq a (string_bytes k)) (Some (string_bytes v)) (name_in (seen es) a)
name_in-insert [] k v a = refl
name_in-insert (e ∷ es) k v a = at (bytes_eq (string_bytes k) (string_bytes e.0)) refl (name_in-insert es k v a)
  where
    name : Name
    name = string_bytes k

    own : Name
    own = string_bytes e.0

    here : (t u : Bool) → t ≡ u → cond u (Some (string_bytes v)) (name_in (seen es) a) ≡ cond t (Some (string_bytes v)) (cond u (Some (string_bytes e.1)) (name_in (seen es) a))
    here true true q = refl
    here false false q = refl
    here true false q = cc
    here false true q = cc

    there : (t u : Bool) → (t ≡ true → u ≡ true → ⊥) → cond u (Some (string_bytes e.1)) (cond t (Some (string_bytes v)) (name_in (seen es) a)) ≡ cond t (Some (string_bytes v)) (cond u (Some (string_bytes e.1)) (name_in (seen es) a))
    there true true q = absurd (q refl refl)
    there true false q = refl
    there false true q = refl
    there false false q = refl

    at : (t : Bool) → bytes_eq (string_bytes k) (string_bytes e.0) ≡ t → name_in (seen (insert_entry string_eq es k v)) a ≡ cond (bytes_eq a (string_bytes k)) (Some (string_bytes v)) (name_in (seen es) a) → name_in (seen (cond t ((e.0, v) ∷ es) (e ∷ insert_entry string_eq es k v))) a ≡ cond (bytes_eq a (string_bytes k)) (Some (string_bytes v)) (cond (bytes_eq a (string_bytes e.0)) (Some (string_bytes e.1)) (name_in (seen es) a))
    at true q r = here (bytes_eq a (string_bytes k)) (bytes_eq a (string_bytes e.0)) (ap (bytes_eq a) (named (string_bytes k) (string_bytes e.0) q))
    at false q r =
        ap (λ (o : Option Name). cond (bytes_eq a (string_bytes e.0)) (Some (string_bytes e.1)) o) r
        ∙ there (bytes_eq a (string_bytes k)) (bytes_eq a (string_bytes e.0)) (λ x y. no x y)
      where
        no : bytes_eq a (string_bytes k) ≡ true → bytes_eq a (string_bytes e.0) ≡ true → ⊥
        no x y =
            let same : bytes_eq (string_bytes k) (string_bytes e.0) ≡ true = ap (λ (n : Name). bytes_eq n (string_bytes e.0)) (sym (named a (string_bytes k) x)) ∙ y in
            cc

-- new names, from a place on

new_name-none : (existing : List Name) (a : Name) → new_name existing [] a ≡ None
new_name-none [] a = refl
new_name-none (e ∷ existing) a = refl

pub new_name-end : (existing new : List Name) (i : ℕ) (a : Name) → (length existing ≤ i) ⊎ (length new ≤ i) → new_name (drop i existing) (drop i new) a ≡ None
new_name-end existing new i a (inl h) = ap (λ (l : List Name). new_name l (drop i new) a) (drop-end existing i h)
new_name-end existing new i a (inr h) = ap (λ (l : List Name). new_name (drop i existing) l a) (drop-end new i h) ∙ new_name-none (drop i existing) a

pub new_name-at : (existing new : List Name) (i : ℕ) (e n a : Name) → slice_get existing i ≡ Some e → slice_get new i ≡ Some n → new_name (drop i existing) (drop i new) a ≡ cond (bytes_eq a e) (Some n) (new_name (drop (suc i) existing) (drop (suc i) new) a)
new_name-at existing new i e n a p q = ap₂ (λ (x y : List Name). new_name x y a) (drop-at existing i e p) (drop-at new i n q)

-- one pair more, before those that are there
pub paired-next : (es : Entries) (existing new : List Name) (k v : String Global) (i : ℕ) → ((a : Name) → name_in (seen es) a ≡ new_name (drop (suc i) existing) (drop (suc i) new) a) → slice_get existing i ≡ Some (string_bytes k) → slice_get new i ≡ Some (string_bytes v) → (a : Name) → name_in (seen (insert_entry string_eq es k v)) a ≡ new_name (drop i existing) (drop i new) a
paired-next es existing new k v i before p q a =
    name_in-insert es k v a
    ∙ ap (λ (o : Option Name). cond (bytes_eq a (string_bytes k)) (Some (string_bytes v)) o) (before a)
    ∙ sym (new_name-at existing new i (string_bytes k) (string_bytes v) a p q)

-- a column at a place has its name there, and its new one

pub name-at : (s : Columns) (i : ℕ) (a : Name) (d : DataType) → slice_get s i ≡ Some (a, d) → slice_get (names_of s) i ≡ Some a
name-at [] i a d e = cc
name-at (c ∷ s) zero a d e = ap (λ (o : Option (Name × DataType)). option_map (λ (x : Name × DataType). x.0) o) e
name-at (c ∷ s) (suc i) a d e = name-at s i a d e

pub now-at : (now : Name → Name) (s : Columns) (i : ℕ) (a : Name) (d : DataType) → slice_get s i ≡ Some (a, d) → slice_get (map now (names_of s)) i ≡ Some (now a)
now-at now [] i a d e = cc
now-at now (c ∷ s) zero a d e = ap (λ (o : Option (Name × DataType)). option_map (λ (x : Name × DataType). now x.0) o) e
now-at now (c ∷ s) (suc i) a d e = now-at now s i a d e

-- a look-up that finds something finds a column
pub got_some : (s : Columns) (a : Name) (o : Option (Bor DataType)) → option_copied o ≡ type_of s a → is_some (type_of s a) ≡ is_some o
got_some s a None e = ap (λ (x : Option DataType). is_some x) (sym e)
got_some s a (Some d) e = ap (λ (x : Option DataType). is_some x) (sym e)

pub none_there : {A : Type 0} (o : Option A) → is_some o ≡ false → o ≡ None
none_there None e = refl
none_there (Some x) e = cc

-- what two lists of names keep apart

pub or_false : (x y : Bool) → (x || y) ≡ false → (x ≡ false) × (y ≡ false)
or_false true y e = cc
or_false false y e = (refl, e)

-- a name of a list that becomes what another becomes is that other, or the two become one
pub one_found : (now : Name → Name) (a : Name) (names : List Name) → list_any (become_one now a) names ≡ false → (b : Name) → has names b ≡ true → now a ≡ now b → a ≡ b
one_found now a [] e b i q = cc
one_found now a (c ∷ names) e b i q = ⊎_elim
    (λ (h : b ≡ c). same (bytes_eq a c) refl (subst (λ (x : Name). now a ≡ now x) h q) h)
    (λ (h : has names b ≡ true). one_found now a names (or_false (become_one now a c) (list_any (become_one now a) names) e).1 b h q)
    (has_cons c names b i)
  where
    same : (t : Bool) → bytes_eq a c ≡ t → now a ≡ now c → b ≡ c → a ≡ b
    same true t r h = named a c t ∙ sym h
    same false t r h =
        let x : bytes_eq (now a) (now c) ≡ true = ap (λ (n : Name). bytes_eq (now a) n) (sym r) ∙ same_named (now a) in
        let y : become_one now a c ≡ true = ap₂ (λ (p u : Bool). p && not u) x t in
        let z : become_one now a c ≡ false = (or_false (become_one now a c) (list_any (become_one now a) names) e).0 in
        cc

-- where names stay apart, two that become one are one
pub apart_one : (now : Name → Name) (names : List Name) → stay_apart now names ≡ true → (a b : Name) → has names a ≡ true → has names b ≡ true → now a ≡ now b → a ≡ b
apart_one now [] e a b i j q = cc
apart_one now (c ∷ names) e a b i j q = ⊎_elim
    (λ (h : a ≡ c). ⊎_elim (λ (k : b ≡ c). h ∙ sym k) (λ (k : has names b ≡ true). h ∙ one_found now c names first b k (ap now (sym h) ∙ q)) (has_cons c names b j))
    (λ (h : has names a ≡ true). ⊎_elim (λ (k : b ≡ c). sym (k ∙ one_found now c names first a h (ap now (sym k) ∙ sym q))) (λ (k : has names b ≡ true). apart_one now names rest a b h k q) (has_cons c names b j))
    (has_cons c names a i)
  where
    parts : (not (list_any (become_one now c) names) ≡ true) × (stay_apart now names ≡ true)
    parts = and_parts (not (list_any (become_one now c) names)) (stay_apart now names) e

    first : list_any (become_one now c) names ≡ false
    first = not-true (list_any (become_one now c) names) parts.0

    rest : stay_apart now names ≡ true
    rest = parts.1

-- names of which two that become one are one stay apart
none_found : (now : Name → Name) (a : Name) (names : List Name) → ((b : Name) → has names b ≡ true → now a ≡ now b → a ≡ b) → list_any (become_one now a) names ≡ false
none_found now a [] by = refl
none_found now a (c ∷ names) by = both (become_one now a c) (list_any (become_one now a) names) (at (bytes_eq (now a) (now c)) refl) (none_found now a names (λ b i q. by b (has_later c names b i) q))
  where
    both : (x y : Bool) → x ≡ false → y ≡ false → (x || y) ≡ false
    both true y e f = e
    both false y e f = f

    at : (t : Bool) → bytes_eq (now a) (now c) ≡ t → become_one now a c ≡ false
    at false t = ap (λ (x : Bool). x && not (bytes_eq a c)) t
    at true t =
        let q : a ≡ c = by c (has_first c names) (named (now a) (now c) t) in
        ap₂ (λ (x y : Bool). x && not y) t (ap (bytes_eq a) (sym q) ∙ same_named a)

pub one_apart : (now : Name → Name) (names : List Name) → ((a b : Name) → has names a ≡ true → has names b ≡ true → now a ≡ now b → a ≡ b) → stay_apart now names ≡ true
one_apart now [] by = refl
one_apart now (c ∷ names) by =
    ap₂ (λ (x y : Bool). not x && y)
    (none_found now c names (λ b i q. by c b (has_first c names) (has_later c names b i) q))
    (one_apart now names (λ a b i j q. by a b (has_later c names a i) (has_later c names b j) q))

-- fewer names stay apart
pub fewer_apart : (now : Name → Name) (l m : List Name) → ((a : Name) → has l a ≡ true → has m a ≡ true) → stay_apart now m ≡ true → stay_apart now l ≡ true
fewer_apart now l m sub e = one_apart now l (λ a b i j q. apart_one now m e a b (sub a i) (sub b j) q)

-- columns under new names

pub names-renamed : (now : Name → Name) (s : Columns) → names_of (renamed_columns now s) ≡ map now (names_of s)
names-renamed now [] = refl
names-renamed now (c ∷ s) = ap (λ (l : List Name). now c.0 ∷ l) (names-renamed now s)

-- a new name has the type of the name that becomes it
type_at : (now : Name → Name) (a : Name) (c : Name × DataType) (cs : Columns) → (now c.0 ≡ now a → c.0 ≡ a) → (has (names_of cs) a ≡ true → type_of (renamed_columns now cs) (now a) ≡ type_of cs a) → has (names_of (c ∷ cs)) a ≡ true → type_of (renamed_columns now (c ∷ cs)) (now a) ≡ type_of (c ∷ cs) a
type_at now a c cs by r j = at (bytes_eq a c.0) refl
  where
    other : bytes_eq a c.0 ≡ false → a ≡ c.0 → has (names_of cs) a ≡ true
    other t q = let x : bytes_eq a c.0 ≡ true = ap (bytes_eq a) (sym q) ∙ same_named a in cc

    later : bytes_eq a c.0 ≡ false → (u : Bool) → bytes_eq (now a) (now c.0) ≡ u → cond u (Some c.1) (type_of (renamed_columns now cs) (now a)) ≡ type_of cs a
    later t true u =
        let q : c.0 ≡ a = by (sym (named (now a) (now c.0) u)) in
        let x : bytes_eq a c.0 ≡ true = ap (bytes_eq a) q ∙ same_named a in
        cc
    later t false u = r (⊎_elim (λ (q : a ≡ c.0). other t q) (λ k. k) (has_cons c.0 (names_of cs) a j))

    at : (t : Bool) → bytes_eq a c.0 ≡ t → cond (bytes_eq (now a) (now c.0)) (Some c.1) (type_of (renamed_columns now cs) (now a)) ≡ cond t (Some c.1) (type_of cs a)
    at true t = ap (λ (x : Bool). cond x (Some c.1) (type_of (renamed_columns now cs) (now a))) (ap (λ (x : Name). bytes_eq (now x) (now c.0)) (named a c.0 t) ∙ same_named (now c.0))
    at false t = later t (bytes_eq (now a) (now c.0)) refl

type-by : (now : Name → Name) (a : Name) (cs : Columns) → ((b : Name) → has (names_of cs) b ≡ true → now b ≡ now a → b ≡ a) → has (names_of cs) a ≡ true → type_of (renamed_columns now cs) (now a) ≡ type_of cs a
type-by now a [] by j = cc
type-by now a (c ∷ cs) by j = type_at now a c cs (λ q. by c.0 (has_first c.0 (names_of cs)) q) (λ k. type-by now a cs (λ b i q. by b (has_later c.0 (names_of cs) b i) q) k) j

pub type-renamed : (now : Name → Name) (s : Columns) → stay_apart now (names_of s) ≡ true → (a : Name) → has (names_of s) a ≡ true → type_of (renamed_columns now s) (now a) ≡ type_of s a
type-renamed now s e a i = type-by now a s (λ b j q. apart_one now (names_of s) e b a j i q) i

-- a name under which a column stands is what the name of one becomes
pub from_renamed : (now : Name → Name) (names : List Name) (x : Name) → has (map now names) x ≡ true → (b : Name) × (has names b ≡ true) × (x ≡ now b)
from_renamed now [] x i = cc
from_renamed now (c ∷ names) x i = ⊎_elim
    (λ (q : x ≡ now c). (c, has_first c names, q))
    (λ (k : has (map now names) x ≡ true). let r = from_renamed now names x k in (r.0, has_later c names r.0 r.1, r.2))
    (has_cons (now c) (map now names) x i)

pub to_renamed : (now : Name → Name) (names : List Name) (b : Name) → has names b ≡ true → has (map now names) (now b) ≡ true
to_renamed now [] b i = cc
to_renamed now (c ∷ names) b i = ⊎_elim
    (λ (q : b ≡ c). subst (λ (x : Name). has (map now (c ∷ names)) (now x) ≡ true) (sym q) (has_first (now c) (map now names)))
    (λ (k : has names b ≡ true). has_later (now c) (map now names) (now b) (to_renamed now names b k))
    (has_cons c names b i)

-- a new column goes last
pub with_new : (cs : Columns) (a : Name) (d : DataType) → type_of cs a ≡ None → with_type cs a d ≡ cs ++ (a, d) ∷ []
with_new [] a d e = refl
with_new (c ∷ cs) a d e = at (bytes_eq a c.0) e (λ k. with_new cs a d k)
  where
    at : (t : Bool) → cond t (Some c.1) (type_of cs a) ≡ None → (type_of cs a ≡ None → with_type cs a d ≡ cs ++ (a, d) ∷ []) → cond t ((c.0, d) ∷ cs) (c ∷ with_type cs a d) ≡ c ∷ (cs ++ (a, d) ∷ [])
    at true q r = cc
    at false q r = ap (λ (x : Columns). c ∷ x) (r q)

-- a name behind others isn't among them
behind : (names : List Name) (a : Name) (rest : List Name) → AreDistinct (names ++ a ∷ rest) → has names a ≡ false
behind [] a rest h = refl
behind (c ∷ names) a rest h =
    let parts = distinct_cons c (names ++ a ∷ rest) h in
    at (bytes_eq a c) refl parts.0 (behind names a rest parts.1)
  where
    at : (t : Bool) → bytes_eq a c ≡ t → has (names ++ a ∷ rest) c ≡ false → has names a ≡ false → (t || has names a) ≡ false
    at false q k r = r
    at true q k r =
        let x : has (names ++ a ∷ rest) c ≡ true = ap (has (names ++ a ∷ rest)) (sym (named a c q)) ∙ has_back names (a ∷ rest) a (has_first a rest) in
        cc

-- what is renamed so far: the columns that are done, of which none got the name of another
pub record SoFar (now : Name → Name) (made left whole : Columns) : Type 0 where
  pub done : Columns
  pub made-is : made ≡ renamed_columns now done
  pub split : done ++ left ≡ whole
  pub apart : stay_apart now (names_of done) ≡ true

pub so_far-none : (now : Name → Name) (whole : Columns) → SoFar now [] whole whole
so_far-none now whole = record { done = []; made-is = refl; split = refl; apart = refl }

module _ (now : Name → Name) (made whole : Columns) (name : Name) (d : DataType) (rest : Columns) (h : SoFar now made ((name, d) ∷ rest) whole) where
  -- a column whose new name is none yet
  pub so_far-next : type_of made (now name) ≡ None → SoFar now (with_type made (now name) d) rest whole
  so_far-next e = record {
    done = h.done ++ (name, d) ∷ [];
    made-is = with_new made (now name) d e ∙ ap (λ (x : Columns). x ++ (now name, d) ∷ []) h.made-is ∙ sym (map-append (λ (c : Name × DataType). (now c.0, c.1)) h.done ((name, d) ∷ []));
    split = append_assoc h.done ((name, d) ∷ []) rest ∙ h.split;
    apart = subst (λ (l : List Name). stay_apart now l ≡ true) (sym (names-append h.done ((name, d) ∷ []))) (one_apart now (names_of h.done ++ name ∷ []) one);
  }
    where
      absent : (b : Name) → has (names_of h.done) b ≡ true → now b ≡ now name → ⊥
      absent b i q =
          let there : has (names_of made) (now name) ≡ true = ap (λ (x : Columns). has (names_of x) (now name)) h.made-is ∙ ap (λ (l : List Name). has l (now name)) (names-renamed now h.done) ∙ subst (λ (x : Name). has (map now (names_of h.done)) x ≡ true) q (to_renamed now (names_of h.done) b i) in
          let none : has (names_of made) (now name) ≡ false = sym (some-type_of made (now name)) ∙ ap is_some e in
          cc

      one : (a b : Name) → has (names_of h.done ++ name ∷ []) a ≡ true → has (names_of h.done ++ name ∷ []) b ≡ true → now a ≡ now b → a ≡ b
      one a b i j q = ⊎_elim
          (λ (ia : has (names_of h.done) a ≡ true). ⊎_elim
          (λ (jb : has (names_of h.done) b ≡ true). apart_one now (names_of h.done) h.apart a b ia jb q)
          (λ (jb : has (name ∷ []) b ≡ true). absurd (absent a ia (q ∙ ap now (only name b jb))))
          (has_either (names_of h.done) (name ∷ []) b j))
          (λ (ia : has (name ∷ []) a ≡ true). ⊎_elim
          (λ (jb : has (names_of h.done) b ≡ true). absurd (absent b jb (sym q ∙ ap now (only name a ia))))
          (λ (jb : has (name ∷ []) b ≡ true). only name a ia ∙ sym (only name b jb))
          (has_either (names_of h.done) (name ∷ []) b j))
          (has_either (names_of h.done) (name ∷ []) a i)

  -- one whose new name another got before
  pub so_far-bad : AreDistinct (names_of whole) → is_some (type_of made (now name)) ≡ true → stay_apart now (names_of whole) ≡ false
  so_far-bad once e = false_from_ne_true (stay_apart now (names_of whole)) no
    where
      names-are : names_of whole ≡ names_of h.done ++ name ∷ names_of rest
      names-are = ap names_of (sym h.split) ∙ names-append h.done ((name, d) ∷ rest)

      there : has (map now (names_of h.done)) (now name) ≡ true
      there = sym (ap (λ (x : Columns). has (names_of x) (now name)) h.made-is ∙ ap (λ (l : List Name). has l (now name)) (names-renamed now h.done)) ∙ sym (some-type_of made (now name)) ∙ e

      no : stay_apart now (names_of whole) ≡ true → ⊥
      no q =
          let b = from_renamed now (names_of h.done) (now name) there in
          let apart : stay_apart now (names_of h.done ++ name ∷ names_of rest) ≡ true = subst (λ (l : List Name). stay_apart now l ≡ true) names-are q in
          let is : name ≡ b.0 = apart_one now (names_of h.done ++ name ∷ names_of rest) apart name b.0 (has_back (names_of h.done) (name ∷ names_of rest) name (has_first name (names_of rest))) (has_front (names_of h.done) (name ∷ names_of rest) b.0 b.1) b.2 in
          let i : has (names_of h.done) name ≡ true = ap (has (names_of h.done)) is ∙ b.1 in
          let j : has (names_of h.done) name ≡ false = behind (names_of h.done) name (names_of rest) (subst AreDistinct names-are once) in
          cc

-- all are done
pub so_far-all : (now : Name → Name) (made whole : Columns) → SoFar now made [] whole → (made ≡ renamed_columns now whole) × (stay_apart now (names_of whole) ≡ true)
so_far-all now made whole h =
    let is : h.done ≡ whole = sym (append-nil h.done) ∙ h.split in
    (h.made-is ∙ ap (renamed_columns now) is, ap (λ (x : Columns). stay_apart now (names_of x)) (sym is) ∙ h.apart)

-- the checks of a renaming whose lists are good leave what its columns say
pub rename-faults : (n : Node) (existing new : List Name) (s : Columns) (b : Bool) → length existing ≡ length new → first_fault n (each_new 1 [] existing) ≡ None → first_fault n (each_new (1 + length existing) [] new) ≡ None → stay_apart (renamed existing new) (names_of s) ≡ b → first_fault n (rename_checks existing new s) ≡ cond b None (Some (Duplicate (at n 0)))
unfolding rename_checks
rename-faults n existing new s b same old fresh is =
    let last : List Check = check Duplicate 0 (stay_apart (renamed existing new) (names_of s)) ∷ [] in
    let fresh_at : first_fault n (each_new (suc (length existing)) [] new) ≡ None = subst (λ (k : ℕ). first_fault n (each_new k [] new) ≡ None) (one-add (length existing)) fresh in
    rw (eq-eqb (length existing) (length new) same, fault_append n (each_new 1 [] existing) (each_new (suc (length existing)) [] new ++ last), old, fault_append n (each_new (suc (length existing)) [] new) last, fresh_at, is) (ends b)
  where
    ends : (t : Bool) → or_fault None (or_fault None (cond t None (Some (Duplicate (at n 0))))) ≡ cond t None (Some (Duplicate (at n 0)))
    ends true = refl
    ends false = refl
