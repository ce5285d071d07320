-- Steps of readers, of which each gave something.
use Rattle.std.proofs.Common.{◌≡◌, ℕ, ◌==◌, Bool, true, false, ◌&&◌, cond, List, [], ◌∷◌, length, Ordering, Less, Equal, Greater, Option, Some, None, refl, subst}
use Rattle.std.specs.List.{AllByRecursion}
use Rattle.std.specs.Ordering.{nat_cmp, match_ordering}
use Rattle.std.specs.Cmp.Lexicographic.{slice_cmp}
use Rattle.serde_json.specs.Data.{Data, null, boolean, number, string, array, object, Members, no_members, member}
use Rattle.serde_json.specs.Find.{get, get_member}
use Rattle.plan_doc_parts.specs.Parts.{◌>>=◌}
use Rattle.plan_doc_parts.specs.Members.{object_of, at, has_keys, count_of, only_of}
use Rattle.plan_doc_parts.proofs.EntryLemmas.{bind_some, some_is}
use Rattle.plan_round_trip.specs.Canonical.{is_canonical, members_are_canonical}

-- what is written for it is read as it
abbrev pub Again : {A : Type 0} → (Data → Option A) → (A → Data) → A → Type 0
Again reads writes x = reads (writes x) ≡ Some x

-- what is read of a value is read again of what is written for it
pub record Back {A : Type 0} (reads : Data → Option A) (writes : A → Data) : Type 0 where
  pub again : (d : Data) (x : A) → is_canonical d ≡ true → reads d ≡ Some x → Again reads writes x

-- a test chose one of two
pub choice : {A C : Type 0} (b : Bool) (o p : Option A) (y : A) → cond b o p ≡ Some y → (o ≡ Some y → C) → (p ≡ Some y → C) → C
choice true o p y e first second = first e
choice false o p y e first second = second e

-- the reading of the first test that holds
abbrev pub first_of : {A : Type 0} → List (Bool × Option A) → Option A
first_of [] = None
first_of (t ∷ ts) = cond t.0 t.1 (first_of ts)

-- what holds of each reading that gave something holds of what the first gave
pub first_holds : {A : Type 0} (P : A → Type 0) (ts : List (Bool × Option A)) (x : A) → first_of ts ≡ Some x → AllByRecursion (λ (t : Bool × Option A). t.1 ≡ Some x → P x) ts → P x
first_holds P [] x e a = absurd cc
first_holds P (t ∷ ts) x e a = choice t.0 t.1 (first_of ts) x e a.0 (λ rest. first_holds P ts x rest a.1)

pub both_left : (a b : Bool) → (a && b) ≡ true → a ≡ true
both_left true b e = refl
both_left false b e = e

pub both_right : (a b : Bool) → (a && b) ≡ true → b ≡ true
both_right true b e = e
both_right false b e = absurd cc

-- a member of an object
member_canonical : (k : List ℕ) (ms : Members) (d : Data) → members_are_canonical ms ≡ true → get_member k ms ≡ Some d → is_canonical d ≡ true
member_canonical k no_members d c e = absurd cc
member_canonical k (member l f ms) d c e = by_order (slice_cmp nat_cmp k l) e (member_canonical k ms d (both_right (is_canonical f) (members_are_canonical ms) c))
  where
    by_order : (o : Ordering) → match_ordering o (get_member k ms) (Some f) (get_member k ms) ≡ Some d → (get_member k ms ≡ Some d → is_canonical d ≡ true) → is_canonical d ≡ true
    by_order Less q more = more q
    by_order Equal q more = subst (λ (x : Data). is_canonical x ≡ true) (some_is f d q) (both_left (is_canonical f) (members_are_canonical ms) c)
    by_order Greater q more = more q

-- what stands under a key
pub under_canonical : (k : List ℕ) (o d : Data) → is_canonical o ≡ true → get k o ≡ Some d → is_canonical d ≡ true
under_canonical k null d c e = absurd cc
under_canonical k (boolean b) d c e = absurd cc
under_canonical k (number n) d c e = absurd cc
under_canonical k (string s) d c e = absurd cc
under_canonical k (array ds) d c e = absurd cc
under_canonical k (object ms) d c e = member_canonical k ms d c e

-- an object with these keys is the value itself
object_is : (ks : List (List ℕ)) (d o : Data) → object_of ks d ≡ Some o → d ≡ o
unfolding object_of
object_is ks d o e =
    let n = bind_some (count_of d) (λ n. cond (n == length ks) (cond (has_keys ks d) (Some d) None) None) o e in
    chosen (n.0 == length ks) (has_keys ks d) n.2
  where
    chosen : (a b : Bool) → cond a (cond b (Some d) None) None ≡ Some o → d ≡ o
    chosen true true q = some_is d o q
    chosen true false q = absurd cc
    chosen false b q = absurd cc

pub object_canonical : (ks : List (List ℕ)) (d o : Data) → is_canonical d ≡ true → object_of ks d ≡ Some o → is_canonical o ≡ true
object_canonical ks d o c e = subst (λ (x : Data). is_canonical x ≡ true) (object_is ks d o e) c

-- what is read under a key is read again of what is written for it
pub under : {A : Type 0} {reads : Data → Option A} {writes : A → Data} (b : Back reads writes) (k : List ℕ) (o : Data) (x : A) → is_canonical o ≡ true → at k reads o ≡ Some x → Again reads writes x
unfolding at
under {reads = reads} b k o x c e =
    let d = bind_some (get k o) reads x e in
    b.again d.0 x (under_canonical k o d.0 c d.1) d.2

-- what stands under the only key of an object, and what is read of it
pub only_said : {A : Type 0} (k : List ℕ) (d : Data) (f : Data → Option A) (x : A) → is_canonical d ≡ true → (only_of k d >>= f) ≡ Some x → (v : Data) × (is_canonical v ≡ true) × (f v ≡ Some x)
unfolding only_of
only_said k d f x c e =
    let v = bind_some (only_of k d) f x e in
    let o = bind_some (object_of (k ∷ []) d) (λ o. get k o) v.0 v.1 in
    (v.0, under_canonical k o.0 v.0 (object_canonical (k ∷ []) d o.0 c o.1) o.2, v.2)
