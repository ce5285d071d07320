-- Where a name stands among columns.
use Rattle.std.proofs.Common.{◌≡◌, ◌<◌, ◌≤◌, ◌+◌, ℕ, zero, suc, Bool, true, false, cond, not, nat_lt, List, [], ◌∷◌, length, position, Option, Some, None, refl, sym, ap, arith}
use Rattle.std.specs.Prelude.{MatchOption, IfSome, IfNone, String, string_bytes}
use Rattle.std.specs.Str.{bytes_eq}
use Rattle.std.specs.List.{position_or_len}
use Rattle.std.specs.Map.{keys_of}
use Rattle.std.specs.declared.alloc.Global.{Global}
use Rattle.std.proofs.lemmas.Bool.{ltb-true}
use Rattle.std.proofs.lemmas.Slice.Eq.{bytes_eq-Decides}
use borrow.Author.Tests.{ltb-false}
use Rattle.plan_core.specs.Columns.{Columns, StandsAt, names_of, place_of, type_of}
use Rattle.plan_core.proofs.ColumnLemmas.{Entries, seen}

-- how many columns stand before a name
abbrev pub before : Columns → List ℕ → ℕ
before cs name = position_or_len (bytes_eq name) (names_of cs)

length-names_of : (cs : Columns) → length (names_of cs) ≡ length cs
length-names_of [] = refl
length-names_of (c ∷ cs) = ap suc (length-names_of cs)

stands_after : (cs : Columns) (name : List ℕ) (i : ℕ) → before cs name ≡ i → i < length cs → StandsAt cs name i
stands_after [] name i e h = absurd (omega arith)
stands_after (c ∷ cs) name i e h = go (stands_after cs name) (bytes_eq name c.0) refl i e h
  where
    go : ((i : ℕ) → before cs name ≡ i → i < length cs → StandsAt cs name i) → (b : Bool) → bytes_eq name c.0 ≡ b → (i : ℕ) → cond (not b) (1 + before cs name) 0 ≡ i → i < suc (length cs) → StandsAt (c ∷ cs) name i
    go rest true q zero e h = let n : name ≡ c.0 = (bytes_eq-Decides name c.0).0 q in (c.1, ap (λ (x : List ℕ). Some (x, c.1)) (sym n), rw q refl)
    go rest true q (suc i) e h = absurd (omega arith)
    go rest false q zero e h = absurd (omega arith)
    go rest false q (suc i) e h = let s : StandsAt cs name i = rest i (omega arith) (omega arith) in (s.0, s.1, rw q s.2)

absent_after : (cs : Columns) (name : List ℕ) → length cs ≤ before cs name → type_of cs name ≡ None
absent_after [] name h = refl
absent_after (c ∷ cs) name h = go (absent_after cs name) (bytes_eq name c.0) refl h
  where
    go : (length cs ≤ before cs name → type_of cs name ≡ None) → (b : Bool) → bytes_eq name c.0 ≡ b → suc (length cs) ≤ cond (not b) (1 + before cs name) 0 → type_of (c ∷ cs) name ≡ None
    go rest true q h = absurd (omega arith)
    go rest false q h = rw q (rest (omega arith))

-- a place that is given is the name's, and where none is given the name is absent
pub place_of-cases : (cs : Columns) (name : List ℕ) → MatchOption (place_of cs name) (type_of cs name ≡ None) (StandsAt cs name)
place_of-cases cs name = go (nat_lt (before cs name) (length (names_of cs))) refl
  where
    go : (b : Bool) → nat_lt (before cs name) (length (names_of cs)) ≡ b → MatchOption (cond b (Some (before cs name)) None) (type_of cs name ≡ None) (StandsAt cs name)
    go true e =
        let l : before cs name < length (names_of cs) = ltb-true _ _ e in
        stands_after cs name (before cs name) refl (omega (arith, length-names_of cs))
    go false e =
        let l : length (names_of cs) ≤ before cs name = ltb-false _ _ e in
        absent_after cs name (omega (arith, length-names_of cs))

before-seen : (es : Entries) (name : List ℕ) → position_or_len (λ (k : String Global). bytes_eq name (string_bytes k)) (keys_of es) ≡ before (seen es) name
before-seen [] name = refl
before-seen (e ∷ es) name = ap (λ (n : ℕ). cond (not (bytes_eq name (string_bytes e.0))) (1 + n) 0) (before-seen es name)

length-keys_of : (es : Entries) → length (keys_of es) ≡ length (names_of (seen es))
length-keys_of [] = refl
length-keys_of (e ∷ es) = ap suc (length-keys_of es)

-- the index of a key in the map is the place of its name
pub place_of-seen : (es : Entries) (name : List ℕ) → position (λ (k : String Global). bytes_eq name (string_bytes k)) (keys_of es) ≡ place_of (seen es) name
place_of-seen es name = λ i. cond (nat_lt (before-seen es name i) (length-keys_of es i)) (Some (before-seen es name i)) None

-- the two sides of `place_of-cases`, for a result that is the place
pub stands_there : (cs : Columns) (name : List ℕ) (r : Option ℕ) → r ≡ place_of cs name → IfSome r (StandsAt cs name)
stands_there cs name r e = go r (rw e (place_of-cases cs name))
  where
    go : (r : Option ℕ) → MatchOption r (type_of cs name ≡ None) (StandsAt cs name) → IfSome r (StandsAt cs name)
    go None m = tt
    go (Some i) m = m

pub stands_nowhere : (cs : Columns) (name : List ℕ) (r : Option ℕ) → r ≡ place_of cs name → IfNone r (type_of cs name ≡ None)
stands_nowhere cs name r e = go r (rw e (place_of-cases cs name))
  where
    go : (r : Option ℕ) → MatchOption r (type_of cs name ≡ None) (StandsAt cs name) → IfNone r (type_of cs name ≡ None)
    go None m = m
    go (Some i) m = tt
