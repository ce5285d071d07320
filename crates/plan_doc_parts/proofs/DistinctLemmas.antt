-- Entries that are read one after another, no key twice.
use Rattle.std.proofs.Common.{◌≡◌, ℕ, ◌+◌, ◌<◌, Bool, true, false, cond, ◌&&◌, ◌||◌, not, List, [], ◌∷◌, ◌++◌, length, map, take, drop, get_or, Option, Some, None, refl, sym, ap, ◌∙◌, take-append-drop}
use Rattle.std.specs.List.{list_any}
use Rattle.std.proofs.lemmas.List.{map-append, take_more, drop_more}
use Rattle.std.proofs.lemmas.List.Folds.{list_any-append}
use Rattle.serde_json.specs.Data.{Data}
use Rattle.serde_json.specs.View.{view}
use Rattle.serde_json.specs.declared.value.Value.{Value}
use Rattle.plan_doc_parts.specs.declared.fault.Fault.{Fault}
use Rattle.plan_doc_parts.specs.declared.fault.Fault.TheVariants.{Form, Memory}
use Rattle.plan_doc_parts.specs.Gives.{Fails}
use Rattle.plan_doc_parts.specs.Parts.{◌>>=◌, each, are_distinct}
use Rattle.plan_doc_parts.proofs.EntryLemmas.{joined, late, cut}

-- what a test of two parts says
pub none_of : (a d : Bool) → (not a && d) ≡ true → (a ≡ false) × (d ≡ true)
none_of true d k = absurd cc
none_of false d k = (refl, k)

pub none_else : (a b : Bool) → (a || b) ≡ false → (a ≡ false) × (b ≡ false)
none_else true b k = absurd cc
none_else false b k = (refl, k)

found : (a r d : Bool) → (not (a || (true || r)) && d) ≡ false
found true r d = refl
found false r d = refl

neither : (a : Bool) → (a && false) ≡ false
neither true = refl
neither false = refl

-- what a look-up says of the rest of a list, and of a test that goes over the same keys
pub absent_or : {A : Type 0} (b r : Bool) (x : A) (o : Option A) → cond b (Some x) o ≡ None → (o ≡ None → r ≡ false) → (b ≡ false) × (r ≡ false)
absent_or true r x o e more = absurd cc
absent_or false r x o e more = (refl, more e)

pub there_or : {A : Type 0} (b r : Bool) (x y : A) (o : Option A) → cond b (Some x) o ≡ Some y → (o ≡ Some y → r ≡ true) → (b || r) ≡ true
there_or true r x y o e more = refl
there_or false r x y o e more = more e

pub either_false : (a b : Bool) → (a ≡ false) × (b ≡ false) → (a || b) ≡ false
either_false a b p = rw (p.0, p.1) refl

module _ {K : Type 0} (same : K → K → Bool) (k : K) where
  -- a key that is not there leaves the keys distinct
  pub distinct_last : (ks : List K) → list_any (same k) ks ≡ false → are_distinct same ks ≡ true → are_distinct same (ks ++ k ∷ []) ≡ true
  distinct_last [] e h = refl
  distinct_last (j ∷ ks) e h =
      let p = none_else (same k j) (list_any (same k) ks) e in
      let both = none_of (list_any (λ m. same m j) ks) (are_distinct same ks) h in
      rw (list_any-append (λ m. same m j) ks (k ∷ []), both.0, p.0, distinct_last ks p.1 both.1) refl

  -- a key that is there stands twice then
  pub distinct_twice : (ks rest : List K) → list_any (same k) ks ≡ true → are_distinct same (ks ++ k ∷ rest) ≡ false
  distinct_twice [] rest e = absurd cc
  distinct_twice (j ∷ ks) rest e = by_test (same k j) refl e (distinct_twice ks rest)
    where
      by_test : (b : Bool) → same k j ≡ b → (b || list_any (same k) ks) ≡ true → (list_any (same k) ks ≡ true → are_distinct same (ks ++ k ∷ rest) ≡ false) → are_distinct same (j ∷ ks ++ k ∷ rest) ≡ false
      by_test true q e later = rw (list_any-append (λ m. same m j) ks (k ∷ rest), q) (found (list_any (λ m. same m j) ks) (list_any (λ m. same m j) rest) (are_distinct same (ks ++ k ∷ rest)))
      by_test false q e later = rw (later e) (neither (not (list_any (λ m. same m j) (ks ++ k ∷ rest))))

module _ {A : Type 0} (f : Data → Option A) (vs : List Value) (i : ℕ) (v : Value) (lt : i < length vs) (here : v ≡ get_or vs i v) where
  -- what stands before it, it, and what stands behind
  split : vs ≡ take i vs ++ v ∷ drop (i + 1) vs
  split = sym (take-append-drop i vs) ∙ ap (λ (l : List Value). take i vs ++ l) (drop_more vs i v lt ∙ ap (λ (w : Value). w ∷ drop (i + 1) vs) (sym here))

  -- an entry that stands for nothing
  pub no_entry : {B : Type 0} (all : List A → Option B) (e : Fault) → Fails e (f (view v)) → Fails e (each f (map view vs) >>= all)
  no_entry all Memory h = tt
  no_entry all Form h =
      let none : each f (map view vs) ≡ None =
      ap (λ (l : List Value). each f (map view l)) split ∙ rw (map-append view (take i vs) (v ∷ drop (i + 1) vs)) (cut f (map view (take i vs)) (map view (drop (i + 1) vs)) (view v) h) in
      rw none refl

  module _ (xs : List A) (x : A) (before : each f (map view (take i vs)) ≡ Some xs) (now : f (view v) ≡ Some x) where
    -- one entry more
    pub next_entry : each f (map view (take (i + 1) vs)) ≡ Some (xs ++ x ∷ [])
    next_entry =
        let one : each f (view v ∷ []) ≡ Some (x ∷ []) = rw now refl in
        let more : take (i + 1) vs ≡ take i vs ++ v ∷ [] = take_more vs i v lt ∙ ap (λ (w : Value). take i vs ++ w ∷ []) (sym here) in
        rw (more, map-append view (take i vs) (v ∷ [])) (joined f (map view (take i vs)) (view v ∷ []) xs (x ∷ []) before one)

    -- an entry that no list may go on with
    pub entry_twice : {B : Type 0} (all : List A → Option B) → ((rest : List A) → all (xs ++ x ∷ rest) ≡ None) → (each f (map view vs) >>= all) ≡ None
    entry_twice all never = ap (λ (l : List Value). each f (map view l) >>= all) split ∙ rw (map-append view (take i vs) (v ∷ drop (i + 1) vs)) (by_rest (each f es) refl)
      where
        es : List Data
        es = map view (drop (i + 1) vs)

        by_rest : (o : Option (List A)) → each f es ≡ o → (each f (map view (take i vs) ++ view v ∷ es) >>= all) ≡ None
        by_rest None q =
            let none : each f (view v ∷ es) ≡ None = rw (now, q) refl in
            rw (late f (map view (take i vs)) (view v ∷ es) none) refl
        by_rest (Some rest) q =
            let some : each f (view v ∷ es) ≡ Some (x ∷ rest) = rw (now, q) refl in
            rw (joined f (map view (take i vs)) (view v ∷ es) xs (x ∷ rest) before some) (never rest)
