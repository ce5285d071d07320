-- Checks on items outside plans, made one after another.
use Rattle.std.proofs.Common.{◌≡◌, ℕ, zero, suc, ◌+◌, ◌≤◌, min, Bool, true, false, cond, not, List, [], ◌∷◌, ◌++◌, length, drop, Option, Some, None, refl, sym, ap, ◌∙◌, add-one, if◌then◌else◌}
use Rattle.std.specs.List.{slice_get}
use Rattle.plan_core.specs.declared.error.At.{At}
use Rattle.plan_core.specs.declared.error.PolarsError.{PolarsError}
use Rattle.plan_core.specs.declared.error.PolarsError.TheVariants.{Duplicate, SchemaFieldNotFound}
use Rattle.plan_core.specs.Columns.{Columns}
use Rattle.plan_core.specs.Errors.{item_at}
use Rattle.plan_core.specs.Names.{has, AreDistinct}
use Rattle.plan_expr.specs.Leaves.{Name}
use Rattle.plan_meaning.specs.Checks.{Check, each, each_new, is_known}
use Rattle.plan_meaning.specs.Typing.{or_fault, AllHold}
use Rattle.plan_meaning.proofs.CheckParts.{hold_back}
use Rattle.plan_meaning.proofs.KeptExprs.{new_distinct}
use Rattle.plan_schema.proofs.CheckLemmas.{drop-at, drop-end}
use Rattle.plan_builder.specs.Picks.{first_item_fault, name_checks}

-- checks, and then others
pub item_append : (cs ds : List Check) → first_item_fault (cs ++ ds) ≡ or_fault (first_item_fault cs) (first_item_fault ds)
item_append [] ds = refl
item_append (c ∷ cs) ds = go c.holds (item_append cs ds)
  where
    go : (b : Bool) → first_item_fault (cs ++ ds) ≡ or_fault (first_item_fault cs) (first_item_fault ds) → (if b then first_item_fault (cs ++ ds) else Some (c.fault (item_at (min c.place 4294967295)))) ≡ or_fault (if b then first_item_fault cs else Some (c.fault (item_at (min c.place 4294967295)))) (first_item_fault ds)
    go true e = e
    go false e = refl

module _ {A : Type 0} (fault : At → PolarsError) (holds : A → Bool) (xs : List A) where
  -- the checks from a place on say what all of them say
  pub record Left (i : ℕ) : Type 0 where
    pub same : first_item_fault (each fault i holds (drop i xs)) ≡ first_item_fault (each fault 0 holds xs)

  pub left-all : Left 0
  left-all = record { same = refl }

  opened : (i : ℕ) (x : A) → slice_get xs i ≡ Some x → first_item_fault (each fault i holds (drop i xs)) ≡ first_item_fault (each fault i holds (x ∷ drop (suc i) xs))
  opened i x e = ap (λ (l : List A). first_item_fault (each fault i holds l)) (drop-at xs i x e)

  pub left-next : (i : ℕ) (x : A) → Left i → slice_get xs i ≡ Some x → holds x ≡ true → Left (i + 1)
  left-next i x l e good =
      let step : first_item_fault (each fault i holds (x ∷ drop (suc i) xs)) ≡ first_item_fault (each fault (suc i) holds (drop (suc i) xs)) = rw good refl in
      record { same = rw (add-one i) (sym step ∙ sym (opened i x e) ∙ l.same) }

  pub left-bad : (i : ℕ) (x : A) → Left i → slice_get xs i ≡ Some x → holds x ≡ false → first_item_fault (each fault 0 holds xs) ≡ Some (fault (item_at (min i 4294967295)))
  left-bad i x l e bad =
      let step : first_item_fault (each fault i holds (x ∷ drop (suc i) xs)) ≡ Some (fault (item_at (min i 4294967295))) = rw bad refl in
      sym l.same ∙ opened i x e ∙ step

  pub left-end : (i : ℕ) → Left i → length xs ≤ i → first_item_fault (each fault 0 holds xs) ≡ None
  left-end i l h = sym l.same ∙ ap (λ (l : List A). first_item_fault (each fault i holds l)) (drop-end xs i h)

holds_first : (b : Bool) (rest : Option PolarsError) (f : PolarsError) → (if b then rest else Some f) ≡ None → (b ≡ true) × (rest ≡ None)
holds_first true rest f e = (refl, e)
holds_first false rest f e = cc

-- where all hold, one holds
pub each-holds : {A : Type 0} (fault : At → PolarsError) (k : ℕ) (holds : A → Bool) (xs : List A) (i : ℕ) (x : A) → first_item_fault (each fault k holds xs) ≡ None → slice_get xs i ≡ Some x → holds x ≡ true
each-holds fault k holds [] i x h e = cc
each-holds fault k holds (y ∷ ys) zero x h e = let q : y ≡ x = cc in ap holds (sym q) ∙ (holds_first (holds y) (first_item_fault (each fault (suc k) holds ys)) (fault (item_at (min k 4294967295))) h).0
each-holds fault k holds (y ∷ ys) (suc i) x h e = each-holds fault (suc k) holds ys i x (holds_first (holds y) (first_item_fault (each fault (suc k) holds ys)) (fault (item_at (min k 4294967295))) h).1 e

-- no name so far is one before it, and the checks from a place on say what all of them say
pub record NewLeft (names before : List Name) (i : ℕ) : Type 0 where
  pub same : first_item_fault (each_new i before (drop i names)) ≡ first_item_fault (each_new 0 [] names)

pub new-all : (names : List Name) → NewLeft names [] 0
new-all names = record { same = refl }

new_fault : (before names : List Name) (i : ℕ) (a : Name) → slice_get names i ≡ Some a → first_item_fault (each_new i before (drop i names)) ≡ (if not (has before a) then first_item_fault (each_new (suc i) (before ++ a ∷ []) (drop (suc i) names)) else Some (Duplicate (item_at (min i 4294967295))))
new_fault before names i a e = ap (λ (l : List Name). first_item_fault (each_new i before l)) (drop-at names i a e)

pub new-next : (names before : List Name) (i : ℕ) (a : Name) → NewLeft names before i → slice_get names i ≡ Some a → has before a ≡ false → NewLeft names (before ++ a ∷ []) (i + 1)
new-next names before i a l e new =
    let step : first_item_fault (each_new i before (drop i names)) ≡ first_item_fault (each_new (suc i) (before ++ a ∷ []) (drop (suc i) names)) = new_fault before names i a e ∙ rw new refl in
    record { same = rw (add-one i) (sym step ∙ l.same) }

pub new-bad : (names before : List Name) (i : ℕ) (a : Name) → NewLeft names before i → slice_get names i ≡ Some a → has before a ≡ true → first_item_fault (each_new 0 [] names) ≡ Some (Duplicate (item_at (min i 4294967295)))
new-bad names before i a l e old =
    let step : first_item_fault (each_new i before (drop i names)) ≡ Some (Duplicate (item_at (min i 4294967295))) = new_fault before names i a e ∙ rw old refl in
    sym l.same ∙ step

pub new-end : (names before : List Name) (i : ℕ) → NewLeft names before i → length names ≤ i → first_item_fault (each_new 0 [] names) ≡ None
new-end names before i l h = sym l.same ∙ ap (λ (l : List Name). first_item_fault (each_new i before l)) (drop-end names i h)

-- checks that tell no fault hold
none_hold : (cs : List Check) → first_item_fault cs ≡ None → AllHold cs
none_hold [] e = tt
none_hold (c ∷ cs) e = at c.holds refl (λ q. none_hold cs q) e
  where
    at : (b : Bool) → c.holds ≡ b → (first_item_fault cs ≡ None → AllHold cs) → cond b (first_item_fault cs) (Some (c.fault (item_at (min c.place 4294967295)))) ≡ None → AllHold (c ∷ cs)
    at true h rest e = (h, rest e)
    at false h rest e = cc

-- names of which none is told to be one before it are distinct
pub names_distinct : (names : List Name) (s : Columns) → first_item_fault (name_checks names s) ≡ None → AreDistinct names
names_distinct names s e = new_distinct 0 [] names (hold_back (each SchemaFieldNotFound 0 (is_known s) names) (each_new 0 [] names) (none_hold (name_checks names s) e))
