-- Lists that are made one item after another.
use Rattle.std.proofs.Common.{◌≡◌, ◌∙◌, Bor, not, is_some, ℕ, ◌+◌, Bool, true, false, List, [], ◌∷◌, ◌++◌, fold, map, take, Option, Some, None, unwrap_or, sym, ap, ap₂, refl}
use Rattle.std.specs.List.{slice_get}
use Rattle.std.specs.Option.{option_copied}
use Rattle.std.proofs.lemmas.List.{map-append}
use Rattle.std.proofs.lemmas.List.Sums.{fold-append}
use Rattle.plan_core.specs.Columns.{Columns, names_of, type_of, with_type}
use Rattle.plan_core.specs.declared.data_type.DataType.{DataType}
use Rattle.plan_core.specs.declared.data_type.DataType.TheVariants.{Int64}
use Rattle.plan_core.specs.Names.{has, AreDistinct}
use Rattle.plan_expr.specs.Leaves.{Name}
use Rattle.plan_expr.proofs.ListLemmas.{take-next}
use Rattle.plan_frame.specs.Beside.{with_new}
use Rattle.plan_join.proofs.ColumnLemmas.{has-typed, with_type-absent}
use Rattle.plan_pruned.specs.JoinPruned.{first_of_each, named_now}
use Rattle.plan_pruned.proofs.FirstColumns.{with_new-last}
use Rattle.plan_pruned.proofs.ListSteps.{before_differ, has-differs}

pub map-next : {A B : Type 0} (f : A → B) (xs : List A) (i : ℕ) (x : A) → slice_get xs i ≡ Some x → map f (take i xs) ++ f x ∷ [] ≡ map f (take (i + 1) xs)
map-next f xs i x e = sym (ap (map f) (take-next xs i x e) ∙ map-append f (take i xs) (x ∷ []))

-- of each name the first

with_new-there : (s : Columns) (c : Name × DataType) → has (names_of s) c.0 ≡ true → with_new s c ≡ s
with_new-there s c h = rw h refl

-- a name that is there isn't added
pub first-there : (made left whole : Columns) (c : Name × DataType) (all : Columns) → whole ≡ c ∷ left → has (names_of made) c.0 ≡ true → fold with_new made whole ≡ all → fold with_new made left ≡ all
first-there made left whole c all is h e = ap (λ (s : Columns). fold with_new s left) (sym (with_new-there made c h)) ∙ ap (fold with_new made) (sym is) ∙ e

-- another is, last
pub first-last : (made left whole : Columns) (c : Name × DataType) (all : Columns) → whole ≡ c ∷ left → has (names_of made) c.0 ≡ false → fold with_new made whole ≡ all → fold with_new (made ++ c ∷ []) left ≡ all
first-last made left whole c all is h e = ap (λ (s : Columns). fold with_new s left) (sym (with_new-last made c h)) ∙ ap (fold with_new made) (sym is) ∙ e

-- a look-up finds nothing exactly where no column has the name
pub looked_up : (cs : Columns) (a : Name) (o : Option (Bor DataType)) (r b : Bool) → option_copied o ≡ type_of cs a → is_some o ≡ not r → r ≡ b → has (names_of cs) a ≡ not b
looked_up cs a o r b is none e = sym (has-typed cs a) ∙ ap (λ (x : Option DataType). is_some x) (sym is) ∙ copied o ∙ none ∙ ap not e
  where
    copied : (o : Option (Bor DataType)) → is_some (option_copied o) ≡ is_some o
    copied None = refl
    copied (Some d) = refl

-- one name more, with the type of the column that it is now
pub named-next : (now : Name → Name) (columns made : Columns) (asked : List Name) (i : ℕ) (a b : Name) (d : DataType) → AreDistinct asked → slice_get asked i ≡ Some a → made ≡ named_now now columns (take i asked) → b ≡ a → d ≡ unwrap_or (type_of columns (now a)) Int64 → with_type made b d ≡ named_now now columns (take (i + 1) asked)
named-next now columns made asked i a b d distinct here is same typed =
    ap₂ (λ (x : Name) (y : DataType). with_type made x y) same typed
    ∙ with_type-absent made a (unwrap_or (type_of columns (now a)) Int64) (has-typed made a ∙ ap (λ (l : List Name). has l a) (ap names_of is ∙ names (take i asked)) ∙ has-differs (take i asked) a (before_differ asked i a distinct here))
    ∙ ap (λ (s : Columns). s ++ (a, unwrap_or (type_of columns (now a)) Int64) ∷ []) is
    ∙ map-next (λ (x : Name). (x, unwrap_or (type_of columns (now x)) Int64)) asked i a here
  where
    names : (l : List Name) → names_of (named_now now columns l) ≡ l
    names [] = refl
    names (x ∷ l) = ap (λ (m : List Name). x ∷ m) (names l)

-- with others behind them
pub first-behind : (cs others : Columns) → first_of_each cs ≡ cs → fold with_new cs others ≡ first_of_each (cs ++ others)
first-behind cs others h = ap (λ (s : Columns). fold with_new s others) (sym h) ∙ sym (fold-append with_new [] cs others)
