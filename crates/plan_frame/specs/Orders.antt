-- Orders of rows by keys, and which of the rows that are the same are kept.
use Rattle.std.specs.Prelude.{◌≡◌, ℕ, ◌-◌, suc, ◌<◌, Bool, true, false, not, ◌||◌, List, [], ◌∷◌, map, if◌then◌else◌, Option}
use Rattle.std.specs.List.{AllByRecursion, IsDistinct, list_any, range_with_len}
use Rattle.std.specs.List.Sorted.{IsPermutation, IsSorted}
use Rattle.std.specs.Ordering.{nat_cmp, ordering_reverse, ordering_then}
use Rattle.std.specs.declared.cmp.Ordering.{Ordering}
use Rattle.std.specs.declared.cmp.Ordering.TheVariants.{Less, Equal, Greater}
use Rattle.plan_options.specs.declared.distinct.UniqueKeepStrategy.{UniqueKeepStrategy}
use Rattle.plan_options.specs.declared.distinct.UniqueKeepStrategy.TheVariants as keeps
use Rattle.plan_expr.specs.Exprs.{Named}
use Rattle.plan_expr.specs.Leaves.{Name}
use Rattle.plan_frame.specs.Values.{Value, null, value_cmp}
use Rattle.plan_frame.specs.Frames.{Frame, column_or, column_names, names_or}
use Rattle.plan_frame.specs.Meaning.{Cell, many, val, value_at}

-- Sorts

-- how two values of a key stand: null comes first, or last where that is asked; others as their type orders them, or the other
-- way round where the key descends
abbrev pub key_cmp : Bool → Bool → Value → Value → Ordering
key_cmp descending nulls_last null null = Equal
key_cmp descending nulls_last null w = if nulls_last then Greater else Less
key_cmp descending nulls_last v null = if nulls_last then Less else Greater
key_cmp descending nulls_last v w = if descending then ordering_reverse (value_cmp v w) else value_cmp v w

-- the mark of the first key
abbrev pub first_mark : List Bool → Bool
first_mark [] = false
first_mark (b ∷ bs) = b

-- the marks of the keys after the first; one mark alone is that of all
abbrev pub rest_marks : List Bool → List Bool
rest_marks [] = []
rest_marks (b ∷ []) = b ∷ []
rest_marks (b ∷ c ∷ bs) = c ∷ bs

-- how two rows stand: by the first key that tells them apart
abbrev pub rows_cmp : List Cell → (descending nulls_last : List Bool) → ℕ → ℕ → Ordering
rows_cmp [] descending nulls_last i j = Equal
rows_cmp (c ∷ cs) descending nulls_last i j =
    ordering_then
    (key_cmp (first_mark descending) (first_mark nulls_last) (value_at c i) (value_at c j))
    (rows_cmp cs (rest_marks descending) (rest_marks nulls_last) i j)

-- all rows below a height, none before one that it comes after; where that is asked, those that stand equal by their places
pub record AreSorted (stable : Bool) (cmp : ℕ → ℕ → Ordering) (h : ℕ) (rows : List ℕ) : Type 0 where
  pub permutes : IsPermutation (range_with_len 0 h) rows
  pub sorted : IsSorted cmp rows
  pub ties : stable ≡ true → IsSorted (λ i j. ordering_then (cmp i j) (nat_cmp i j)) rows

-- all rows below a height, where that is asked in their order
pub record AreAll (ordered : Bool) (h : ℕ) (rows : List ℕ) : Type 0 where
  pub permutes : IsPermutation (range_with_len 0 h) rows
  pub in_order : ordered ≡ true → rows ≡ range_with_len 0 h

-- what the keys of a sort are over a frame
abbrev pub key_cells : List Named → Frame → List Cell
key_cells keys f = map (λ (e : Named). val e.expr f) keys

-- Distinct rows

-- a row before this one is the same
abbrev pub has_earlier : (ℕ → ℕ → Bool) → ℕ → Bool
has_earlier same i = list_any (same i) (range_with_len 0 i)

-- a row after this one is the same
abbrev pub has_later : (ℕ → ℕ → Bool) → ℕ → ℕ → Bool
has_later same h i = list_any (same i) (range_with_len (suc i) (h - suc i))

-- whether a row may be kept: of those that are the same the first, the last, or any, or only one that is alone
abbrev pub may_be_kept : UniqueKeepStrategy → (ℕ → ℕ → Bool) → ℕ → ℕ → Bool
may_be_kept keeps.First same h i = not (has_earlier same i)
may_be_kept keeps.Last same h i = not (has_later same h i)
may_be_kept keeps.Any same h i = true
may_be_kept keeps.None same h i = not (has_earlier same i || has_later same h i)

-- whether of a row and those that are the same one must be kept: of those that aren't alone none where only those that are are kept
abbrev pub must_be_kept : UniqueKeepStrategy → (ℕ → ℕ → Bool) → ℕ → ℕ → Bool
must_be_kept keeps.First same h i = true
must_be_kept keeps.Last same h i = true
must_be_kept keeps.Any same h i = true
must_be_kept keeps.None same h i = not (has_earlier same i || has_later same h i)

-- some of the rows below a height: no two are the same, each may be kept, and each that must be kept is the same as one of them;
-- where that is asked, by their places
pub record AreKept (stable : Bool) (keep : UniqueKeepStrategy) (same : ℕ → ℕ → Bool) (h : ℕ) (rows : List ℕ) : Type 0 where
  pub below : AllByRecursion (λ i. i < h) rows
  pub apart : IsDistinct same rows
  pub may : AllByRecursion (λ i. may_be_kept keep same h i ≡ true) rows
  pub must : (i : ℕ) → i < h → must_be_kept keep same h i ≡ true → list_any (same i) rows ≡ true
  pub in_order : stable ≡ true → IsSorted nat_cmp rows

-- the columns in which rows are told apart: those that are told, else all
abbrev pub told_columns : Option (List Name) → Frame → List Cell
told_columns subset f = map (λ (a : Name). many (column_or f a)) (names_or subset (column_names f.columns))
