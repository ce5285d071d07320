-- The one frame that a plan gives: where a node is free to give several, the one that is chosen.
use Rattle.std.specs.Prelude.{◌≡◌, ℕ, Bool, true, false, List, [], ◌∷◌, slice_get, unwrap_or}
use Rattle.std.specs.List.{IsDistinct, range_with_len}
use Rattle.std.specs.List.Sorted.{IsPermutation, IsSorted}
use Rattle.std.specs.Ordering.{is_lt, nat_cmp, ordering_then}
use Rattle.std.specs.declared.cmp.Ordering.{Ordering}
use Rattle.plan_tree.specs.Rose.{Roses, rose, no_roses, more}
use Rattle.plan_options.specs.declared.distinct.UniqueKeepStrategy.{UniqueKeepStrategy}
use Rattle.plan_options.specs.declared.distinct.UniqueKeepStrategy.TheVariants as keeps
use Rattle.plan_frame.specs.Frames.{Frame, in_turn, rows_at}
use Rattle.plan_frame.specs.Made.{grouped}
use Rattle.plan_frame.specs.Meaning.{are_alike, places_from}
use Rattle.plan_frame.specs.Orders.{AreKept, key_cells, rows_cmp, told_columns}
use Rattle.plan_join.specs.Matching.{Joins}
use Rattle.plan_join.specs.OwnOrders.{own_told}
use Rattle.plan_ir.specs.Plans.{Op, Plan, distinct, group_by, join, sort, union}
use Rattle.plan_meaning.specs.Contents.{Contents}
use Rattle.plan_meaning.specs.Steps.{OnOne, OnTwo, Step}

-- Rows that are chosen

-- how two rows stand, and by their places where they stand equal
abbrev pub by_place : (ℕ → ℕ → Ordering) → ℕ → ℕ → Ordering
by_place cmp i j = ordering_then (cmp i j) (nat_cmp i j)

-- all rows below a height, none before one that it comes after, near or far; those that stand equal by their places
pub record AreRanked (cmp : ℕ → ℕ → Ordering) (h : ℕ) (rows : List ℕ) : Type 0 where
  pub permutes : IsPermutation (range_with_len 0 h) rows
  pub ranked : IsDistinct (λ i j. is_lt (by_place cmp j i)) rows

-- which of the rows that are the same is kept: the first where any may be
abbrev pub settled : UniqueKeepStrategy → UniqueKeepStrategy
settled keeps.Any = keeps.First
settled keep = keep

-- the first of the rows below a height that are the same as a row
abbrev pub first_same : (ℕ → ℕ → Bool) → ℕ → ℕ → ℕ
first_same same h i = unwrap_or (slice_get (places_from (same i) 0 h) 0) i

-- the rows that are kept of those below a height: where that is asked by their places, else by the first rows that are the same as they
pub record AreChosen (stable : Bool) (keep : UniqueKeepStrategy) (same : ℕ → ℕ → Bool) (h : ℕ) (rows : List ℕ) : Type 0 where
  pub kept : AreKept stable (settled keep) same h rows
  pub by_firsts : stable ≡ false → IsSorted (λ i j. nat_cmp (first_same same h i) (first_same same h j)) rows

-- Frames that are chosen

-- the frame that a node gives from its inputs' frames: of a sort all rows in the order of its keys, those that stand equal as they stand in the input; of a grouping the groups by their first rows; of a join the pairs in the order by both sides; of distinct rows those that are kept, by their places where that is asked, else by the first rows of their groups; of a union the rows of its inputs in turn; and of another node the one that it may give
abbrev pub Chosen : Contents → Op → List Frame → Frame → Type 0
Chosen c (sort keys part options) fs f = OnOne fs (λ g. (rows : List ℕ) × AreRanked (rows_cmp (key_cells keys g) options.descending options.nulls_last) g.height rows × (f ≡ rows_at rows g))
Chosen c (group_by keys aggs schema ordered options) fs f = OnOne fs (λ g. (rows : List ℕ) × AreKept true keeps.First (are_alike (key_cells keys g)) g.height rows × (f ≡ grouped keys aggs rows g))
Chosen c (join left_on right_on schema told) fs f = OnTwo fs (λ g h. Joins (own_told told) left_on right_on g h f)
Chosen c (distinct options) fs f = OnOne fs (λ g. (rows : List ℕ) × AreChosen options.maintain_order options.keep_strategy (are_alike (told_columns options.subset g)) g.height rows × (f ≡ rows_at rows g))
Chosen c (union options) fs f = f ≡ rows_at (range_with_len 0 (in_turn fs).height) (in_turn fs)
Chosen c op fs f = Step c op fs f

-- plans give these frames, one for one: each the frame that its root gives from those that its inputs give
abbrev pub ChooseAll : Contents → Roses (Unit {0}) Op → List Frame → Type 0
ChooseAll c no_roses [] = Unit {0}
ChooseAll c no_roses (f ∷ fs) = ⊥
ChooseAll c (more (rose n op ts) rest) [] = ⊥
ChooseAll c (more (rose n op ts) rest) (f ∷ fs) = ((gs : List Frame) × ChooseAll c ts gs × Chosen c op gs f) × ChooseAll c rest fs

-- a plan gives this frame
abbrev pub Chooses : Contents → Plan → Frame → Type 0
Chooses c (rose n op ts) f = (gs : List Frame) × ChooseAll c ts gs × Chosen c op gs f
