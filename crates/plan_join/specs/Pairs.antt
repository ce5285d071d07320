-- Which pairs of rows a join gives, by a test of two rows: the one place in which kinds of joins differ.
use Rattle.std.specs.Prelude.{ℕ, Bool, true, false, not, List, [], ◌++◌, map, Some, None, if◌then◌else◌}
use Rattle.std.specs.List.{filter as only_where, flat_map, list_any, range_with_len}
use Rattle.plan_options.specs.declared.join.JoinType.{JoinType}
use Rattle.plan_options.specs.declared.join.JoinType.TheVariants.{Left, Right, Full, Semi, Anti}
use Rattle.plan_join.specs.declared.pairs.RowPair.{RowPair}

-- whether a row of the left side matches one of the right
abbrev pub Test : Type 0
Test = ℕ → ℕ → Bool

-- a row of each side
abbrev pub both : ℕ → ℕ → RowPair
both i j = record { left = Some i; right = Some j }

-- a left row alone
abbrev pub left_alone : ℕ → RowPair
left_alone i = record { left = Some i; right = None }

-- a right row alone
abbrev pub right_alone : ℕ → RowPair
right_alone j = record { left = None; right = Some j }

-- whether a join gives the rows that match as pairs
abbrev pub gives_pairs : JoinType → Bool
gives_pairs Semi = false
gives_pairs Anti = false
gives_pairs _ = true

-- whether it gives a left row alone, by whether one of the right rows matches it
abbrev pub gives_left : JoinType → Bool → Bool
gives_left Left matched = not matched
gives_left Full matched = not matched
gives_left Semi matched = matched
gives_left Anti matched = not matched
gives_left _ matched = false

-- whether it gives a right row alone, by whether it matches one of the left rows
abbrev pub gives_right : JoinType → Bool → Bool
gives_right Right matched = not matched
gives_right Full matched = not matched
gives_right _ matched = false

-- the places below a height that pass a test
abbrev pub passing : (ℕ → Bool) → ℕ → List ℕ
passing test n = only_where test (range_with_len 0 n)

-- whether one of so many right rows matches a left row
abbrev pub is_left_matched : Test → ℕ → ℕ → Bool
is_left_matched test k i = list_any (test i) (range_with_len 0 k)

-- whether a right row matches one of so many left rows
abbrev pub is_right_matched : Test → ℕ → ℕ → Bool
is_right_matched test h j = list_any (λ i. test i j) (range_with_len 0 h)

-- the rows of two sides that match, left row by left row
abbrev pub matched : Test → ℕ → ℕ → List RowPair
matched test h k = flat_map (λ i. map (both i) (passing (test i) k)) (range_with_len 0 h)

-- what a join gives of two sides of these heights: the rows that match, left rows alone, and right rows alone
abbrev pub join_pairs : JoinType → Test → ℕ → ℕ → List RowPair
join_pairs how test h k =
    (if gives_pairs how then matched test h k else [])
    ++ map left_alone (passing (λ i. gives_left how (is_left_matched test k i)) h)
    ++ map right_alone (passing (λ j. gives_right how (is_right_matched test h j)) k)
