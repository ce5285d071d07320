-- What is given of each row of the side that is gone through, and then of the other side.
use Rattle.std.specs.Prelude.{ℕ, Bool, true, false, not, ◌||◌, List, [], ◌∷◌, ◌++◌, map, length, Option, Some, None, get_or, nat_eq, if◌then◌else◌}
use Rattle.std.specs.List.{flat_map, list_any, range_with_len}
use Rattle.plan_options.specs.declared.join.JoinType.{JoinType}
use Rattle.plan_join.specs.declared.matches.Matches.{Matches}
use Rattle.plan_join.specs.declared.pairs.RowPair.{RowPair}
use Rattle.plan_join.specs.Pairs.{gives_left, gives_pairs, gives_right, passing}
use Rattle.plan_join.specs.Rows.{matches_of}

-- a pair, by its row of the side that is gone through, which is the right one or the left, and its row of the other
abbrev pub as_pair : (by_right : Bool) → (row other : Option ℕ) → RowPair
as_pair true row other = record { left = other; right = row }
as_pair false row other = record { left = row; right = other }

-- whether a join gives a row of a side alone, of the right one or of the left
abbrev pub gives_alone : (of_right : Bool) → JoinType → (matched : Bool) → Bool
gives_alone true how matched = gives_right how matched
gives_alone false how matched = gives_left how matched

-- a row with each of others
abbrev pub pairs_with : (by_right : Bool) → ℕ → List ℕ → List RowPair
pairs_with by_right i js = map (λ j. as_pair by_right (Some i) (Some j)) js

-- whether there is one
abbrev pub is_any : List ℕ → Bool
is_any [] = false
is_any (j ∷ js) = true

-- what a join gives of a row, by those that match it
abbrev pub row_given : (by_right : Bool) → JoinType → ℕ → List ℕ → List RowPair
row_given by_right how i js =
    (if gives_pairs how then pairs_with by_right i js else [])
    ++ (if gives_alone by_right how (is_any js) then as_pair by_right (Some i) None ∷ [] else [])

-- whether a row of the other side matches one of the first rows
abbrev pub is_met : Matches → ℕ → ℕ → Bool
is_met m n j = list_any (λ i. list_any (nat_eq j) (matches_of m i)) (range_with_len 0 n)

-- marks with those at some places set
abbrev pub marked : List Bool → List ℕ → List Bool
marked bs js = map (λ j. get_or bs j false || list_any (nat_eq j) js) (range_with_len 0 (length bs))

-- what a join gives of the other side
abbrev pub others_given : (by_right : Bool) → JoinType → Matches → List RowPair
others_given by_right how m =
    map (λ j. as_pair by_right None (Some j)) (passing (λ j. gives_alone (not by_right) how (is_met m (length m.numbers) j)) m.others)

-- what it gives of the rows of the side that is gone through, and then of the other side
abbrev pub all_given : (by_right : Bool) → JoinType → Matches → List RowPair
all_given by_right how m = flat_map (λ i. row_given by_right how i (matches_of m i)) (range_with_len 0 (length m.numbers)) ++ others_given by_right how m
