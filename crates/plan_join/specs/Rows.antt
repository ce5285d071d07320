-- Which rows of one side match each row of the other.
use Rattle.std.specs.Prelude.{◌≡◌, ◌<◌, ℕ, Bool, true, false, List, [], length, Option, Some, None, get_or}
use Rattle.plan_options.specs.declared.join.JoinType.{JoinType}
use Rattle.plan_options.specs.declared.join.MaintainOrderJoin.{MaintainOrderJoin}
use Rattle.plan_options.specs.declared.join.MaintainOrderJoin.TheVariants as orders
use Rattle.plan_join.specs.declared.matches.Matches.{Matches}
use Rattle.plan_join.specs.Pairs.{Test, gives_pairs, passing}

-- the list of a number, or none
abbrev pub listed_at : List (List ℕ) → Option ℕ → List ℕ
listed_at lists None = []
listed_at lists (Some n) = get_or lists n []

-- the rows that match a row
abbrev pub matches_of : Matches → ℕ → List ℕ
matches_of m i = listed_at m.lists.items (get_or m.numbers i None)

-- a test of two rows with the rows of the sides the other way round
abbrev pub flipped : Test → Test
flipped test i j = test j i

-- so many rows are matched with those of another side, of so many, that pass the test, each with them in order
pub record AreMatches (test : Test) (h k : ℕ) (m : Matches) : Type 0 where
  pub rows : length m.numbers ≡ h
  pub others : m.others ≡ k
  pub each : (i : ℕ) → i < h → matches_of m i ≡ passing (test i) k

-- whether a join goes through its right rows, and matches left ones with them: where pairs are asked by their right rows first
abbrev pub goes_right : JoinType → MaintainOrderJoin → Bool
goes_right how orders.Right = gives_pairs how
goes_right how orders.RightLeft = gives_pairs how
goes_right how _ = false

-- the rows of the side that is gone through are matched with those of the other
abbrev pub AreJoined : Bool → Test → ℕ → ℕ → Matches → Type 0
AreJoined true test h k m = AreMatches (flipped test) k h m
AreJoined false test h k m = AreMatches test h k m
