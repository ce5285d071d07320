-- Which joins give pairs of two rows alone, and tests of pairs by one condition more.
use Rattle.std.specs.Prelude.{◌≡◌, Bool, true, false, ◌&&◌}
use Rattle.plan_options.specs.declared.join.JoinType.{JoinType}
use Rattle.plan_join.specs.declared.pairs.RowPair.{RowPair}
use Rattle.plan_join.specs.Pairs.{Test, both, gives_pairs, gives_left, gives_right}

-- a test of two rows by one condition more: that of a filter over the pair
abbrev pub more_by : Test → (RowPair → Bool) → Test
more_by test keep i j = test i j && keep (both i j)

-- a kind of joins gives pairs of two rows alone
pub record GivesPairs (how : JoinType) : Type 0 where
  pub pairs : gives_pairs how ≡ true
  pub lefts : (b : Bool) → gives_left how b ≡ false
  pub rights : (b : Bool) → gives_right how b ≡ false
