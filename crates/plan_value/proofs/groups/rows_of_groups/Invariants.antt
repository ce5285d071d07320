use Rattle.std.proofs.Common.{◌≡◌, ◌<◌, ℕ, [], get_or, length}
use Rattle.std.specs.Prelude.{nat_eq}
use Rattle.plan_frame.specs.Meaning.{places_from}
use Rattle.plan_value.proofs.groups.rows_of_groups.Given as goal

-- the rows of each group up to here
abbrev pub invariant-loop-row : goal.invariant-loop-row
invariant-loop-row l = record {
  count : length l.rows.items ≡ l.groups.count;
  rows : (g : ℕ) → g < l.groups.count → get_or l.rows.items g [] ≡ places_from (λ i. nat_eq g (get_or l.groups.numbers i 0)) 0 l.row;
}
