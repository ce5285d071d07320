use Rattle.std.proofs.Common.{◌≡◌, ℕ, map, if◌then◌else◌}
use Rattle.std.specs.List.{range_with_len}
use Rattle.plan_frame.specs.Meaning.{value_at}
use Rattle.plan_frame.specs.Values.{is_true}
use Rattle.plan_value.specs.Cells.{cell_of}
use Rattle.plan_value.specs.Shown.{values_of}
use Rattle.plan_value.proofs.choices.chosen.Given as goal

-- what is chosen in the rows up to here
abbrev pub invariant-loop-row : goal.invariant-loop-row
invariant-loop-row l =
    values_of l.values
    ≡ map
    (λ (i : ℕ). if is_true (value_at (cell_of l.predicate) i) then value_at (cell_of l.truthy) i else value_at (cell_of l.falsy) i)
    (range_with_len 0 l.row)
