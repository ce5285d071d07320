use Rattle.std.proofs.Common.{◌≡◌, drop}
use Rattle.plan_join_eval.specs.Equal.{none_null}
use Rattle.plan_value.specs.Cells.{cells_of}
use Rattle.plan_join_eval.proofs.equal.may_match.Given as goal

-- no key is null exactly where none of those that are left is
abbrev pub invariant-loop-key : goal.invariant-loop-key
invariant-loop-key l = none_null (cells_of l.keys) l.row ≡ none_null (cells_of (drop l.key-index l.keys)) l.row
