use Rattle.std.proofs.Common.{◌≡◌, ◌⊎◌, fold, map}
use Rattle.plan_core.specs.Columns.{HasDistinctNames}
use Rattle.plan_value.specs.Shown.{frame_of, schema_of}
use Rattle.plan_eval.specs.Stacks.{with_below}
use Rattle.plan_eval.proofs.union.above_all.Given as goal

-- the rows so far, and then those that are left, are all rows
abbrev pub invariant-loop-other : goal.invariant-loop-other
invariant-loop-other l = record {
  frame : fold with_below (frame_of l.table) (map frame_of l.other-iterator.rest.items) ≡ fold with_below (frame_of l.fn.first) (map frame_of l.fn.others.items);
  distinct : (l.other-iterator.rest.items ≡ l.fn.others.items) ⊎ HasDistinctNames (schema_of l.fn.first);
  types : schema_of l.table ≡ schema_of l.fn.first;
}
