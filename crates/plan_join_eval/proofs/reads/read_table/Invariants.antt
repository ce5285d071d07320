use Rattle.std.proofs.Common.{◌≡◌, map, take}
use Rattle.plan_table.specs.Tables.{types_of}
use Rattle.plan_value.specs.Shown.{columns_shown}
use Rattle.plan_join_eval.specs.Reads.{read_column, read_type}
use Rattle.plan_join_eval.proofs.reads.read_table.Given as goal

-- the columns up to here
abbrev pub invariant-loop-read : goal.invariant-loop-read
invariant-loop-read l = record {
  shown : columns_shown l.columns ≡ map (read_column l.pairs) (take l.read-index l.reads);
  types : types_of l.columns ≡ map read_type (take l.read-index l.reads);
}
