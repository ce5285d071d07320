use Rattle.std.proofs.Common.{◌≡◌, take}
use Rattle.plan_core.specs.Columns.{HasDistinctNames}
use Rattle.plan_options.specs.Schemas.{all_columns}
use Rattle.plan_options.proofs.schemas.merge_schemas.Given as goal

-- the columns of the schemas so far, whose names are distinct
abbrev pub invariant-loop-place : goal.invariant-loop-place
invariant-loop-place l = record {
  columns : l.merged ≡ all_columns (take l.place l.schemas);
  distinct : HasDistinctNames l.merged;
}
