-- The options that scans and projections have where nothing else is said, and those of two projections together.
use Rattle.std.specs.Prelude.{true, false, ◌&&◌, ◌||◌, Some, None}
use Rattle.plan_core.specs.declared.options.ProjectionOptions.{ProjectionOptions}
use Rattle.plan_core.specs.declared.options.HiveOptions.{HiveOptions}
use Rattle.plan_core.specs.declared.options.FileScanOptions.{FileScanOptions}

-- folders name columns, which are found in the paths from their first byte on
abbrev pub default_hive : HiveOptions
default_hive = record { enabled = Some true; hive_start_idx = 0; schema = None; try_parse_dates = true }

-- every row and column, nothing added, no file counted
abbrev pub default_scan : FileScanOptions
default_scan = record {
  slice = None;
  with_columns = None;
  cache = false;
  row_index = None;
  rechunk = false;
  file_counter = 0;
  hive_options = default_hive;
  glob = false;
  include_file_paths = None;
  allow_missing_columns = false;
}

-- everything is allowed
abbrev pub default_projection : ProjectionOptions
default_projection = record { run_parallel = true; duplicate_check = true; should_broadcast = true }

-- what both may do, what both look for, and whether one of them spreads
abbrev pub merged : ProjectionOptions → ProjectionOptions → ProjectionOptions
merged o p = record {
  run_parallel = o.run_parallel && p.run_parallel;
  duplicate_check = o.duplicate_check && p.duplicate_check;
  should_broadcast = o.should_broadcast || p.should_broadcast;
}
