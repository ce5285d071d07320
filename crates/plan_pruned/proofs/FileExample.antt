-- A scan worked out: of two text files, each of one year, with numbered rows and their paths.
use Rattle.std.proofs.Common.{◌≡◌, ℕ, pos, true, List, [], ◌∷◌, Option, Some, None, refl}
use Rattle.std.specs.Int.{int_wrap}
use Rattle.std.specs.Prelude.{codes}
use Rattle.plan_core.specs.declared.data_type.DataType.TheVariants as types
use Rattle.plan_core.specs.declared.options.FileScanOptions.{FileScanOptions}
use Rattle.plan_core.specs.declared.options.RowIndex.{RowIndex}
use Rattle.plan_core.specs.Columns.{Columns}
use Rattle.plan_table.specs.declared.value.AnyValue.TheVariants as values
use Rattle.plan_tree.specs.Rose.{rose, no_roses}
use Rattle.plan_expr.specs.Leaves.{Name}
use Rattle.plan_frame.specs.Values.{whole, text}
use Rattle.plan_scan.specs.Sources.{sources_of}
use Rattle.plan_scan.specs.Stats.{Stats, stat}
use Rattle.plan_scan.specs.declared.file_scan.FileScan.TheVariants.{Csv}
use Rattle.plan_scan.specs.declared.sources.ScanSources.{ScanSources}
use Rattle.plan_scan.specs.declared.sources.ScanSources.TheVariants.{Paths}
use Rattle.plan_file_scan.specs.FileFrames.{parts_of, scan_frame}
use Rattle.plan_ir.specs.Plans.{Op, scan, simple_projection, Plan}
use Rattle.plan_meaning.specs.Contents.{Contents, path, frames_of}
use Rattle.plan_pruned.specs.Pruned.{pruned}
use Rattle.plan_pruned.proofs.Example.{node}

abbrev files : ScanSources
files = Paths (codes "s" ∷ codes "t" ∷ [])

abbrev reader : Columns
reader = (codes "a", types.Int64) ∷ (codes "b", types.Int64) ∷ []

-- the year of a file
abbrev year : ℕ → Stats
year n = stat (codes "y", types.Int64) (values.Int64 (pos n)) ∷ []

-- the options of a scan that reads these names, or all, with these columns beside them
abbrev scanning : Option (List Name) → Option RowIndex → Option Name → FileScanOptions → FileScanOptions
scanning told row paths options = record options { with_columns = told; row_index = row; include_file_paths = paths }

-- rows are numbered from 1 on
abbrev from_one : Option RowIndex
from_one = Some (record { name = codes "i"; offset = 1 })

abbrev all_columns : Columns
all_columns = (codes "i", types.Int64) ∷ (codes "a", types.Int64) ∷ (codes "b", types.Int64) ∷ (codes "y", types.Int64) ∷ (codes "p", types.String) ∷ []

abbrev scanned : FileScanOptions → Op
scanned options =
    scan files (record { schema = all_columns; reader_schema = Some reader }) (Some (year 2023 ∷ year 2024 ∷ [])) None None Csv (scanning None from_one (Some (codes "p")) options)

abbrev asked : Columns → FileScanOptions → Plan
asked columns options = node (simple_projection columns) (rose tt (scanned options) no_roses)

-- the path and the year: neither is read, but since the year is asked nothing stands in for the rows; what is put out is in the order of the files
abbrev paths_years : Columns
paths_years = (codes "p", types.String) ∷ (codes "y", types.Int64) ∷ []

pub example_paths_years : (options : FileScanOptions) → pruned true [] (asked paths_years options) ≡ node (simple_projection paths_years) (node (simple_projection paths_years) (rose tt (scan files (record { schema = (codes "a", types.Int64) ∷ (codes "b", types.Int64) ∷ (codes "y", types.Int64) ∷ (codes "p", types.String) ∷ []; reader_schema = Some reader }) (Some (year 2023 ∷ year 2024 ∷ [])) None (Some ((codes "y", types.Int64) ∷ (codes "p", types.String) ∷ [])) Csv (scanning (Some []) None (Some (codes "p")) options)) no_roses))
example_paths_years options = refl

-- the numbers of the rows alone: the first column is read and not put out, and no year is left
abbrev numbers : Columns
numbers = (codes "i", types.Int64) ∷ []

pub example_numbers : (options : FileScanOptions) → pruned true [] (asked numbers options) ≡ node (simple_projection numbers) (node (simple_projection numbers) (rose tt (scan files (record { schema = (codes "i", types.Int64) ∷ (codes "a", types.Int64) ∷ (codes "b", types.Int64) ∷ []; reader_schema = Some reader }) (Some ([] ∷ [] ∷ [])) None (Some numbers) Csv (scanning (Some (codes "a" ∷ [])) from_one None options)) no_roses))
example_numbers options = refl

-- the files have two rows and one
abbrev contents : Contents
contents =
    (path (codes "s"), record { height = 2; columns = record { name = codes "a"; values = whole (pos 5) ∷ whole (pos 6) ∷ [] } ∷ record { name = codes "b"; values = whole (pos 7) ∷ whole (pos 8) ∷ [] } ∷ [] })
    ∷ (path (codes "t"), record { height = 1; columns = record { name = codes "a"; values = whole (pos 9) ∷ [] } ∷ record { name = codes "b"; values = whole (pos 4) ∷ [] } ∷ [] }) ∷ []

-- the frame of the scan
pub example_files : (options : FileScanOptions) → scan_frame (codes "i" ∷ codes "a" ∷ codes "y" ∷ codes "p" ∷ []) (scanning None from_one (Some (codes "p")) options) (parts_of (Some (year 2023 ∷ year 2024 ∷ [])) (sources_of files) (frames_of contents files)) ≡ record {
  height = 3;
  columns =
      record { name = codes "i"; values = whole (pos 1) ∷ whole (pos 2) ∷ whole (pos 3) ∷ [] }
      ∷ record { name = codes "a"; values = whole (pos 5) ∷ whole (pos 6) ∷ whole (pos 9) ∷ [] }
      ∷ record { name = codes "y"; values = whole (pos 2023) ∷ whole (pos 2023) ∷ whole (pos 2024) ∷ [] }
      ∷ record { name = codes "p"; values = text (codes "s") ∷ text (codes "s") ∷ text (codes "t") ∷ [] } ∷ [];
}
unfolding int_wrap
example_files options = refl
