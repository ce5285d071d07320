-- The scans that the entries of a document stand for.
use Rattle.std.specs.Prelude.{ℕ, List, [], ◌∷◌, Option, Some, None, is_some, if◌then◌else◌, codes, bytes_eq}
use Rattle.serde_json.specs.Data.{Data}
use Rattle.serde_json.specs.Find.{get}
use Rattle.plan_core.specs.Columns.{Columns}
use Rattle.plan_core.specs.Options.{default_scan}
use Rattle.plan_core.specs.declared.options.FileScanOptions.{FileScanOptions}
use Rattle.plan_core.specs.declared.options.RowIndex.{RowIndex}
use Rattle.plan_expr.specs.declared.expr_ir.ExprIR.{ExprIR}
use Rattle.plan_scan.specs.Stats.{Stats}
use Rattle.plan_scan.specs.declared.file_scan.FileScan.{FileScan}
use Rattle.plan_scan.specs.declared.file_scan.FileScan.TheVariants as kinds
use Rattle.plan_scan.specs.declared.sources.ScanSources.{ScanSources}
use Rattle.plan_scan.specs.declared.sources.ScanSources.TheVariants as sources
use Rattle.plan_ir.specs.declared.scan.FileInfo.{FileInfo}
use Rattle.plan_ir.specs.declared.ir.IR.{IR}
use Rattle.plan_ir.specs.declared.ir.IR.TheVariants as nodes
use Rattle.plan_doc_parts.specs.Parts.{◌>>=◌, nullable, name_of, number_of, numbers_of, truth_of, two_of, names_of, columns_of, output_of, slice_of}
use Rattle.plan_doc_parts.specs.Members.{object_of, at}
use Rattle.plan_doc_scans.specs.Hive.{hive_parts_of}

-- the format of the files
unfoldable pub kind_of : Data → Option FileScan
kind_of d = do
  s ← name_of d
  if bytes_eq s (codes "Csv") then Some kinds.Csv else (
      if bytes_eq s (codes "NDJson") then Some kinds.NDJson else (
      if bytes_eq s (codes "Parquet") then Some kinds.Parquet else (
      if bytes_eq s (codes "Ipc") then Some kinds.Ipc else None)))

-- an object of paths
unfoldable pub paths_of : Data → Option ScanSources
paths_of d = do
  o ← object_of (codes "paths" ∷ []) d
  ps ← at (codes "paths") names_of o
  Some (sources.Paths ps)

-- an object of the numbers of buffers
unfoldable pub buffers_of : Data → Option ScanSources
buffers_of d = do
  o ← object_of (codes "buffers" ∷ []) d
  ns ← at (codes "buffers") numbers_of o
  Some (sources.Buffers ns)

-- the paths or the buffers of an object of one key
abbrev pub sources_of : Data → Option ScanSources
sources_of d = if is_some (get (codes "buffers") d) then buffers_of d else paths_of d

-- where the rows are, and the format of the files
unfoldable pub files_of : Data → Option (ScanSources × FileScan)
files_of o = do
  kind ← get (codes "kind") o
  k ← kind_of kind
  value ← get (codes "sources") o
  from ← sources_of value
  Some (from, k)

-- what the files hold
unfoldable pub file_info_of : Data → Option FileInfo
file_info_of o = do
  s ← at (codes "schema") columns_of o
  r ← at (codes "reader") (nullable columns_of) o
  Some (record { schema = s; reader_schema = r })

-- the name of the column that numbers the rows, and the number of the first row
unfoldable pub row_index_of : Data → Option RowIndex
row_index_of d = do
  p ← two_of d
  n ← name_of p.0
  k ← number_of p.1
  Some (record { name = n; offset = k })

-- what a scan puts beside the columns of its files: the column that numbers the rows, and the name of one with the path of each row
unfoldable pub beside_of : Data → Option (Option RowIndex × Option (List ℕ))
beside_of o = do
  i ← at (codes "row_index") (nullable row_index_of) o
  p ← at (codes "path_column") (nullable name_of) o
  Some (i, p)

-- what is read of the files, and what is put beside it; the rest is as by default
unfoldable pub file_options_of : Data → Option FileScanOptions
file_options_of o = do
  c ← at (codes "columns") (nullable names_of) o
  r ← at (codes "rechunk") truth_of o
  s ← at (codes "slice") (nullable slice_of) o
  b ← beside_of o
  Some (record default_scan { slice = s; with_columns = c; row_index = b.0; rechunk = r; include_file_paths = b.1 })

-- where the rows are, the format of the files, and the hive columns of each source
unfoldable pub read_of : Data → Option ((ScanSources × FileScan) × Option (List Stats))
read_of o = do
  files ← files_of o
  hive ← at (codes "hive") (nullable hive_parts_of) o
  Some (files, hive)

-- the columns that are given, where they are named, and which rows
unfoldable pub given_of : Data → Option (Option Columns × Option ExprIR)
given_of o = do
  out ← at (codes "output") (nullable columns_of) o
  p ← at (codes "predicate") (nullable output_of) o
  Some (out, p)

-- what the files hold, and what is read of them
unfoldable pub held_of : Data → Option (FileInfo × FileScanOptions)
held_of o = do
  info ← file_info_of o
  options ← file_options_of o
  Some (info, options)

-- the keys of a scan
unfoldable pub scan_keys : List (List ℕ)
scan_keys = codes "columns" ∷ codes "hive" ∷ codes "kind" ∷ codes "op" ∷ codes "output" ∷ codes "path_column" ∷ codes "predicate" ∷ codes "reader" ∷ codes "rechunk" ∷ codes "row_index" ∷ codes "schema" ∷ codes "slice" ∷ codes "sources" ∷ []

-- rows of files
unfoldable pub scan_of : Data → Option IR
scan_of d = do
  o ← object_of scan_keys d
  files ← files_of o
  hive ← at (codes "hive") (nullable hive_parts_of) o
  out ← at (codes "output") (nullable columns_of) o
  p ← at (codes "predicate") (nullable output_of) o
  info ← file_info_of o
  options ← file_options_of o
  Some (nodes.Scan files.0 info hive p out files.1 options)

-- the columns of a frame that is handed in
unfoldable pub frame_scan_of : Data → Option IR
frame_scan_of d = do
  o ← object_of (codes "frame" ∷ codes "op" ∷ codes "output" ∷ codes "schema" ∷ []) d
  n ← at (codes "frame") (nullable number_of) o
  s ← at (codes "schema") columns_of o
  out ← at (codes "output") (nullable columns_of) o
  Some (nodes.DataFrameScan n s out)
