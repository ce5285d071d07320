-- What scans read from, and what their format is.
use Rattle.std.specs.Prelude.{ℕ, Bool, true, false, List, [], ◌∷◌, map, Option, None, Some, is_some}
use Rattle.plan_core.specs.declared.options.FileScanOptions.{FileScanOptions}
use Rattle.plan_scan.specs.Source.{Source, file, buffer}
use Rattle.plan_scan.specs.declared.file_scan.FileScan.{FileScan}
use Rattle.plan_scan.specs.declared.file_scan.FileScan.TheVariants as kinds
use Rattle.plan_scan.specs.declared.sources.ScanSources.{ScanSources}
use Rattle.plan_scan.specs.declared.sources.ScanSources.TheVariants.{Paths, Buffers}
use Rattle.plan_scan.specs.declared.sources.ScanSourceRef.{ScanSourceRef}
use Rattle.plan_scan.specs.declared.sources.ScanSourceRef.TheVariants as refs

-- the sources, in order
abbrev pub sources_of : ScanSources → List Source
sources_of (Paths paths) = map file paths
sources_of (Buffers numbers) = map buffer numbers

-- the source that is lent
abbrev pub source_of : ScanSourceRef → Source
source_of (refs.Path path) = file path.now
source_of (refs.Buffer number) = buffer number

-- whether the sources are paths
abbrev pub are_paths : ScanSources → Bool
are_paths (Paths paths) = true
are_paths (Buffers numbers) = false

-- the paths; none for buffers
abbrev pub paths_of : ScanSources → Option (List (List ℕ))
paths_of (Paths paths) = Some paths
paths_of (Buffers numbers) = None

-- `EMPTY`
abbrev pub empty_text : List ℕ
empty_text = 69 ∷ 77 ∷ 80 ∷ 84 ∷ 89 ∷ []

-- `IN_MEMORY`
abbrev pub in_memory_text : List ℕ
in_memory_text = 73 ∷ 78 ∷ 95 ∷ 77 ∷ 69 ∷ 77 ∷ 79 ∷ 82 ∷ 89 ∷ []

-- `in-mem`
abbrev pub in_mem_text : List ℕ
in_mem_text = 105 ∷ 110 ∷ 45 ∷ 109 ∷ 101 ∷ 109 ∷ []

-- a text that tells sources apart: the first path, or one word for no sources and one for buffers
abbrev pub id_of : ScanSources → List ℕ
id_of (Paths []) = empty_text
id_of (Paths (path ∷ paths)) = path
id_of (Buffers []) = empty_text
id_of (Buffers (number ∷ numbers)) = in_memory_text

-- the value that a column of paths has for the source: the path, or one word for buffers
abbrev pub path_name : Source → List ℕ
path_name (file path) = path
path_name (buffer number) = in_mem_text

-- whether a scan of the format may be read in pieces
abbrev pub streams : FileScan → Bool
streams kinds.Csv = true
streams kinds.NDJson = false
streams kinds.Parquet = true
streams kinds.Ipc = false

-- whether the columns that are read are put in the order of the file
abbrev pub sorts_projection : FileScan → FileScanOptions → Bool
sorts_projection kinds.Csv options = true
sorts_projection kinds.NDJson options = false
sorts_projection kinds.Parquet options = false
sorts_projection kinds.Ipc options = is_some options.row_index

-- the name of the format
abbrev pub kind_name : FileScan → List ℕ
kind_name kinds.Csv = 67 ∷ 115 ∷ 118 ∷ []
kind_name kinds.NDJson = 78 ∷ 68 ∷ 74 ∷ 115 ∷ 111 ∷ 110 ∷ []
kind_name kinds.Parquet = 80 ∷ 97 ∷ 114 ∷ 113 ∷ 117 ∷ 101 ∷ 116 ∷ []
kind_name kinds.Ipc = 73 ∷ 112 ∷ 99 ∷ []
