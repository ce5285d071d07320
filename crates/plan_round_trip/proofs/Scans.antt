-- Scans of files and of frames are read as they are written.
use Rattle.std.proofs.Common.{◌≡◌, ℕ, List, [], ◌∷◌, Option, Some, refl, ap}
use Rattle.std.specs.Prelude.{codes, is_some}
use Rattle.serde_json.specs.Data.{Data}
use Rattle.serde_json.specs.Find.{get}
use Rattle.plan_core.specs.Columns.{Columns}
use Rattle.plan_core.specs.Options.{default_scan}
use Rattle.plan_core.specs.declared.options.FileScanOptions.{FileScanOptions}
use Rattle.plan_core.specs.declared.options.RowIndex.{RowIndex}
use Rattle.plan_expr.specs.declared.expr_ir.ExprIR.{ExprIR}
use Rattle.plan_ir.specs.declared.ir.IR.{IR}
use Rattle.plan_ir.specs.declared.ir.IR.TheVariants as nodes
use Rattle.plan_ir.specs.declared.scan.FileInfo.{FileInfo}
use Rattle.plan_scan.specs.Stats.{Stats}
use Rattle.plan_scan.specs.declared.file_scan.FileScan.{FileScan}
use Rattle.plan_scan.specs.declared.sources.ScanSources.{ScanSources}
use Rattle.plan_scan.specs.declared.sources.ScanSources.TheVariants as sources
use Rattle.plan_doc_parts.specs.Parts.{nullable, name_of, number_of, numbers_of, truth_of, names_of, columns_of, output_of, slice_of}
use Rattle.plan_doc_parts.specs.Members.{object_of, at}
use Rattle.plan_doc_scans.specs.Hive.{hive_parts_of}
use Rattle.plan_doc_nodes.specs.Nodes.{node_of}
use Rattle.plan_doc_scans.specs.Scans.{kind_of, paths_of, buffers_of, sources_of, files_of, file_info_of, row_index_of, beside_of, file_options_of, scan_keys, scan_of, frame_scan_of}
use Rattle.plan_text_pieces.specs.Values.{number_data, list_data, nullable_data, names_data, row_index_data, sources_data}
use Rattle.plan_text.specs.Nodes.{node_data, scan_data, frame_scan_data}
use Rattle.plan_round_trip.proofs.Gives.{gives2, gives4, gives7}
use Rattle.plan_round_trip.proofs.Steps.{Again, choice, object_canonical, under, under_canonical}
use Rattle.plan_round_trip.proofs.Lists.{IsCanonical}
use Rattle.plan_round_trip.proofs.Names.{kind_again}
use Rattle.plan_round_trip.proofs.Pieces.{columns_back, maybe_columns, maybe_name_again, maybe_names_again, maybe_number, maybe_output, maybe_row, maybe_slice, names_again, numbers_back}
use Rattle.plan_round_trip.proofs.Values.{maybe_parts}
use Rattle.plan_round_trip.proofs.Told.{Told, ToldColumns, ToldReading, ToldSomeColumns}

-- ---- sources

abbrev pub SourcesAgain : ScanSources → Type 0
SourcesAgain s = Again sources_of sources_data s

pub buffers_read : (ns : List ℕ) → Again numbers_of (list_data number_data) ns → SourcesAgain (sources.Buffers ns)
unfolding buffers_of object_of at
buffers_read ns e =
    let h : numbers_of (list_data number_data ns) ≡ Some ns = e in
    rw h refl

pub paths_read : (ps : List (List ℕ)) → SourcesAgain (sources.Paths ps)
unfolding paths_of object_of at
paths_read ps =
    let h : names_of (names_data ps) ≡ Some ps = names_again ps in
    rw h refl

buffers_again : (d : Data) (s : ScanSources) → IsCanonical d → buffers_of d ≡ Some s → SourcesAgain s
unfolding buffers_of
buffers_again d s c e =
    gives2 (object_of (codes "buffers" ∷ []) d) (λ o. at (codes "buffers") numbers_of o) (λ o ns. sources.Buffers ns) s e SourcesAgain
    (λ o ns eo en. buffers_read ns (under numbers_back _ o ns (object_canonical _ d o c eo) en))

paths_again : (d : Data) (s : ScanSources) → paths_of d ≡ Some s → SourcesAgain s
unfolding paths_of
paths_again d s e =
    gives2 (object_of (codes "paths" ∷ []) d) (λ o. at (codes "paths") names_of o) (λ o ps. sources.Paths ps) s e SourcesAgain
    (λ o ps eo ep. paths_read ps)

sources_again : (d : Data) (s : ScanSources) → IsCanonical d → sources_of d ≡ Some s → SourcesAgain s
sources_again d s c e = choice (is_some (get (codes "buffers") d)) (buffers_of d) (paths_of d) s e (λ b. buffers_again d s c b) (λ p. paths_again d s p)

pub files_told : (o : Data) (x : ScanSources × FileScan) → IsCanonical o → files_of o ≡ Some x → SourcesAgain x.0
unfolding files_of
files_told o x c e =
    gives4 (get (codes "kind") o) (λ kind. kind_of kind) (λ kind k. get (codes "sources") o) (λ kind k value. sources_of value) (λ kind k value from. (from, k)) x e (λ (y : ScanSources × FileScan). SourcesAgain y.0)
    (λ kind k value from ekind ek evalue efrom. sources_again value from (under_canonical (codes "sources") o value c evalue) efrom)

-- ---- what is read, and what is put beside it

abbrev ToldInfo : FileInfo → Type 0
ToldInfo i = ToldColumns i.schema × ToldSomeColumns i.reader_schema

info_told : (o : Data) (x : FileInfo) → IsCanonical o → file_info_of o ≡ Some x → ToldInfo x
unfolding file_info_of
info_told o x c e =
    gives2 (at (codes "schema") columns_of o) (λ s. at (codes "reader") (nullable columns_of) o) (λ s r. record { schema = s; reader_schema = r }) x e ToldInfo
    (λ s r es er. (under columns_back _ o s c es, under maybe_columns _ o r c er))

abbrev Beside : Type 0
Beside = Option RowIndex × Option (List ℕ)

abbrev RowAgain : Option RowIndex → Type 0
RowAgain r = Again (nullable row_index_of) (nullable_data row_index_data) r

beside_told : (o : Data) (x : Beside) → IsCanonical o → beside_of o ≡ Some x → RowAgain x.0
unfolding beside_of
beside_told o x c e =
    gives2 (at (codes "row_index") (nullable row_index_of) o) (λ i. at (codes "path_column") (nullable name_of) o) (λ i p. (i, p)) x e (λ (y : Beside). RowAgain y.0)
    (λ i p ei ep. under maybe_row _ o i c ei)

reading_told : (o : Data) (x : FileScanOptions) → IsCanonical o → file_options_of o ≡ Some x → ToldReading x
unfolding file_options_of
reading_told o x c e =
    gives4 (at (codes "columns") (nullable names_of) o) (λ n. at (codes "rechunk") truth_of o) (λ n r. at (codes "slice") (nullable slice_of) o) (λ n r s. beside_of o) (λ n r s b. record default_scan { slice = s; with_columns = n; row_index = b.0; rechunk = r; include_file_paths = b.1 }) x e ToldReading
    (λ n r s b en er es eb. record { slice = under maybe_slice _ o s c es; row = beside_told o b c eb; rest = refl })

-- ---- a scan of files

pub scan_told : (d : Data) (x : IR) → IsCanonical d → scan_of d ≡ Some x → Told x
unfolding scan_of
scan_told d x c e =
    gives7 (object_of scan_keys d) (λ o. files_of o) (λ o f. at (codes "hive") (nullable hive_parts_of) o) (λ o f h. at (codes "output") (nullable columns_of) o) (λ o f h u. at (codes "predicate") (nullable output_of) o) (λ o f h u p. file_info_of o) (λ o f h u p i. file_options_of o) (λ o f h u p i s. nodes.Scan f.0 i h p u f.1 s) x e Told
    (λ o f h u p i s eo ef eh eu ep ei es.
    let k = object_canonical _ d o c eo in
    let info = info_told o i k ei in
    record {
      sources = files_told o f k ef;
      schema = info.0;
      reader = info.1;
      hive = under maybe_parts _ o h k eh;
      predicate = under maybe_output _ o p k ep;
      output = under maybe_columns _ o u k eu;
      reading = reading_told o s k es;
    })

pub scan_read : (from : ScanSources) (info : FileInfo) (hive : Option (List Stats)) (predicate : Option ExprIR) (output : Option Columns) (format : FileScan) (options : FileScanOptions) → Told (nodes.Scan from info hive predicate output format options) → Again node_of node_data (nodes.Scan from info hive predicate output format options)
unfolding node_of name_of scan_of scan_keys object_of at files_of file_info_of file_options_of beside_of truth_of node_data scan_data
scan_read from info hive predicate output format options t =
    rw (kind_again format, t.sources, t.hive, t.output, t.predicate, t.schema, t.reader, maybe_names_again options.with_columns, t.reading.slice, t.reading.row, maybe_name_again options.include_file_paths)
    (ap (λ (y : FileScanOptions). Some (nodes.Scan from info hive predicate output format y)) t.reading.rest)

-- ---- a scan of a frame

pub frame_scan_told : (d : Data) (x : IR) → IsCanonical d → frame_scan_of d ≡ Some x → Told x
unfolding frame_scan_of
frame_scan_told d x c e =
    gives4 (object_of (codes "frame" ∷ codes "op" ∷ codes "output" ∷ codes "schema" ∷ []) d) (λ o. at (codes "frame") (nullable number_of) o) (λ o n. at (codes "schema") columns_of o) (λ o n s. at (codes "output") (nullable columns_of) o) (λ o n s u. nodes.DataFrameScan n s u) x e Told
    (λ o n s u eo en es eu.
    let k = object_canonical _ d o c eo in
    (under maybe_number _ o n k en, under columns_back _ o s k es, under maybe_columns _ o u k eu))

pub frame_scan_read : (n : Option ℕ) (s : Columns) (u : Option Columns) → Told (nodes.DataFrameScan n s u) → Again node_of node_data (nodes.DataFrameScan n s u)
unfolding node_of name_of frame_scan_of object_of at node_data frame_scan_data
frame_scan_read n s u t = rw (t.0, t.1, t.2) refl
