-- The nodes that the entries of a document stand for.
use Rattle.std.specs.Prelude.{ℕ, List, [], ◌∷◌, Option, Some, None, if◌then◌else◌, codes, bytes_eq}
use Rattle.serde_json.specs.Data.{Data}
use Rattle.serde_json.specs.Find.{get}
use Rattle.plan_ir.specs.declared.ir.IR.{IR}
use Rattle.plan_ir.specs.declared.ir.IR.TheVariants as nodes
use Rattle.plan_options.specs.declared.sink.SinkType.TheVariants as sinks
use Rattle.plan_doc_parts.specs.Parts.{◌>>=◌, name_of, number_of, link_of}
use Rattle.plan_doc_parts.specs.Members.{object_of, at}
use Rattle.plan_doc_nodes.specs.Columns.{simple_projection_of, select_of, hstack_of, group_by_of}
use Rattle.plan_doc_scans.specs.Functions.{frame_function_of}
use Rattle.plan_doc_nodes.specs.Joins.{join_of}
use Rattle.plan_doc_nodes.specs.Rows.{slice_node_of, filter_of, sort_of, distinct_of}
use Rattle.plan_doc_scans.specs.Scans.{frame_scan_of, scan_of}
use Rattle.plan_doc_nodes.specs.Several.{union_of, hconcat_of}

-- what a function makes of the whole input
unfoldable pub map_function_of : Data → Option IR
map_function_of d = do
  o ← object_of (codes "function" ∷ codes "input" ∷ codes "op" ∷ []) d
  i ← at (codes "input") link_of o
  function ← get (codes "function") o
  f ← frame_function_of function
  Some (nodes.MapFunction i f)

-- the input, whose rows are kept in memory
unfoldable pub sink_of : Data → Option IR
sink_of d = do
  o ← object_of (codes "input" ∷ codes "op" ∷ []) d
  i ← at (codes "input") link_of o
  Some (nodes.Sink i sinks.Memory)

-- the input, whose rows are kept for all caches of one number
unfoldable pub cache_of : Data → Option IR
cache_of d = do
  o ← object_of (codes "hits" ∷ codes "id" ∷ codes "input" ∷ codes "op" ∷ []) d
  i ← at (codes "input") link_of o
  n ← at (codes "id") number_of o
  h ← at (codes "hits") number_of o
  Some (nodes.Cache i n h)

-- what a node leaves behind that was taken
unfoldable pub invalid_of : Data → Option IR
invalid_of d = do
  o ← object_of (codes "op" ∷ []) d
  Some nodes.Invalid

-- the node of an entry whose op is none of the first nine
unfoldable pub other_node_of : List ℕ → Data → Option IR
other_node_of s d =
    if bytes_eq s (codes "Join") then join_of d else (
    if bytes_eq s (codes "Distinct") then distinct_of d else (
    if bytes_eq s (codes "MapFunction") then map_function_of d else (
    if bytes_eq s (codes "Sink") then sink_of d else (
    if bytes_eq s (codes "Union") then union_of d else (
    if bytes_eq s (codes "HConcat") then hconcat_of d else (
    if bytes_eq s (codes "Cache") then cache_of d else (
    if bytes_eq s (codes "Invalid") then invalid_of d else None)))))))

-- the node of an entry
unfoldable pub node_of : Data → Option IR
node_of d = do
  op ← get (codes "op") d
  s ← name_of op
  if bytes_eq s (codes "Slice") then slice_node_of d else (
      if bytes_eq s (codes "Filter") then filter_of d else (
      if bytes_eq s (codes "Scan") then scan_of d else (
      if bytes_eq s (codes "DataFrameScan") then frame_scan_of d else (
      if bytes_eq s (codes "SimpleProjection") then simple_projection_of d else (
      if bytes_eq s (codes "Select") then select_of d else (
      if bytes_eq s (codes "HStack") then hstack_of d else (
      if bytes_eq s (codes "Sort") then sort_of d else (
      if bytes_eq s (codes "GroupBy") then group_by_of d else (
      if bytes_eq s (codes "Join") then join_of d else (
      if bytes_eq s (codes "Distinct") then distinct_of d else (
      if bytes_eq s (codes "MapFunction") then map_function_of d else (
      if bytes_eq s (codes "Sink") then sink_of d else (
      if bytes_eq s (codes "Union") then union_of d else (
      if bytes_eq s (codes "HConcat") then hconcat_of d else (
      if bytes_eq s (codes "Cache") then cache_of d else (
      if bytes_eq s (codes "Invalid") then invalid_of d else None))))))))))))))))
