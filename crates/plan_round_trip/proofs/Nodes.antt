-- Nodes are read as they are written.
use Rattle.std.proofs.Common.{◌≡◌, Bool, List, [], ◌∷◌, Option, Some, refl, ℕ}
use Rattle.std.specs.Prelude.{codes}
use Rattle.std.specs.Str.{bytes_eq}
use Rattle.serde_json.specs.Data.{Data}
use Rattle.serde_json.specs.Find.{get}
use Rattle.plan_core.specs.declared.arena.Node.{Node}
use Rattle.plan_ir.specs.declared.functions.FunctionIR.{FunctionIR}
use Rattle.plan_ir.specs.declared.ir.IR.{IR}
use Rattle.plan_ir.specs.declared.ir.IR.TheVariants as nodes
use Rattle.plan_options.specs.declared.sink.SinkType.TheVariants as sinks
use Rattle.plan_doc_parts.specs.Parts.{◌>>=◌, name_of, number_of, link_of}
use Rattle.plan_doc_parts.specs.Members.{object_of, at}
use Rattle.plan_doc_parts.proofs.EntryLemmas.{bind_some}
use Rattle.plan_doc_nodes.specs.Columns.{simple_projection_of, select_of, hstack_of, group_by_of}
use Rattle.plan_doc_scans.specs.Functions.{frame_function_of}
use Rattle.plan_doc_nodes.specs.Joins.{join_of}
use Rattle.plan_doc_nodes.specs.Nodes.{map_function_of, sink_of, cache_of, invalid_of, node_of}
use Rattle.plan_doc_nodes.specs.Rows.{slice_node_of, filter_of, sort_of, distinct_of}
use Rattle.plan_doc_scans.specs.Scans.{frame_scan_of, scan_of}
use Rattle.plan_doc_nodes.specs.Several.{union_of, hconcat_of}
use Rattle.plan_text_pieces.specs.Functions.{frame_function_data}
use Rattle.plan_text.specs.Nodes.{node_data, map_function_data, cache_data}
use Rattle.plan_round_trip.proofs.Gives.{gives1, gives2, gives4}
use Rattle.plan_round_trip.proofs.Steps.{Again, first_holds, first_of, object_canonical, under, under_canonical}
use Rattle.plan_round_trip.proofs.Lists.{IsCanonical}
use Rattle.plan_round_trip.proofs.Parts.{link_back, number_back}
use Rattle.plan_round_trip.proofs.Functions.{function_told}
use Rattle.plan_round_trip.proofs.Told.{Told, ToldLink}
use Rattle.plan_round_trip.proofs.Rows.{slice_told, slice_read, filter_told, filter_read, sort_told, sort_read, distinct_told, distinct_read}
use Rattle.plan_round_trip.proofs.Columns.{projection_told, projection_read, select_told, select_read, hstack_told, hstack_read, group_by_told, group_by_read}
use Rattle.plan_round_trip.proofs.Several.{union_told, union_read, hconcat_told, hconcat_read}
use Rattle.plan_round_trip.proofs.Scans.{scan_told, scan_read, frame_scan_told, frame_scan_read}
use Rattle.plan_round_trip.proofs.Joins.{join_told, join_read}

map_function_told : (d : Data) (x : IR) → IsCanonical d → map_function_of d ≡ Some x → Told x
unfolding map_function_of
map_function_told d x c e =
    gives4 (object_of (codes "function" ∷ codes "input" ∷ codes "op" ∷ []) d) (λ o. at (codes "input") link_of o) (λ o i. get (codes "function") o) (λ o i function. frame_function_of function) (λ o i function f. nodes.MapFunction i f) x e Told
    (λ o i function f eo ei efunction ef.
    let k = object_canonical _ d o c eo in
    (under link_back _ o i k ei, function_told function f (under_canonical (codes "function") o function k efunction) ef))

map_function_read : (i : Node) (f : FunctionIR) → Told (nodes.MapFunction i f) → Again node_of node_data (nodes.MapFunction i f)
unfolding node_of name_of map_function_of object_of at node_data map_function_data
map_function_read i f t =
    let h : frame_function_of (frame_function_data f) ≡ Some f = t.1 in
    rw (t.0, h) refl

sink_told : (d : Data) (x : IR) → IsCanonical d → sink_of d ≡ Some x → Told x
unfolding sink_of
sink_told d x c e =
    gives2 (object_of (codes "input" ∷ codes "op" ∷ []) d) (λ o. at (codes "input") link_of o) (λ o i. nodes.Sink i sinks.Memory) x e Told
    (λ o i eo ei. under link_back _ o i (object_canonical _ d o c eo) ei)

sink_read : (i : Node) → ToldLink i → Again node_of node_data (nodes.Sink i sinks.Memory)
unfolding node_of name_of sink_of object_of at node_data
sink_read i t = rw t refl

cache_told : (d : Data) (x : IR) → IsCanonical d → cache_of d ≡ Some x → Told x
unfolding cache_of
cache_told d x c e =
    gives4 (object_of (codes "hits" ∷ codes "id" ∷ codes "input" ∷ codes "op" ∷ []) d) (λ o. at (codes "input") link_of o) (λ o i. at (codes "id") number_of o) (λ o i n. at (codes "hits") number_of o) (λ o i n h. nodes.Cache i n h) x e Told
    (λ o i n h eo ei en eh.
    let k = object_canonical _ d o c eo in
    (under link_back _ o i k ei, under number_back _ o n k en, under number_back _ o h k eh))

cache_read : (i : Node) (n h : ℕ) → Told (nodes.Cache i n h) → Again node_of node_data (nodes.Cache i n h)
unfolding node_of name_of cache_of object_of at node_data cache_data
cache_read i n h t = rw (t.0, t.1, t.2) refl

invalid_told : (d : Data) (x : IR) → invalid_of d ≡ Some x → Told x
unfolding invalid_of
invalid_told d x e = gives1 (object_of (codes "op" ∷ []) d) (λ o. nodes.Invalid) x e Told (λ o eo. tt)

invalid_read : Again node_of node_data nodes.Invalid
unfolding node_of name_of invalid_of object_of node_data
invalid_read = refl

-- each name of `node_of`, in its order, with what is read under it
abbrev read_by_name : Data → List ℕ → List (Bool × Option IR)
read_by_name d s =
    (bytes_eq s (codes "Slice"), slice_node_of d)
    ∷ (bytes_eq s (codes "Filter"), filter_of d)
    ∷ (bytes_eq s (codes "Scan"), scan_of d)
    ∷ (bytes_eq s (codes "DataFrameScan"), frame_scan_of d)
    ∷ (bytes_eq s (codes "SimpleProjection"), simple_projection_of d)
    ∷ (bytes_eq s (codes "Select"), select_of d)
    ∷ (bytes_eq s (codes "HStack"), hstack_of d)
    ∷ (bytes_eq s (codes "Sort"), sort_of d)
    ∷ (bytes_eq s (codes "GroupBy"), group_by_of d)
    ∷ (bytes_eq s (codes "Join"), join_of d)
    ∷ (bytes_eq s (codes "Distinct"), distinct_of d)
    ∷ (bytes_eq s (codes "MapFunction"), map_function_of d)
    ∷ (bytes_eq s (codes "Sink"), sink_of d)
    ∷ (bytes_eq s (codes "Union"), union_of d)
    ∷ (bytes_eq s (codes "HConcat"), hconcat_of d)
    ∷ (bytes_eq s (codes "Cache"), cache_of d)
    ∷ (bytes_eq s (codes "Invalid"), invalid_of d) ∷ []

-- the parts of a node that is read are read again of what is written for them
pub node_told : (d : Data) (x : IR) → IsCanonical d → node_of d ≡ Some x → Told x
unfolding node_of
node_told d x c e =
    let op = bind_some (get (codes "op") d) (λ op. name_of op >>= λ s. first_of (read_by_name d s)) x e in
    let s = bind_some (name_of op.0) (λ s. first_of (read_by_name d s)) x op.2 in
    first_holds Told (read_by_name d s.0) x s.2 (
      slice_told d x c,
      (
        filter_told d x c,
        (
          scan_told d x c,
          (
            frame_scan_told d x c,
            (
              projection_told d x c,
              (
                select_told d x c,
                (
                  hstack_told d x c,
                  (
                    sort_told d x c,
                    (
                      group_by_told d x c,
                      (
                        join_told d x c,
                        (
                          distinct_told d x c,
                          (
                            map_function_told d x c,
                            (
                              sink_told d x c,
                              (union_told d x c, (hconcat_told d x c, (cache_told d x c, (invalid_told d x, tt)))),
                            ),
                          ),
                        ),
                      ),
                    ),
                  ),
                ),
              ),
            ),
          ),
        ),
      ),
    )

-- a node whose parts are read again is read again
pub node_read : (x : IR) → Told x → Again node_of node_data x
node_read (nodes.Slice input offset len) t = slice_read input offset len t
node_read (nodes.Filter input predicate) t = filter_read input predicate t
node_read (nodes.Scan from info hive predicate output format options) t = scan_read from info hive predicate output format options t
node_read (nodes.DataFrameScan df schema output) t = frame_scan_read df schema output t
node_read (nodes.SimpleProjection input columns) t = projection_read input columns t
node_read (nodes.Select input expr schema options) t = select_read input expr schema options t
node_read (nodes.HStack input exprs schema options) t = hstack_read input exprs schema options t
node_read (nodes.Sort input keys slice options) t = sort_read input keys slice options t
node_read (nodes.GroupBy input keys aggs schema maintain_order options) t = group_by_read input keys aggs schema maintain_order options t
node_read (nodes.Join left right schema left_on right_on options) t = join_read left right schema left_on right_on options t
node_read (nodes.Distinct input options) t = distinct_read input options t
node_read (nodes.MapFunction input function) t = map_function_read input function t
node_read (nodes.Sink input sinks.Memory) t = sink_read input t
node_read (nodes.Union inputs options) t = union_read inputs options t
node_read (nodes.HConcat inputs schema options) t = hconcat_read inputs schema options t
node_read (nodes.Cache input id hits) t = cache_read input id hits t
node_read nodes.Invalid t = invalid_read
