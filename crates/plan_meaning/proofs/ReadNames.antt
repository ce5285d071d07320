-- What is listed as read of the nodes of a plan in walk order names what its scans read.
use Rattle.std.proofs.Common.{◌≡◌, List, [], ◌∷◌, ◌++◌, map, Option, None, Some, refl, sym, ap, ◌∙◌, append-nil, subst}
use Rattle.std.specs.List.{filter as only_where}
use Rattle.std.proofs.lemmas.List.{map-append}
use Rattle.std.proofs.lemmas.List.Elements.{filter-append}
use Rattle.plan_core.specs.declared.arena.Node.{Node}
use Rattle.plan_core.specs.Columns.{Columns, names_of}
use Rattle.plan_core.specs.Names.{has}
use Rattle.plan_core.specs.declared.options.FileScanOptions.{FileScanOptions}
use Rattle.plan_tree.specs.Rose.{Roses, rose, no_roses, more, items}
use Rattle.plan_tree.specs.Stands.{Trees}
use Rattle.plan_tree.proofs.ReadLemmas.{trees_at-is}
use Rattle.plan_expr.specs.declared.aexpr.AExpr.{AExpr}
use Rattle.plan_expr.specs.Leaves.{Name}
use Rattle.plan_scan.specs.Stats.{Stats}
use Rattle.plan_scan.proofs.NameLemmas.{has-once}
use Rattle.plan_files.specs.FileColumns.{hive_columns, read_names}
use Rattle.plan_ir.specs.declared.copy.PlanCopy.{PlanCopy}
use Rattle.plan_ir.specs.declared.ir.IR.{IR}
use Rattle.plan_ir.specs.declared.ir.IR.TheVariants as nodes
use Rattle.plan_ir.specs.declared.scan.FileInfo.{FileInfo}
use Rattle.plan_ir.specs.Copies.{IsRenumbered}
use Rattle.plan_ir.specs.Parts.{plan_shape}
use Rattle.plan_ir.specs.Plans.{Op, op_at, plans_at, plans_of, bare}
use Rattle.plan_ir.specs.Reads.{is_scan, names_read, put_out_names, reads_of, scan_reads_of}
use Rattle.plan_ir.proofs.RenumberedLemmas.{renumbered-nodes, renumbered-plan}
use Rattle.plan_meaning.specs.Typing.{columns_or, reader_columns}
use Rattle.plan_meaning.specs.PlanAt.{one_plan, plan_at}
use Rattle.plan_meaning.specs.Asked.{reads}
use Rattle.plan_meaning.specs.Scans.{NameReads, own_scan, scans, scans_in}
use Rattle.plan_meaning.proofs.Validity.{one_stands}

-- what a scan of files reads, and one of a frame

file_names : (info : FileInfo) (hive : Option (List Stats)) (options : FileScanOptions) (a : Name) → has (names_read info hive options) a ≡ has (read_names options.with_columns (reader_columns info) (hive_columns hive)) a
file_names info hive options a = told options.with_columns info.reader_schema
  where
    told : (w : Option (List Name)) (r : Option Columns) → has (names_read (record info { reader_schema = r }) hive (record options { with_columns = w })) a ≡ has (read_names w (columns_or r []) (hive_columns hive)) a
    told (Some names) r = has-once names a
    told None None = refl
    told None (Some reader) = refl

frame_names : (output : Option Columns) (schema : Columns) (a : Name) → has (put_out_names output schema) a ≡ has (names_of (columns_or output schema)) a
frame_names None schema a = refl
frame_names (Some output) schema a = refl

-- what a node reads
pub node_names : (ex : List AExpr) (p : IR) (a : Name) → has (reads_of p) a ≡ has (reads (op_at ex p)) a
node_names ex (nodes.Scan sources file_info hive_parts predicate output_schema scan_type file_options) a = file_names file_info hive_parts file_options a
node_names ex (nodes.DataFrameScan df schema output_schema) a = frame_names output_schema schema a
node_names ex (nodes.Slice input offset len) a = refl
node_names ex (nodes.Filter input predicate) a = refl
node_names ex (nodes.SimpleProjection input columns) a = refl
node_names ex (nodes.Select input expr schema options) a = refl
node_names ex (nodes.HStack input exprs schema options) a = refl
node_names ex (nodes.Sort input by_column slice sort_options) a = refl
node_names ex (nodes.GroupBy input keys aggs schema maintain_order options) a = refl
node_names ex (nodes.Join input_left input_right schema left_on right_on options) a = refl
node_names ex (nodes.Distinct input options) a = refl
node_names ex (nodes.MapFunction input function) a = refl
node_names ex (nodes.Sink input payload) a = refl
node_names ex (nodes.Union inputs options) a = refl
node_names ex (nodes.HConcat inputs schema options) a = refl
node_names ex (nodes.Cache input id cache_hits) a = refl
node_names ex nodes.Invalid a = refl

-- lists one after another name what scans one after another read
name_both : (ls ms : List (List Name)) (os ss : List Op) → NameReads ls os → NameReads ms ss → NameReads (ls ++ ms) (os ++ ss)
name_both [] ms [] ss h k = k
name_both (l ∷ ls) ms (o ∷ os) ss h k = (h.0, name_both ls ms os ss h.1 k)
name_both [] ms (o ∷ os) ss h k = absurd h
name_both (l ∷ ls) ms [] ss h k = absurd h

listed_both : (ps qs : List IR) → scan_reads_of (ps ++ qs) ≡ scan_reads_of ps ++ scan_reads_of qs
listed_both ps qs = ap (map reads_of) (filter-append is_scan ps qs) ∙ map-append reads_of (only_where is_scan ps) (only_where is_scan qs)

-- a node before others
name_next : (ex : List AExpr) (p : IR) (ps : List IR) (ss : List Op) → NameReads (scan_reads_of ps) ss → NameReads (scan_reads_of (p ∷ ps)) (own_scan (op_at ex p) ++ ss)
name_next ex (nodes.Scan sources file_info hive_parts predicate output_schema scan_type file_options) ps ss h = (node_names ex (nodes.Scan sources file_info hive_parts predicate output_schema scan_type file_options), h)
name_next ex (nodes.DataFrameScan df schema output_schema) ps ss h = (node_names ex (nodes.DataFrameScan df schema output_schema), h)
name_next ex (nodes.Slice input offset len) ps ss h = h
name_next ex (nodes.Filter input predicate) ps ss h = h
name_next ex (nodes.SimpleProjection input columns) ps ss h = h
name_next ex (nodes.Select input expr schema options) ps ss h = h
name_next ex (nodes.HStack input exprs schema options) ps ss h = h
name_next ex (nodes.Sort input by_column slice sort_options) ps ss h = h
name_next ex (nodes.GroupBy input keys aggs schema maintain_order options) ps ss h = h
name_next ex (nodes.Join input_left input_right schema left_on right_on options) ps ss h = h
name_next ex (nodes.Distinct input options) ps ss h = h
name_next ex (nodes.MapFunction input function) ps ss h = h
name_next ex (nodes.Sink input payload) ps ss h = h
name_next ex (nodes.Union inputs options) ps ss h = h
name_next ex (nodes.HConcat inputs schema options) ps ss h = h
name_next ex (nodes.Cache input id cache_hits) ps ss h = h
name_next ex nodes.Invalid ps ss h = h

-- the nodes of trees in walk order
name_trees : (ex : List AExpr) (t : Trees IR) → NameReads (scan_reads_of (items t)) (scans_in (bare (plans_of ex t)))
name_trees ex no_roses = tt
name_trees ex (more (rose n p kids) rest) =
    let below : NameReads (scan_reads_of (items kids)) (scans_in (bare (plans_of ex kids))) = name_trees ex kids in
    let here : NameReads (scan_reads_of (p ∷ items kids)) (scans (rose tt (op_at ex p) (bare (plans_of ex kids)))) = name_next ex p (items kids) (scans_in (bare (plans_of ex kids))) below in
    subst (λ (ls : List (List Name)). NameReads ls (scans_in (bare (plans_of ex (more (rose n p kids) rest))))) (sym (listed_both (p ∷ items kids) (items rest)))
    (name_both (scan_reads_of (p ∷ items kids)) (scan_reads_of (items rest)) (scans (rose tt (op_at ex p) (bare (plans_of ex kids)))) (scans_in (bare (plans_of ex rest))) here (name_trees ex rest))

-- the scans of one plan
one_scans : (lp : List IR) (ex : List AExpr) (root : Node) (copy : PlanCopy) → IsRenumbered lp ex root copy → scans_in (bare (plans_at lp ex (root ∷ []))) ≡ scans (plan_at lp ex root)
one_scans lp ex root copy h =
    let s = one_stands copy.lp copy.ex copy.root (renumbered-plan lp ex root copy h) in
    let is : bare (plans_at lp ex (root ∷ [])) ≡ more (rose tt s.1 (bare s.2)) no_roses = sym h.same ∙ ap bare s.3 in
    ap scans_in is ∙ append-nil (scans (rose tt s.1 (bare s.2))) ∙ sym (ap (λ (t : Roses (Unit {0}) Op). scans (one_plan t)) is)

pub listed_names : (lp : List IR) (ex : List AExpr) (root : Node) (copy : PlanCopy) → IsRenumbered lp ex root copy → NameReads (scan_reads_of copy.lp) (scans (plan_at lp ex root))
listed_names lp ex root copy h =
    let nodes_are : scan_reads_of (items h.nodes) ≡ scan_reads_of copy.lp = ap scan_reads_of (renumbered-nodes lp ex root copy h) in
    let plans_are : bare (plans_of copy.ex h.nodes) ≡ bare (plans_at lp ex (root ∷ [])) = sym (ap (λ (t : Trees IR). bare (plans_of copy.ex t)) (trees_at-is plan_shape copy.lp (copy.root ∷ []) h.nodes h.stands.nodes)) ∙ h.same in
    subst (λ (ls : List (List Name)). NameReads ls (scans (plan_at lp ex root))) nodes_are
    (subst (λ (ss : List Op). NameReads (scan_reads_of (items h.nodes)) ss) (ap scans_in plans_are ∙ one_scans lp ex root copy h) (name_trees copy.ex h.nodes))
