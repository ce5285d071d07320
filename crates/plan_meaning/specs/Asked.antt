-- What each node of a plan is asked from above, the scans with what they are asked, and what these may read.
use Rattle.std.specs.Prelude.{◌≡◌, Bool, true, false, List, [], ◌∷◌, ◌++◌, map, Option, is_some, if◌then◌else◌}
use Rattle.std.specs.List.{AllByRecursion, filter as only_where, filter_map}
use Rattle.plan_core.specs.declared.data_type.DataType.{DataType}
use Rattle.plan_core.specs.Columns.{Columns, names_of, type_of}
use Rattle.plan_core.specs.Names.{has, with_names, AreDistinct}
use Rattle.plan_tree.specs.Rose.{Roses, rose, no_roses, more}
use Rattle.plan_expr.specs.Exprs.{Named}
use Rattle.plan_ir.specs.Plans.{Op, slice, filter, scan, frame_scan, simple_projection, select, hstack, sort, group_by, join, distinct, map_function, sink, union, hconcat, cache, invalid, Plan}
use Rattle.plan_expr.specs.Leaves.{Name, leaves}
use Rattle.plan_expr.specs.Naming.{name_of}
use Rattle.plan_files.specs.FileColumns.{hive_columns, read_names}
use Rattle.plan_files.specs.FileReads.{left_names as file_names}
use Rattle.plan_meaning.specs.Checks.{is_empty}
use Rattle.plan_join.specs.Told.{Told}
use Rattle.plan_meaning.specs.JoinAsked.{left_names, right_names}
use Rattle.plan_meaning.specs.Typing.{columns_or, reader_columns, first_schema, rest_schemas, schema_by, schemas}
use Rattle.plan_frame.specs.Frames.{names_or}
use Rattle.plan_ir.specs.declared.functions.FunctionIR.{FunctionIR}
use Rattle.plan_ir.specs.declared.functions.FunctionIR.TheVariants.{Rename, RowIndex, Unpivot, Explode, FastCount}
use Rattle.plan_ir.specs.declared.functions.UnpivotArgsIR.{UnpivotArgsIR}
use Rattle.plan_meaning.specs.Functions.{renamed, former}
use Rattle.plan_frame.specs.ExprLists.{all_scalar, first_many, counts_rows, all_leaves}
use Rattle.plan_meaning.specs.Counting.{stand_ins, first_stand_in, stand_in_names}
use Rattle.plan_meaning.specs.Relating.{Asked, all, names, cached}

-- the names that are asked, where not everything is
abbrev pub asked_names : Asked → List Name
asked_names all = []
asked_names (names wanted) = wanted
asked_names cached = []

-- whether a name is asked
abbrev pub is_asked : Asked → Name → Bool
is_asked all a = true
is_asked (names wanted) a = has wanted a
is_asked cached a = true

-- a rule that gives no name asks for everything
abbrev pub set_of : List Name → Asked
set_of [] = all
set_of (a ∷ others) = names (a ∷ others)

-- what is asked, and these names
abbrev pub with_more : List Name → Asked → Asked
with_more others all = all
with_more others (names wanted) = names (with_names wanted others)
with_more others cached = cached

-- the columns that are asked, in their order
abbrev pub kept : Asked → Columns → Columns
kept a cs = only_where (λ (c : Name × DataType). is_asked a c.0) cs

-- a projection asks for the columns that it keeps
abbrev pub asks_columns : Columns → Asked → Asked
asks_columns cs all = set_of (with_names [] (names_of (kept all cs)))
asks_columns cs (names wanted) = set_of (with_names [] (names_of (kept (names wanted) cs)))
asks_columns cs cached = cached

-- the expressions that are asked, in their order
abbrev pub kept_exprs : Asked → List Named → List Named
kept_exprs a es = only_where (λ (e : Named). is_asked a (name_of e.name)) es

-- what a selection keeps: the expressions that are asked; where these are scalar throughout, the first that isn't too, last, since the height is its
abbrev pub selected_exprs : Asked → List Named → List Named
selected_exprs a es = if all_scalar (kept_exprs a es) then kept_exprs a es ++ first_many es else kept_exprs a es

-- the names that a selection of the first expressions needs where it keeps the last: a count of rows the column that stands in for them, else what the kept ones read
abbrev pub needed_names : List Named → Option Name → List Named → List Name
needed_names es o ks = if counts_rows es then stand_in_names o else with_names [] (all_leaves ks)

-- a selection asks for the names that it needs, over an input with this stand-in
abbrev pub asks_selected : List Named → Option Name → Asked → Asked
asks_selected es o all = set_of (needed_names es o (selected_exprs all es))
asks_selected es o (names wanted) = set_of (needed_names es o (selected_exprs (names wanted) es))
asks_selected es o cached = cached

-- an addition of these expressions asks for the asked names that its input has, and for what the expressions read; without expressions it asks what it is asked
abbrev pub asks_added : List Named → List Name → Columns → Asked
asks_added [] wanted s = names wanted
asks_added (e ∷ es) wanted s = set_of (with_names (only_where (has (names_of s)) wanted) (all_leaves (e ∷ es)))

-- an addition asks by the expressions that it keeps
abbrev pub asks_stacked : List Named → Asked → Columns → Asked
asks_stacked es all s = all
asks_stacked es (names wanted) s = asks_added (kept_exprs (names wanted) es) wanted s
asks_stacked es cached s = cached

-- the names that a grouping needs that keeps these aggregates: of some names those that its input has, then what the aggregates read, and then what the keys do
abbrev pub grouping_names : (keys aggs : List Named) → List Name → Columns → List Name
grouping_names keys aggs wanted s = with_names (only_where (has (names_of s)) wanted) (all_leaves (aggs ++ keys))

-- a grouping asks for the names that it needs for the aggregates that are asked, and for the asked names that its input has
abbrev pub asks_grouped : (keys aggs : List Named) → Asked → Columns → Asked
asks_grouped keys aggs all s = set_of (grouping_names keys (kept_exprs all aggs) [] s)
asks_grouped keys aggs (names wanted) s = set_of (grouping_names keys (kept_exprs (names wanted) aggs) wanted s)
asks_grouped keys aggs cached s = cached

-- the names that an unpivot needs: those that it repeats and then those that are told, each once; none where none are told
abbrev pub unpivot_names : UnpivotArgsIR → List Name
unpivot_names args = if is_empty args.on then [] else with_names [] (args.index ++ args.on)

-- the names that a function of which these are asked needs of its input: a renaming those that get them, a numbering of the rows those that the input has, an unpivot the same whatever is asked, an explode what is asked and its columns, and a count of the rows of files none
abbrev pub function_names : FunctionIR → List Name → Columns → List Name
function_names (Rename existing new swapping) wanted s = filter_map (former (renamed existing new) (names_of s)) wanted
function_names (RowIndex name offset) wanted s = only_where (has (names_of s)) wanted
function_names (Unpivot args) wanted s = unpivot_names args
function_names (Explode columns) wanted s = with_names wanted columns
function_names (FastCount sources scan_type alias) wanted s = []

-- a function asks for the names that it needs
abbrev pub asks_function : FunctionIR → Asked → Columns → Asked
asks_function function all s = all
asks_function function (names wanted) s = set_of (function_names function wanted s)
asks_function function cached s = cached

-- the same asked of each input
abbrev pub asks_alike : Asked → List Columns → List Asked
asks_alike a [] = []
asks_alike a (s ∷ ss) = a ∷ asks_alike a ss

-- a concatenation asks an input for the asked names that this has
abbrev pub asks_held : Asked → Columns → Asked
asks_held all s = all
asks_held (names wanted) s = set_of (only_where (has (names_of s)) wanted)
asks_held cached s = cached

-- a join of these sides asks each for the names that it needs of it
abbrev pub asks_joined : (left_on right_on : List Named) → Told → Asked → (left right : Columns) → List Asked
asks_joined left_on right_on told all s t = set_of (left_names [] left_on right_on told s t) ∷ set_of (right_names [] left_on right_on told s t) ∷ []
asks_joined left_on right_on told (names wanted) s t = set_of (left_names wanted left_on right_on told s t) ∷ set_of (right_names wanted left_on right_on told s t) ∷ []
asks_joined left_on right_on told cached s t = cached ∷ cached ∷ []

-- what a node asks of its inputs, by the columns of these and those that stand in for their rows
abbrev pub asks : Op → Asked → List Columns → List (Option Name) → List Asked
asks (slice offset len) a ss os = a ∷ []
asks (filter predicate) a ss os = with_more (leaves predicate.expr) a ∷ []
asks (scan sources info hive predicate output kind options) a ss os = []
asks (frame_scan df schema output) a ss os = []
asks (simple_projection columns) a ss os = asks_columns columns a ∷ []
asks (select exprs schema options) a ss os = asks_selected exprs (first_stand_in os) a ∷ []
asks (hstack exprs schema options) a ss os = asks_stacked exprs a (first_schema ss) ∷ []
asks (sort keys part options) a ss os = with_more (all_leaves keys) a ∷ []
asks (group_by keys aggs schema ordered options) a ss os = asks_grouped keys aggs a (first_schema ss) ∷ []
asks (join left_on right_on schema told) a ss os = asks_joined left_on right_on told a (first_schema ss) (first_schema (rest_schemas ss))
asks (distinct options) a ss os = with_more (names_or options.subset (names_of (first_schema ss))) a ∷ []
asks (map_function function) a ss os = asks_function function a (first_schema ss) ∷ []
asks (sink payload) a ss os = a ∷ []
asks (union options) a ss os = asks_alike a ss
asks (hconcat schema options) a ss os = map (asks_held a) ss
asks (cache id hits) a ss os = cached ∷ []
asks invalid a ss os = []

-- the first of what is asked, everything where there is none
abbrev pub first_asked : List Asked → Asked
first_asked [] = all
first_asked (a ∷ others) = a

-- what is asked of the plans after the first
abbrev pub rest_asked : List Asked → List Asked
rest_asked [] = []
rest_asked (a ∷ others) = others

-- a scan with what it is asked
pub record Site : Type 0 where
  pub at_scan : Op
  pub asked : Asked

-- the site that a node is by itself: a scan is one
abbrev pub own_site : Op → Asked → List Site
own_site (scan sources info hive predicate output kind options) a = record { at_scan = scan sources info hive predicate output kind options; asked = a } ∷ []
own_site (frame_scan df schema output) a = record { at_scan = frame_scan df schema output; asked = a } ∷ []
own_site (slice offset len) a = []
own_site (filter predicate) a = []
own_site (simple_projection columns) a = []
own_site (select exprs schema options) a = []
own_site (hstack exprs schema options) a = []
own_site (sort keys part options) a = []
own_site (group_by keys aggs schema ordered options) a = []
own_site (join left_on right_on schema told) a = []
own_site (distinct options) a = []
own_site (map_function function) a = []
own_site (sink payload) a = []
own_site (union options) a = []
own_site (hconcat schema options) a = []
own_site (cache id hits) a = []
own_site invalid a = []

-- the scans of plans from left to right, where each plan is asked what the list says
abbrev pub sites : Roses (Unit {0}) Op → List Asked → List Site
sites no_roses asked = []
sites (more (rose n op ts) rest) asked =
    own_site op (first_asked asked) ++ (sites ts (asks op (first_asked asked) (schemas ts) (stand_ins ts (schemas ts))) ++ sites rest (rest_asked asked))

-- the scans of a plan from left to right; its root is asked everything
abbrev pub sites_of : Plan → List Site
sites_of p = sites (more p no_roses) (all ∷ [])

-- the columns that a scan reads: of files those that it names, else all that a reader finds but for hive columns; of a frame those that it puts out
abbrev pub reads : Op → List Name
reads (scan sources info hive predicate output kind options) = read_names options.with_columns (reader_columns info) (hive_columns hive)
reads (frame_scan df schema output) = names_of (columns_or output schema)
reads (slice offset len) = []
reads (filter predicate) = []
reads (simple_projection columns) = []
reads (select exprs schema options) = []
reads (hstack exprs schema options) = []
reads (sort keys part options) = []
reads (group_by keys aggs schema ordered options) = []
reads (join left_on right_on schema told) = []
reads (distinct options) = []
reads (map_function function) = []
reads (sink payload) = []
reads (union options) = []
reads (hconcat schema options) = []
reads (cache id hits) = []
reads invalid = []

-- what a scan may read for the names that it is asked: of files those that are read from them, or what stands in for its rows; of a frame these
abbrev pub allowed_names : Op → List Name → List Name
allowed_names (scan sources info hive predicate output kind options) wanted = file_names kind wanted (read_names options.with_columns (reader_columns info) (hive_columns hive)) (hive_columns hive) options
allowed_names op wanted = wanted

-- what a scan may read for what it is asked
abbrev pub allowed : Op → Asked → List Name
allowed op all = reads op
allowed op (names wanted) = allowed_names op wanted
allowed op cached = reads op

-- names that can be asked of columns: at least one, none twice, each a column's
pub record Fair (wanted : List Name) (s : Columns) : Type 0 where
  pub some : is_empty wanted ≡ false
  pub once : AreDistinct wanted
  pub known : (a : Name) → has wanted a ≡ true → is_some (type_of s a) ≡ true

-- what can be asked of columns
abbrev pub IsFair : Asked → Columns → Type 0
IsFair all s = Unit {0}
IsFair (names wanted) s = Fair wanted s
IsFair cached s = Unit {0}

-- names that a scan is asked are among its output names, and what it may read for them is among what it reads
pub record SiteFair (site : Site) : Type 0 where
  pub asked : (a : Name) → has (asked_names site.asked) a ≡ true → has (names_of (schema_by site.at_scan [])) a ≡ true
  pub allowed : (a : Name) → has (allowed site.at_scan site.asked) a ≡ true → has (reads site.at_scan) a ≡ true

-- this holds of each scan of a plan
abbrev pub AllSites : (Site → Type 0) → Plan → Type 0
AllSites P p = AllByRecursion P (sites_of p)
