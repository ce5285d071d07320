-- The columns that a plan says it has.
use Rattle.std.specs.Prelude.{Bool, true, false, ◌&&◌, List, [], ◌∷◌, if◌then◌else◌}
use Rattle.plan_core.specs.declared.error.PolarsError.{PolarsError}
use Rattle.plan_core.specs.declared.error.PolarsError.TheVariants.{SchemaFieldNotFound, Duplicate, SchemaMismatch, InvalidOperation, ComputeError, OutOfMemory}
use Rattle.plan_core.specs.Columns.{Columns}
use Rattle.plan_tree.specs.Rose.{Roses, rose, no_roses, more}
use Rattle.plan_ir.specs.Plans.{Op, slice, filter, scan, frame_scan, simple_projection, select, hstack, sort, group_by, join, distinct, map_function, sink, union, hconcat, cache, invalid}
use Rattle.plan_ir.specs.declared.functions.FunctionIR.{FunctionIR}
use Rattle.plan_meaning.specs.Functions.{function_schema}
use Rattle.plan_meaning.specs.Checks.{Check}
use Rattle.plan_meaning.specs.Typing.{columns_or, first_schema, function_checks}
use Rattle.plan_schema.specs.declared.stored.StoredSchema.{StoredSchema}
use Rattle.plan_schema.specs.declared.stored.StoredSchema.TheVariants.{Stored, Given}

-- whether a fault is want of memory
abbrev pub wants_memory : PolarsError → Bool
wants_memory OutOfMemory = true
wants_memory (SchemaFieldNotFound a) = false
wants_memory (Duplicate a) = false
wants_memory (SchemaMismatch a) = false
wants_memory (InvalidOperation a) = false
wants_memory (ComputeError a) = false

-- whether all checks hold
abbrev pub all_hold : List Check → Bool
all_hold [] = true
all_hold (c ∷ cs) = c.holds && all_hold cs

-- the columns that a function gives, from those of its input; none where a check on it fails
abbrev pub given_by : FunctionIR → Columns → Columns
given_by function s = if all_hold (function_checks function s) then function_schema function s else []

-- the columns that are stored, or given
abbrev pub columns_told : StoredSchema → Columns
columns_told (Stored s) = s.now
columns_told (Given s) = s

-- the columns that a node says it has: those that it stores, those that a function gives, else those of its input
abbrev pub stored_by : Op → List Columns → Columns
stored_by (slice offset len) ss = first_schema ss
stored_by (filter predicate) ss = first_schema ss
stored_by (scan sources info hive predicate output kind options) ss = columns_or output info.schema
stored_by (frame_scan df schema output) ss = columns_or output schema
stored_by (simple_projection columns) ss = columns
stored_by (select exprs schema options) ss = schema
stored_by (hstack exprs schema options) ss = schema
stored_by (sort keys part options) ss = first_schema ss
stored_by (group_by keys aggs schema ordered options) ss = schema
stored_by (join left_on right_on schema told) ss = schema
stored_by (distinct options) ss = first_schema ss
stored_by (map_function function) ss = given_by function (first_schema ss)
stored_by (sink payload) ss = first_schema ss
stored_by (union options) ss = first_schema ss
stored_by (hconcat schema options) ss = schema
stored_by (cache id hits) ss = first_schema ss
stored_by invalid ss = []

-- the columns that plans say they have, one for one
abbrev pub stored_all : {N : Type 0} → Roses N Op → List Columns
stored_all no_roses = []
stored_all (more (rose n op ts) rest) = stored_by op (stored_all ts) ∷ stored_all rest
