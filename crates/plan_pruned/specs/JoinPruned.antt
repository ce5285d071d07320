-- What pruning makes of a join.
use Rattle.std.specs.Prelude.{◌∷◌, not, ◌&&◌, Bool, true, false, List, [], fold, map, Option, option_map, unwrap_or, is_some, if◌then◌else◌}
use Rattle.std.specs.List.{list_all}
use Rattle.std.specs.Option.{option_map_or}
use Rattle.std.specs.Str.{bytes_eq}
use Rattle.plan_core.specs.Columns.{Columns, names_of, type_of}
use Rattle.plan_core.specs.Names.{has}
use Rattle.plan_core.specs.declared.data_type.DataType.TheVariants.{Int64}
use Rattle.plan_core.specs.Options.{default_projection}
use Rattle.plan_options.specs.declared.join.JoinArgs.{JoinArgs}
use Rattle.plan_options.specs.declared.join.JoinCoalesce.{JoinCoalesce}
use Rattle.plan_options.specs.declared.join.JoinCoalesce.TheVariants.{CoalesceColumns, KeepColumns}
use Rattle.plan_options.specs.declared.join.JoinType.{JoinType}
use Rattle.plan_options.specs.declared.join.JoinType.TheVariants.{Inner, Left}
use Rattle.plan_options.specs.Join.{suffix_of}
use Rattle.plan_tree.specs.Rose.{Roses, rose, no_roses, more}
use Rattle.plan_expr.specs.declared.expr_ir.OutputName.{OutputName}
use Rattle.plan_expr.specs.declared.expr_ir.OutputName.TheVariants as output
use Rattle.plan_expr.specs.Exprs.{column, Expr, Named}
use Rattle.plan_expr.specs.Leaves.{Name}
use Rattle.plan_frame.specs.Beside.{with_new}
use Rattle.plan_ir.specs.Plans.{Op, join, select, simple_projection, Plan}
use Rattle.plan_join.specs.declared.origin.Side.{Side}
use Rattle.plan_join.specs.Naming.{called, has_right, join_columns, left_rest, right_name}
use Rattle.plan_join.specs.Told.{KindOptions, inequalities, condition, Told, column_keys, expr_column}
use Rattle.plan_meaning.specs.JoinAsked.{origin_of}
use Rattle.plan_meaning.specs.Typing.{first_schema, rest_schemas}
use Rattle.plan_pruned.specs.Renamed.{renamed_exprs, renamed_op}
use Rattle.plan_schema.specs.Stored.{stored_all}

-- whether a join gives the rows of its left side or those that match, once for each match
abbrev pub may_drop_right : JoinType → Bool
may_drop_right Inner = true
may_drop_right Left = true
may_drop_right how = false

-- whether both key columns of a pair are to be put out
abbrev pub keeps_both : JoinCoalesce → Bool
keeps_both KeepColumns = true
keeps_both coalesce = false

-- whether all keys are columns
abbrev pub are_columns : List Named → Bool
are_columns keys = list_all (λ (e : Named). is_some (expr_column e.expr)) keys

-- whether no name is asked under which a join of these left columns, all of which it puts out, puts out one of the right keys
abbrev pub keys_unasked : JoinArgs → (asked : List Name) → (right_keys : List Name) → Columns → Bool
keys_unasked args asked keys s = list_all (λ (b : Name). not (has asked (right_name (suffix_of args) (names_of s) b))) keys

-- whether a join that puts out both keys of each pair may put out the left ones alone
abbrev pub may_coalesce : JoinArgs → (asked : List Name) → (right_on : List Named) → Columns → Bool
may_coalesce args asked right_on s = (may_drop_right args.how && keeps_both args.coalesce) && (are_columns right_on && keys_unasked args asked (column_keys right_on) s)

-- what a join is told that is asked these names
abbrev pub narrowed_args : JoinArgs → (asked : List Name) → (right_on : List Named) → Columns → JoinArgs
narrowed_args args asked right_on s = if may_coalesce args asked right_on s then record args { coalesce = CoalesceColumns } else args

-- what a name is called in a narrowed join: the column that it stands for is called by the left columns that are left; a name that stands for none stays
abbrev pub called_now : JoinArgs → (left_keys : List Name) → (left : Columns) → (by : Name → Option (Side × Name)) → Name → Name
called_now args keys r by a = option_map_or (λ (c : Side × Name). called (suffix_of args) (names_of (left_rest args keys r)) c.0 c.1) (by a) a

-- an expression with other names for its columns
abbrev pub renamed_expr : (Name → Name) → Expr → Expr
renamed_expr now (rose n op es) = rose n (renamed_op now op) (renamed_exprs now es)

-- its output name: that of its first column becomes this column's, another stays
abbrev pub renamed_output : (Name → Name) → OutputName → OutputName
renamed_output now (output.ColumnLhs a) = output.ColumnLhs (now a)
renamed_output now name = name

-- a condition with other names for its columns
abbrev pub renamed_condition : (Name → Name) → Named → Named
renamed_condition now e = record { name = renamed_output now e.name; expr = renamed_expr now e.expr }

-- what only a kind of joins is told, with other names for the columns of a condition
abbrev pub renamed_kind : (Name → Name) → KindOptions → KindOptions
renamed_kind now (inequalities o) = inequalities o
renamed_kind now (condition e) = condition (renamed_condition now e)

-- what a narrowed join is told
abbrev pub narrowed_told : (Name → Name) → JoinArgs → Told → Told
narrowed_told now args told = record { allow_parallel = told.allow_parallel; force_parallel = told.force_parallel; args = args; options = option_map (renamed_kind now) told.options }

-- whether each name is called as it was
abbrev pub are_called_alike : (Name → Name) → List Name → Bool
are_called_alike now asked = list_all (λ (a : Name). bytes_eq (now a) a) asked

-- the column that a name is now, under the name
abbrev pub renaming : (Name → Name) → Name → Named
renaming now a = record { name = if bytes_eq (now a) a then output.ColumnLhs a else output.Alias a; expr = rose tt (column (now a)) no_roses }

-- the columns of names, each with the type of the column that it is now
abbrev pub named_now : (Name → Name) → Columns → List Name → Columns
named_now now columns asked = map (λ (a : Name). (a, unwrap_or (type_of columns (now a)) Int64)) asked

-- a plan with the asked names on top: nothing where its columns are these, under these names; else a projection to them, and where some are called otherwise now a selection
abbrev pub topped : (Name → Name) → List Name → Columns → Plan → Plan
topped now asked columns plan =
    if are_called_alike now asked
    then (if list_all (has asked) (names_of columns) then plan else rose tt (simple_projection (named_now now columns asked)) (more plan no_roses))
    else rose tt (select (map (renaming now) asked) (named_now now columns asked) default_projection) (more plan no_roses)

-- so where a join puts out columns of its right side; else nothing goes on top
abbrev pub topped_if : Bool → (Name → Name) → List Name → Columns → Plan → Plan
topped_if true now asked columns plan = topped now asked columns plan
topped_if false now asked columns plan = plan

-- what a name is called in a join over pruned sides, asked something, by the columns that its sides had
abbrev pub name_now : List Name → (left_on right_on : List Named) → Told → (left right : Columns) → Roses (Unit {0}) Op → Name → Name
name_now asked left_on right_on told s t inputs =
    called_now (narrowed_args told.args asked right_on s) (column_keys left_on) (first_schema (stored_all inputs)) (origin_of left_on right_on told s t)

-- columns, of each name the first
abbrev pub first_of_each : Columns → Columns
first_of_each cs = fold with_new [] cs

-- the columns of a join over pruned sides, of each name the first
abbrev pub columns_left : List Name → (left_on right_on : List Named) → Told → (left right : Columns) → Roses (Unit {0}) Op → Columns
columns_left asked left_on right_on told s t inputs =
    first_of_each (join_columns (narrowed_args told.args asked right_on s) (column_keys left_on) (column_keys right_on) (first_schema (stored_all inputs)) (first_schema (rest_schemas (stored_all inputs))))

-- a join over pruned sides, asked something, with nothing on top
abbrev pub join_left : List Name → (left_on right_on : List Named) → Told → (left right : Columns) → Roses (Unit {0}) Op → Plan
join_left asked left_on right_on told s t inputs =
    rose tt (join left_on right_on (columns_left asked left_on right_on told s t inputs) (narrowed_told (name_now asked left_on right_on told s t inputs) (narrowed_args told.args asked right_on s) told)) inputs

-- a join over pruned sides, by the columns that its sides had; asked nothing, it stays
abbrev pub pruned_join : List Name → (left_on right_on : List Named) → Columns → Told → (left right : Columns) → Roses (Unit {0}) Op → Plan
pruned_join [] left_on right_on schema told s t inputs = rose tt (join left_on right_on schema told) inputs
pruned_join (a ∷ asked) left_on right_on schema told s t inputs =
    topped_if (has_right told.args.how) (name_now (a ∷ asked) left_on right_on told s t inputs) (a ∷ asked) (columns_left (a ∷ asked) left_on right_on told s t inputs) (join_left (a ∷ asked) left_on right_on told s t inputs)
