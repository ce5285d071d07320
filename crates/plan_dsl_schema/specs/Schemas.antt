-- The columns that expressions make over others, and their faults.
use Rattle.std.specs.Prelude.{ℕ, suc, min, Bool, true, false, List, [], ◌∷◌, map, take, Option, Some, None, is_some, unwrap_or, option_and_then, if◌then◌else◌}
use Rattle.std.specs.Option.{option_or}
use Rattle.plan_core.specs.Columns.{Columns}
use Rattle.plan_core.specs.Errors.{item_at}
use Rattle.plan_core.specs.Names.{has}
use Rattle.plan_core.specs.declared.data_type.DataType.{DataType}
use Rattle.plan_core.specs.declared.data_type.DataType.TheVariants as types
use Rattle.plan_core.specs.declared.error.PolarsError.{PolarsError}
use Rattle.plan_core.specs.declared.error.PolarsError.TheVariants.{SchemaFieldNotFound, Duplicate, SchemaMismatch, InvalidOperation}
use Rattle.plan_dsl.specs.declared.expr.Expr.{Expr}
use Rattle.plan_dsl_schema.specs.declared.schema.Context.{Context}
use Rattle.plan_dsl_schema.specs.declared.schema.Context.TheVariants.{Aggregation, Default}
use Rattle.plan_dsl.specs.Names.{output_name}
use Rattle.plan_expr.specs.Types.{list_of}
use Rattle.plan_dsl.specs.Typing.{expr_type, has_form, is_scalar, reads_only}

-- the type of a column in a context: in an aggregation what isn't scalar is the list of its values
abbrev pub in_context : Context → Bool → DataType → Option DataType
in_context Default scalar t = Some t
in_context Aggregation true t = Some t
in_context Aggregation false t = list_of t

-- the type of the column that an expression makes, if it has one
abbrev pub column_type : Context → Columns → Expr → Option DataType
column_type context s e = option_and_then (in_context context (is_scalar e)) (expr_type s e)

-- the fault of an expression at a place: it has no form in plans, reads a column that is absent, or has no type
abbrev pub expr_fault : Context → Columns → ℕ → Expr → Option PolarsError
expr_fault context s place e = let at = item_at (min place 4294967295) in
    if has_form e
    then (if reads_only s e
    then (if is_some (column_type context s e) then None else Some (SchemaMismatch at))
    else Some (SchemaFieldNotFound at))
    else Some (InvalidOperation at)

-- the first fault of items that have places
abbrev pub first_fault : {X : Type 0} → (ℕ → X → Option PolarsError) → ℕ → List X → Option PolarsError
first_fault fault place [] = None
first_fault fault place (x ∷ xs) = option_or (fault place x) (first_fault fault (suc place) xs)

-- the name under which an expression is put out
abbrev pub name_made : Expr → List ℕ
name_made e = unwrap_or (output_name e) []

-- the fault of a name at a place, if it stands before that place too
abbrev pub repeat_fault : List (List ℕ) → ℕ → List ℕ → Option PolarsError
repeat_fault names place name = if has (take place names) name then Some (Duplicate (item_at (min place 4294967295))) else None

-- the first fault of expressions, or else that of the first one that repeats a name
abbrev pub schema_fault : Context → Columns → List Expr → Option PolarsError
schema_fault context s es = let names = map name_made es in
    option_or (first_fault (expr_fault context s) 0 es) (first_fault (repeat_fault names) 0 names)

-- the column that an expression makes
abbrev pub made_column : Context → Columns → Expr → List ℕ × DataType
made_column context s e = (name_made e, unwrap_or (column_type context s e) types.Int64)

-- the columns that expressions make, in order
abbrev pub made_columns : Context → Columns → List Expr → Columns
made_columns context s es = map (made_column context s) es
