-- Columns picked by their names.
use Rattle.std.specs.Prelude.{◌≡◌, ◌++◌, min, List, [], ◌∷◌, unwrap_or, Option, Some, None, if◌then◌else◌, slice_get, option_and_then}
use Rattle.std.specs.List.{AllByRecursion}
use Rattle.plan_core.specs.declared.arena.Node.{Node}
use Rattle.plan_core.specs.declared.data_type.DataType.{DataType}
use Rattle.plan_core.specs.declared.error.PolarsError.{PolarsError}
use Rattle.plan_core.specs.declared.error.PolarsError.TheVariants.{SchemaFieldNotFound}
use Rattle.plan_core.specs.Columns.{Columns, names_of, type_of}
use Rattle.plan_core.specs.Errors.{item_at}
use Rattle.plan_expr.specs.declared.aexpr.AExpr.{AExpr}
use Rattle.plan_expr.specs.declared.aexpr.AExpr.TheVariants.{Column}
use Rattle.plan_expr.specs.Leaves.{Name}
use Rattle.plan_expr.specs.Walks.{column_name}
use Rattle.plan_meaning.specs.Checks.{Check, each, each_new, is_known}

-- the columns have these names, in order, and the types that they have among others
pub record Picks (s : Columns) (names : List Name) (cs : Columns) : Type 0 where
  pub named : names_of cs ≡ names
  pub typed : AllByRecursion (λ (c : Name × DataType). type_of s c.0 ≡ Some c.1) cs

-- the fault of the first check that doesn't hold, as that of an item outside plans
abbrev pub first_item_fault : List Check → Option PolarsError
first_item_fault [] = None
first_item_fault (c ∷ cs) = if c.holds then first_item_fault cs else Some (c.fault (item_at (min c.place 4294967295)))

-- each name is one of the columns, and then no name is one before it
abbrev pub name_checks : List Name → Columns → List Check
name_checks names s = each SchemaFieldNotFound 0 (is_known s) names ++ each_new 0 [] names

-- the expression at a number is a column
abbrev pub IsColumn : List AExpr → Node → Type 0
IsColumn ex n = (a : Name) × (slice_get ex n.0 ≡ Some (Column a))

-- the name of the column at a number; no letters where there is none
abbrev pub column_at : List AExpr → Node → Name
column_at ex n = unwrap_or (option_and_then column_name (slice_get ex n.0)) []
