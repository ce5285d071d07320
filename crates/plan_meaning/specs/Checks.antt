-- Checks: what must hold at a node, with the fault where it doesn't; and the checks that kinds of nodes share.
use Rattle.std.specs.Prelude.{ℕ, suc, Bool, true, false, not, List, [], ◌∷◌, ◌++◌, Option, Some, None, is_some}
use Rattle.plan_core.specs.declared.error.At.{At}
use Rattle.plan_core.specs.declared.error.PolarsError.{PolarsError}
use Rattle.plan_core.specs.declared.error.PolarsError.TheVariants.{SchemaFieldNotFound, Duplicate, SchemaMismatch, InvalidOperation}
use Rattle.plan_core.specs.declared.data_type.DataType.{DataType}
use Rattle.plan_core.specs.Columns.{Columns, type_of, same_columns}
use Rattle.plan_core.specs.Names.{has}
use Rattle.plan_expr.specs.Exprs.{Named}
use Rattle.plan_expr.specs.Forms.{has_form}
use Rattle.plan_expr.specs.Leaves.{Name, leaves}
use Rattle.plan_expr.specs.Naming.{naming, may_be_named}
use Rattle.plan_expr.specs.Types.{is_plain}
use Rattle.plan_frame.specs.Exprs.{all_known, expr_type, is_type}
use Rattle.plan_frame.specs.ExprLists.{out_names}

-- what must hold at a node, the fault where it doesn't, and the fault's place
pub record Check : Type 0 where
  pub fault : At → PolarsError
  pub place : ℕ
  pub holds : Bool

-- a check from its fault, its place, and whether it holds
abbrev pub check : (At → PolarsError) → ℕ → Bool → Check
check fault place holds = record { fault = fault; place = place; holds = holds }

-- a list of nothing
abbrev pub is_empty : {A : Type 0} → List A → Bool
is_empty [] = true
is_empty (x ∷ xs) = false

-- a value that is missing
abbrev pub is_none : {A : Type 0} → Option A → Bool
is_none o = not (is_some o)

-- a check for each item, the first at this place
abbrev pub each : {A : Type 0} → (At → PolarsError) → ℕ → (A → Bool) → List A → List Check
each fault k holds [] = []
each fault k holds (x ∷ xs) = check fault k (holds x) ∷ each fault (suc k) holds xs

-- a name is one of the columns
abbrev pub is_known : Columns → Name → Bool
is_known s a = is_some (type_of s a)

-- a column is one of the columns, with that type
abbrev pub is_column : Columns → Name × DataType → Bool
is_column s c = is_type (type_of s c.0) c.1

-- no name of the list is one before it
abbrev pub each_new : ℕ → List Name → List Name → List Check
each_new k before [] = []
each_new k before (a ∷ names) = check Duplicate k (not (has before a)) ∷ each_new (suc k) (before ++ a ∷ []) names

-- the stored columns are those that are computed
unfoldable pub stored_checks : Columns → Columns → List Check
stored_checks stored computed = check SchemaMismatch 0 (same_columns stored computed) ∷ []

-- each expression has a form
unfoldable pub form_checks : List Named → List Check
form_checks es = each InvalidOperation 1 (λ (e : Named). has_form e.expr) es

-- each expression reads columns that there are
unfoldable pub leaf_checks : List Named → Columns → List Check
leaf_checks es s = each SchemaFieldNotFound 1 (λ (e : Named). all_known (leaves e.expr) s) es

-- each expression has a type
unfoldable pub type_checks : List Named → Columns → List Check
type_checks es s = each SchemaMismatch 1 (λ (e : Named). is_some (expr_type e.expr s)) es

-- no two expressions are put out under one name
unfoldable pub once_checks : List Named → List Check
once_checks es = each_new 1 [] (out_names es)

-- each expression is named as it may be
unfoldable pub naming_checks : List Named → List Check
naming_checks es = each SchemaMismatch 1 (λ (e : Named). may_be_named e.name (naming e.expr)) es

-- there is a type, and it is plain
abbrev pub is_plain_type : Option DataType → Bool
is_plain_type None = false
is_plain_type (Some t) = is_plain t

-- each expression has a plain type
unfoldable pub plain_checks : List Named → Columns → List Check
plain_checks es s = each SchemaMismatch 1 (λ (e : Named). is_plain_type (expr_type e.expr s)) es
