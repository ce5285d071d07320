-- Which joins are valid: the checks on a join over the columns of its sides.
use Rattle.std.specs.Prelude.{ℕ, suc, ◌+◌, ◌==◌, Bool, true, false, not, ◌&&◌, ◌||◌, List, [], ◌∷◌, ◌++◌, length, Option, Some, None, is_some}
use Rattle.plan_core.specs.declared.data_type.DataType.{DataType}
use Rattle.plan_core.specs.declared.data_type.DataType.TheVariants as types
use Rattle.plan_core.specs.declared.error.PolarsError.TheVariants.{SchemaFieldNotFound, Duplicate, SchemaMismatch, InvalidOperation}
use Rattle.plan_core.specs.Columns.{Columns, names_of}
use Rattle.plan_options.specs.declared.join.JoinArgs.{JoinArgs}
use Rattle.plan_options.specs.declared.join.JoinType.{JoinType}
use Rattle.plan_options.specs.declared.join.JoinType.TheVariants.{Cross, IEJoin}
use Rattle.plan_options.specs.Join.{coalesces}
use Rattle.plan_tree.specs.Rose.{Roses, rose, no_roses, more}
use Rattle.plan_expr.specs.Exprs.{ExprOp, column, literal, alias, binary, ternary, aggregate, call, window, len, Expr, Named}
use Rattle.plan_expr.specs.Forms.{has_form}
use Rattle.plan_expr.specs.Functions.{is_row_wise}
use Rattle.plan_expr.specs.Leaves.{leaves}
use Rattle.plan_frame.specs.Exprs.{all_known, expr_type, is_type}
use Rattle.plan_join.specs.Naming.{drops_left, join_columns}
use Rattle.plan_join.specs.Told.{KindOptions, inequalities, condition, Told, column_keys, expr_column, operators}
use Rattle.plan_join.specs.Sides.{fills}
use Rattle.plan_meaning.specs.Functions.{all_differ}
use Rattle.plan_meaning.specs.Checks.{Check, check, each, is_none, is_plain_type, naming_checks, stored_checks}

-- whether an operator gives each of its values by one row of its operands alone
abbrev pub works_by_row : ExprOp → Bool
works_by_row (column name) = true
works_by_row (literal value) = true
works_by_row (alias name) = true
works_by_row (binary op) = true
works_by_row ternary = true
works_by_row (aggregate op) = false
works_by_row (call function options) = is_row_wise function
works_by_row window = false
works_by_row len = false

-- whether an expression does: each operator in it does
abbrev mutual
  pub is_elementwise : Expr → Bool
  is_elementwise (rose n op es) = works_by_row op && are_elementwise es

  pub are_elementwise : Roses (Unit {0}) ExprOp → Bool
  are_elementwise no_roses = true
  are_elementwise (more e es) = is_elementwise e && are_elementwise es

-- the condition of a join, if it has one
abbrev pub conditions : Option KindOptions → List Named
conditions None = []
conditions (Some (inequalities o)) = []
conditions (Some (condition e)) = e ∷ []

-- the expressions of a join, in order: its left keys, its right keys, and its condition
abbrev pub join_exprs : (left_on right_on : List Named) → Told → List Named
join_exprs left_on right_on told = (left_on ++ right_on) ++ conditions told.options

-- whether there are as many keys on each side as a join takes: none for a cross join, else as many as on the other side, and some
abbrev pub are_paired : JoinType → (left right : ℕ) → Bool
are_paired Cross left right = left == 0 && right == 0
are_paired how left right = not (left == 0) && left == right

-- whether a join is told what only its kind is: a cross join a condition or nothing, a join by inequalities one for each pair of keys, and any other nothing
abbrev pub fits_kind : JoinType → (pairs : ℕ) → Option KindOptions → Bool
fits_kind Cross pairs None = true
fits_kind Cross pairs (Some (condition e)) = true
fits_kind Cross pairs (Some (inequalities o)) = false
fits_kind IEJoin pairs None = false
fits_kind IEJoin pairs (Some (condition e)) = false
fits_kind IEJoin pairs (Some (inequalities o)) = length (operators o) == pairs
fits_kind how pairs o = is_none o

-- whether a join has a form that is built: keys in pairs, what its kind takes, and no slice
unfoldable pub is_built_join : (left right : ℕ) → Told → Bool
is_built_join left right told = is_none told.args.slice && (are_paired told.args.how left right && fits_kind told.args.how left told.options)

-- whether the left keys of a join must be columns: where it drops them, or fills them from the right ones
abbrev pub left_keys_plain : JoinArgs → Bool
left_keys_plain args = (coalesces args.how args.coalesce && drops_left args.how) || fills args.how args.coalesce

-- whether the right keys must: where it drops them
abbrev pub right_keys_plain : JoinArgs → Bool
right_keys_plain args = coalesces args.how args.coalesce && not (drops_left args.how)

-- whether a key has a form, and is a column where it must be one
abbrev pub is_formed_key : (plain : Bool) → Named → Bool
is_formed_key plain e = has_form e.expr && (not plain || is_some (expr_column e.expr))

-- whether a condition has a form, and is elementwise
abbrev pub is_formed_condition : Named → Bool
is_formed_condition e = has_form e.expr && is_elementwise e.expr

-- whether a key of this type may stand in a join: by inequalities one of whole numbers, else one of a plain type
abbrev pub is_key_type : JoinType → Option DataType → Bool
is_key_type IEJoin t = is_type t types.Int64
is_key_type how t = is_plain_type t

-- there are two types, and they are the same
abbrev pub are_one_type : Option DataType → Option DataType → Bool
are_one_type None u = false
are_one_type (Some t) u = is_type u t

-- keys and the condition have forms
unfoldable pub join_form_checks : (left_on right_on : List Named) → Told → List Check
join_form_checks left_on right_on told =
    check InvalidOperation 0 (is_built_join (length left_on) (length right_on) told)
    ∷ (each InvalidOperation 1 (is_formed_key (left_keys_plain told.args)) left_on
    ++ (each InvalidOperation (suc (length left_on)) (is_formed_key (right_keys_plain told.args)) right_on
    ++ each InvalidOperation (suc (length left_on + length right_on)) is_formed_condition (conditions told.options)))

-- keys read columns of their side, and the condition those of the join
unfoldable pub join_leaf_checks : (left_on right_on : List Named) → Told → (left right columns : Columns) → List Check
join_leaf_checks left_on right_on told s t columns =
    each SchemaFieldNotFound 1 (λ (e : Named). all_known (leaves e.expr) s) left_on
    ++ (each SchemaFieldNotFound (suc (length left_on)) (λ (e : Named). all_known (leaves e.expr) t) right_on
    ++ each SchemaFieldNotFound (suc (length left_on + length right_on)) (λ (e : Named). all_known (leaves e.expr) columns) (conditions told.options))

-- each right key has a type that may stand in the join, and it is that of the left key beside it
abbrev pub pair_checks : JoinType → ℕ → (left right : Columns) → (left_on right_on : List Named) → List Check
pair_checks how k s t (l ∷ ls) (r ∷ rs) = check SchemaMismatch k (is_key_type how (expr_type r.expr t) && are_one_type (expr_type l.expr s) (expr_type r.expr t)) ∷ pair_checks how (suc k) s t ls rs
pair_checks how k s t _ _ = []

-- keys have types that may stand in the join, those of a pair the same, and the condition is Boolean
unfoldable pub join_type_checks : (left_on right_on : List Named) → Told → (left right columns : Columns) → List Check
join_type_checks left_on right_on told s t columns =
    each SchemaMismatch 1 (λ (e : Named). is_key_type told.args.how (expr_type e.expr s)) left_on
    ++ (pair_checks told.args.how (suc (length left_on)) s t left_on right_on
    ++ each SchemaMismatch (suc (length left_on + length right_on)) (λ (e : Named). is_type (expr_type e.expr columns) types.Boolean) (conditions told.options))

-- no name comes twice among what a join puts out, nor among the columns of a side
unfoldable pub join_once_checks : (left right columns : Columns) → List Check
join_once_checks s t columns = check Duplicate 0 (all_differ (names_of s) && (all_differ (names_of t) && all_differ (names_of columns))) ∷ []

-- the checks on a join over the columns of its sides
abbrev pub join_checks : (left_on right_on : List Named) → Columns → Told → (left right : Columns) → List Check
join_checks left_on right_on stored told s t =
    let columns = join_columns told.args (column_keys left_on) (column_keys right_on) s t in
    join_form_checks left_on right_on told
    ++ (join_leaf_checks left_on right_on told s t columns
    ++ (join_type_checks left_on right_on told s t columns
    ++ (join_once_checks s t columns
    ++ (stored_checks stored columns
    ++ naming_checks (join_exprs left_on right_on told)))))
