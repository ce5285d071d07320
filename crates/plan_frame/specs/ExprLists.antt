-- Lists of named expressions: their names, what they read, whether they are scalar, and whether they are the number of rows.
use Rattle.std.specs.Prelude.{Bool, true, false, ◌&&◌, List, [], ◌∷◌, ◌++◌, map, if◌then◌else◌}
use Rattle.plan_tree.specs.Rose.{rose, no_roses}
use Rattle.plan_expr.specs.Exprs.{Named, Expr, len as row_count}
use Rattle.plan_expr.specs.Leaves.{Name, leaves}
use Rattle.plan_expr.specs.Naming.{name_of}
use Rattle.plan_expr.specs.Scalars.{is_scalar}

-- the names under which expressions are put out, in order
abbrev pub out_names : List Named → List Name
out_names es = map (λ (e : Named). name_of e.name) es

-- the names that expressions read
abbrev pub all_leaves : List Named → List Name
all_leaves [] = []
all_leaves (e ∷ es) = leaves e.expr ++ all_leaves es

-- all expressions are scalar
abbrev pub all_scalar : List Named → Bool
all_scalar [] = true
all_scalar (e ∷ es) = is_scalar e.expr && all_scalar es

-- the first expression that isn't scalar, if there is one
abbrev pub first_many : List Named → List Named
first_many [] = []
first_many (e ∷ es) = if is_scalar e.expr then first_many es else e ∷ []

-- whether an expression is the number of rows
abbrev pub is_len : Expr → Bool
is_len (rose n row_count no_roses) = true
is_len e = false

-- whether expressions are the number of rows alone
abbrev pub counts_rows : List Named → Bool
counts_rows (e ∷ []) = is_len e.expr
counts_rows es = false
