-- What expressions say of columns and of their own names.
use Rattle.std.specs.Prelude.{ℕ, Bool, true, false, List, [], ◌∷◌, Option, None, Some, filter, slice_get, codes}
use Rattle.std.specs.List.{filter_map}
use Rattle.plan_expr.specs.declared.literal.LiteralValue.TheVariants.{Null}
use Rattle.plan_dsl.specs.declared.expr.Expr.{Expr}
use Rattle.plan_dsl.specs.declared.expr.Expr.TheVariants.{Alias', Column, Columns, DtypeColumn, IndexColumn, Literal, Window', Wildcard, KeepName', RenameAlias', Len}
use Rattle.plan_dsl.specs.Parts.{children}
use Rattle.plan_dsl.specs.Walks.{walk_by, preorder}

-- whether an expression is a literal without a value
abbrev pub is_null : Expr → Bool
is_null (Literal (Null plain)) = true
is_null _ = false

-- the column that an expression is, if it is one
abbrev pub column_name : Expr → Option (List ℕ)
column_name (Column name) = Some name
column_name _ = None

-- the columns in an expression, in walk order, repeats kept
abbrev pub leaf_column_names : Expr → List (List ℕ)
leaf_column_names e = filter_map column_name (preorder e)

-- whether an expression is a column, or all of them
abbrev pub is_leaf_column : Expr → Bool
is_leaf_column (Column name) = true
is_leaf_column Wildcard = true
is_leaf_column _ = false

-- the column that just one expression is
abbrev pub only_name : List Expr → Option (List ℕ)
only_name [] = None
only_name (e ∷ []) = column_name e
only_name (e ∷ f ∷ es) = None

-- the only column in an expression, where nothing in it stands for all columns
abbrev pub leaf_column_name : Expr → Option (List ℕ)
leaf_column_name e = only_name (filter is_leaf_column (preorder e))

-- what an expression decides of the name of those that it is a part of: nothing, or the name, if there is one
abbrev pub decision : Expr → Option (Option (List ℕ))
decision (Alias' p e name) = Some (Some name)
decision (Column name) = Some (Some name)
decision Len = Some (Some (codes "len"))
decision (Literal value) = Some (Some (codes "literal"))
decision (Columns names) = Some None
decision (DtypeColumn types) = Some None
decision (IndexColumn places) = Some None
decision Wildcard = Some None
decision (KeepName' p e) = Some None
decision (RenameAlias' p e) = Some None
decision _ = None

-- the expressions in one that may decide its name: of a window its function alone
abbrev pub named_parts : Expr → List Expr
named_parts (Window' p function s partition_by) = function ∷ []
named_parts e = children e

-- the name that is decided, if one is
abbrev pub decided : Option (Option (List ℕ)) → Option (List ℕ)
decided None = None
decided (Some name) = name

-- the name under which an expression is put out: the first one in walk order that decides it gives it
abbrev pub output_name : Expr → Option (List ℕ)
output_name e = decided (slice_get (filter_map decision (walk_by named_parts e)) 0)
