-- The names that expressions give themselves, and those under which they are put out.
use Rattle.std.specs.Prelude.{List, [], ◌∷◌, take, Bool, true, false, Option, None, Some, codes, bytes_eq}
use Rattle.plan_tree.specs.Rose.{Roses, rose, no_roses, more}
use Rattle.plan_expr.specs.Exprs.{ExprOp, column, literal, alias, binary, ternary, aggregate, call, window, len, Expr}
use Rattle.plan_expr.specs.Leaves.{Name}
use Rattle.plan_expr.specs.declared.expr_ir.OutputName.{OutputName}
use Rattle.plan_expr.specs.declared.expr_ir.OutputName.TheVariants as names
use Rattle.plan_expr.specs.declared.names.Naming.{Naming as Found}
use Rattle.plan_expr.specs.declared.names.Naming.TheVariants as found

-- what names an expression: a column, a literal or the number of rows, an alias, or nothing in it
pub data Naming : Type 0 where
  by_column : Name → Naming
  by_literal : Name → Naming
  by_alias : Name → Naming
  unnamed : Naming

-- the first of two that names
abbrev pub or_naming : Naming → Naming → Naming
or_naming (by_column a) m = by_column a
or_naming (by_literal a) m = by_literal a
or_naming (by_alias a) m = by_alias a
or_naming unnamed m = m

-- how an operator names an expression by itself
abbrev pub own_naming : ExprOp → Naming
own_naming (column name) = by_column name
own_naming (literal value) = by_literal (codes "literal")
own_naming (alias name) = by_alias name
own_naming (binary op) = unnamed
own_naming ternary = unnamed
own_naming (aggregate op) = unnamed
own_naming (call function options) = unnamed
own_naming window = unnamed
own_naming len = by_literal (codes "len")

-- the operands among which a name is looked for: of a window its function alone
abbrev pub named_part : {X : Type 0} → ExprOp → List X → List X
named_part (column name) xs = xs
named_part (literal value) xs = xs
named_part (alias name) xs = xs
named_part (binary op) xs = xs
named_part ternary xs = xs
named_part (aggregate op) xs = xs
named_part (call function options) xs = xs
named_part window xs = take 1 xs
named_part len xs = xs

-- the first of several that names
abbrev pub first_named : List Naming → Naming
first_named [] = unnamed
first_named (m ∷ ms) = or_naming m (first_named ms)

-- the first column, literal, alias or number of rows in walk order names an expression; a window is followed into its function only
abbrev mutual
  pub naming : Expr → Naming
  naming (rose n op es) = or_naming (own_naming op) (first_named (named_part op (namings es)))

  pub namings : Roses (Unit {0}) ExprOp → List Naming
  namings no_roses = []
  namings (more e es) = naming e ∷ namings es

-- whether an output name is one that an expression may have: the name that it gives itself, or where no alias in it gives one any name as an alias
abbrev pub may_be_named : OutputName → Naming → Bool
may_be_named names.None m = false
may_be_named (names.Alias a) (by_alias b) = bytes_eq a b
may_be_named (names.Alias a) (by_column b) = true
may_be_named (names.Alias a) (by_literal b) = true
may_be_named (names.Alias a) unnamed = true
may_be_named (names.ColumnLhs a) (by_column b) = bytes_eq a b
may_be_named (names.ColumnLhs a) (by_literal b) = false
may_be_named (names.ColumnLhs a) (by_alias b) = false
may_be_named (names.ColumnLhs a) unnamed = false
may_be_named (names.LiteralLhs a) (by_literal b) = bytes_eq a b
may_be_named (names.LiteralLhs a) (by_column b) = false
may_be_named (names.LiteralLhs a) (by_alias b) = false
may_be_named (names.LiteralLhs a) unnamed = false

-- the name under which an expression is put out, without a word of where it comes from
abbrev pub name_of : OutputName → Name
name_of names.None = []
name_of (names.ColumnLhs a) = a
name_of (names.LiteralLhs a) = a
name_of (names.Alias a) = a

-- the naming that a search found, if it found one
abbrev pub naming_seen : Option Found → Naming
naming_seen (Some (found.Column name)) = by_column name.now
naming_seen (Some (found.Literal name)) = by_literal name.now
naming_seen (Some (found.Alias name)) = by_alias name.now
naming_seen None = unnamed

-- the name that an expression gives itself, if it gives one
abbrev pub own_name : Naming → Option Name
own_name (by_column a) = Some a
own_name (by_literal a) = Some a
own_name (by_alias a) = Some a
own_name unnamed = None

-- the output name that an expression gives itself, if it gives one
abbrev pub own_output_name : Naming → Option OutputName
own_output_name (by_column a) = Some (names.ColumnLhs a)
own_output_name (by_literal a) = Some (names.LiteralLhs a)
own_output_name (by_alias a) = Some (names.Alias a)
own_output_name unnamed = None
