-- The expressions that the entries of a document stand for.
use Rattle.std.specs.Prelude.{ℕ, List, [], ◌∷◌, true, false, Option, Some, None, is_some, if◌then◌else◌, codes, bytes_eq}
use Rattle.serde_json.specs.Data.{Data}
use Rattle.serde_json.specs.Find.{get, as_null}
use Rattle.plan_core.specs.declared.arena.Node.{Node}
use Rattle.plan_core.specs.declared.data_type.PlainType.{PlainType}
use Rattle.plan_core.specs.declared.data_type.PlainType.TheVariants as plains
use Rattle.plan_expr.specs.declared.operator.Operator.{Operator}
use Rattle.plan_expr.specs.declared.operator.Operator.TheVariants as operators
use Rattle.plan_expr.specs.declared.literal.LiteralValue.{LiteralValue}
use Rattle.plan_expr.specs.declared.literal.LiteralValue.TheVariants as literals
use Rattle.plan_expr.specs.declared.agg.IRAggExpr.{IRAggExpr}
use Rattle.plan_expr.specs.declared.agg.IRAggExpr.TheVariants as aggs
use Rattle.plan_expr.specs.declared.function_expr.FunctionExpr.{FunctionExpr}
use Rattle.plan_expr.specs.declared.function_expr.FunctionExpr.TheVariants as functions
use Rattle.plan_expr.specs.Functions.{options_of}
use Rattle.plan_expr.specs.declared.aexpr.AExpr.{AExpr}
use Rattle.plan_expr.specs.declared.aexpr.AExpr.TheVariants as exprs
use Rattle.plan_doc_parts.specs.Parts.{◌>>=◌, name_of, link_of, links_of, integer_of, truth_of, plain_of}
use Rattle.plan_doc_parts.specs.Members.{object_of, at}

-- the operator that a text names
unfoldable pub operator_named : List ℕ → Option Operator
operator_named s =
    if bytes_eq s (codes "Eq") then Some operators.Eq else (
    if bytes_eq s (codes "NotEq") then Some operators.NotEq else (
    if bytes_eq s (codes "Lt") then Some operators.Lt else (
    if bytes_eq s (codes "LtEq") then Some operators.LtEq else (
    if bytes_eq s (codes "Gt") then Some operators.Gt else (
    if bytes_eq s (codes "GtEq") then Some operators.GtEq else (
    if bytes_eq s (codes "EqValidity") then Some operators.EqValidity else (
    if bytes_eq s (codes "NotEqValidity") then Some operators.NotEqValidity else (
    if bytes_eq s (codes "And") then Some operators.And else (
    if bytes_eq s (codes "Or") then Some operators.Or else (
    if bytes_eq s (codes "Xor") then Some operators.Xor else (
    if bytes_eq s (codes "Plus") then Some operators.Plus else (
    if bytes_eq s (codes "Minus") then Some operators.Minus else (
    if bytes_eq s (codes "Multiply") then Some operators.Multiply else None)))))))))))))

-- the name of an operator
unfoldable pub operator_of : Data → Option Operator
operator_of d = do
  s ← name_of d
  operator_named s

-- a column by its name
unfoldable pub column_expr_of : Data → Option AExpr
column_expr_of d = do
  o ← object_of (codes "name" ∷ codes "op" ∷ []) d
  n ← at (codes "name") name_of o
  Some (exprs.Column n)

-- a value of the type
abbrev pub value_of : PlainType → Data → Option LiteralValue
value_of plains.Int64 d = do
  n ← integer_of d
  Some (literals.Int64 n)
value_of plains.String d = do
  s ← name_of d
  Some (literals.String s)
value_of plains.Boolean d = do
  b ← truth_of d
  Some (literals.Boolean b)

-- null of the type, or a value of it
abbrev pub value_or_null : PlainType → Data → Option LiteralValue
value_or_null t d = if is_some (as_null d) then Some (literals.Null t) else value_of t d

-- a value that is written out
unfoldable pub literal_of : Data → Option AExpr
literal_of d = do
  o ← object_of (codes "op" ∷ codes "type" ∷ codes "value" ∷ []) d
  type ← get (codes "type") o
  t ← plain_of type
  value ← get (codes "value") o
  v ← value_or_null t value
  Some (exprs.Literal v)

-- an entry under another name
unfoldable pub alias_of : Data → Option AExpr
alias_of d = do
  o ← object_of (codes "input" ∷ codes "name" ∷ codes "op" ∷ []) d
  i ← at (codes "input") link_of o
  n ← at (codes "name") name_of o
  Some (exprs.Alias i n)

-- an operator over two entries
unfoldable pub binary_of : Data → Option AExpr
binary_of d = do
  o ← object_of (codes "left" ∷ codes "op" ∷ codes "operator" ∷ codes "right" ∷ []) d
  l ← at (codes "left") link_of o
  operator ← get (codes "operator") o
  op ← operator_of operator
  r ← at (codes "right") link_of o
  Some (exprs.BinaryExpr l op r)

-- the keys of a choice
unfoldable pub ternary_keys : List (List ℕ)
ternary_keys = codes "falsy" ∷ codes "op" ∷ codes "predicate" ∷ codes "truthy" ∷ []

-- one of two entries, row by row
unfoldable pub ternary_of : Data → Option AExpr
ternary_of d = do
  o ← object_of ternary_keys d
  p ← at (codes "predicate") link_of o
  t ← at (codes "truthy") link_of o
  f ← at (codes "falsy") link_of o
  Some (exprs.Ternary p t f)

-- the aggregate of an entry that a text names; a count of all counts nulls too
unfoldable pub agg_named : Node → List ℕ → Option IRAggExpr
agg_named input s =
    if bytes_eq s (codes "Min") then Some (aggs.Min input) else (
    if bytes_eq s (codes "Max") then Some (aggs.Max input) else (
    if bytes_eq s (codes "Sum") then Some (aggs.Sum input) else (
    if bytes_eq s (codes "Count") then Some (aggs.Count input false) else (
    if bytes_eq s (codes "CountAll") then Some (aggs.Count input true) else (
    if bytes_eq s (codes "NUnique") then Some (aggs.NUnique input) else (
    if bytes_eq s (codes "First") then Some (aggs.First input) else (
    if bytes_eq s (codes "Last") then Some (aggs.Last input) else (
    if bytes_eq s (codes "Implode") then Some (aggs.Implode input) else None))))))))

-- the name of an aggregate of an entry
unfoldable pub agg_kind_of : Node → Data → Option IRAggExpr
agg_kind_of input d = do
  s ← name_of d
  agg_named input s

-- an aggregate of an entry
unfoldable pub agg_of : Data → Option AExpr
agg_of d = do
  o ← object_of (codes "input" ∷ codes "kind" ∷ codes "op" ∷ []) d
  i ← at (codes "input") link_of o
  kind ← get (codes "kind") o
  a ← agg_kind_of i kind
  Some (exprs.Agg a)

-- the function that a text names
unfoldable pub function_named : List ℕ → Option FunctionExpr
function_named s =
    if bytes_eq s (codes "Not") then Some functions.Not else (
    if bytes_eq s (codes "IsNull") then Some functions.IsNull else (
    if bytes_eq s (codes "IsNotNull") then Some functions.IsNotNull else (
    if bytes_eq s (codes "FillNull") then Some functions.FillNull else (
    if bytes_eq s (codes "Reverse") then Some functions.Reverse else (
    if bytes_eq s (codes "CumSum") then Some functions.CumSum else None)))))

-- the name of a function
unfoldable pub function_name_of : Data → Option FunctionExpr
function_name_of d = do
  s ← name_of d
  function_named s

-- a function over entries, however many, with the options that are its own
unfoldable pub function_of : Data → Option AExpr
function_of d = do
  o ← object_of (codes "inputs" ∷ codes "name" ∷ codes "op" ∷ []) d
  is ← at (codes "inputs") links_of o
  name ← get (codes "name") o
  f ← function_name_of name
  Some (exprs.Function is f (options_of f))

-- an entry over the rows that have the same keys, however many the keys are
unfoldable pub window_of : Data → Option AExpr
window_of d = do
  o ← object_of (codes "function" ∷ codes "op" ∷ codes "partition_by" ∷ []) d
  f ← at (codes "function") link_of o
  ks ← at (codes "partition_by") links_of o
  Some (exprs.Window f ks)

-- how many rows there are
unfoldable pub len_of : Data → Option AExpr
len_of d = do
  o ← object_of (codes "op" ∷ []) d
  Some exprs.Len

-- the expression of an entry
unfoldable pub expr_of : Data → Option AExpr
expr_of d = do
  op ← get (codes "op") d
  s ← name_of op
  if bytes_eq s (codes "Column") then column_expr_of d else (
      if bytes_eq s (codes "Literal") then literal_of d else (
      if bytes_eq s (codes "Alias") then alias_of d else (
      if bytes_eq s (codes "BinaryExpr") then binary_of d else (
      if bytes_eq s (codes "Ternary") then ternary_of d else (
      if bytes_eq s (codes "Agg") then agg_of d else (
      if bytes_eq s (codes "Function") then function_of d else (
      if bytes_eq s (codes "Window") then window_of d else (
      if bytes_eq s (codes "Len") then len_of d else None))))))))
