-- The JSON values of expressions: members in the byte order of their keys.
use Rattle.std.specs.Prelude.{codes}
use Rattle.serde_json.specs.Data as json
use Rattle.serde_json.specs.Data.{Data, boolean, string, object, no_members, member}
use Rattle.plan_expr.specs.Aggregates.{agg_input}
use Rattle.plan_expr.specs.declared.aexpr.AExpr.{AExpr}
use Rattle.plan_expr.specs.declared.aexpr.AExpr.TheVariants as exprs
use Rattle.plan_expr.specs.declared.literal.LiteralValue.{LiteralValue}
use Rattle.plan_expr.specs.declared.literal.LiteralValue.TheVariants as literals
use Rattle.plan_text_pieces.specs.Kinds.{literal_text, operator_text, agg_text, function_text}
use Rattle.plan_text_pieces.specs.Values.{link_data, integer_data, list_data}

-- a value that is written out, null where there is none
abbrev pub literal_data : LiteralValue → Data
literal_data (literals.Null t) = json.null
literal_data (literals.Int64 z) = integer_data z
literal_data (literals.String s) = string s
literal_data (literals.Boolean b) = boolean b

-- an expression
unfoldable pub expr_data : AExpr → Data
expr_data (exprs.Column s) = object (member (codes "name") (string s) (member (codes "op") (string (codes "Column")) no_members))
expr_data (exprs.Literal v) = object (member (codes "op") (string (codes "Literal")) (member (codes "type") (string (literal_text v)) (member (codes "value") (literal_data v) no_members)))
expr_data (exprs.Alias input s) = object (member (codes "input") (link_data input) (member (codes "name") (string s) (member (codes "op") (string (codes "Alias")) no_members)))
expr_data (exprs.BinaryExpr left op right) = object (member (codes "left") (link_data left) (member (codes "op") (string (codes "BinaryExpr")) (member (codes "operator") (string (operator_text op)) (member (codes "right") (link_data right) no_members))))
expr_data (exprs.Ternary predicate truthy falsy) = object (member (codes "falsy") (link_data falsy) (member (codes "op") (string (codes "Ternary")) (member (codes "predicate") (link_data predicate) (member (codes "truthy") (link_data truthy) no_members))))
expr_data (exprs.Agg agg) = object (member (codes "input") (link_data (agg_input agg)) (member (codes "kind") (string (agg_text agg)) (member (codes "op") (string (codes "Agg")) no_members)))
expr_data (exprs.Function input function options) = object (member (codes "inputs") (list_data link_data input) (member (codes "name") (string (function_text function)) (member (codes "op") (string (codes "Function")) no_members)))
expr_data (exprs.Window function partition_by) = object (member (codes "function") (link_data function) (member (codes "op") (string (codes "Window")) (member (codes "partition_by") (list_data link_data partition_by) no_members)))
expr_data exprs.Len = object (member (codes "op") (string (codes "Len")) no_members)
