-- The JSON values of plans, listings, errors and schemas, and their texts: members in the byte order of their keys.
use Rattle.std.specs.Prelude.{ℕ, List, [], ◌∷◌, ◌++◌, Option, codes}
use Rattle.serde_json.specs.Data.{Data, unsigned, number, string, object, no_members, member}
use Rattle.serde_json.specs.Written.{compact_text}
use Rattle.plan_core.specs.Columns.{Columns}
use Rattle.plan_core.specs.declared.arena.Node.{Node}
use Rattle.plan_core.specs.declared.error.PolarsError.{PolarsError}
use Rattle.plan_expr.specs.declared.aexpr.AExpr.{AExpr}
use Rattle.plan_ir.specs.declared.ir.IR.{IR}
use Rattle.plan_table.specs.declared.table.Table.{Table}
use Rattle.plan_text_pieces.specs.Kinds.{fault_text, place_of}
use Rattle.plan_text_pieces.specs.Values.{link_data, list_data, nullable_data, columns_data, names_data}
use Rattle.plan_text.specs.Exprs.{expr_data}
use Rattle.plan_text.specs.Nodes.{node_data}
use Rattle.plan_text.specs.Rows.{rows_data}

-- a plan: its expressions, its nodes and its root
unfoldable pub plan_data : List IR → List AExpr → Node → Data
plan_data lp ex root = object (member (codes "exprs") (list_data expr_data ex) (member (codes "nodes") (list_data node_data lp) (member (codes "root") (link_data root) no_members)))

-- a plan with the columns that each of its scans reads, and the rows that it gives
unfoldable pub listing_data : List IR → List AExpr → Node → List (List (List ℕ)) → Option Table → Data
listing_data lp ex root reads rows = object (member (codes "plan") (plan_data lp ex root) (member (codes "reads") (list_data names_data reads) (member (codes "rows") (rows_data rows) no_members)))

-- an error: its kind and where it lies
unfoldable pub fault_data : PolarsError → Data
fault_data e = object (member (codes "error") (object (member (codes "kind") (string (fault_text e)) (member (codes "node") (nullable_data link_data (place_of e).node) (member (codes "place") (number (unsigned (place_of e).place)) no_members)))) no_members)

-- the columns that a plan gives
unfoldable pub schema_data : Columns → Data
schema_data cs = object (member (codes "schema") (columns_data cs) no_members)

-- the value's text, and a line feed
abbrev pub line_of : Data → List ℕ
line_of d = compact_text d ++ 10 ∷ []

-- the text of a plan, with no line feed
unfoldable pub plan_text : List IR → List AExpr → Node → List ℕ
plan_text lp ex root = compact_text (plan_data lp ex root)

-- the text of a listing
unfoldable pub listing_text : List IR → List AExpr → Node → List (List (List ℕ)) → Option Table → List ℕ
listing_text lp ex root reads rows = line_of (listing_data lp ex root reads rows)

-- the text of an error
unfoldable pub error_text : PolarsError → List ℕ
error_text e = line_of (fault_data e)

-- the text of a schema
unfoldable pub schema_text : Columns → List ℕ
schema_text cs = line_of (schema_data cs)
