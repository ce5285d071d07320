use Rattle.std.proofs.Common.{◌≡◌, All, [], is_some, length, map, true}
use Rattle.plan_core.specs.Columns.{type_of, with_types}
use Rattle.plan_expr.specs.declared.expr_ir.ExprIR.{ExprIR}
use Rattle.plan_expr.specs.Naming.{name_of}
use Rattle.plan_frame.specs.Frames.{with_columns}
use Rattle.plan_table.specs.Tables.{types_of}
use Rattle.plan_value.specs.Cells.{cells_of}
use Rattle.plan_value.specs.Shown.{columns_shown}
use Rattle.plan_function_tables.specs.Given.{stored_column}
use Rattle.plan_eval.specs.Groups.{columns_in}
use Rattle.plan_eval.proofs.group_by.key_columns.Given as goal

-- what is there, with the columns of the keys that are left, are all columns, and so are their types; as many values are left as keys
abbrev pub invariant-loop-key : goal.invariant-loop-key
invariant-loop-key l = record {
  shown : with_columns (columns_shown l.columns) (columns_in l.rows l.key-iterator.a.rest.now (cells_of l.key-iterator.b.rest.now)) ≡ with_columns [] (columns_in l.rows l.keys (cells_of l.values));
  types : with_types (types_of l.columns) (map (stored_column l.schema) l.key-iterator.a.rest.now) ≡ with_types [] (map (stored_column l.schema) l.keys);
  each : length l.key-iterator.b.rest.now ≡ length l.key-iterator.a.rest.now;
  named : All (λ (e : ExprIR). is_some (type_of l.schema (name_of e.output_name)) ≡ true) l.key-iterator.a.rest.now;
}
