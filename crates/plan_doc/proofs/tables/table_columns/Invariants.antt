use Rattle.std.proofs.Common.{◌≡◌, true, map, take, Some}
use Rattle.std.specs.Str.{bytes_eq}
use Rattle.serde_json.specs.View.{view}
use Rattle.plan_doc_parts.specs.Parts.{each, are_distinct}
use Rattle.plan_doc.specs.Tables.{table_column_of, table_names}
use Rattle.plan_doc.proofs.tables.table_columns.Given as goal

abbrev pub invariant-loop-entry : goal.invariant-loop-entry
invariant-loop-entry l = record {
  read : each (table_column_of l.height) (map view (take l.entry-index l.entries)) ≡ Some l.columns;
  distinct : are_distinct bytes_eq (table_names l.columns) ≡ true;
}
