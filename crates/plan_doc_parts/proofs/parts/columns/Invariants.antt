use Rattle.std.proofs.Common.{◌≡◌, true, map, take, Some}
use Rattle.std.specs.Str.{bytes_eq}
use Rattle.serde_json.specs.View.{view}
use Rattle.plan_doc_parts.specs.Parts.{each, column_of, are_distinct, column_names}
use Rattle.plan_doc_parts.proofs.parts.columns.Given as goal

abbrev pub invariant-loop-entry : goal.invariant-loop-entry
invariant-loop-entry l = record {
  read : each column_of (map view (take l.entry-index l.entries)) ≡ Some l.columns;
  distinct : are_distinct bytes_eq (column_names l.columns) ≡ true;
}
