use Rattle.std.proofs.Common.{◌≡◌, true, map, take, Some}
use Rattle.std.specs.Map.{keys_of}
use Rattle.serde_json.specs.View.{view}
use Rattle.plan_table.specs.Tables.{same_key}
use Rattle.plan_doc_parts.specs.Parts.{each, are_distinct}
use Rattle.plan_doc.specs.Tables.{table_of}
use Rattle.plan_doc.proofs.tables.tables.Given as goal

abbrev pub invariant-loop-entry : goal.invariant-loop-entry
invariant-loop-entry l = record {
  read : each table_of (map view (take l.entry-index l.entries)) ≡ Some l.tables;
  distinct : are_distinct same_key (keys_of l.tables) ≡ true;
}
