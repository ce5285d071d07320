use Rattle.std.proofs.Common.{◌≡◌, true, map, take, Some}
use Rattle.std.specs.Str.{bytes_eq}
use Rattle.serde_json.specs.View.{view}
use Rattle.plan_scan.specs.Stats.{with_values, Fits}
use Rattle.plan_doc_parts.specs.Parts.{each, are_distinct, column_names}
use Rattle.plan_doc_scans.specs.Hive.{hive_column_of}
use Rattle.plan_doc_scans.proofs.hive.hive_part.Given as goal

abbrev pub invariant-loop-entry : goal.invariant-loop-entry
invariant-loop-entry l = record {
  read : each hive_column_of (map view (take l.entry-index l.entries)) ≡ Some (with_values l.schema l.values);
  fits : Fits l.schema l.values;
  distinct : are_distinct bytes_eq (column_names l.schema) ≡ true;
}
