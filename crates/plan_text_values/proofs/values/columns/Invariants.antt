-- What is written so far comes from the first columns.
use Rattle.std.proofs.Common.{◌≡◌, ◌-◌, length, map, take}
use Rattle.serde_json.specs.View.{view}
use Rattle.plan_text_pieces.specs.Values.{field_data}
use Rattle.plan_text_values.proofs.values.columns.Given as goal

abbrev pub invariant-loop-name : goal.invariant-loop-name
invariant-loop-name l = map view l.written.items ≡ map field_data (take (length l.written.items) l.schema)

abbrev pub decreases-loop-name : goal.decreases-loop-name
decreases-loop-name l = length l.schema - length l.written.items
