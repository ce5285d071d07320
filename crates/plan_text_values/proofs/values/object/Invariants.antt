-- The last entries are in the map, and the first ones are left.
use Rattle.std.proofs.Common.{◌≡◌, ◌++◌, List, ℕ, length, map, Bor}
use Rattle.serde_json.specs.View.{members_view}
use Rattle.plan_text_pieces.specs.declared.pieces.Piece.{Piece}
use Rattle.plan_text_pieces.specs.Lists.{members_from}
use Rattle.plan_text_pieces.specs.Pieces.{piece_entry}
use Rattle.plan_text_values.proofs.values.object.Given as goal

abbrev pub invariant-loop-key : goal.invariant-loop-key
invariant-loop-key l =
    (done : List (Bor (List ℕ) × Piece)) × (l.fn.entries.items ≡ l.rest.items ++ done)
    × (members_view l.map.entries ≡ members_from (map piece_entry done))

abbrev pub decreases-loop-key : goal.decreases-loop-key
decreases-loop-key l = length l.rest.items
