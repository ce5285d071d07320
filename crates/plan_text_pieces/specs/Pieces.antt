-- What stands under the keys of objects, without being made.
use Rattle.std.specs.Prelude.{◌≡◌, ℕ, true, List, map}
use Rattle.std.specs.Borrow.{Bor}
use Rattle.serde_json.specs.Data.{Data, null, boolean, string, object}
use Rattle.plan_text_pieces.specs.declared.pieces.Piece.{Piece}
use Rattle.plan_text_pieces.specs.declared.pieces.Piece.TheVariants as pieces
use Rattle.plan_text_pieces.specs.Lists.{are_ascending, members_from}
use Rattle.plan_text_pieces.specs.Values.{buffers_data, columns_data, integer_data, link_data, list_data, names_data, number_data, options_data, output_data, outputs_data, paths_data, row_index_data, slice_data, truths_data, two_data}
use Rattle.plan_text_pieces.specs.JoinOptions.{kind_options_data}
use Rattle.plan_text_pieces.specs.Functions.{frame_function_data}
use Rattle.plan_text_pieces.specs.Hive.{hive_parts_data}

-- the value that a piece tells
abbrev pub piece_data : Piece → Data
piece_data pieces.Null = null
piece_data (pieces.Boolean b) = boolean b
piece_data (pieces.BooleanPair a b) = two_data (boolean a) (boolean b)
piece_data (pieces.Booleans bs) = truths_data bs.now
piece_data (pieces.Number n) = number_data n
piece_data (pieces.Integer z) = integer_data z
piece_data (pieces.Text s) = string s.now
piece_data (pieces.Names ns) = names_data ns.now
piece_data (pieces.Paths ps) = paths_data ps.now
piece_data (pieces.Buffers ns) = buffers_data ns.now
piece_data (pieces.HiveParts ps) = hive_parts_data ps.now
piece_data (pieces.Columns cs) = columns_data cs.now
piece_data (pieces.Links ns) = list_data link_data ns.now
piece_data (pieces.Output e) = output_data e.now
piece_data (pieces.Outputs es) = outputs_data es.now
piece_data (pieces.Options o) = options_data o
piece_data (pieces.Function f) = frame_function_data f.now
piece_data (pieces.KindOptions k) = kind_options_data k.now
piece_data (pieces.RowIndex r) = row_index_data r.now
piece_data (pieces.Slice z n) = slice_data (z, n)

-- the key of an entry
abbrev pub piece_key : Bor (List ℕ) × Piece → List ℕ
piece_key e = e.0.now

-- the key of an entry, with the value of its piece
abbrev pub piece_entry : Bor (List ℕ) × Piece → List ℕ × Data
piece_entry e = (e.0.now, piece_data e.1)

-- the object of these entries
abbrev pub object_of : List (Bor (List ℕ) × Piece) → Data
object_of es = object (members_from (map piece_entry es))

-- entries that make this object, their keys in byte order
pub record Tells (es : List (Bor (List ℕ) × Piece)) (d : Data) : Type 0 where
  pub ascending : are_ascending (map piece_key es) ≡ true
  pub object : object_of es ≡ d
