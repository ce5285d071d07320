-- JSON values in which what is told as a negative number is below 0, as in those that are read from texts.
use Rattle.std.specs.Prelude.{pos, negsuc, ◌&&◌, Bool, true, false}
use Rattle.serde_json.specs.Data.{Num, unsigned, negative, float, Data, null, boolean, number, string, array, object, Items, no_items, item, Members, no_members, member}

-- what is told as negative is below 0
abbrev pub is_signed : Num → Bool
is_signed (unsigned n) = true
is_signed (negative (pos n)) = false
is_signed (negative (negsuc n)) = true
is_signed (float x) = true

-- so is each number of a value
abbrev mutual
  pub is_canonical : Data → Bool
  is_canonical null = true
  is_canonical (boolean b) = true
  is_canonical (number n) = is_signed n
  is_canonical (string s) = true
  is_canonical (array ds) = are_canonical ds
  is_canonical (object ms) = members_are_canonical ms

  pub are_canonical : Items → Bool
  are_canonical no_items = true
  are_canonical (item d ds) = is_canonical d && are_canonical ds

  pub members_are_canonical : Members → Bool
  members_are_canonical no_members = true
  members_are_canonical (member k d ms) = is_canonical d && members_are_canonical ms
