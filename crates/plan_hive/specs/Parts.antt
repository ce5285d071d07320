-- The hive columns that a path spells: `year=2020` in `/data/year=2020/file` is one.
use Rattle.std.specs.Prelude.{ℕ, Bool, not, ◌&&◌, ◌||◌, ◌==◌, nat_lt, nat_le, List, [], ◌∷◌, length, drop, filter_map, Option, None, Some, if◌then◌else◌, map, slice_index}
use Rattle.std.specs.List.{list_any, before_first, after_first}
use Rattle.std.specs.Str.{bytes_eq, is_utf8}
use Rattle.percent_encoding.specs.Percent.{percent_decode}

-- the bytes of a text
abbrev pub Text : Type 0
Text = List ℕ

-- a hive column in a path: its name, and its value, unless that is null
abbrev pub HivePart : Type 0
HivePart = Text × Option Text

-- `__HIVE_DEFAULT_PARTITION__`
abbrev pub default_partition : Text
default_partition = 95 ∷ 95 ∷ 72 ∷ 73 ∷ 86 ∷ 69 ∷ 95 ∷ 68 ∷ 69 ∷ 70 ∷ 65 ∷ 85 ∷ 76 ∷ 84 ∷ 95 ∷ 80 ∷ 65 ∷ 82 ∷ 84 ∷ 73 ∷ 84 ∷ 73 ∷ 79 ∷ 78 ∷ 95 ∷ 95 ∷ []

-- whether a byte stands in a text
abbrev pub has_byte : ℕ → Text → Bool
has_byte b text = list_any (λ c. c == b) text

-- a text may be cut at a place: it is no further than the end, and not inside a character
abbrev pub may_cut : ℕ → Text → Bool
may_cut i text = nat_le i (length text) && (nat_lt (slice_index text i) 128 || nat_le 192 (slice_index text i))

-- the first of the parts begins with one more byte
abbrev pub under : ℕ → List Text → List Text
under b [] = []
under b (part ∷ parts) = (b ∷ part) ∷ parts

-- the parts of a text between slashes, but for the last: those that end at a slash
abbrev pub folders : Text → List Text
folders [] = []
folders (b ∷ bs) = if b == 47 then [] ∷ folders bs else under b (folders bs)

-- the value that a decoded text says; none, which is null, for no text and for the default partition
abbrev pub value_of : Text → Option Text
value_of text = if bytes_eq text [] || bytes_eq text default_partition then None else Some text

-- what stands behind the first `=`
abbrev pub behind_equals : Text → Text
behind_equals part = after_first (λ c. c == 61) part

-- whether a part has one `=` with no `*` behind it, and what stands there is UTF-8 once its escapes are read
abbrev pub is_hive : Text → Bool
is_hive part = let value = behind_equals part in
    has_byte 61 part && not (has_byte 61 value) && not (has_byte 42 value) && is_utf8 (percent_decode value)

-- the hive column that a part of a path spells; its name is as written
abbrev pub hive_part : Text → Option HivePart
hive_part part = if is_hive part then Some (before_first (λ c. c == 61) part, value_of (percent_decode (behind_equals part))) else None

-- the hive columns of a path whose folders begin at a place, in order
abbrev pub hive_parts : ℕ → Text → List HivePart
hive_parts start path = filter_map hive_part (folders (drop start path))

-- the names of hive columns, in order
abbrev pub part_names : List HivePart → List Text
part_names parts = map (λ (p : HivePart). p.0) parts
