-- The values that texts spell, and the types of hive columns.
use Rattle.std.specs.Prelude.{ℤ, pos, neg_ℤ, ◌^◌, Bool, true, false, not, ◌&&◌, nat_lt, nat_le, is_some, List, [], ◌∷◌, drop, filter_map, Option, None, Some, if◌then◌else◌, option_map, option_and_then, unwrap_or}
use Rattle.std.specs.List.{list_all}
use Rattle.std.specs.Map.{lookup}
use Rattle.std.specs.Str.{bytes_eq, all_ascii_digits}
use Rattle.std.specs.Str.Parse.{digits_value, starts_with_minus, true_text, false_text}
use Rattle.plan_core.specs.Columns.{Columns, type_of}
use Rattle.plan_core.specs.declared.data_type.DataType.{DataType}
use Rattle.plan_core.specs.declared.data_type.DataType.TheVariants as types
use Rattle.plan_table.specs.declared.value.AnyValue.{AnyValue}
use Rattle.plan_table.specs.declared.value.AnyValue.TheVariants as values
use Rattle.plan_hive.specs.Parts.{Text, HivePart}

-- the truth value that a text spells
abbrev pub truth_of : Text → Option Bool
truth_of text = if bytes_eq text true_text then Some true else if bytes_eq text false_text then Some false else None

-- a text is digits, at least one
abbrev pub is_numeral : Text → Bool
is_numeral text = not (bytes_eq text []) && all_ascii_digits text

-- the whole number of 64 signed bits that a text spells: digits, with a `-` or nothing before them
abbrev pub number_of : Text → Option ℤ
number_of text = let digits = drop 1 text in
    if starts_with_minus text
    then (if is_numeral digits && nat_le (digits_value 10 digits) (2 ^ 63) then Some (neg_ℤ (pos (digits_value 10 digits))) else None)
    else (if is_numeral text && nat_lt (digits_value 10 text) (2 ^ 63) then Some (pos (digits_value 10 text)) else None)

-- the value of a type that a text spells
abbrev pub spelled : DataType → Text → Option AnyValue
spelled types.Int64 text = option_map values.Int64 (number_of text)
spelled types.String text = Some (values.String text)
spelled types.Boolean text = option_map values.Boolean (truth_of text)
spelled (types.List t) text = None

-- the same where no text stands for null
abbrev pub value_as : DataType → Option Text → Option AnyValue
value_as dtype None = Some values.Null
value_as dtype (Some text) = spelled dtype text

-- the text of a column in a path, unless it is null or absent
abbrev pub text_in : Text → List HivePart → Option Text
text_in name parts = option_and_then (λ (value : Option Text). value) (lookup (bytes_eq name) parts)

-- the type of a column of which these are the values but for null
abbrev pub type_from : List Text → DataType
type_from [] = types.String
type_from (t ∷ ts) =
    if list_all (λ (text : Text). is_some (truth_of text)) (t ∷ ts) then types.Boolean
    else if list_all (λ (text : Text). is_some (number_of text)) (t ∷ ts) then types.Int64
    else types.String

-- the type of a hive column: as a schema is given, else as the reader has it, else by its values in all paths
abbrev pub hive_type : Option Columns → Columns → List (List HivePart) → Text → DataType
hive_type schema reader all name =
    unwrap_or (option_and_then (λ (s : Columns). type_of s name) schema)
    (unwrap_or (type_of reader name) (type_from (filter_map (text_in name) all)))
