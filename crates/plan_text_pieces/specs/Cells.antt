-- The JSON values of what stands in columns.
use Rattle.serde_json.specs.Data as json
use Rattle.serde_json.specs.Data.{Data, boolean, string}
use Rattle.plan_table.specs.declared.value.AnyValue.{AnyValue}
use Rattle.plan_table.specs.declared.value.AnyValue.TheVariants as values
use Rattle.plan_table.specs.declared.value.PlainValue.{PlainValue}
use Rattle.plan_table.specs.declared.value.PlainValue.TheVariants as singles
use Rattle.plan_text_pieces.specs.Values.{integer_data, list_data}

-- a value in a list, null where there is none
abbrev pub single_data : PlainValue → Data
single_data singles.Null = json.null
single_data (singles.Int64 z) = integer_data z
single_data (singles.String s) = string s
single_data (singles.Boolean b) = boolean b

-- a value in a row, null where there is none, a list as an array
abbrev pub value_data : AnyValue → Data
value_data values.Null = json.null
value_data (values.Int64 z) = integer_data z
value_data (values.String s) = string s
value_data (values.Boolean b) = boolean b
value_data (values.List vs) = list_data single_data vs
