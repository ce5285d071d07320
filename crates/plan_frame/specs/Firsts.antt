-- The first three of some types.
use Rattle.std.specs.Prelude.{List}
use Rattle.std.specs.List.{slice_get}
use Rattle.plan_core.specs.declared.data_type.DataType.{DataType}
use Rattle.plan_frame.specs.declared.exprs.FirstTypes.{FirstTypes}

-- the first three of some types, where there are so many
abbrev pub first_types : List DataType → FirstTypes
first_types ts = record { first = slice_get ts 0; second = slice_get ts 1; third = slice_get ts 2 }
