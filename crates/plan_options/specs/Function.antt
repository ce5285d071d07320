-- The options that functions have where nothing else is said, and which functions work row by row.
use Rattle.std.specs.Prelude.{Bool, true, false, not, ◌&&◌, None}
use Rattle.plan_options.specs.declared.function.ApplyOptions.{ApplyOptions}
use Rattle.plan_options.specs.declared.function.ApplyOptions.TheVariants.{GroupWise, ApplyList, ElementWise}
use Rattle.plan_options.specs.declared.function.FunctionOptions.{FunctionOptions}
use Rattle.plan_options.specs.Flags.{bits_of, flags_with, has_bits, default_bits, changes_length, returns_scalar}

-- by groups, with a check of the number of values, and with the default flags
abbrev pub default_function : FunctionOptions
default_function = record {
  collect_groups = GroupWise;
  check_lengths = true;
  flags = flags_with default_bits;
  cast_options = None;
}

-- whether a function is applied to all values, and not group by group
abbrev pub takes_all : ApplyOptions → Bool
takes_all GroupWise = false
takes_all ApplyList = true
takes_all ElementWise = true

-- whether a function is applied to all values, and neither changes their number nor gives just one
abbrev pub is_elementwise : FunctionOptions → Bool
is_elementwise options = let bits = bits_of options.flags in
    takes_all options.collect_groups && not (has_bits bits changes_length) && not (has_bits bits returns_scalar)
