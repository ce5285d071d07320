-- The options that groups have where nothing else is said.
use Rattle.std.specs.Prelude.{None}
use Rattle.plan_options.specs.declared.group.GroupbyOptions.{GroupbyOptions}

-- all groups
abbrev pub default_group : GroupbyOptions
default_group = record { slice = None }
