-- The options that distinct rows have where nothing else is said.
use Rattle.std.specs.Prelude.{false, None}
use Rattle.plan_options.specs.declared.distinct.UniqueKeepStrategy.{UniqueKeepStrategy}
use Rattle.plan_options.specs.declared.distinct.UniqueKeepStrategy.TheVariants.{Any}
use Rattle.plan_options.specs.declared.distinct.DistinctOptionsDSL.{DistinctOptionsDSL}

-- any of the rows that are the same
abbrev pub default_keep : UniqueKeepStrategy
default_keep = Any

-- any of the rows that are the same in all columns, in any order
abbrev pub default_distinct : DistinctOptionsDSL
default_distinct = record { subset = None; maintain_order = false; keep_strategy = default_keep }
