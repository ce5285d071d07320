-- The options that frames that are put together have where nothing else is said, and those of a union that is asked for.
use Rattle.std.specs.Prelude.{true, false, None}
use Rattle.plan_options.specs.declared.union.UnionArgs.{UnionArgs}
use Rattle.plan_options.specs.declared.union.UnionOptions.{UnionOptions}
use Rattle.plan_options.specs.declared.union.HConcatOptions.{HConcatOptions}

-- in parallel and in order, and nothing else
abbrev pub default_args : UnionArgs
default_args = record {
  parallel = true;
  rechunk = false;
  to_supertypes = false;
  diagonal = false;
  from_partitioned_ds = false;
  maintain_order = true;
}

-- all rows, whose number isn't known, and nothing else
abbrev pub default_union : UnionOptions
default_union = record {
  slice = None;
  rows = (None, 0);
  parallel = false;
  from_partitioned_ds = false;
  flattened_by_opt = false;
  rechunk = false;
  maintain_order = false;
}

-- the default, with what the arguments say of the same
abbrev pub union_of : UnionArgs → UnionOptions
union_of args = record default_union {
  parallel = args.parallel;
  from_partitioned_ds = args.from_partitioned_ds;
  rechunk = args.rechunk;
  maintain_order = args.maintain_order;
}

-- one input after another
abbrev pub default_concat : HConcatOptions
default_concat = record { parallel = false }
