use Rattle.std.proofs.Common.{◌≡◌, ◌++◌}
use Rattle.plan_core.specs.Columns.{names_of}
use Rattle.plan_prune_parts.proofs.origins.own_names.Given as goal

-- what is listed, and then what is left, are the columns
abbrev pub invariant-loop-name : goal.invariant-loop-name
invariant-loop-name l = l.own ++ names_of l.name-iterator ≡ names_of l.initial.name-iterator
