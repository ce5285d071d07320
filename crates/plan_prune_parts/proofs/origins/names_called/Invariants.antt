use Rattle.std.proofs.Common.{◌≡◌, ◌++◌}
use Rattle.plan_core.specs.Columns.{names_of}
use Rattle.plan_prune_parts.proofs.OriginLemmas.{called_all}
use Rattle.plan_prune_parts.proofs.origins.names_called.Given as goal

-- what is listed, and then what is left, are the right columns under the names that they get
abbrev pub invariant-loop-name : goal.invariant-loop-name
invariant-loop-name l = l.called ++ called_all l.suffix (names_of l.left) l.name-iterator ≡ called_all l.suffix (names_of l.left) l.initial.name-iterator
