use Rattle.std.proofs.Common.{◌≡◌, ◌++◌}
use Rattle.plan_core.proofs.ColumnLemmas.{seen}
use Rattle.plan_prune_names.specs.Known.{as_changes}
use Rattle.plan_prune_names.proofs.types.Types.into_changes.Given as goal

-- the changes, with what is left, are all
abbrev pub invariant-loop-name : goal.invariant-loop-name
invariant-loop-name l = l.changes.items ++ as_changes (seen l.name-iterator) ≡ l.initial.changes.items ++ as_changes l.fn.self
