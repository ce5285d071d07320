use Rattle.std.proofs.Common.{◌≡◌}
use Rattle.std.specs.List.{list_all}
use Rattle.plan_core.specs.Columns.{names_of}
use Rattle.plan_core.specs.Names.{has}
use Rattle.plan_prune_parts.proofs.top.are_asked.Given as goal

-- all are asked exactly where those that are left are
abbrev pub invariant-loop-name : goal.invariant-loop-name
invariant-loop-name l = list_all (has l.asked) (names_of l.name-iterator) ≡ list_all (has l.asked) (names_of l.columns)
