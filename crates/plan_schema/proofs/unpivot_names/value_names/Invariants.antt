use Rattle.std.proofs.Common.{◌≡◌, ◌++◌, not}
use Rattle.std.specs.List.{filter as only_where}
use Rattle.plan_core.specs.Columns.{names_of}
use Rattle.plan_core.specs.Names.{has}
use Rattle.plan_schema.proofs.unpivot_names.value_names.Given as goal

-- the names so far, and those that are left to take, are all that aren't repeated
abbrev pub invariant-loop-name : goal.invariant-loop-name
invariant-loop-name l = l.names ++ only_where (λ a. not (has l.index a)) (names_of l.name-iterator) ≡ only_where (λ a. not (has l.index a)) (names_of l.schema)
