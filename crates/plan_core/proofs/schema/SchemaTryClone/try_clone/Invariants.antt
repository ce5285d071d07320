use Rattle.std.proofs.Common.{◌≡◌, ◌++◌}
use Rattle.plan_core.proofs.schema.SchemaTryClone.try_clone.Given as goal

-- what is copied, and then what is left, is the schema
abbrev pub invariant-loop-name : goal.invariant-loop-name
invariant-loop-name l = l.copy ++ l.name-iterator ≡ l.self
