use Rattle.std.proofs.Common.{◌≡◌, [], take}
use Rattle.plan_core.specs.Names.{with_names}
use Rattle.plan_function_tables.proofs.explode.set_of.Given as goal

-- the names up to here, each once
abbrev pub invariant-loop-name : goal.invariant-loop-name
invariant-loop-name l = l.set ≡ with_names [] (take l.name-index l.names)
