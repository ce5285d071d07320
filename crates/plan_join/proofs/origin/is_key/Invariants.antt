use Rattle.std.proofs.Common.{◌≡◌, drop}
use Rattle.plan_core.specs.Names.{has}
use Rattle.plan_join.specs.Naming.{key_columns}
use Rattle.plan_join.proofs.origin.is_key.Given as goal

-- a key is that column exactly where one of those that are left is
abbrev pub invariant-loop-key : goal.invariant-loop-key
invariant-loop-key l = has (key_columns l.ex l.keys) l.name ≡ has (key_columns l.ex (drop l.key-index l.keys)) l.name
