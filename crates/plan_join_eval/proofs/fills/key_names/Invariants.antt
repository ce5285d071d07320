use Rattle.std.proofs.Common.{◌≡◌, take}
use Rattle.plan_join.specs.Naming.{key_columns}
use Rattle.plan_join_eval.proofs.fills.key_names.Given as goal

-- the columns among the keys up to here
abbrev pub invariant-loop-key : goal.invariant-loop-key
invariant-loop-key l = l.names ≡ key_columns l.ex (take l.key-index l.keys)
