use Rattle.std.proofs.Common.{◌≡◌, ◌++◌, take}
use Rattle.plan_file_tables.proofs.appended.append.Given as goal

-- the values up to here stand behind
abbrev pub invariant-loop-value : goal.invariant-loop-value
invariant-loop-value l = l.values ≡ l.initial.values ++ take l.value-index l.more
