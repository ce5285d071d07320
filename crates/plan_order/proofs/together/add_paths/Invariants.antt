use Rattle.std.proofs.Common.{◌≡◌, ◌++◌, take}
use Rattle.plan_order.proofs.together.add_paths.Given as goal

-- those up to here are added
abbrev pub invariant-loop-path : goal.invariant-loop-path
invariant-loop-path l = l.paths ≡ l.initial.paths ++ take l.path-index l.more
