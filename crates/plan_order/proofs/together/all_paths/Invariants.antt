use Rattle.std.proofs.Common.{◌≡◌, ◌++◌, drop, map}
use Rattle.std.specs.Prelude.{option_map}
use Rattle.plan_order.specs.Counts.{paths_in}
use Rattle.plan_order.proofs.together.all_paths.Given as goal

-- what is there, with what is left, is all
abbrev pub invariant-loop-sources : goal.invariant-loop-sources
invariant-loop-sources l = option_map (λ qs. l.paths ++ qs) (paths_in (map (λ q. (q.0.now, q.1)) (drop l.sources-index l.found))) ≡ paths_in (map (λ q. (q.0.now, q.1)) l.found)
