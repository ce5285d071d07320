use Rattle.std.proofs.Common.{◌≡◌, ◌++◌, not, take}
use Rattle.std.specs.List.{filter}
use Rattle.plan_expr.specs.Leaves.{Name}
use Rattle.plan_file_scan.specs.Left.{is_path}
use Rattle.plan_file_tables.proofs.names.path_last.Given as goal

abbrev pub invariant-loop-name : goal.invariant-loop-name
invariant-loop-name l = l.list ≡ filter (λ (a : Name). not (is_path l.path a)) (take l.name-index l.names)

abbrev pub invariant-loop-name-2 : goal.invariant-loop-name-2
invariant-loop-name-2 l = l.list ≡ filter (λ (a : Name). not (is_path l.path a)) l.names ++ filter (is_path l.path) (take l.name-index l.names)
