use Rattle.std.proofs.Common.{◌≡◌, ◌++◌}
use Rattle.plan_scan.specs.Stats.{named_among}
use Rattle.plan_file_tables.proofs.output.asked_among.Given as goal

abbrev pub invariant-loop-name : goal.invariant-loop-name
invariant-loop-name l = l.columns ++ named_among l.asked l.name-iterator ≡ named_among l.asked l.file
