use Rattle.std.proofs.Common.{take}
use Rattle.std.specs.List.{filter_map}
use Rattle.plan_hive.specs.Values.{text_in}
use Rattle.plan_hive.proofs.ColumnLemmas.{Told}
use Rattle.plan_hive.proofs.hive_columns.type_from.Given as goal

-- the marks tell what the texts so far spell
abbrev pub invariant-loop-values : goal.invariant-loop-values
invariant-loop-values l = Told (filter_map (text_in l.name) (take l.values-index l.all)) l.any l.truths l.numbers
