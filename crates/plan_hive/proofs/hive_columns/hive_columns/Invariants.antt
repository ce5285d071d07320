use Rattle.std.proofs.Common.{◌≡◌, ◌++◌, drop}
use Rattle.std.specs.Option.{option_copied}
use Rattle.plan_core.specs.Columns.{with_types}
use Rattle.plan_hive.specs.Hive.{hive_columns}
use Rattle.plan_hive.proofs.ColumnLemmas.{typed, kept, others}
use Rattle.plan_hive.proofs.hive_columns.hive_columns.Given as goal

-- what is there, and then what is left of the reader's columns and the others, are the columns
abbrev pub invariant-loop-name : goal.invariant-loop-name
invariant-loop-name l =
    with_types l.columns (typed (option_copied l.schema) l.reader l.all (kept l.firsts l.name-iterator ++ others l.reader l.firsts)) ≡ hive_columns (option_copied l.schema) l.reader l.all l.firsts

-- what is there, and then what is left of the others, are the columns
abbrev pub invariant-loop-i : goal.invariant-loop-i
invariant-loop-i l =
    with_types l.columns (typed (option_copied l.schema) l.reader l.all (others l.reader (drop l.i l.firsts))) ≡ hive_columns (option_copied l.schema) l.reader l.all l.firsts
