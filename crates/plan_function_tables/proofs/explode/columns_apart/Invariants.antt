use Rattle.std.proofs.Common.{◌≡◌, ◌++◌, List}
use Rattle.std.specs.List.{filter as only_where}
use Rattle.plan_core.specs.Names.{has}
use Rattle.plan_table.specs.declared.column.Column.{Column}
use Rattle.plan_function_tables.specs.Explode.{borrowed_columns}
use Rattle.plan_function_tables.proofs.explode.columns_apart.Given as goal

-- what is borrowed, and then those of these names among what is left, are all of these names
abbrev pub invariant-loop-column : goal.invariant-loop-column
invariant-loop-column l =
    let of_names : List Column → List Column = only_where (λ (c : Column). has l.apart c.name) in
    borrowed_columns l.lists ++ of_names l.column-iterator ≡ of_names l.columns
