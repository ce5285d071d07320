use Rattle.std.proofs.Common.{rules, ◌≡◌, None, sym}
use Rattle.plan_table.specs.Tables.{column_of}
use Rattle.plan_doc.specs.Tables.{table_column_of, table_columns_of, distinctly_named}
use Rattle.plan_doc_parts.proofs.DistinctLemmas.{no_entry, next_entry, entry_twice}
use Rattle.plan_doc.proofs.TableLemmas.{column_last, names_last, name_twice}
use Rattle.plan_doc.proofs.tables.table_columns.Goals as goal

pub returns-in_err-column : goal.returns-in_err-column
unfolding table_columns_of
returns-in_err-column c = rw c.in_ok-entries.ensures
    (let stop = no_entry (table_column_of c.args.height) c.in_ok-entries.entries.now c.loop-entry.entry-index c.entry-item.result c.loop-entry-test.true c.entry-item.is distinctly_named in search rules)

pub returns-in-Some : goal.returns-in-Some
unfolding table_columns_of
returns-in-Some c = rw c.in_ok-entries.ensures
    (entry_twice (table_column_of c.args.height) c.in_ok-entries.entries.now c.loop-entry.entry-index c.entry-item.result c.loop-entry-test.true c.entry-item.is c.loop-entry.columns c.in_ok-column.column c.loop-entry.invariant.read c.in_ok-column.ensures
    distinctly_named (name_twice c.in_ok-column.column c.loop-entry.columns c.in-Some.field-0.now (rw c.as_str.ensures at (sym c.in-Some.ensures))))

pub loop-entry-preserved : goal.loop-entry-preserved
loop-entry-preserved c =
    let new : column_of c.loop-entry.columns c.in_ok-column.column.name ≡ None = rw c.as_str.ensures at (sym c.in-None.ensures) in
    rw (c.in_ok-with_column.ensures.after, column_last c.in_ok-column.column c.loop-entry.columns new) record {
      read = next_entry (table_column_of c.args.height) c.in_ok-entries.entries.now c.loop-entry.entry-index c.entry-item.result c.loop-entry-test.true c.entry-item.is c.loop-entry.columns c.in_ok-column.column c.loop-entry.invariant.read c.in_ok-column.ensures;
      distinct = names_last c.in_ok-column.column c.loop-entry.columns new c.loop-entry.invariant.distinct;
    }
