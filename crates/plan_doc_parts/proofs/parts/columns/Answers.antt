use Rattle.std.proofs.Common.{rules, ◌∙◌, sym}
use Rattle.plan_doc_parts.specs.Parts.{column_of, columns_of, distinct_columns}
use Rattle.plan_doc_parts.proofs.DistinctLemmas.{no_entry, next_entry, entry_twice}
use Rattle.plan_doc_parts.proofs.ColumnLemmas.{type_last, names_last, name_twice}
use Rattle.plan_doc_parts.proofs.parts.columns.Goals as goal

pub returns-in_err-name : goal.returns-in_err-name
unfolding columns_of
returns-in_err-name c = rw c.in_ok-entries.ensures
    (let stop = no_entry column_of c.in_ok-entries.entries.now c.loop-entry.entry-index c.entry-item.result c.loop-entry-test.true c.entry-item.is distinct_columns in search rules)

pub returns-in-Some : goal.returns-in-Some
unfolding columns_of
returns-in-Some c = rw c.in_ok-entries.ensures
    (entry_twice column_of c.in_ok-entries.entries.now c.loop-entry.entry-index c.entry-item.result c.loop-entry-test.true c.entry-item.is c.loop-entry.columns (c.in_ok-name.name, c.in_ok-name.data_type) c.loop-entry.invariant.read c.in_ok-name.ensures
    distinct_columns (name_twice c.in_ok-name.name c.in_ok-name.data_type c.loop-entry.columns c.in-Some.field-0 (sym c.in_ok-with_column.ensures.given ∙ c.in-Some.is)))

pub loop-entry-preserved : goal.loop-entry-preserved
loop-entry-preserved c =
    let new = sym c.in_ok-with_column.ensures.given ∙ c.in-None.is in
    rw (c.in_ok-with_column.ensures.after, type_last c.in_ok-name.name c.in_ok-name.data_type c.loop-entry.columns new) record {
      read = next_entry column_of c.in_ok-entries.entries.now c.loop-entry.entry-index c.entry-item.result c.loop-entry-test.true c.entry-item.is c.loop-entry.columns (c.in_ok-name.name, c.in_ok-name.data_type) c.loop-entry.invariant.read c.in_ok-name.ensures;
      distinct = names_last c.in_ok-name.name c.in_ok-name.data_type c.loop-entry.columns new c.loop-entry.invariant.distinct;
    }
