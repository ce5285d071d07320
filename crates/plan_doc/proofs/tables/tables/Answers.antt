use Rattle.std.proofs.Common.{rules, ◌≡◌, None, sym}
use Rattle.plan_table.specs.Tables.{table_at}
use Rattle.plan_doc.specs.Tables.{table_of, tables_of, distinctly_kept}
use Rattle.plan_doc_parts.proofs.DistinctLemmas.{no_entry, next_entry, entry_twice}
use Rattle.plan_doc.proofs.TableLemmas.{keys_last, key_twice}
use Rattle.plan_doc.proofs.FormedLemmas.{table_is}
use Rattle.plan_doc.proofs.tables.tables.Goals as goal

pub returns-in_err-key : goal.returns-in_err-key
unfolding tables_of
returns-in_err-key c = rw c.in_ok-entries.ensures
    (let stop = no_entry table_of c.in_ok-entries.entries.now c.loop-entry.entry-index c.entry-item.result c.loop-entry-test.true c.entry-item.is distinctly_kept in search rules)

pub returns-in-Some : goal.returns-in-Some
unfolding tables_of
returns-in-Some c = rw c.in_ok-entries.ensures
    (entry_twice table_of c.in_ok-entries.entries.now c.loop-entry.entry-index c.entry-item.result c.loop-entry-test.true c.entry-item.is c.loop-entry.tables (c.in_ok-key.key, c.in_ok-key.table) c.loop-entry.invariant.read c.in_ok-key.ensures
    distinctly_kept (key_twice c.in_ok-key.key c.in_ok-key.table c.loop-entry.tables c.in-Some.field-0.now (sym c.in-Some.ensures.found)))

pub add-requires-clause-absent : goal.add-requires-clause-absent
add-requires-clause-absent c = sym c.in-None.ensures.found

pub add-requires-clause-formed : goal.add-requires-clause-formed
add-requires-clause-formed c = table_is _ c.in_ok-key.key c.in_ok-key.table c.in_ok-key.ensures

pub loop-entry-preserved : goal.loop-entry-preserved
loop-entry-preserved c =
    let new : table_at c.loop-entry.tables c.in_ok-key.key ≡ None = sym c.in-None.ensures.found in
    rw c.in_ok-add.ensures.after record {
      read = next_entry table_of c.in_ok-entries.entries.now c.loop-entry.entry-index c.entry-item.result c.loop-entry-test.true c.entry-item.is c.loop-entry.tables (c.in_ok-key.key, c.in_ok-key.table) c.loop-entry.invariant.read c.in_ok-key.ensures;
      distinct = keys_last c.in_ok-key.key c.in_ok-key.table c.loop-entry.tables new c.loop-entry.invariant.distinct;
    }
