use Rattle.std.proofs.Common.{rules, ◌∙◌, sym}
use Rattle.plan_scan.specs.declared.stats.ColumnStats.{ColumnStats}
use Rattle.plan_scan.specs.Stats.{with_values}
use Rattle.plan_doc_parts.proofs.ColumnLemmas.{type_last, names_last}
use Rattle.plan_doc_parts.proofs.DistinctLemmas.{no_entry, next_entry, entry_twice}
use Rattle.plan_doc_scans.specs.Hive.{hive_column_of, hive_part_of, distinct_stats}
use Rattle.plan_doc_scans.proofs.HiveLemmas.{column_typed, fits_last, stats_last, stat_twice, part_read}
use Rattle.plan_doc_scans.proofs.hive.hive_part.Goals as goal

pub returns-in-loop-entry : goal.returns-in-loop-entry
unfolding hive_part_of
returns-in-loop-entry c = rw c.in-Ok-read.ensures
    (let stop = no_entry hive_column_of c.in-Ok-read.field-0.now c.loop-entry.entry-index c.entry-item.result c.loop-entry-test.true c.entry-item.is distinct_stats in search rules)

pub returns-in-Some : goal.returns-in-Some
unfolding hive_part_of
returns-in-Some c =
    let s : ColumnStats = c.in-Ok-read-2.field-0 in
    rw c.in-Ok-read.ensures
    (entry_twice hive_column_of c.in-Ok-read.field-0.now c.loop-entry.entry-index c.entry-item.result c.loop-entry-test.true c.entry-item.is (with_values c.loop-entry.schema c.loop-entry.values) s c.loop-entry.invariant.read c.in-Ok-read-2.ensures
    distinct_stats (stat_twice s c.loop-entry.schema c.loop-entry.values c.in-Some.field-0 c.loop-entry.invariant.fits (sym c.in_ok-with_column.ensures.given ∙ c.in-Some.is)))

pub loop-entry-preserved : goal.loop-entry-preserved
loop-entry-preserved c =
    let s : ColumnStats = c.in-Ok-read-2.field-0 in
    let new = sym c.in_ok-with_column.ensures.given ∙ c.in-None.is in
    rw (c.in_ok-with_column.ensures.after, c.in_ok-push.ensures.pushed, type_last s.field.name s.field.dtype c.loop-entry.schema new, stats_last s c.loop-entry.schema c.loop-entry.values c.loop-entry.invariant.fits) record {
      read = next_entry hive_column_of c.in-Ok-read.field-0.now c.loop-entry.entry-index c.entry-item.result c.loop-entry-test.true c.entry-item.is (with_values c.loop-entry.schema c.loop-entry.values) s c.loop-entry.invariant.read c.in-Ok-read-2.ensures;
      fits = fits_last s c.loop-entry.schema c.loop-entry.values c.loop-entry.invariant.fits (column_typed _ s c.in-Ok-read-2.ensures);
      distinct = names_last s.field.name s.field.dtype c.loop-entry.schema new c.loop-entry.invariant.distinct;
    }

pub returns-2 : goal.returns-2
unfolding hive_part_of
returns-2 c =
    let all = part_read c.in-Ok-read.field-0.now c.loop-entry.entry-index c.loop-entry.schema c.loop-entry.values c.loop-entry-test.false c.loop-entry.invariant.read c.loop-entry.invariant.fits c.loop-entry.invariant.distinct in
    rw (c.in-Ok-read.ensures, all) c.partitions.ensures
