use Rattle.std.proofs.Common.{◌≡◌, ◌∙◌, true, false, not, sym, ap, arith}
use Rattle.std.specs.Option.{option_copied}
use Rattle.plan_core.specs.Columns.{names_of}
use Rattle.plan_core.specs.Names.{has}
use Rattle.plan_hive.specs.Hive.{hive_columns}
use Rattle.plan_hive.proofs.ColumnLemmas.{other-kept, other-passed, reader-kept, reader-passed, typed-there}
use Rattle.plan_scan.proofs.StatLemmas.{is-within}
use Rattle.plan_hive.proofs.hive_columns.hive_columns.Goals.{in-Some-get_at_index+then-is_none+in_ok-new-2+in_ok-with_column-2, in-Some-get_at_index+else-is_none, in_default}
use Rattle.plan_hive.proofs.hive_columns.hive_columns.Goals as goal

pub loop-name-preserved-in_ok-with_column : goal.loop-name-preserved-in_ok-with_column
loop-name-preserved-in_ok-with_column c =
    let schema = option_copied c.args.schema in
    let whole = hive_columns schema c.args.reader.now c.args.all.now c.args.firsts.now in
    reader-kept schema c.args.reader.now c.args.all.now c.args.firsts.now c.loop-name.name-iterator c.next.new.self c.loop-name.columns whole c.with_column.new.self c.in-Some.name.now c.in_ok-new.field-0 c.in-Some.field-0-1.now c.hive_type-dtype.result c.in-Some.ensures.steps (sym c.contains.ensures ∙ c.if-contains.true) c.in_ok-new.ensures c.hive_type-dtype.ensures c.in_ok-with_column.ensures.after c.loop-name.invariant

pub loop-name-preserved : goal.loop-name-preserved
loop-name-preserved c =
    let schema = option_copied c.args.schema in
    let whole = hive_columns schema c.args.reader.now c.args.all.now c.args.firsts.now in
    reader-passed schema c.args.reader.now c.args.all.now c.args.firsts.now c.loop-name.name-iterator c.next.new.self c.loop-name.columns whole c.in-Some.name.now c.in-Some.field-0-1.now c.in-Some.ensures.steps (sym c.contains.ensures ∙ c.if-contains.false) c.loop-name.invariant

pub loop-i-preserved : goal.loop-i-preserved
loop-i-preserved c =
    let schema = option_copied c.args.schema in
    let reader = c.args.reader.now in
    let all = c.args.all.now in
    let firsts = c.args.firsts.now in
    let whole = hive_columns schema reader all firsts in
    elim c.match-get_at_index.branch [
      | in-Some-get_at_index+then-is_none+in_ok-new-2+in_ok-with_column-2 w ↦
          let name = w.in-Some-get_at_index.name.now in
          let absent : has (names_of reader) name ≡ false = typed-there reader name w.get.result w.is_none.result w.get.ensures w.is_none.ensures ∙ ap not w.if-is_none.true in
          other-kept schema reader all firsts c.loop-i.i c.loop-i.columns whole c.match-get_at_index.columns name w.in_ok-new-2.field-0 w.hive_type-dtype-then-is_none.result w.in-Some-get_at_index.ensures.found absent w.in_ok-new-2.ensures w.hive_type-dtype-then-is_none.ensures (w.columns-is ∙ w.in_ok-with_column-2.ensures.after) c.loop-i.invariant
      | in-Some-get_at_index+else-is_none w ↦
          let name = w.in-Some-get_at_index.name.now in
          let there : has (names_of reader) name ≡ true = typed-there reader name w.get.result w.is_none.result w.get.ensures w.is_none.ensures ∙ ap not w.if-is_none.false in
          rw w.columns-is (other-passed schema reader all firsts c.loop-i.i c.loop-i.columns whole name w.in-Some-get_at_index.ensures.found there c.loop-i.invariant)
      | in_default w ↦ absurd (is-within firsts c.loop-i.i (omega (arith, c.len-i-end.ensures.value)) w.in_default.ensures.none)
    ]
