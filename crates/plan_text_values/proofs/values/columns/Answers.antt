-- A turn writes the next column, and the last turn found none.
use Rattle.std.proofs.Common.{◌≡◌, length, rules}
use Rattle.plan_text_pieces.specs.Values.{field_data}
use Rattle.plan_text_values.proofs.ListLemmas.{array_is, more_written, whole_written}
use Rattle.plan_text_values.proofs.values.columns.Goals as goal

pub loop-name-preserved : goal.loop-name-preserved
loop-name-preserved c =
    let at : c.len.result ≡ length c.loop-name.written.items = search rules in
    more_written field_data c.args.schema.now c.loop-name.written.items _ at c.loop-name.invariant _ c.in_ok-field.field-0 _ c.in-Some.ensures.found c.in_ok-field.ensures c.in_ok-push.ensures.items

pub returns : goal.returns
returns c =
    let at : c.len.result ≡ length c.loop-name.written.items = search rules in
    array_is field_data c.args.schema.now c.loop-name.written (whole_written field_data c.args.schema.now c.loop-name.written.items _ at c.loop-name.invariant c.in_default.ensures.none)
