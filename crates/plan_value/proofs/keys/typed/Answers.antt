use Rattle.std.proofs.Common.{ap}
use Rattle.plan_core.proofs.CopyLemmas.{with_type-copied}
use Rattle.plan_table.specs.Tables.{types_of}
use Rattle.plan_value.proofs.keys.typed.Goals as goal

pub loop-column-preserved : goal.loop-column-preserved
loop-column-preserved c =
    let column = c.in-Some.column.now in
    rw (c.in_ok-with_column.ensures.after, c.in_ok-try_clone.ensures)
    (with_type-copied c.loop-column.schema (types_of c.args.columns.now) column.name column.dtype (types_of c.next.new.self) (types_of c.loop-column.column-iterator)
    c.iter-column-items.ensures.distinct c.loop-column.invariant (ap types_of c.in-Some.ensures.steps))
