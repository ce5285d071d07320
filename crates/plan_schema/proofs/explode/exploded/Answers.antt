use Rattle.std.proofs.Common.{◌++◌, List, sym, ap, ◌∙◌, append-nil}
use Rattle.plan_core.specs.Columns.{Columns}
use Rattle.plan_expr.specs.Leaves.{Name}
use Rattle.plan_frame.specs.Reshaped.{exploded_columns}
use Rattle.plan_frame.proofs.ReshapedLemmas.{apart-once, exploded-next}
use Rattle.plan_schema.proofs.explode.exploded.Goals as goal

pub loop-name-preserved : goal.loop-name-preserved
loop-name-preserved c =
    rw (c.in_ok-with_column.ensures.after, c.in_ok-new.ensures, c.exploded_type-dtype.ensures)
    (exploded-next c.in_ok-apart.apart c.loop-name.made c.args.schema.now c.in-Some.name.now c.in-Some.dtype.now c.next.new.self c.loop-name.name-iterator
    c.iter-name-items.ensures.distinct c.loop-name.invariant c.in-Some.ensures.steps)

pub returns : goal.returns
returns c =
    sym (append-nil c.loop-name.made)
    ∙ ap (λ (left : Columns). c.loop-name.made ++ exploded_columns c.in_ok-apart.apart left) (sym c.in-None.ensures.steps.0)
    ∙ c.loop-name.invariant
    ∙ ap (λ (names : List Name). exploded_columns names c.args.schema.now) c.in_ok-apart.ensures
    ∙ apart-once c.args.names.now c.args.schema.now
