use Rattle.std.proofs.Common.{◌∙◌, ◌++◌, sym, ap}
use Rattle.std.proofs.lemmas.List.{append-nil}
use Rattle.plan_core.specs.Columns.{Columns}
use Rattle.plan_core.proofs.CopyLemmas.{with_type-copied}
use Rattle.plan_core.proofs.schema.SchemaTryClone.try_clone.Goals as goal

pub loop-name-preserved : goal.loop-name-preserved
loop-name-preserved c =
    rw (c.in_ok-with_column.ensures.after, c.in_ok-new.ensures)
    (with_type-copied c.loop-name.copy c.args.self.now c.in-Some.name.now c.in-Some.dtype.now c.next.new.self c.loop-name.name-iterator
    c.iter-name-items.ensures.distinct c.loop-name.invariant c.in-Some.ensures.steps)

pub returns : goal.returns
returns c = sym (append-nil c.loop-name.copy) ∙ ap (λ (left : Columns). c.loop-name.copy ++ left) (sym c.in-None.ensures.steps.0) ∙ c.loop-name.invariant
