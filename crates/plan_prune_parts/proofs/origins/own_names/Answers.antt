use Rattle.std.proofs.Common.{◌∙◌, List, ap, ◌++◌}
use Rattle.plan_core.specs.declared.data_type.DataType.{DataType}
use Rattle.plan_core.specs.Columns.{names_of}
use Rattle.plan_expr.specs.Leaves.{Name}
use Rattle.plan_prune_parts.proofs.OriginLemmas.{listed-next, listed-all}
use Rattle.plan_prune_parts.proofs.origins.own_names.Goals as goal

pub loop-name-preserved : goal.loop-name-preserved
loop-name-preserved c =
    let column : Name × DataType = (c.in-Some.name.now, c.in-Some.field-0-1.now) in
    ap (λ (l : List Name). l ++ names_of c.next.new.self) c.in_ok-push.ensures.pushed
    ∙ listed-next (λ (x : Name × DataType). x.0) c.loop-name.own column c.next.new.self c.loop-name.name-iterator c.in_ok-new.field-0 c.in-Some.ensures.steps c.in_ok-new.ensures (names_of c.into_iter-name-iterator.result) c.loop-name.invariant

pub returns : goal.returns
returns c =
    listed-all (λ (x : Name × DataType). x.0) c.loop-name.own c.loop-name.name-iterator c.in-None.ensures.steps.0 (names_of c.into_iter-name-iterator.result) c.loop-name.invariant
    ∙ ap names_of (c.into_iter-name-iterator.ensures.into_iter_gives ∙ c.iter-name-items.ensures.rest)
