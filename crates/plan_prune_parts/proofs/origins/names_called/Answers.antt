use Rattle.std.proofs.Common.{◌∙◌, List, ap, ◌++◌}
use Rattle.plan_core.specs.declared.data_type.DataType.{DataType}
use Rattle.plan_core.specs.Columns.{names_of}
use Rattle.plan_expr.specs.Leaves.{Name}
use Rattle.plan_join.specs.Naming.{right_name}
use Rattle.plan_prune_parts.proofs.OriginLemmas.{called_all, listed-next, listed-all}
use Rattle.plan_prune_parts.proofs.origins.names_called.Goals as goal

pub loop-name-preserved : goal.loop-name-preserved
loop-name-preserved c =
    let names : List Name = names_of c.args.left.now in
    let column : Name × DataType = (c.in-Some.name.now, c.in-Some.field-0-1.now) in
    ap (λ (l : List Name). l ++ called_all c.args.suffix.now names c.next.new.self) c.in_ok-push.ensures.pushed
    ∙ listed-next (λ (x : Name × DataType). right_name c.args.suffix.now names x.0) c.loop-name.called column c.next.new.self c.loop-name.name-iterator c.in_ok-right_name.field-0 c.in-Some.ensures.steps c.in_ok-right_name.ensures (called_all c.args.suffix.now names c.into_iter-name-iterator.result) c.loop-name.invariant

pub returns : goal.returns
returns c =
    let names : List Name = names_of c.args.left.now in
    let given = c.into_iter-name-iterator.ensures.into_iter_gives ∙ c.iter-name-items.ensures.rest in
    listed-all (λ (x : Name × DataType). right_name c.args.suffix.now names x.0) c.loop-name.called c.loop-name.name-iterator c.in-None.ensures.steps.0 (called_all c.args.suffix.now names c.into_iter-name-iterator.result) c.loop-name.invariant
    ∙ ap (called_all c.args.suffix.now names) given
