use Rattle.std.proofs.Common.{◌∙◌, ap, Bool, Option, is_some}
use Rattle.std.proofs.Math.Path.{fun_ext}
use Rattle.std.specs.List.{filter}
use Rattle.plan_core.specs.declared.data_type.DataType.{DataType}
use Rattle.plan_expr.specs.Leaves.{Name}
use Rattle.plan_frame.proofs.NameSets.{some-type_of}
use Rattle.plan_prune_parts.specs.Said.{columns_at}
use Rattle.plan_prune_names.proofs.held.known_with.Goals as goal

pub returns : goal.returns
returns c = λ ex.
    c.in_ok-known_by_fewer.ensures
    ∙ ap (λ (test : Name → Bool). filter test c.args.asked.now)
    (fun_ext (λ (a : Name). ap (λ (d : Option DataType). is_some d) (c.in_ok-know.ensures.shows ex a) ∙ some-type_of (columns_at c.args.lp.now ex c.args.input) a))
