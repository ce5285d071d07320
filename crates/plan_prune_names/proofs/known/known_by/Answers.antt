use Rattle.std.proofs.Common.{◌∙◌, ap, Bool, Option, is_some}
use Rattle.std.proofs.Math.Path.{fun_ext}
use Rattle.std.specs.List.{filter}
use Rattle.std.proofs.lemmas.Result.{IfOk-weaker}
use Rattle.plan_core.specs.declared.data_type.DataType.{DataType}
use Rattle.plan_expr.specs.Leaves.{Name}
use Rattle.plan_frame.proofs.NameSets.{some-type_of}
use Rattle.plan_prune_parts.specs.Said.{columns_at}
use Rattle.plan_prune_names.proofs.known.known_by.Goals as goal

pub returns-clause-names : goal.returns-clause-names
returns-clause-names c = IfOk-weaker c.known.result _ _ (λ names is. λ ex.
    is
    ∙ ap (λ (test : Name → Bool). filter test c.args.asked.now)
    (fun_ext (λ (a : Name). ap (λ (d : Option DataType). is_some d) (c.in_ok-know.ensures.shows ex a) ∙ some-type_of (columns_at c.args.lp.now ex c.args.input) a))) c.known.ensures
