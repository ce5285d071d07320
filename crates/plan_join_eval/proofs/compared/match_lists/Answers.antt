use Rattle.std.proofs.Common.{◌∙◌, sym, subst}
use Rattle.plan_join.specs.declared.options.JoinTypeOptionsIR.{JoinTypeOptionsIR}
use Rattle.plan_value.specs.Shown.{schema_of}
use Rattle.plan_join_eval.specs.Compared.{IsConditioned}
use Rattle.plan_join_eval.proofs.ElementwiseLemmas.{elementwise_at}
use Rattle.plan_join_eval.proofs.compared.match_lists.Goals as goal

pub worked_lists-requires-clause-by_row : goal.worked_lists-requires-clause-by_row
worked_lists-requires-clause-by_row c =
    let ex = c.args.ex.now in
    let told = subst (λ (o : JoinTypeOptionsIR). IsConditioned ex c.args.args.now o (schema_of c.args.left.now.table.now) (schema_of c.args.right.now.table.now)) c.in-Cross.is c.requires in
    sym (elementwise_at ex c.in-Cross.predicate.node told.0) ∙ sym c.is_elementwise.ensures ∙ c.if-is_elementwise.true
