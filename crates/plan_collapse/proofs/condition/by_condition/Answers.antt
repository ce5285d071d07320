use Rattle.plan_expr.specs.Exprs.{expr_at}
use Rattle.plan_ir.specs.Parts.{list_of}
use Rattle.plan_join.specs.Told.{told_at}
use Rattle.plan_prune_parts.proofs.PlaceLemmas.{place_alone}
use Rattle.plan_collapse.proofs.CrossLemmas.{all-named, conditioned-plan, told-condition}
use Rattle.plan_collapse.proofs.condition.by_condition.Goals as goal

pub named_if-requires-clause-stands : goal.named_if-requires-clause-stands
named_if-requires-clause-stands c = place_alone c.args.ex.now c.and_all.new.ex (list_of c.in_ok-all.all) c.args.remaining.now c.in_ok-all.ensures.place c.requires.stands

pub named_if-requires-clause-named : goal.named_if-requires-clause-named
named_if-requires-clause-named c = all-named (expr_at c.and_all.new.ex) (expr_at c.args.ex.now) c.in_ok-all.all c.args.remaining.now c.in_ok-all.ensures.expr c.requires.named

pub returns-clause-plan : goal.returns-clause-plan
returns-clause-plan c = λ schema inputs.
    conditioned-plan c.and_all.new.ex c.new.result c.new-2.result schema _ _ _ (told_at c.args.ex.now c.args.options) _ inputs c.new.ensures c.new-2.ensures (c.conditioned.ensures.told c.args.ex.now c.and_all.new.ex)
    (told-condition c.and_all.new.ex c.in_ok-predicate.predicate c.in_ok-all.all _ c.in_ok-predicate.ensures.named c.in_ok-all.ensures.expr)
