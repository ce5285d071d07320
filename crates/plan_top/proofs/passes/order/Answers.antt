use Rattle.std.proofs.Common.{◌≡◌, false, true, sym, ◌∙◌}
use Rattle.plan_top.proofs.passes.order.Goals as goal

pub returns-then-not-branch-clause-asked : goal.returns-then-not-branch-clause-asked
returns-then-not-branch-clause-asked c = sym c.if-not-branch.true ∙ c.in_ok-is_ordered.ensures c.args.ex.now c.requires.plan

pub returns-then-not-branch-clause-emptied : goal.returns-then-not-branch-clause-emptied
returns-then-not-branch-clause-emptied c = λ on. let u : false ≡ true = sym c.if-not-branch.true ∙ c.in_ok-is_ordered.ensures c.args.ex.now c.requires.plan ∙ on in cc

pub returns-clause-asked : goal.returns-clause-asked
returns-clause-asked c = sym c.if-not-branch.false ∙ c.in_ok-is_ordered.ensures c.args.ex.now c.requires.plan

pub returns-clause-left : goal.returns-clause-left
returns-clause-left c = λ off. let u : true ≡ false = sym c.if-not-branch.false ∙ c.in_ok-is_ordered.ensures c.args.ex.now c.requires.plan ∙ off in cc
