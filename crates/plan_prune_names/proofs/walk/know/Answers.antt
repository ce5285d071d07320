use Rattle.std.proofs.Common.{◌∙◌, [], ◌∷◌, sym}
use Rattle.plan_ir.specs.Plans.{bare, plans_at}
use Rattle.plan_prune_names.proofs.KnownLemmas.{lays-same, lays-shows}
use Rattle.plan_prune_names.proofs.walk.know.Goals as goal

pub returns-then-is_known-clause-shows : goal.returns-then-is_known-clause-shows
returns-then-is_known-clause-shows c = λ ex.
    lays-shows c.args.columns.now (bare (plans_at c.args.lp.now ex (c.args.node ∷ []))) (c.requires.known ex (sym c.is_known.ensures ∙ c.if-is_known.true))

pub returns-clause-known : goal.returns-clause-known
returns-clause-known c = λ ex yes.
    lays-same c.lay.new.columns c.settle.new.self (bare (plans_at c.args.lp.now ex (c.args.node ∷ []))) c.settle.ensures.same.0 c.settle.ensures.same.1 c.settle.ensures.same.2 (c.in_ok-lay.ensures ex)

pub returns-clause-shows : goal.returns-clause-shows
returns-clause-shows c = λ ex.
    lays-shows c.settle.new.self (bare (plans_at c.args.lp.now ex (c.args.node ∷ [])))
    (lays-same c.lay.new.columns c.settle.new.self (bare (plans_at c.args.lp.now ex (c.args.node ∷ []))) c.settle.ensures.same.0 c.settle.ensures.same.1 c.settle.ensures.same.2 (c.in_ok-lay.ensures ex))
