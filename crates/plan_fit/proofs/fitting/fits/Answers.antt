use Rattle.plan_ir.specs.Plans.{bare, plans_at}
use Rattle.std.proofs.Common.{[], ◌∷◌}
use Rattle.plan_fit.specs.Sources.{contents_of}
use Rattle.plan_fit.proofs.FitLemmas.{fits-one}
use Rattle.plan_fit.proofs.fitting.fits.Goals as goal

pub are_met-requires : goal.are_met-requires
are_met-requires c = (c.requires.1.nodes, c.requires.1.stands.nodes)

pub returns-clause-frames : goal.returns-clause-frames
returns-clause-frames c ex h b = fits-one (contents_of c.args.tables.now) (bare (plans_at c.args.lp.now ex (c.args.root ∷ []))) (c.are_met.ensures.frames ex h b)
