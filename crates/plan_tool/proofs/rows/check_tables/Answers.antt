use Rattle.std.proofs.Common.{◌≡◌, ◌∙◌, [], ◌∷◌, true, false, sym, subst}
use Rattle.std.specs.Prelude.{IfSome}
use Rattle.plan_ir.specs.Plans.{plans_at}
use Rattle.plan_meaning.specs.Contents.{Fits}
use Rattle.plan_meaning.specs.PlanAt.{plan_at}
use Rattle.plan_fit.specs.Sources.{contents_of}
use Rattle.plan_tool.specs.Rows.{DontFit, Fit, Given}
use Rattle.plan_tool.proofs.rows.check_tables.Goals as goal

pub returns-then-fits-clause-fit : goal.returns-then-fits-clause-fit
returns-then-fits-clause-fit c ex h = subst (λ (o : Given). Fit o (plans_at c.args.lp.now ex (c.args.root ∷ []))) (sym c.in-Some.is) ((c.fits.ensures.fits ex h).0 c.if-fits.true)

pub returns-then-fits-clause-frames : goal.returns-then-fits-clause-frames
returns-then-fits-clause-frames c ex h = subst (λ (o : Given). IfSome o (λ ts. Fits (contents_of ts) (plan_at c.args.lp.now ex c.args.root))) (sym c.in-Some.is) (c.fits.ensures.frames ex h c.if-fits.true)

pub returns-else-fits-clause-fit : goal.returns-else-fits-clause-fit
returns-else-fits-clause-fit c ex h =
    subst (λ (o : Given). DontFit o (plans_at c.args.lp.now ex (c.args.root ∷ []))) (sym c.in-Some.is) (λ f. let both : true ≡ false = sym ((c.fits.ensures.fits ex h).1 f) ∙ c.if-fits.false in cc)
