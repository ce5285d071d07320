use Rattle.std.proofs.Common.{◌∙◌, ap, sym, Option}
use Rattle.plan_core.specs.Columns.{Columns}
use Rattle.plan_ir.specs.declared.ir.IR.TheVariants.{Cache}
use Rattle.plan_prune_parts.specs.declared.step.Step.TheVariants.{Closed}
use Rattle.plan_prune_steps.specs.Steps.{step_of}
use Rattle.plan_prune_steps.proofs.cache.prepare.Goals as goal

pub returns : goal.returns
returns c = λ ex.
    ap (λ (o : Option Columns). Closed o (Cache c.in-Cache.input c.in-Cache.id c.in-Cache.cache_hits)) (c.in_ok-columns-in-Cache.ensures ex)
    ∙ ap (step_of c.args.lp.now ex c.args.asked.now) (sym c.in-Cache.is)
