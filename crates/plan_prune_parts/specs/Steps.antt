-- A step with what is kept of its node.
use Rattle.std.specs.Prelude.{Option}
use Rattle.plan_prune_parts.specs.declared.kept.Kept.{Kept}
use Rattle.plan_prune_parts.specs.declared.step.Step.{Step}
use Rattle.plan_prune_parts.specs.declared.step.Step.TheVariants.{Each}

-- a step with what is kept of its node, where that has several inputs
abbrev pub with_kept : Option Kept → Step → Step
with_kept kept (Each inputs lists covers other p) = Each inputs lists covers kept p
with_kept kept other = other
