use Rattle.plan_meaning.specs.Functions.{names_now}
use Rattle.plan_schema.proofs.RenameLemmas.{SoFar}
use Rattle.plan_schema.proofs.renaming.Renaming.schema.Given as goal

-- what is made are the columns that are done, under their new names
abbrev pub invariant-loop-name : goal.invariant-loop-name
invariant-loop-name l = SoFar (names_now l.self) l.made l.name-iterator l.schema
