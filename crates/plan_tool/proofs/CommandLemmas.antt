-- The command that words ask for.
use Rattle.std.proofs.Common.{◌≡◌, ◌∙◌, ℕ, List, [], ◌∷◌, refl, sym, codes}
use Rattle.plan_tool.specs.declared.command.Command.{Command}
use Rattle.plan_tool.specs.declared.command.Command.TheVariants.{Optimize, Check}
use Rattle.plan_tool.specs.Commands.{Asks}

-- words ask for one command at most
pub one_command : (words : List (List ℕ)) (a b : Command) → Asks words a → Asks words b → a ≡ b
one_command words Optimize Optimize h k = refl
one_command words Optimize Check h k = let both : codes "optimize" ∷ [] ≡ codes "check" ∷ [] = sym h ∙ k in cc
one_command words Check Optimize h k = let both : codes "check" ∷ [] ≡ codes "optimize" ∷ [] = sym h ∙ k in cc
one_command words Check Check h k = refl
