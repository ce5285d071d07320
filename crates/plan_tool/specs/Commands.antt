-- The words that ask for a command.
use Rattle.std.specs.Prelude.{◌≡◌, ℕ, List, [], ◌∷◌, codes}
use Rattle.plan_tool.specs.declared.command.Command.{Command}
use Rattle.plan_tool.specs.declared.command.Command.TheVariants as commands

-- the word of a command
abbrev pub word_of : Command → List ℕ
word_of commands.Optimize = codes "optimize"
word_of commands.Check = codes "check"

-- the words are that of a command, and no more
abbrev pub Asks : List (List ℕ) → Command → Type 0
Asks words command = words ≡ word_of command ∷ []

-- the words ask for no command
abbrev pub IsUsage : List (List ℕ) → Type 0
IsUsage words = (command : Command) → Asks words command → ⊥
