-- What an expression decides of a name.
use Rattle.std.specs.Prelude.{ℕ, List, Option, None, Some}
use Rattle.plan_dsl.specs.declared.output_name.Naming.{Naming}
use Rattle.plan_dsl.specs.declared.output_name.Naming.TheVariants.{Open, Named, Nameless}

-- nothing, or the name, if there is one
abbrev pub said : Naming → Option (Option (List ℕ))
said Open = None
said (Named name) = Some (Some name.now)
said Nameless = Some None
