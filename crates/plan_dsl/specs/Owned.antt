-- Expressions by value, in walk order.
use Rattle.std.specs.Prelude.{List, [], ◌∷◌}
use Rattle.plan_dsl.specs.declared.expr.Expr.{Expr}
use Rattle.plan_dsl.specs.declared.parts.Owned.{Owned}
use Rattle.plan_dsl.specs.declared.parts.Owned.TheVariants.{Zero, One, Two, Three, All, Before}

-- the expressions, in walk order
abbrev pub owned : Owned → List Expr
owned Zero = []
owned (One first) = first.value ∷ []
owned (Two first second) = first.value ∷ second.value ∷ []
owned (Three first second third) = first.value ∷ second.value ∷ third.value ∷ []
owned (All list) = list.items
owned (Before first list) = first.value ∷ list.items
