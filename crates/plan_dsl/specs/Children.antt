-- The expressions that are lent, in walk order.
use Rattle.std.specs.Prelude.{List, [], ◌∷◌, reverse}
use Rattle.plan_dsl.specs.declared.expr.Expr.{Expr}
use Rattle.plan_dsl.specs.declared.children.Children.{Children}
use Rattle.plan_dsl.specs.declared.children.Children.TheVariants.{Zero, One, Two, Three, All, Before, BeforeLast}

-- the expressions that are lent
abbrev pub lent : Children → List Expr
lent Zero = []
lent (One first) = first.now ∷ []
lent (Two first second) = first.now ∷ second.now ∷ []
lent (Three first second third) = first.now ∷ second.now ∷ third.now ∷ []
lent (All list) = list.now
lent (Before first list) = first.now ∷ list.now
lent (BeforeLast first list) = first.now ∷ reverse list.now
