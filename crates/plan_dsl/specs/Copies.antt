-- When expressions are equal.
use Rattle.std.specs.Prelude.{ℕ, List, map, length}
use Rattle.plan_dsl.specs.declared.expr.Expr.{Expr}
use Rattle.plan_dsl.specs.declared.parts.Head.{Head}
use Rattle.plan_dsl.specs.Parts.{children, head_of}
use Rattle.plan_dsl.specs.Walks.{preorder}

-- an expression as it is written with the operator first: in walk order, what each expression in it is and how many it is
-- made of. Equal ones are written equally, wherever they are kept
abbrev pub written : Expr → List (Head × ℕ)
written e = map (λ n. (head_of n, length (children n))) (preorder e)
