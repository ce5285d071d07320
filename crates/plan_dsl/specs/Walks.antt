-- Walks over expressions.
use Rattle.std.specs.Prelude.{ℕ, zero, suc, List, [], ◌∷◌}
use Rattle.std.specs.List.{flat_map}
use Rattle.plan_dsl.specs.declared.expr.Expr.{Expr, size-Expr}
use Rattle.plan_dsl.specs.Parts.{children}

-- expressions, each followed by those below it, on so many levels
abbrev pub levels_down : (Expr → List Expr) → ℕ → List Expr → List Expr
levels_down below zero es = []
levels_down below (suc levels) es = flat_map (λ e. e ∷ levels_down below levels (below e)) es

-- an expression, followed by each one that stands below it with those below that
unfoldable pub walk_by : (Expr → List Expr) → Expr → List Expr
walk_by below e = levels_down below (size-Expr e) (e ∷ [])

-- an expression and all below it, in walk order
abbrev pub preorder : Expr → List Expr
preorder = walk_by children
