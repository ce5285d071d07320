-- That the plan at a number was pruned in place.
use Rattle.std.specs.Prelude.{◌≡◌, ◌||◌, not, Bool, List, [], ◌∷◌, Option, None, Some}
use Rattle.plan_core.specs.declared.arena.Node.{Node}
use Rattle.plan_tree.specs.Rose.{Roses}
use Rattle.plan_tree.specs.Stands.{Trees, StandsOnce, Rewrites}
use Rattle.plan_expr.specs.declared.aexpr.AExpr.{AExpr}
use Rattle.plan_ir.specs.declared.ir.IR.{IR}
use Rattle.plan_ir.specs.Parts.{plan_shape, roots_in}
use Rattle.plan_ir.specs.Plans.{Op, bare, plans_of}
use Rattle.plan_expr.specs.Leaves.{Name}
use Rattle.plan_meaning.specs.Counting.{meet_count}
use Rattle.plan_pruned.specs.Pruned.{covered_each, pruned_all}
use Rattle.plan_prune_parts.specs.Places.{StandExprs, TakePlace}

-- the tree t at a number became another, in place and over expressions of its own: t pruned to the asked names, while the arena of expressions grew
pub record Prunes (top : Bool) (asked : List Name) (old new : List IR) (ex grown : List AExpr) (n : Node) (t : Trees IR) : Type 0 where
  pub trees : Trees IR
  pub rewrites : Rewrites plan_shape old new (n ∷ []) t trees
  pub exprs : TakePlace ex grown (roots_in trees) (roots_in t)
  pub pruned : bare (plans_of grown trees) ≡ pruned_all top (asked ∷ []) (bare (plans_of ex t))

-- what stands at a number is pruned in place to the asked names
abbrev pub PrunesAt : Bool → List Name → List IR → List IR → List AExpr → List AExpr → Node → Type 0
PrunesAt top asked old new ex grown n = (t : Trees IR) → StandsOnce plan_shape old (n ∷ []) t → Prunes top asked old new ex grown n t

-- each of some plans under a projection to names, where there are names
abbrev pub covered_by : Option (List Name) → Roses (Unit {0}) Op → Roses (Unit {0}) Op
covered_by None plans = plans
covered_by (Some names) plans = covered_each names plans

-- trees over numbers became others, in place and over expressions of their own: pruned each to a list of names, and under projections to names or none
pub record PrunesEach (top : Bool) (covers : Option (List Name)) (lists : List (List Name)) (old new : List IR) (ex grown : List AExpr) (ns : List Node) (f : Trees IR) : Type 0 where
  pub trees : Trees IR
  pub rewrites : Rewrites plan_shape old new ns f trees
  pub exprs : TakePlace ex grown (roots_in trees) (roots_in f)
  pub pruned : bare (plans_of grown trees) ≡ covered_by covers (pruned_all top lists (bare (plans_of ex f)))

-- what stands at a number is pruned in place so, to the asked names
abbrev pub PrunesUnder : Bool → Option (List Name) → List Name → List IR → List IR → List AExpr → List AExpr → Node → Type 0
PrunesUnder top covers asked old new ex grown n = (t : Trees IR) → StandsOnce plan_shape old (n ∷ []) t → PrunesEach top covers (asked ∷ []) old new ex grown (n ∷ []) t

-- the mark before became the one after: it is set where it was, or where what stands at a number counts rows
abbrev pub MarksAt : Bool → Bool → List IR → List AExpr → Node → Type 0
MarksAt before after lp ex n = (t : Trees IR) → StandsOnce plan_shape lp (n ∷ []) t → after ≡ (before || meet_count (bare (plans_of ex t)))

-- plans stand over these numbers, and expressions over theirs
abbrev pub AreInputs : List IR → List AExpr → List Node → Type 0
AreInputs lp ex ns = (f : Trees IR) × StandsOnce plan_shape lp ns f × StandExprs ex (roots_in f)

-- what stands at these numbers is pruned in place, each plan to a list of its own and under a projection to names or none, and the mark is set where it was or where they count rows
pub record InputsPruned (before after : Bool) (covers : Option (List Name)) (lists : List (List Name)) (old new : List IR) (ex grown : List AExpr) (ns : List Node) : Type 0 where
  pub prunes : (f : Trees IR) → StandsOnce plan_shape old ns f → StandExprs ex (roots_in f) → PrunesEach (not before) covers lists old new ex grown ns f
  pub marks : (f : Trees IR) → StandsOnce plan_shape old ns f → StandExprs ex (roots_in f) → after ≡ (before || meet_count (bare (plans_of ex f)))
