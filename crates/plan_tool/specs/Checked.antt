-- What the checks on a document's plan say, in their order: bad numbers, depth, and then the faults of the nodes.
use Rattle.std.specs.Prelude.{◌≡◌, ◌⊎◌, List, Some, None, Result, Ok, Err}
use Rattle.plan_core.specs.declared.arena.Node.{Node}
use Rattle.plan_core.specs.declared.error.PolarsError.{PolarsError}
use Rattle.plan_core.specs.Columns.{Columns}
use Rattle.plan_expr.specs.declared.aexpr.AExpr.{AExpr}
use Rattle.plan_ir.specs.declared.ir.IR.{IR}
use Rattle.plan_meaning.specs.TreeFaults.{tree_fault}
use Rattle.plan_meaning.specs.Typed.{typed}
use Rattle.plan_tool.specs.declared.stop.Stop.{Stop}
use Rattle.plan_tool.specs.declared.stop.Stop.TheVariants as stops
use Rattle.plan_tool.specs.Limits.{IsShallow, IsDeep}

-- the numbers lead to a plan that isn't too deep, and its nodes have no fault: it has these columns
pub record IsChecked (lp : List IR) (ex : List AExpr) (root : Node) (columns : Columns) : Type 0 where
  pub typed : typed lp ex root ≡ Ok columns
  pub shallow : IsShallow lp ex root

-- the first check that fails is that of the numbers, or that of the nodes of a plan that isn't too deep, with this fault
pub record IsRefused (lp : List IR) (ex : List AExpr) (root : Node) (fault : PolarsError) : Type 0 where
  pub typed : typed lp ex root ≡ Err fault
  pub first : (tree_fault lp ex root ≡ Some fault) ⊎ IsShallow lp ex root

-- the numbers lead to a plan that is too deep
pub record IsTooDeep (lp : List IR) (ex : List AExpr) (root : Node) : Type 0 where
  pub numbers : tree_fault lp ex root ≡ None
  pub deep : IsDeep lp ex root

-- what the checks say: all hold, and the plan has these columns; or the first that fails
abbrev pub Checks : Result Columns Stop → List IR → List AExpr → Node → Type 0
Checks (Ok columns) lp ex root = IsChecked lp ex root columns
Checks (Err stops.NotJson) lp ex root = ⊥
Checks (Err stops.Form) lp ex root = ⊥
Checks (Err stops.Limit) lp ex root = IsTooDeep lp ex root
Checks (Err stops.Unfit) lp ex root = ⊥
Checks (Err (stops.Fault fault)) lp ex root = IsRefused lp ex root fault
Checks (Err stops.OutOfMemory) lp ex root = Unit {0}

-- what the check of levels says: there are not too many, or there are
abbrev pub LevelsChecked : Result (Unit {0}) Stop → List IR → List AExpr → Node → Type 0
LevelsChecked (Ok x) lp ex root = IsShallow lp ex root
LevelsChecked (Err stops.NotJson) lp ex root = ⊥
LevelsChecked (Err stops.Form) lp ex root = ⊥
LevelsChecked (Err stops.Limit) lp ex root = IsDeep lp ex root
LevelsChecked (Err stops.Unfit) lp ex root = ⊥
LevelsChecked (Err (stops.Fault fault)) lp ex root = ⊥
LevelsChecked (Err stops.OutOfMemory) lp ex root = Unit {0}
