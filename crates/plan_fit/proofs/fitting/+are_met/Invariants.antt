use Rattle.std.proofs.Common.{List, take}
use Rattle.plan_tree.proofs.TreeLemmas.{height_at}
use Rattle.plan_expr.specs.declared.aexpr.AExpr.{AExpr}
use Rattle.plan_ir.specs.Parts.{inputs_of, IsPlan, plan_shape}
use Rattle.plan_ir.specs.Plans.{bare, plans_at}
use Rattle.plan_meaning.specs.Contents.{FitsAll}
use Rattle.plan_fit.specs.Fitting.{TablesFit}
use Rattle.plan_fit.specs.Sources.{contents_of}
use Rattle.plan_fit.proofs.fitting.+are_met.Given as goal

abbrev pub decreases-are_met : goal.decreases-are_met
decreases-are_met l = height_at plan_shape l.lp.now l.node

-- the tables fit the inputs up to here
abbrev pub invariant-loop-place : goal.invariant-loop-place
invariant-loop-place l = (ex : List AExpr) → IsPlan l.lp ex l.fn.node → TablesFit l.tables (plans_at l.lp ex (take l.place (inputs_of l.entry))) × FitsAll (contents_of l.tables) (bare (plans_at l.lp ex (take l.place (inputs_of l.entry))))
