-- Answers of a rule that is its kind's own, as those of one that isn't, and of kind Other.
use Rattle.std.proofs.Common.{true, false, List, Option, Some, None, refl}
use Rattle.plan_core.specs.declared.arena.Node.{Node}
use Rattle.plan_tree.specs.Stands.{Trees}
use Rattle.plan_expr.specs.declared.aexpr.AExpr.{AExpr}
use Rattle.plan_ir.specs.declared.ir.IR.{IR}
use Rattle.plan_ir.specs.Parts.{StandsPlan}
use Rattle.plan_pass_laws.specs.declared.kind.RuleKind.{RuleKind}
use Rattle.plan_pass_laws.specs.declared.kind.RuleKind.TheVariants as kinds
use Rattle.plan_rule.specs.Calls.{Answers}
use Rattle.plan_rule.proofs.Placed.{stays}

-- an answer of any kind is one of kind Other
pub as_other : (kind : RuleKind) (lp new : List IR) (ex grown : List AExpr) (n : Node) (t : Trees IR) (e : Trees AExpr) (o : Option IR) → Answers kind true lp new ex grown n t e o → Answers kinds.Other false lp new ex grown n t e o
as_other kind lp new ex grown n t e None a = record { becomes = a.becomes; cleared = a.cleared; quiet = refl; told = λ own. cc; left = λ own. cc }
as_other kind lp new ex grown n t e (Some p) a = record {
  becomes = a.becomes;
  better = record { refines = a.better.refines; keeps = a.better.keeps; lighter = a.better.lighter; smaller = λ counted. cc };
  told = λ own. cc;
}

-- a call that does nothing
pub nothing : (lp : List IR) (ex : List AExpr) (n : Node) (t : Trees IR) (e : Trees AExpr) → StandsPlan lp ex n t e → Answers kinds.Other false lp lp ex ex n t e None
nothing lp ex n t e h = stays kinds.Other false lp ex n t e h refl refl refl
