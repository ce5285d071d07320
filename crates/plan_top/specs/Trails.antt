-- What passes do over two arenas, what a trail shows of it, and when they refuse.
use Rattle.std.specs.Prelude.{◌≡◌, ◌⊎◌, ℕ, Bool, true, false, List, [], ◌∷◌, ◌++◌, Err}
use Rattle.plan_core.specs.declared.arena.Node.{Node}
use Rattle.plan_core.specs.declared.error.PolarsError.{PolarsError}
use Rattle.plan_core.specs.declared.error.PolarsError.TheVariants.{OutOfMemory}
use Rattle.plan_core.specs.declared.flags.OptFlags.{OptFlags}
use Rattle.plan_tree.specs.Stands.{Trees}
use Rattle.plan_expr.specs.declared.aexpr.AExpr.{AExpr}
use Rattle.plan_ir.specs.declared.ir.IR.{IR}
use Rattle.plan_ir.specs.Copies.{IsRenumbered}
use Rattle.plan_ir.specs.Parts.{StandsPlan}
use Rattle.plan_meaning.specs.PlanAt.{plan_at}
use Rattle.plan_meaning.specs.Typed.{typed}
use Rattle.plan_pass_laws.specs.Becoming.{Becomes}
use Rattle.plan_top.specs.declared.trail.Pass.{Pass}
use Rattle.plan_top.specs.declared.trail.Step.{Step}
use Rattle.plan_top.specs.Chains.{Boxes, Chain, Follows, Left}

-- what stands at a number became another plan in its place
abbrev pub InPlace : (lp new : List IR) (ex grown : List AExpr) → Node → Type 0
InPlace lp new ex grown root = (t : Trees IR) (e : Trees AExpr) → StandsPlan lp ex root t e → Becomes lp new ex grown root t e

-- a pass over the plan at a number left another in its place, after so many counted replacements
pub record Passed (flags : OptFlags) (boxes : Boxes) (k : Pass) (lp new : List IR) (ex grown : List AExpr) (root : Node) (replaced : ℕ) : Type 0 where
  pub follows : Follows flags boxes k (plan_at lp ex root) (plan_at new grown root) replaced
  pub in_place : InPlace lp new ex grown root

-- passes one after another left another plan in its place
pub record Chained (flags : OptFlags) (boxes : Boxes) (ks : List Pass) (lp new : List IR) (ex grown : List AExpr) (root : Node) : Type 0 where
  pub steps : List Left
  pub chain : Chain flags boxes (plan_at lp ex root) ks steps (plan_at new grown root)
  pub in_place : InPlace lp new ex grown root

-- a pass ran and left another plan in its place, or it didn't run and nothing changed
abbrev pub RanIf : Bool → OptFlags → Boxes → Pass → (lp new : List IR) (ex grown : List AExpr) → Node → ℕ → Type 0
RanIf true flags boxes k lp new ex grown root replaced = Passed flags boxes k lp new ex grown root replaced
RanIf false flags boxes k lp new ex grown root replaced = (new ≡ lp) × (grown ≡ ex)

-- a step shows what a pass left: the pass, its count, and the plan, as a copy that is numbered from 0
pub record Shows (step : Step) (l : Left) : Type 0 where
  pub pass : step.pass ≡ l.pass
  pub plan : plan_at step.plan.lp step.plan.ex step.plan.root ≡ l.plan
  pub replaced : step.replaced ≡ l.replaced
  pub numbered : IsRenumbered step.plan.lp step.plan.ex step.plan.root step.plan

-- steps show one for one what passes left
abbrev pub ShowAll : List Step → List Left → Type 0
ShowAll [] [] = Unit {0}
ShowAll (s ∷ ss) (l ∷ ls) = Shows s l × ShowAll ss ls
ShowAll [] (l ∷ ls) = ⊥
ShowAll (s ∷ ss) [] = ⊥

-- a trail got a step that shows what a pass left, if it ran
abbrev pub KeptIf : Bool → Left → List Step → List Step → Type 0
KeptIf true l before after = (step : Step) × (after ≡ before ++ step ∷ []) × Shows step l
KeptIf false l before after = after ≡ before

-- passes one after another left another plan in its place, and the steps that a trail got show what each of them left
pub record Trailed (flags : OptFlags) (boxes : Boxes) (ks : List Pass) (lp new : List IR) (ex grown : List AExpr) (root : Node) (before after : List Step) : Type 0 where
  pub chained : Chained flags boxes ks lp new ex grown root
  pub added : List Step
  pub appended : after ≡ before ++ added
  pub shown : ShowAll added chained.steps

-- a refusal is for want of memory, or it names the first fault of a plan, and then this holds
abbrev pub RefusedFor : PolarsError → List IR → List AExpr → Node → Type 0 → Type 0
RefusedFor e lp ex root unchanged = (e ≡ OutOfMemory) ⊎ ((typed lp ex root ≡ Err e) × unchanged)
