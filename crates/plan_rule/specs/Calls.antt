-- What a call of a rule asks and what it leaves, over two arenas.
use Rattle.std.specs.Prelude.{◌≡◌, ◌<◌, Bool, true, false, List, [], ◌∷◌, map, Option, Some, None, slice_get, slice_set}
use Rattle.plan_core.specs.declared.arena.Node.{Node}
use Rattle.plan_tree.specs.Stands.{Trees, Reaches, Rewrites, StandsOnce}
use Rattle.plan_expr.specs.declared.aexpr.AExpr.{AExpr}
use Rattle.plan_expr.specs.declared.expr_ir.ExprIR.{ExprIR}
use Rattle.plan_expr.specs.Operands.{expr_shape}
use Rattle.plan_ir.specs.declared.ir.IR.{IR}
use Rattle.plan_ir.specs.Parts.{listed_exprs_of}
use Rattle.plan_ir.specs.Plans.{Plan, bare, plans_of}
use Rattle.plan_meaning.specs.PlanAt.{one_plan, plan_at}
use Rattle.plan_meaning.specs.Relating.{Refines}
use Rattle.plan_meaning.specs.Scans.{Keeps}
use Rattle.plan_pass_laws.specs.declared.kind.RuleKind.{RuleKind}
use Rattle.plan_pass_laws.specs.Answers.{answer_of, left_by}
use Rattle.plan_pass_laws.specs.Clearing.{Cleared}
use Rattle.plan_pass_laws.specs.Patterns.{is_counted, shows}
use Rattle.plan_pass_laws.specs.Weights.{bulk, weight}
use Rattle.plan_pass_laws.specs.Becoming.{Becomes}

-- the plan that a tree of nodes is
abbrev pub plan_of : List AExpr → Trees IR → Plan
plan_of ex t = one_plan (bare (plans_of ex t))

-- a plan may be put in the place of another by a rule of a kind
pub record IsBetter (kind : RuleKind) (q p : Plan) : Type 0 where
  pub refines : Refines q p
  pub keeps : Keeps q p
  pub lighter : weight q < weight p
  pub smaller : is_counted kind ≡ true → bulk q < bulk p

-- a rule's answer, put at its number, makes a better plan; a rule that is its kind's own puts there what its kind says
pub record Replaces (kind : RuleKind) (own : Bool) (lp new : List IR) (ex grown : List AExpr) (n : Node) (t : Trees IR) (e : Trees AExpr) : Type 0 where
  pub becomes : Becomes lp new ex grown n t e
  pub better : IsBetter kind (plan_of grown becomes.nodes) (plan_of ex t)
  pub told : own ≡ true → answer_of kind (plan_of ex t) ≡ Some (plan_of grown becomes.nodes)

-- a rule that answers nothing leaves the plan but for marks, and no pattern of its kind; one that is its kind's own leaves what its kind says
pub record Leaves (kind : RuleKind) (own : Bool) (lp new : List IR) (ex grown : List AExpr) (n : Node) (t : Trees IR) (e : Trees AExpr) : Type 0 where
  pub becomes : Becomes lp new ex grown n t e
  pub cleared : Cleared (plan_of grown becomes.nodes) (plan_of ex t)
  pub quiet : shows kind (plan_of grown becomes.nodes) ≡ false
  pub told : own ≡ true → answer_of kind (plan_of ex t) ≡ None
  pub left : own ≡ true → plan_of grown becomes.nodes ≡ left_by kind (plan_of ex t)

-- what a rule's answer says of the trees that stood at its number
abbrev pub Answers : RuleKind → Bool → List IR → List IR → List AExpr → List AExpr → Node → Trees IR → Trees AExpr → Option IR → Type 0
Answers kind own lp new ex grown n t e None = Leaves kind own lp new ex grown n t e
Answers kind own lp new ex grown n t e (Some p) = Replaces kind own lp (slice_set new n.0 p) ex grown n t e

-- an expression that a node lists reaches a number
pub record ListsExpr (lp : List IR) (ex : List AExpr) (n m : Node) : Type 0 where
  pub entry : IR
  pub there : slice_get lp n.0 ≡ Some entry
  pub trees : Trees AExpr
  pub stand : StandsOnce expr_shape ex (map (λ (e : ExprIR). e.node) (listed_exprs_of entry)) trees
  pub reached : Reaches trees m.0

-- an answer for an expression, put at its number, makes the plan better; no kind but the last says what it is
pub record ReplacesExpr (kind : RuleKind) (own : Bool) (lp : List IR) (ex grown : List AExpr) (n m : Node) (g : Trees AExpr) : Type 0 where
  pub trees : Trees AExpr
  pub places : Rewrites expr_shape ex grown (m ∷ []) g trees
  pub better : IsBetter kind (plan_at lp grown n) (plan_at lp ex n)
  pub foreign : own ≡ false

-- without an answer for an expression the plan stays
pub record LeavesExpr (lp : List IR) (ex grown : List AExpr) (n m : Node) (g : Trees AExpr) : Type 0 where
  pub trees : Trees AExpr
  pub places : Rewrites expr_shape ex grown (m ∷ []) g trees
  pub same : plan_at lp grown n ≡ plan_at lp ex n

-- what a rule's answer for an expression says of the tree that stood at its number
abbrev pub AnswersExpr : RuleKind → Bool → List IR → List AExpr → List AExpr → Node → Node → Trees AExpr → Option AExpr → Type 0
AnswersExpr kind own lp ex grown n m g None = LeavesExpr lp ex grown n m g
AnswersExpr kind own lp ex grown n m g (Some e) = ReplacesExpr kind own lp ex (slice_set grown m.0 e) n m g
