-- What calls of rules and walks of them leave, over two arenas.
use Rattle.std.specs.Prelude.{◌≡◌, ◌&&◌, Bool, true, false, List, [], ◌∷◌}
use Rattle.plan_core.specs.declared.arena.Node.{Node}
use Rattle.plan_tree.specs.Stands.{Trees, Rewrites}
use Rattle.plan_expr.specs.declared.aexpr.AExpr.{AExpr}
use Rattle.plan_expr.specs.declared.aexpr.AExpr.TheVariants.{Column, Len, Literal}
use Rattle.plan_expr.specs.Operands.{expr_shape}
use Rattle.plan_ir.specs.declared.ir.IR.{IR}
use Rattle.plan_ir.specs.Plans.{Plan, bare, plans_of}
use Rattle.plan_meaning.specs.Marks.{unmarked}
use Rattle.plan_pass_laws.specs.Becoming.{AllBecome, Becomes}
use Rattle.plan_rule.specs.Calls.{plan_of}
use Rattle.plan_pass_laws.specs.declared.kind.RuleKind.{RuleKind}
use Rattle.plan_pass_laws.specs.Patterns.{shows_one}
use Rattle.plan_pass_laws.specs.Settling.{Done, Reworks, WalkedAlone}
use Rattle.plan_pass_laws.specs.Walks.{Walks}
use Rattle.plan_reshape.specs.declared.work.Work.{Work}

-- what was done
abbrev pub done_of : Work → Done
done_of w = record { changed = w.changed; replaced = w.replaced }

-- whether rules are called at an expression
abbrev pub asks_rules : AExpr → Bool
asks_rules (Column name) = false
asks_rules (Literal value) = false
asks_rules Len = false
asks_rules other = true

-- whether each rule is its kind's own
abbrev pub all_own : List Bool → Bool
all_own [] = true
all_own (b ∷ bs) = b && all_own bs

-- walks of rules of these kinds, one after another, left the second plan of the first, marks aside
pub data Rounds : List RuleKind → Plan → Plan → Type 0 where
  no_round : {ks : List RuleKind} {p : Plan} → Rounds ks p p
  one_more_round : {ks : List RuleKind} {p r q : Plan} → Rounds ks p r → Walks ks (unmarked r) (unmarked q) → Rounds ks p q

-- calls of rules of these kinds made others of the plans at numbers
pub record Brought (ks : List RuleKind) (lp new : List IR) (ex grown : List AExpr) (ns : List Node) (f : Trees IR) (e : Trees AExpr) (done : Done) : Type 0 where
  pub become : AllBecome lp new ex grown ns f e
  pub reworks : Reworks ks (bare (plans_of grown become.nodes)) (bare (plans_of ex f)) done

-- they were called at the root of a plan; where nothing changed, none of their patterns stands there
pub record AtTop (ks : List RuleKind) (lp new : List IR) (ex grown : List AExpr) (n : Node) (t : Trees IR) (e : Trees AExpr) (done : Done) : Type 0 where
  pub brought : Brought ks lp new ex grown (n ∷ []) t e done
  pub quiet : done.changed ≡ false → shows_one ks (plan_of grown brought.become.nodes) ≡ false

-- a walk of them made another of the plan at a number
pub record WalkedAt (ks : List RuleKind) (lp new : List IR) (ex grown : List AExpr) (n : Node) (t : Trees IR) (e : Trees AExpr) (done : Done) : Type 0 where
  pub becomes : Becomes lp new ex grown n t e
  pub walked : WalkedAlone ks (plan_of grown becomes.nodes) (plan_of ex t) done

-- calls of them at the number of an expression made another of the tree there, and of the plan, whose nodes stay
pub record Tended (ks : List RuleKind) (lp : List IR) (ex grown : List AExpr) (n m : Node) (t : Trees IR) (g : Trees AExpr) (done : Done) : Type 0 where
  pub tree : Trees AExpr
  pub places : Rewrites expr_shape ex grown (m ∷ []) g tree
  pub reworks : Reworks ks (bare (plans_of grown t)) (bare (plans_of ex t)) done
