-- The literal true in the place of a filter's predicate, in the arena of expressions.
use Rattle.std.proofs.Common.{◌≡◌, true, false, List, [], ◌∷◌, ◌++◌, append-nil, Some, None, refl, sym, ap, ap₂, ◌∙◌, subst}
use Rattle.std.specs.List.{slice_get, slice_set}
use Rattle.std.proofs.lemmas.Bool.{eqb-true}
use Rattle.plan_core.specs.declared.arena.Node.{Node}
use Rattle.plan_tree.specs.Rose.{rose, no_roses, more}
use Rattle.plan_tree.specs.Stands.{Keeps, Reaches, Rewrites, StandsOnce, Trees}
use Rattle.plan_tree.proofs.Frames.{Rewrites-above, Rewrites-refl}
use Rattle.plan_tree.proofs.Replaced.{same_node}
use Rattle.plan_tree.proofs.SplitLemmas.{StandsOnce-split}
use Rattle.plan_tree.proofs.TreeLemmas.{Stands-unique, opened}
use Rattle.plan_expr.specs.declared.aexpr.AExpr.{AExpr}
use Rattle.plan_expr.specs.declared.aexpr.AExpr.TheVariants.{BinaryExpr, Literal}
use Rattle.plan_expr.specs.declared.expr_ir.ExprIR.{ExprIR}
use Rattle.plan_expr.specs.declared.literal.LiteralValue.TheVariants.{Boolean}
use Rattle.plan_expr.specs.declared.operator.Operator.TheVariants.{Or}
use Rattle.plan_expr.specs.Exprs.{Expr, exprs_at, expr_at, expr_op}
use Rattle.plan_expr.specs.Operands.{IsExpr, expr_shape, operands_of}
use Rattle.plan_expr.proofs.ExprLemmas.{expr_down, expr_open}
use Rattle.plan_ir.specs.declared.ir.IR.{IR}
use Rattle.plan_ir.specs.declared.ir.IR.TheVariants.{Filter}
use Rattle.plan_ir.specs.Parts.{IsPlan, StandsPlan, plan_shape, roots_in}
use Rattle.plan_ir.specs.Plans.{Plan}
use Rattle.plan_meaning.specs.PlanAt.{one_plan, plan_at}
use Rattle.plan_meaning.specs.Steps.{IsValid}
use Rattle.plan_pass_laws.specs.Becoming.{StandApart}
use Rattle.plan_pass_laws.proofs.KeptPlans.{plans_kept}
use Rattle.plan_pass_laws.specs.declared.kind.RuleKind.TheVariants as kinds
use Rattle.plan_pass_laws.specs.Answers.{is_true_literal}
use Rattle.plan_rule.specs.Calls.{IsBetter, LeavesExpr, ListsExpr, ReplacesExpr}
use Rattle.plan_rule.proofs.Listed.{listed_roots, stands_at}
use Rattle.plan_rule.proofs.Placed.{over_one, plan_at-of}
use Rattle.plan_tool_tests.specs.TrueSides.{filters_by, is_true_or, or_left}
use Rattle.plan_tool_tests.proofs.TrueOrs.{filter_by, or_true, or_true_is, true_expr, true_is_better}

-- What the tests tell

-- a node is a filter by the expression of a number
pub record FilterBy (p : IR) (m : Node) : Type 0 where
  pub input : Node
  pub predicate : ExprIR
  pub is : p ≡ Filter input predicate
  pub at : predicate.node ≡ m

pub filter_of : (p : IR) (m : Node) → filters_by p m ≡ true → FilterBy p m
filter_of (Filter input predicate) m e = record { input = input; predicate = predicate; is = refl; at = same_node expr_shape predicate.node m (eqb-true predicate.node.0 m.0 e) }
filter_of p m e = cc

-- a number that a node lists stands
pub listed_stands : (lp : List IR) (ex : List AExpr) (n m : Node) → ListsExpr lp ex n m → IsExpr ex m
listed_stands lp ex n m l = stands_at ex (listed_roots l.entry) l.trees m l.stand l.reached

-- an expression without a left side of an Or is none with true there
no_or : (ex : List AExpr) (q : AExpr) → None ≡ or_left q → is_true_or (rose tt (expr_op q) (exprs_at ex (operands_of q))) ≡ false
no_or ex (BinaryExpr left Or right) e = cc
no_or ex (BinaryExpr left op right) e = refl
no_or ex q e = refl

pub not_or : (ex : List AExpr) (m : Node) (q : AExpr) → IsExpr ex m → slice_get ex m.0 ≡ Some q → None ≡ or_left q → false ≡ is_true_or (expr_at ex m)
not_or ex m q h entry e = sym (ap is_true_or (expr_open ex m q h entry) ∙ no_or ex q e)

-- one with a left side is, where that is true
an_or : (ex : List AExpr) (q : AExpr) (left : Node) → Some left ≡ or_left q → is_true_or (rose tt (expr_op q) (exprs_at ex (operands_of q))) ≡ is_true_literal (expr_at ex left)
an_or ex (BinaryExpr left Or right) i e =
    let same : left ≡ i = cc in
    ap (λ (k : Node). is_true_literal (expr_at ex k)) same
an_or ex q i e = cc

pub or_of : (ex : List AExpr) (m left : Node) (q : AExpr) → IsExpr ex m → slice_get ex m.0 ≡ Some q → Some left ≡ or_left q → is_true_literal (expr_at ex left) ≡ is_true_or (expr_at ex m)
or_of ex m left q h entry e = sym (ap is_true_or (expr_open ex m q h entry) ∙ an_or ex q left e)

first_is : (q : AExpr) (left : Node) → Some left ≡ or_left q → slice_get (operands_of q) 0 ≡ Some left
first_is (BinaryExpr left Or right) i e = cc
first_is q i e = cc

pub left_stands : (ex : List AExpr) (m left : Node) (q : AExpr) → IsExpr ex m → slice_get ex m.0 ≡ Some q → Some left ≡ or_left q → IsExpr ex left
left_stands ex m left q h entry e = (expr_down ex m left q 0 h entry (first_is q left e)).1

-- What the answer leaves

-- the entry that comes there
abbrev pub true_entry : AExpr
true_entry = Literal (Boolean true)

entry_of : (ex : List AExpr) (m : Node) (g : Trees AExpr) → StandsOnce expr_shape ex (m ∷ []) g → (q : AExpr) × (slice_get ex m.0 ≡ Some q)
entry_of ex m no_roses s = absurd s.stands
entry_of ex m (more (rose a q kids) rest) s = (q, s.stands.1)

abbrev true_tree : Node → Trees AExpr
true_tree m = more (rose m true_entry no_roses) no_roses

-- the tree at the number becomes the literal
becomes_true : (ex : List AExpr) (m : Node) (g : Trees AExpr) → StandsOnce expr_shape ex (m ∷ []) g → Rewrites expr_shape ex (slice_set ex m.0 true_entry) (m ∷ []) g (true_tree m)
becomes_true ex m g s =
    let e = entry_of ex m g s in
    let o = opened expr_shape ex m e.0 g s e.1 in
    let whole : StandsOnce expr_shape ex (m ∷ []) (more (rose m e.0 o.kids) no_roses) = subst (λ (f : Trees AExpr). StandsOnce expr_shape ex (m ∷ []) f) o.is s in
    subst (λ (f : Trees AExpr). Rewrites expr_shape ex (slice_set ex m.0 true_entry) (m ∷ []) f (true_tree m)) (sym o.is)
    (Rewrites-above expr_shape ex ex m e.0 true_entry o.kids no_roses whole (Rewrites-refl expr_shape ex (m ∷ []) (more (rose m e.0 o.kids) no_roses) whole).keeps (record { stands = tt; once = tt }) (λ k r. absurd r) refl)

-- the plan below a filter stays where its predicate changes
below_stays : (lp : List IR) (ex grown : List AExpr) (n input : Node) (predicate : ExprIR) (t : Trees IR) (e g : Trees AExpr) → StandsPlan lp ex n t e → slice_get lp n.0 ≡ Some (Filter input predicate) → StandsOnce expr_shape ex (predicate.node ∷ []) g → Keeps ex grown g → plan_at lp grown input ≡ plan_at lp ex input
below_stays lp ex grown n input predicate t e g h entry s keeps =
    let o = opened plan_shape lp n (Filter input predicate) t h.nodes entry in
    let numbers = roots_in o.kids ++ [] in
    let exprs : StandsOnce expr_shape ex ((predicate.node ∷ []) ++ numbers) e = subst (λ (f : Trees IR). StandsOnce expr_shape ex (roots_in f) e) o.is h.exprs in
    let sides = StandsOnce-split expr_shape ex (predicate.node ∷ []) numbers e exprs in
    let same : g ≡ sides.left = Stands-unique expr_shape ex (predicate.node ∷ []) g sides.left s.stands sides.first.stands in
    let apart : StandApart ex g (roots_in o.kids) = record {
      trees = sides.right;
      stand = subst (λ (ns : List Node). StandsOnce expr_shape ex ns sides.right) (append-nil (roots_in o.kids)) sides.second;
      apart = λ k r u. sides.apart k (subst (λ (f : Trees AExpr). Reaches f k) same u) r;
    } in
    plan_at-of lp grown input o.kids o.inputs
    ∙ ap one_plan (plans_kept ex grown g keeps o.kids apart)
    ∙ sym (plan_at-of lp ex input o.kids o.inputs)

at_predicate : (lp : List IR) (ex : List AExpr) (n input : Node) (predicate : ExprIR) (g : Trees AExpr) → IsPlan lp ex n → IsValid (plan_at lp ex n) → slice_get lp n.0 ≡ Some (Filter input predicate) → StandsOnce expr_shape ex (predicate.node ∷ []) g → is_true_or (expr_at ex predicate.node) ≡ true → ReplacesExpr kinds.Other false lp ex (slice_set ex predicate.node.0 true_entry) n predicate.node g
at_predicate lp ex n input predicate g plan v entry s holds =
    let m : Node = predicate.node in
    let grown : List AExpr = slice_set ex m.0 true_entry in
    let below : Plan = plan_at lp ex input in
    let x = becomes_true ex m g s in
    let side = or_true_is (expr_at ex m) holds in
    let was : plan_at lp ex n ≡ filter_by predicate.output_name (or_true side.below side.right) below =
    over_one lp ex n input (Filter input predicate) plan.nodes plan.stands.nodes entry refl
    ∙ ap (λ (y : Expr). filter_by predicate.output_name y below) side.is in
    let literal_now : expr_at grown m ≡ true_expr = expr_open grown m true_entry (true_tree m, x.stands) x.stands.stands.1 in
    let now : plan_at lp grown n ≡ filter_by predicate.output_name true_expr below =
    over_one lp grown n input (Filter input predicate) plan.nodes plan.stands.nodes entry refl
    ∙ ap₂ (λ (y : Expr) (p : Plan). filter_by predicate.output_name y p) literal_now (below_stays lp ex grown n input predicate plan.nodes plan.exprs g plan.stands entry s x.keeps) in
    record {
      trees = true_tree m;
      places = x;
      better =
          subst (λ (q : Plan). IsBetter kinds.Other q (plan_at lp ex n)) (sym now)
          (subst (λ (p : Plan). IsBetter kinds.Other (filter_by predicate.output_name true_expr below) p) (sym was)
          (true_is_better predicate.output_name side.below side.right below (subst IsValid was v)));
      foreign = refl;
    }

-- the answer makes the plan better
pub answers_true : (lp : List IR) (ex : List AExpr) (n m : Node) (p : IR) (g : Trees AExpr) → IsPlan lp ex n → IsValid (plan_at lp ex n) → slice_get lp n.0 ≡ Some p → filters_by p m ≡ true → StandsOnce expr_shape ex (m ∷ []) g → is_true_or (expr_at ex m) ≡ true → ReplacesExpr kinds.Other false lp ex (slice_set ex m.0 true_entry) n m g
answers_true lp ex n m p g plan v entry by s holds =
    let f = filter_of p m by in
    subst (λ (k : Node). StandsOnce expr_shape ex (k ∷ []) g → is_true_or (expr_at ex k) ≡ true → ReplacesExpr kinds.Other false lp ex (slice_set ex k.0 true_entry) n k g) f.at
    (at_predicate lp ex n f.input f.predicate g plan v (entry ∙ ap (λ (q : IR). Some q) f.is)) s holds

-- a call that does nothing
pub answers_nothing : (lp : List IR) (ex : List AExpr) (n m : Node) (g : Trees AExpr) → StandsOnce expr_shape ex (m ∷ []) g → LeavesExpr lp ex ex n m g
answers_nothing lp ex n m g s = record { trees = g; places = Rewrites-refl expr_shape ex (m ∷ []) g s; same = refl }
