-- Once an answer for an expression stands at its number, the plan still stands, and still lists an expression that reaches the number.
use Rattle.std.proofs.Common.{◌≡◌, ℕ, ◌<◌, List, [], ◌∷◌, ◌++◌, length, map, append_assoc, append-nil, Some, sym, ap, ◌∙◌, subst, inl, inr}
use Rattle.std.specs.List.{slice_get}
use Rattle.std.proofs.lemmas.Option.{slice_get_within}
use Rattle.std.proofs.lemmas.List.{map-append}
use Rattle.plan_core.specs.declared.arena.Node.{Node}
use Rattle.plan_tree.specs.Rose.{rose, no_roses, more}
use Rattle.plan_tree.specs.Stands.{Trees, Reaches, Rewrites, StandsOnce}
use Rattle.plan_tree.proofs.Frames.{join-left}
use Rattle.plan_tree.proofs.Replaced.{replaced_within, same_node}
use Rattle.plan_tree.proofs.SplitLemmas.{StandsOnce-split}
use Rattle.plan_tree.proofs.TreeLemmas.{Stands-unique}
use Rattle.plan_expr.specs.declared.aexpr.AExpr.{AExpr}
use Rattle.plan_expr.specs.declared.expr_ir.ExprIR.{ExprIR}
use Rattle.plan_expr.specs.Operands.{expr_shape, operands_of}
use Rattle.plan_ir.specs.declared.ir.IR.{IR}
use Rattle.plan_ir.specs.declared.ir.IR.TheVariants as nodes
use Rattle.plan_ir.specs.Parts.{IsPlan, condition_of, list_of, listed_exprs_of, plan_shape, roots_in, roots_of}
use Rattle.plan_rule.specs.Calls.{ListsExpr}

abbrev pub listed_roots : IR → List Node
listed_roots p = map (λ (e : ExprIR). e.node) (listed_exprs_of p)

listed_first : (p : IR) → (rest : List Node) × (roots_of p ≡ listed_roots p ++ rest)
listed_first (nodes.Join input_left input_right schema left_on right_on options) = (map (λ (e : ExprIR). e.node) (list_of (condition_of options)), map-append (λ (e : ExprIR). e.node) (left_on ++ right_on) (list_of (condition_of options)))
listed_first p = ([], sym (append-nil (roots_of p)))

roots_first : (lp : List IR) (n : Node) (p : IR) (t : Trees IR) → StandsOnce plan_shape lp (n ∷ []) t → slice_get lp n.0 ≡ Some p → (rest : List Node) × (roots_in t ≡ listed_roots p ++ rest)
roots_first lp n p no_roses h e = absurd h.stands
roots_first lp n p (more (rose m q kids) rest) h e =
    let same : q ≡ p = cc in
    let first = listed_first q in
    (first.0 ++ (roots_in kids ++ roots_in rest), ap (λ (l : List Node). l ++ (roots_in kids ++ roots_in rest)) first.1 ∙ append_assoc (listed_roots q) first.0 (roots_in kids ++ roots_in rest) ∙ ap (λ (x : IR). listed_roots x ++ (first.0 ++ (roots_in kids ++ roots_in rest))) same)

pub listed_again : (lp : List IR) (ex grown : List AExpr) (n m : Node) (g h : Trees AExpr) → ListsExpr lp ex n m → StandsOnce expr_shape ex (m ∷ []) g → Rewrites expr_shape ex grown (m ∷ []) g h → ListsExpr lp grown n m
listed_again lp ex grown n m g h l s x =
    let w = replaced_within expr_shape ex grown (listed_roots l.entry) l.trees m g h l.stand l.reached s x in
    record { entry = l.entry; there = l.there; trees = w.trees; stand = w.rewrites.stands; reached = w.reached }

pub plan_again : (lp : List IR) (ex grown : List AExpr) (n m : Node) (g h : Trees AExpr) → IsPlan lp ex n → ListsExpr lp ex n m → StandsOnce expr_shape ex (m ∷ []) g → Rewrites expr_shape ex grown (m ∷ []) g h → IsPlan lp grown n
plan_again lp ex grown n m g h plan l s x =
    let first = roots_first lp n l.entry plan.nodes plan.stands.nodes l.there in
    let e = plan.exprs in
    let stands = plan.stands.exprs in
    let sides = StandsOnce-split expr_shape ex (listed_roots l.entry) first.0 e (subst (λ (ns : List Node). StandsOnce expr_shape ex ns e) first.1 stands) in
    let same : l.trees ≡ sides.left = Stands-unique expr_shape ex (listed_roots l.entry) l.trees sides.left l.stand.stands sides.first.stands in
    let reached : Reaches e m.0 = subst (λ (f : Trees AExpr). Reaches f m.0) (sym sides.is) (join-left expr_shape sides.left sides.right m.0 (subst (λ (f : Trees AExpr). Reaches f m.0) same l.reached)) in
    let w = replaced_within expr_shape ex grown (roots_in plan.nodes) e m g h stands reached s x in
    record { nodes = plan.nodes; exprs = w.trees; stands = record { nodes = plan.stands.nodes; exprs = w.rewrites.stands } }

-- the tree at a number that trees reach
pub stands_at : (ex : List AExpr) (ns : List Node) (f : Trees AExpr) (m : Node) → StandsOnce expr_shape ex ns f → Reaches f m.0 → (g : Trees AExpr) × StandsOnce expr_shape ex (m ∷ []) g
stands_at ex ns no_roses m s r = absurd r
stands_at ex [] (more (rose n p kids) rest) m s r = absurd s.stands
stands_at ex (n' ∷ ns) (more (rose n p kids) rest) m s (inl e) = (more (rose n p kids) no_roses, record { stands = (same_node expr_shape m n e, ap (λ (k : ℕ). slice_get ex k) (e ∙ sym (ap (λ (z : Node). z.0) s.stands.0)) ∙ s.stands.1, s.stands.2, s.stands.3, tt); once = (s.once.0, (λ z. z), (λ k u v. v), s.once.3, tt) })
stands_at ex (n' ∷ ns) (more (rose n p kids) rest) m s (inr (inl u)) = stands_at ex (operands_of p) kids m (record { stands = s.stands.3; once = s.once.3 }) u
stands_at ex (n' ∷ ns) (more (rose n p kids) rest) m s (inr (inr v)) = stands_at ex ns rest m (record { stands = s.stands.4; once = s.once.4 }) v

-- the number is one of the arena's entries
pub listed_inside : (lp : List IR) (ex : List AExpr) (n m : Node) → ListsExpr lp ex n m → m.0 < length ex
listed_inside lp ex n m l =
    let at = stands_at ex (listed_roots l.entry) l.trees m l.stand l.reached in
    first at.0 at.1
  where
    first : (g : Trees AExpr) → StandsOnce expr_shape ex (m ∷ []) g → m.0 < length ex
    first no_roses s = absurd s.stands
    first (more (rose a p kids) rest) s = slice_get_within ex m.0 p s.stands.1
