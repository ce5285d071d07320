-- Plans at numbers side by side, over two arenas: those at the right became others, and then those at the left did.
use Rattle.std.proofs.Common.{◌≡◌, ℕ, ◌<◌, List, [], ◌∷◌, ◌++◌, length, refl, sym, ap, ◌∙◌, subst, append_assoc, append-nil}
use Rattle.plan_core.specs.declared.arena.Node.{Node}
use Rattle.plan_tree.specs.Rose.{Roses, rose, no_roses, more, join}
use Rattle.plan_tree.specs.Stands.{Apart, Keeps, Reaches, Rewrites, StandsOnce, Trees}
use Rattle.plan_expr.specs.declared.aexpr.AExpr.{AExpr}
use Rattle.plan_expr.specs.Operands.{expr_shape}
use Rattle.plan_ir.specs.declared.ir.IR.{IR}
use Rattle.plan_ir.specs.Parts.{plan_shape, roots_in, roots_of}
use Rattle.plan_tree.proofs.Frames.{Rewrites-refl}
use Rattle.plan_tree.proofs.Numbers.{Reaches-within}
use Rattle.plan_tree.proofs.Pairs.{rewrites_pair, stand_first}
use Rattle.plan_tree.proofs.Replaced.{below}
use Rattle.plan_pass_laws.specs.Becoming.{AllBecome}

pub roots_join : (f g : Trees IR) → roots_in (join f g) ≡ roots_in f ++ roots_in g
roots_join no_roses g = refl
roots_join (more (rose n p kids) rest) g =
    ap (λ (l : List Node). roots_of p ++ (roots_in kids ++ l)) (roots_join rest g)
    ∙ ap (λ (l : List Node). roots_of p ++ l) (sym (append_assoc (roots_in kids) (roots_in rest) (roots_in g)))
    ∙ sym (append_assoc (roots_of p) (roots_in kids ++ roots_in rest) (roots_in g))

module _ (a b c : List IR) (x y z : List AExpr) (f g : Trees IR) (d e : Trees AExpr)
    (apart : Apart f g) (inside : (k : ℕ) → Reaches f k → k < length a)
    (away : Apart d e) (within : (k : ℕ) → Reaches d k → k < length x) where
  abbrev pub become_beside : (ns ms : List Node) → AllBecome a b x y ms g e → AllBecome b c y z ns f d → AllBecome a c x z (ns ++ ms) (join f g) (join d e)
  become_beside ns ms p q = record {
    nodes = join q.nodes p.nodes;
    exprs = join q.exprs p.exprs;
    places = rewrites_pair plan_shape a b c f g apart inside ns ms q.nodes p.nodes p.places q.places;
    under = subst (λ (l : List Node). Rewrites expr_shape x z l (join d e) (join q.exprs p.exprs)) (sym (roots_join q.nodes p.nodes)) (rewrites_pair expr_shape x y z d e away within (roots_in q.nodes) (roots_in p.nodes) q.exprs p.exprs p.under q.under);
  }

-- a node stays over inputs that became others, with its own expressions
abbrev pub become_under : (a b : List IR) (x y : List AExpr) (n : Node) (p : IR) (kids : Trees IR) (d e : Trees AExpr) → StandsOnce plan_shape a (n ∷ []) (more (rose n p kids) no_roses) → StandsOnce expr_shape x (roots_of p) d → Apart d e → AllBecome a b x y (plan_shape.inputs p) kids e → AllBecome a b x y (n ∷ []) (more (rose n p kids) no_roses) (join d e)
become_under a b x y n p kids d e s own away q =
    let within : (k : ℕ) → Reaches d k → k < length x = λ k r. Reaches-within expr_shape x (roots_of p) d k own.stands r in
    let still = stand_first expr_shape x y y d e away within (roots_of p) (roots_in q.nodes) q.exprs own q.under in
    record {
      nodes = more (rose n p q.nodes) no_roses;
      exprs = join d q.exprs;
      places = below plan_shape a b n n [] p kids no_roses q.nodes s q.places;
      under = subst (λ (l : List Node). Rewrites expr_shape x y l (join d e) (join d q.exprs)) (ap (λ (l : List Node). roots_of p ++ l) (sym (append-nil (roots_in q.nodes)))) (rewrites_pair expr_shape x y y d e away within (roots_of p) (roots_in q.nodes) d q.exprs q.under (Rewrites-refl expr_shape y (roots_of p) d still));
    }
