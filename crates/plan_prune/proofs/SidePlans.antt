-- Plans side by side: pruned, under projections, and counting rows.
use Rattle.std.proofs.Common.{◌≡◌, ℕ, zero, suc, ◌<◌, ◌&&◌, ◌||◌, Bool, true, false, not, List, [], ◌∷◌, ◌++◌, length, Option, Some, None, refl, sym, ap, ◌∙◌, arith, append_assoc}
use Rattle.std.specs.List.{slice_get}
use Rattle.plan_core.specs.declared.arena.Node.{Node}
use Rattle.plan_tree.specs.Rose.{Roses, rose, no_roses, more, join}
use Rattle.plan_tree.specs.Stands.{Trees, Stands}
use Rattle.plan_tree.proofs.Frames.{front}
use Rattle.plan_expr.specs.declared.aexpr.AExpr.{AExpr}
use Rattle.plan_ir.specs.declared.ir.IR.{IR}
use Rattle.plan_ir.specs.Parts.{plan_shape, roots_of, roots_in}
use Rattle.plan_ir.specs.Plans.{Op, op_at, plans_of, bare}
use Rattle.plan_expr.specs.Leaves.{Name}
use Rattle.plan_meaning.specs.Counting.{is_closed, is_count, meet_count}
use Rattle.plan_prune.specs.Prunes.{covered_by}
use Rattle.plan_pruned.specs.Pruned.{are_several, covered, covered_each, first_names, pruned, pruned_all, rest_names, top_after}

-- the plans that trees side by side are
pub plans-join : (ex : List AExpr) (x y : Trees IR) → bare (plans_of ex (join x y)) ≡ join (bare (plans_of ex x)) (bare (plans_of ex y))
plans-join ex no_roses y = refl
plans-join ex (more (rose n p kids) rest) y = ap (λ (t : Roses (Unit {0}) Op). more (rose tt (op_at ex p) (bare (plans_of ex kids))) t) (plans-join ex rest y)

-- the expressions of trees side by side
pub roots-join : (x y : Trees IR) → roots_in (join x y) ≡ roots_in x ++ roots_in y
roots-join no_roses y = refl
roots-join (more (rose n p kids) rest) y =
    ap (λ (l : List Node). roots_of p ++ (roots_in kids ++ l)) (roots-join rest y)
    ∙ ap (λ (l : List Node). roots_of p ++ l) (sym (append_assoc (roots_in kids) (roots_in rest) (roots_in y)))
    ∙ sym (append_assoc (roots_of p) (roots_in kids ++ roots_in rest) (roots_in y))

-- whether rows are counted among plans side by side
pub or_assoc : (a b c : Bool) → ((a || b) || c) ≡ (a || (b || c))
or_assoc true b c = refl
or_assoc false b c = refl

pub meet-join : (x y : Roses (Unit {0}) Op) → meet_count (join x y) ≡ (meet_count x || meet_count y)
meet-join no_roses y = refl
meet-join (more (rose n op ts) rest) y =
    let below : Bool = not (is_closed op) && meet_count ts in
    ap (λ (b : Bool). is_count op || (below || b)) (meet-join rest y)
    ∙ ap (λ (b : Bool). is_count op || b) (sym (or_assoc below (meet_count rest) (meet_count y)))
    ∙ sym (or_assoc (is_count op) (below || meet_count rest) (meet_count y))

and_true : (b : Bool) → b ≡ (b && not false)
and_true true = refl
and_true false = refl

after_both : (t a b r : Bool) → ((t && not (a || (b || false))) && not r) ≡ (t && not (a || (b || r)))
after_both false a b r = refl
after_both true true b r = refl
after_both true false true r = refl
after_both true false false true = refl
after_both true false false false = refl

-- the lists of names that are left after some plans
abbrev pub lists_after : Roses (Unit {0}) Op → List (List Name) → List (List Name)
lists_after no_roses lists = lists
lists_after (more p rest) lists = lists_after rest (rest_names lists)

-- plans side by side are pruned one after another
pub pruned-join : (top : Bool) (lists : List (List Name)) (x y : Roses (Unit {0}) Op) → pruned_all top lists (join x y) ≡ join (pruned_all top lists x) (pruned_all (top && not (meet_count x)) (lists_after x lists) y)
pruned-join top lists no_roses y = ap (λ (b : Bool). pruned_all b lists y) (and_true top)
pruned-join top lists (more (rose n op ts) rest) y =
    let first = pruned top (first_names lists) (rose n op ts) in
    let after : Bool = top_after top (rose n op ts) in
    let left = rest_names lists in
    ap (λ (t : Roses (Unit {0}) Op). more first t)
    (pruned-join after left rest y
    ∙ ap (λ (b : Bool). join (pruned_all after left rest) (pruned_all b (lists_after rest left) y)) (after_both top (is_count op) (not (is_closed op) && meet_count ts) (meet_count rest)))

-- what the plan after the first ones is asked
pub names_after : (lp : List IR) (ex : List AExpr) (ns : List Node) (f : Trees IR) (j : ℕ) (lists : List (List Name)) (names : List Name) → Stands plan_shape lp ns f → j < length ns → slice_get lists j ≡ Some names → first_names (lists_after (bare (plans_of ex (front plan_shape f j))) lists) ≡ names
names_after lp ex [] f j lists names s lt e = absurd (omega arith)
names_after lp ex (m ∷ ns) no_roses j lists names s lt e = absurd s
names_after lp ex (m ∷ ns) (more (rose n p kids) rest) zero [] names s lt e = cc
names_after lp ex (m ∷ ns) (more (rose n p kids) rest) zero (l ∷ lists) names s lt e = cc
names_after lp ex (m ∷ ns) (more (rose n p kids) rest) (suc j) [] names s lt e = cc
names_after lp ex (m ∷ ns) (more (rose n p kids) rest) (suc j) (l ∷ lists) names s lt e = names_after lp ex ns rest j lists names s.4 (omega arith) e

-- one plan is pruned to the first list
pub one_pruned : (top : Bool) (lists : List (List Name)) (names : List Name) (lp : List IR) (ex : List AExpr) (n : Node) (t : Trees IR) → Stands plan_shape lp (n ∷ []) t → first_names lists ≡ names → pruned_all top (names ∷ []) (bare (plans_of ex t)) ≡ pruned_all top lists (bare (plans_of ex t))
one_pruned top lists names lp ex n (more (rose m p kids) no_roses) s e = ap (λ (l : List Name). more (pruned top l (rose tt (op_at ex p) (bare (plans_of ex kids)))) no_roses) (sym e)
one_pruned top lists names lp ex n no_roses s e = absurd s
one_pruned top lists names lp ex n (more (rose m p kids) (more (rose k q below) rest)) s e = absurd s.4

-- plans side by side are covered one after another
covered-join : (asked : List Name) (x y : Roses (Unit {0}) Op) → covered_each asked (join x y) ≡ join (covered_each asked x) (covered_each asked y)
covered-join asked no_roses y = refl
covered-join asked (more p rest) y = ap (λ (t : Roses (Unit {0}) Op). more (covered asked p) t) (covered-join asked rest y)

pub covered_by-join : (covers : Option (List Name)) (x y : Roses (Unit {0}) Op) → covered_by covers (join x y) ≡ join (covered_by covers x) (covered_by covers y)
covered_by-join (Some asked) x y = covered-join asked x y
covered_by-join None x y = refl

-- there are as many plans once they are pruned
pub several_pruned : (top : Bool) (lists : List (List Name)) (ts : Roses (Unit {0}) Op) → are_several (pruned_all top lists ts) ≡ are_several ts
several_pruned top lists no_roses = refl
several_pruned top lists (more p no_roses) = refl
several_pruned top lists (more p (more q rest)) = refl
