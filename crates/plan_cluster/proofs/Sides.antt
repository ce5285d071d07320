-- Plans and roots of trees side by side.
use Rattle.std.proofs.Common.{◌≡◌, ◌∙◌, ◌++◌, ℕ, suc, List, [], ◌∷◌, append_assoc, arith, length, refl, sym, ap}
use Rattle.plan_core.specs.declared.arena.Node.{Node}
use Rattle.plan_tree.specs.Rose.{Roses, rose, no_roses, more, join}
use Rattle.plan_tree.specs.Stands.{Stands, Trees}
use Rattle.plan_expr.specs.declared.aexpr.AExpr.{AExpr}
use Rattle.plan_ir.specs.declared.ir.IR.{IR}
use Rattle.plan_ir.specs.Parts.{plan_shape, roots_in, roots_of}
use Rattle.plan_ir.specs.Plans.{Op, bare, op_at, plans_of}
use Rattle.plan_collapse_laws.specs.Clustered.{clustered_all}

-- how many plans there are
abbrev pub count : Roses (Unit {0}) Op → ℕ
count no_roses = 0
count (more p rest) = suc (count rest)

pub count_stands : (ex : List AExpr) (lp : List IR) (ns : List Node) (f : Trees IR) → Stands plan_shape lp ns f → count (bare (plans_of ex f)) ≡ length ns
count_stands ex lp [] no_roses h = refl
count_stands ex lp [] (more (rose m p kids) rest) h = absurd h
count_stands ex lp (n ∷ ns) no_roses h = absurd h
count_stands ex lp (n ∷ ns) (more (rose m p kids) rest) h = ap suc (count_stands ex lp ns rest h.4)

pub count_clustered : (ts : Roses (Unit {0}) Op) → count (clustered_all ts) ≡ count ts
count_clustered no_roses = refl
count_clustered (more p rest) = ap suc (count_clustered rest)

-- where as many stand first, both parts are the same
pub join_same : (a b c d : Roses (Unit {0}) Op) → count a ≡ count c → join a b ≡ join c d → (a ≡ c) × (b ≡ d)
join_same no_roses b no_roses d n e = (refl, e)
join_same no_roses b (more q c) d n e = absurd (omega (arith, n))
join_same (more p a) b no_roses d n e = absurd (omega (arith, n))
join_same (more p a) b (more q c) d n e =
    let h : p ≡ q = cc in
    let k : join a b ≡ join c d = cc in
    let r = join_same a b c d (omega (arith, n)) k in
    (ap (λ (x : _). more x a) h ∙ ap (λ (x : Roses (Unit {0}) Op). more q x) r.0, r.1)

pub plans_join : (ex : List AExpr) (f g : Trees IR) → bare (plans_of ex (join f g)) ≡ join (bare (plans_of ex f)) (bare (plans_of ex g))
plans_join ex no_roses g = refl
plans_join ex (more (rose n p kids) rest) g = ap (λ (x : Roses (Unit {0}) Op). more (rose tt (op_at ex p) (bare (plans_of ex kids))) x) (plans_join ex rest g)

pub roots_join : (f g : Trees IR) → roots_in (join f g) ≡ roots_in f ++ roots_in g
roots_join no_roses g = refl
roots_join (more (rose n p kids) rest) g =
    ap (λ (x : List Node). roots_of p ++ (roots_in kids ++ x)) (roots_join rest g)
    ∙ ap (λ (x : List Node). roots_of p ++ x) (sym (append_assoc (roots_in kids) (roots_in rest) (roots_in g)))
    ∙ sym (append_assoc (roots_of p) (roots_in kids ++ roots_in rest) (roots_in g))
