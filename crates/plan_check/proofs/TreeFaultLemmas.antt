-- The numbers of expressions with their places, and that walks without a fault find a plan.
use Rattle.std.proofs.Common.{◌≡◌, Bor, ℕ, zero, suc, ◌+◌, ◌<◌, ◌≤◌, List, [], ◌∷◌, ◌++◌, map, length, take, get_or, Option, refl, sym, ap, ap₂, ◌∙◌, subst, arith, append-nil, append_assoc, add-zero}
use Rattle.std.specs.List.{slice_get}
use Rattle.std.specs.Option.{option_map_or}
use Rattle.std.proofs.lemmas.List.{length-map, map-append, take_more}
use Rattle.std.proofs.lemmas.Option.{slice_get_past}
use Rattle.plan_core.specs.declared.arena.Node.{Node}
use Rattle.plan_core.specs.declared.error.At.{At}
use Rattle.plan_tree.specs.declared.walking.Step.{Step}
use Rattle.plan_tree.specs.Rose.{rose, no_roses, more, labels}
use Rattle.plan_tree.specs.Stands.{Trees, Stands, StandsOnce}
use Rattle.plan_tree.specs.Walk.{nodes_of}
use Rattle.plan_expr.specs.declared.aexpr.AExpr.{AExpr}
use Rattle.plan_expr.specs.declared.expr_ir.ExprIR.{ExprIR}
use Rattle.plan_ir.specs.declared.ir.IR.{IR}
use Rattle.plan_expr.specs.Operands.{expr_shape}
use Rattle.plan_ir.specs.Parts.{plan_shape, inputs_of, exprs_of, roots_in, IsPlan}
use Rattle.plan_meaning.specs.Typing.{at}
use Rattle.plan_meaning.specs.TreeFaults.{marked, marked_at, marked_exprs}

marked-append : (n : Node) (k : ℕ) (es fs : List ExprIR) → marked n k (es ++ fs) ≡ marked n k es ++ marked n (k + length es) fs
marked-append n k [] fs = rw add-zero refl
marked-append n k (e ∷ es) fs =
    let here : suc k + length es ≡ k + length (e ∷ es) = omega arith in
    ap (λ (l : List (Step At)). record { node = e.node; mark = at n k } ∷ l) (marked-append n (suc k) es fs ∙ ap (λ (j : ℕ). marked n (suc k) es ++ marked n j fs) here)

length-take : {A : Type 0} (xs : List A) (i : ℕ) → i < length xs → length (take i xs) ≡ i
length-take [] i h = absurd (omega arith)
length-take (x ∷ xs) zero h = refl
length-take (x ∷ xs) (suc i) h = ap suc (length-take xs i (omega arith))

-- one expression more
marked-more : (n : Node) (es : List ExprIR) (i : ℕ) (e : ExprIR) → i < length es → e ≡ get_or es i e → marked n 1 (take (i + 1) es) ≡ marked n 1 (take i es) ++ record { node = e.node; mark = at n (1 + i) } ∷ []
marked-more n es i e lt is =
    ap (marked n 1) (take_more es i e lt ∙ ap (λ (x : ExprIR). take i es ++ x ∷ []) (sym is))
    ∙ marked-append n 1 (take i es) (e ∷ [])
    ∙ ap (λ (j : ℕ). marked n 1 (take i es) ++ record { node = e.node; mark = at n (1 + j) } ∷ []) (length-take es i lt)

map_here : {A B : Type 0} (f : A → B) (xs : List A) (i : ℕ) (x : A) → i < length xs → x ≡ get_or xs i x → f x ≡ get_or (map f xs) i (f x)
map_here f [] i x lt is = absurd (omega arith)
map_here f (y ∷ xs) zero x lt is = ap f is
map_here f (y ∷ xs) (suc i) x lt is = map_here f xs i x (omega arith) is

-- and where expressions are lent
pub lent-more : (n : Node) (es : List (Bor ExprIR)) (i : ℕ) (e : Bor ExprIR) → i < length es → e ≡ get_or es i e
    → marked n 1 (take (i + 1) (map (λ (x : Bor ExprIR). x.now) es)) ≡ marked n 1 (take i (map (λ (x : Bor ExprIR). x.now) es)) ++ record { node = e.now.node; mark = at n (1 + i) } ∷ []
lent-more n es i e lt is =
    let long = length-map es (λ (x : Bor ExprIR). x.now) in
    marked-more n (map (λ (x : Bor ExprIR). x.now) es) i e.now (omega (arith, long, lt)) (map_here (λ (x : Bor ExprIR). x.now) es i e lt is)

exprs-append : (lp : List IR) (ns ms : List Node) → marked_exprs lp (ns ++ ms) ≡ marked_exprs lp ns ++ marked_exprs lp ms
exprs-append lp [] ms = refl
exprs-append lp (n ∷ ns) ms = ap (λ (l : List (Step At)). marked_at lp n ++ l) (exprs-append lp ns ms) ∙ sym (append_assoc (marked_at lp n) (marked_exprs lp ns) (marked_exprs lp ms))

-- one node more
pub exprs-more : (lp : List IR) (ns : List Node) (i : ℕ) (n : Node) → i < length ns → n ≡ get_or ns i n → marked_exprs lp (take (i + 1) ns) ≡ marked_exprs lp (take i ns) ++ marked_at lp n
exprs-more lp ns i n lt is =
    ap (marked_exprs lp) (take_more ns i n lt ∙ ap (λ (x : Node). take i ns ++ x ∷ []) (sym is))
    ∙ exprs-append lp (take i ns) (n ∷ [])
    ∙ ap (λ (l : List (Step At)). marked_exprs lp (take i ns) ++ l) (append-nil (marked_at lp n))

-- a number outside the arena has no expressions
pub none_past : (lp : List IR) (n : Node) (steps : List (Step At)) → length lp ≤ n.0 → steps ≡ steps ++ marked_at lp n
none_past lp n steps h = rw (slice_get_past lp n.0 h, append-nil steps) refl

nodes-marked : (n : Node) (k : ℕ) (es : List ExprIR) → nodes_of (marked n k es) ≡ map (λ (e : ExprIR). e.node) es
nodes-marked n k [] = refl
nodes-marked n k (e ∷ es) = ap (λ (l : List Node). e.node ∷ l) (nodes-marked n (suc k) es)

nodes-append : (xs ys : List (Step At)) → nodes_of (xs ++ ys) ≡ nodes_of xs ++ nodes_of ys
nodes-append xs ys = map-append (λ (s : Step At). s.node) xs ys

-- the expressions of the nodes of trees are those that the trees have
pub roots-are : (lp : List IR) (ns : List Node) (t : Trees IR) → Stands plan_shape lp ns t → nodes_of (marked_exprs lp (labels t)) ≡ roots_in t
roots-are lp [] no_roses h = refl
roots-are lp [] (more (rose m p kids) rest) h = absurd h
roots-are lp (n ∷ ns) no_roses h = refl
roots-are lp (n ∷ ns) (more (rose m p kids) rest) h =
    let here : marked_at lp m ≡ marked m 1 (exprs_of p) = ap (λ (o : Option IR). option_map_or (λ (q : IR). marked m 1 (exprs_of q)) o []) (ap (λ (x : Node). slice_get lp x.0) (sym h.0) ∙ h.1) in
    nodes-append (marked_at lp m) (marked_exprs lp (labels kids ++ labels rest))
    ∙ ap₂ (λ (x y : List Node). x ++ y)
    (ap nodes_of here ∙ nodes-marked m 1 (exprs_of p))
    (ap nodes_of (exprs-append lp (labels kids) (labels rest)) ∙ nodes-append (marked_exprs lp (labels kids)) (marked_exprs lp (labels rest)) ∙ ap₂ (λ (x y : List Node). x ++ y) (roots-are lp (inputs_of p) kids h.3) (roots-are lp ns rest h.4))

-- trees of nodes, and trees over the expressions that a walk over these found, are a plan
pub plan_found : (lp : List IR) (ex : List AExpr) (root : Node) (listed : List Node) (steps : List (Step At)) → ((t : Trees IR) × StandsOnce plan_shape lp (root ∷ []) t) → ((t : Trees IR) → StandsOnce plan_shape lp (root ∷ []) t → listed ≡ labels t) → steps ≡ marked_exprs lp listed → ((e : Trees AExpr) × StandsOnce expr_shape ex (nodes_of steps) e) → IsPlan lp ex root
plan_found lp ex root listed steps t order is e =
    let roots : nodes_of steps ≡ roots_in t.0 = ap nodes_of (is ∙ ap (marked_exprs lp) (order t.0 t.1)) ∙ roots-are lp (root ∷ []) t.0 t.1.stands in
    record {
      nodes = t.0;
      exprs = e.0;
      stands = record { nodes = t.1; exprs = subst (λ (l : List Node). StandsOnce expr_shape ex l e.0) roots e.1 };
    }

-- what is read at a place within a list doesn't depend on what is read outside
pub read-any : {A : Type 0} (xs : List A) (i : ℕ) (d e : A) → i < length xs → get_or xs i d ≡ get_or xs i e
read-any [] i d e lt = absurd (omega arith)
read-any (x ∷ xs) zero d e lt = refl
read-any (x ∷ xs) (suc i) d e lt = read-any xs i d e (omega arith)
