-- The minterms of an expression in an arena: trees that stand once, reach only what the expression reaches, and are its minterms.
use Rattle.std.proofs.Common.{◌≡◌, ◌∙◌, ◌++◌, Bool, true, false, cond, List, [], ◌∷◌, refl, sym, ap, ap₂, subst, inl, inr, ⊎_elim}
use Rattle.std.specs.Prelude.{slice_get, Some}
use Rattle.std.specs.List.{flat_map}
use Rattle.std.proofs.lemmas.List.{append-nil}
use Rattle.plan_core.specs.declared.arena.Node.{Node}
use Rattle.plan_tree.specs.Rose.{Roses, rose, no_roses, more, join}
use Rattle.plan_tree.specs.Stands.{Apart, IsOnce, Reaches, Stands, StandsOnce, Trees}
use Rattle.plan_tree.proofs.Frames.{IsOnce-join, Reaches-join, Stands-join}
use Rattle.plan_expr.specs.declared.aexpr.AExpr.{AExpr}
use Rattle.plan_expr.specs.declared.aexpr.AExpr.TheVariants as exprs
use Rattle.plan_expr.specs.Exprs.{ExprOp, Expr, bare_exprs, expr_op}
use Rattle.plan_expr.specs.Operands.{expr_shape}
use Rattle.plan_meaning.specs.Minterms.{is_and, minterms}
use Rattle.plan_meaning.specs.MintermTrees.{minterm_trees, roots, listed}

roots-join : (f g : Trees AExpr) → roots (join f g) ≡ roots f ++ roots g
roots-join no_roses g = refl
roots-join (more (rose n p kids) rest) g = ap (λ (ns : List Node). n ∷ ns) (roots-join rest g)

listed-join : (f g : Trees AExpr) → listed (bare_exprs (join f g)) ≡ listed (bare_exprs f) ++ listed (bare_exprs g)
listed-join no_roses g = refl
listed-join (more (rose n p kids) rest) g = ap (λ (es : List Expr). rose tt (expr_op p) (bare_exprs kids) ∷ es) (listed-join rest g)

-- they reach only what the trees reach
pub minterm-within : (t : Trees AExpr) (k : _) → Reaches (minterm_trees t) k → Reaches t k
minterm-within no_roses k r = r
minterm-within (more (rose n p kids) rest) k r = at (is_and (expr_op p)) (λ y. minterm-within kids k y) (λ y. minterm-within rest k y) r
  where
    at : (b : Bool) → (Reaches (minterm_trees kids) k → Reaches kids k) → (Reaches (minterm_trees rest) k → Reaches rest k) → Reaches (join (cond b (minterm_trees kids) (more (rose n p kids) no_roses)) (minterm_trees rest)) k → Reaches (more (rose n p kids) rest) k
    at true below later x = ⊎_elim (λ y. inr (inl (below y))) (λ y. inr (inr (later y))) (Reaches-join expr_shape (minterm_trees kids) (minterm_trees rest) k x)
    at false below later x = ⊎_elim (λ y. ⊎_elim (λ e. inl e) (λ z. ⊎_elim (λ u. inr (inl u)) (λ u. absurd u) z) y) (λ y. inr (inr (later y))) (Reaches-join expr_shape (more (rose n p kids) no_roses) (minterm_trees rest) k x)

minterms-once : (t : Trees AExpr) → IsOnce t → IsOnce (minterm_trees t)
minterms-once no_roses o = tt
minterms-once (more (rose n p kids) rest) o = at (is_and (expr_op p)) (minterms-once kids o.3) (minterms-once rest o.4)
  where
    below : Apart (minterm_trees kids) (minterm_trees rest)
    below k x y = o.2 k (minterm-within kids k x) (minterm-within rest k y)

    here : Apart (more (rose n p kids) no_roses) (minterm_trees rest)
    here k x y = ⊎_elim (λ e. o.1 (subst (Reaches rest) e (minterm-within rest k y))) (λ z. ⊎_elim (λ u. o.2 k u (minterm-within rest k y)) (λ u. u) z) x

    at : (b : Bool) → IsOnce (minterm_trees kids) → IsOnce (minterm_trees rest) → IsOnce (join (cond b (minterm_trees kids) (more (rose n p kids) no_roses)) (minterm_trees rest))
    at true inside later = IsOnce-join expr_shape (minterm_trees kids) (minterm_trees rest) inside later below
    at false inside later = IsOnce-join expr_shape (more (rose n p kids) no_roses) (minterm_trees rest) (o.0, (λ r. r), (λ k x y. y), o.3, tt) later here

minterms-stand : (ex : List AExpr) (ns : List Node) (t : Trees AExpr) → Stands expr_shape ex ns t → Stands expr_shape ex (roots (minterm_trees t)) (minterm_trees t)
minterms-stand ex [] no_roses s = tt
minterms-stand ex [] (more (rose n p kids) rest) s = absurd s
minterms-stand ex (m ∷ ns) no_roses s = absurd s
minterms-stand ex (m ∷ ns) (more (rose n p kids) rest) s = at (is_and (expr_op p)) (minterms-stand ex (expr_shape.inputs p) kids s.3) (minterms-stand ex ns rest s.4)
  where
    at : (b : Bool) → Stands expr_shape ex (roots (minterm_trees kids)) (minterm_trees kids) → Stands expr_shape ex (roots (minterm_trees rest)) (minterm_trees rest) → Stands expr_shape ex (roots (join (cond b (minterm_trees kids) (more (rose n p kids) no_roses)) (minterm_trees rest))) (join (cond b (minterm_trees kids) (more (rose n p kids) no_roses)) (minterm_trees rest))
    at true inside later = subst (λ (us : List Node). Stands expr_shape ex us (join (minterm_trees kids) (minterm_trees rest))) (sym (roots-join (minterm_trees kids) (minterm_trees rest)))
        (Stands-join expr_shape ex (roots (minterm_trees kids)) (roots (minterm_trees rest)) (minterm_trees kids) (minterm_trees rest) inside later)
    at false inside later = (refl, subst (λ (x : Node). slice_get ex x.0 ≡ Some p) s.0 s.1, s.2, s.3, later)

-- the minterms stand once over their own roots
pub minterms-stand_once : (ex : List AExpr) (ns : List Node) (t : Trees AExpr) → StandsOnce expr_shape ex ns t → StandsOnce expr_shape ex (roots (minterm_trees t)) (minterm_trees t)
minterms-stand_once ex ns t s = record { stands = minterms-stand ex ns t s.stands; once = minterms-once t s.once }

-- and are the minterms of what stood there

no_and : (n : Unit {0}) (op : ExprOp) (es : Roses (Unit {0}) ExprOp) → is_and op ≡ false → minterms (rose n op es) ≡ rose n op es ∷ []
no_and n op no_roses h = refl
no_and n op (more l no_roses) h = refl
no_and n op (more l (more r (more e es))) h = refl
no_and n op (more l (more r no_roses)) h = ap (λ (b : Bool). cond b (minterms l ++ minterms r) (rose n op (more l (more r no_roses)) ∷ [])) h

-- And stands over two operands
two_kids : (ex : List AExpr) (p : AExpr) (kids : Trees AExpr) → is_and (expr_op p) ≡ true → Stands expr_shape ex (expr_shape.inputs p) kids → minterms (rose tt (expr_op p) (bare_exprs kids)) ≡ flat_map minterms (listed (bare_exprs kids))
two_kids ex (exprs.BinaryExpr left op right) no_roses h s = absurd s
two_kids ex (exprs.BinaryExpr left op right) (more (rose n q us) no_roses) h s = absurd s.4
two_kids ex (exprs.BinaryExpr left op right) (more (rose n q us) (more (rose m o vs) (more (rose i a ws) rest))) h s = absurd s.4.4
two_kids ex (exprs.BinaryExpr left op right) (more (rose n q us) (more (rose m o vs) no_roses)) h s =
    let l : Expr = rose tt (expr_op q) (bare_exprs us) in
    let r : Expr = rose tt (expr_op o) (bare_exprs vs) in
    ap (λ (b : Bool). cond b (minterms l ++ minterms r) (rose tt (expr_op (exprs.BinaryExpr left op right)) (more l (more r no_roses)) ∷ [])) h
    ∙ ap (λ (es : List Expr). minterms l ++ es) (sym (append-nil (minterms r)))
two_kids ex p kids h s = cc

pub minterms-are : (ex : List AExpr) (ns : List Node) (t : Trees AExpr) → Stands expr_shape ex ns t → listed (bare_exprs (minterm_trees t)) ≡ flat_map minterms (listed (bare_exprs t))
minterms-are ex [] no_roses s = refl
minterms-are ex [] (more (rose n p kids) rest) s = absurd s
minterms-are ex (m ∷ ns) no_roses s = absurd s
minterms-are ex (m ∷ ns) (more (rose n p kids) rest) s =
    listed-join (cond (is_and (expr_op p)) (minterm_trees kids) (more (rose n p kids) no_roses)) (minterm_trees rest)
    ∙ ap₂ (λ (xs ys : List Expr). xs ++ ys) (at (is_and (expr_op p)) refl (minterms-are ex (expr_shape.inputs p) kids s.3)) (minterms-are ex ns rest s.4)
  where
    at : (b : Bool) → is_and (expr_op p) ≡ b → listed (bare_exprs (minterm_trees kids)) ≡ flat_map minterms (listed (bare_exprs kids)) → listed (bare_exprs (cond b (minterm_trees kids) (more (rose n p kids) no_roses))) ≡ minterms (rose tt (expr_op p) (bare_exprs kids))
    at true e below = below ∙ sym (two_kids ex p kids e s.3)
    at false e below = sym (no_and tt (expr_op p) (bare_exprs kids) e)
