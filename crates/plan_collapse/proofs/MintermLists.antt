-- The walk over nested And: what it has listed, with the minterms of what waits, are the minterms of the expression.
use Rattle.std.proofs.Common.{◌≡◌, ◌∙◌, ◌<◌, ℕ, false, cond, List, [], ◌∷◌, ◌++◌, length, map, reverse, Some, refl, sym, ap, subst, inl, arith, append-nil, append_assoc}
use Rattle.std.specs.List.{flat_map, slice_get}
use Rattle.std.proofs.lemmas.List.{reverse-append}
use Rattle.std.proofs.lemmas.Option.{slice_get_within}
use Rattle.plan_core.specs.declared.arena.Node.{Node}
use Rattle.plan_tree.specs.Rose.{rose, no_roses, more, join, size}
use Rattle.plan_tree.specs.Read.{tree_at, trees_at}
use Rattle.plan_tree.specs.Stands.{Trees, StandsOnce}
use Rattle.plan_tree.proofs.JoinLemmas.{join-assoc, size-join}
use Rattle.plan_tree.proofs.ReadLemmas.{tree_at-is, tree_at-stands, trees_at-is}
use Rattle.plan_tree.proofs.SplitLemmas.{StandsOnce-join}
use Rattle.plan_expr.specs.declared.aexpr.AExpr.{AExpr}
use Rattle.plan_expr.specs.declared.aexpr.AExpr.TheVariants.{BinaryExpr}
use Rattle.plan_expr.specs.declared.operator.Operator.TheVariants.{And}
use Rattle.plan_expr.specs.Exprs.{Expr, bare_exprs, expr_at, expr_op, exprs_at, one_expr}
use Rattle.plan_expr.specs.Operands.{IsExpr, expr_shape}
use Rattle.plan_expr.proofs.ExprLemmas.{exprs_at-is}
use Rattle.plan_meaning.specs.Minterms.{is_and, minterms}
use Rattle.plan_meaning.specs.MintermTrees.{listed, minterm_trees, roots}
use Rattle.plan_meaning.proofs.MintermTrees.{minterm-within, minterms-are, minterms-stand_once}
use Rattle.plan_prune_parts.specs.Left.{StandFor}
use Rattle.plan_prune_parts.specs.Places.{TakePlace}
use Rattle.plan_prune_parts.proofs.LongerLemmas.{longer_same}
use Rattle.plan_collapse.proofs.Places.{place_for}

roots-join : (f g : Trees AExpr) → roots (join f g) ≡ roots f ++ roots g
roots-join no_roses g = refl
roots-join (more (rose n p kids) rest) g = ap (λ (ns : List Node). n ∷ ns) (roots-join rest g)

minterms-join : (f g : Trees AExpr) → minterm_trees (join f g) ≡ join (minterm_trees f) (minterm_trees g)
minterms-join no_roses g = refl
minterms-join (more (rose n p kids) rest) g =
    let own : Trees AExpr = cond (is_and (expr_op p)) (minterm_trees kids) (more (rose n p kids) no_roses) in
    ap (join own) (minterms-join rest g) ∙ sym (join-assoc own (minterm_trees rest) (minterm_trees g))

-- the numbers of the minterms of trees
abbrev lists : Trees AExpr → List Node
lists t = roots (minterm_trees t)

lists-join : (f g : Trees AExpr) → lists (join f g) ≡ lists f ++ lists g
lists-join f g = ap roots (minterms-join f g) ∙ roots-join (minterm_trees f) (minterm_trees g)

pub listed-map : (ex : List AExpr) (ns : List Node) → map (expr_at ex) ns ≡ listed (exprs_at ex ns)
listed-map ex [] = refl
listed-map ex (n ∷ ns) = ap (λ (es : List Expr). expr_at ex n ∷ es) (listed-map ex ns)

module _ (ex : List AExpr) where
  -- trees stand over the pending numbers, the last one first; what is listed and their minterms are those of the expression
  pub record Listing (node : Node) (numbers pending : List Node) : Type 0 where
    pub trees : Trees AExpr
    pub stands : StandsOnce expr_shape ex (reverse pending) trees
    pub is : numbers ++ lists trees ≡ lists (tree_at expr_shape ex node)

  -- how many entries stand at and below the pending numbers
  unfoldable pub left : List Node → ℕ
  left pending = size (trees_at expr_shape ex (reverse pending))

  left-is : (pending : List Node) (t : Trees AExpr) → StandsOnce expr_shape ex (reverse pending) t → left pending ≡ size t
  unfolding left
  left-is pending t s = ap size (trees_at-is expr_shape ex (reverse pending) t s)

  pub listing-init : (node : Node) → IsExpr ex node → Listing node [] (node ∷ [])
  listing-init node h = record { trees = h.0; stands = h.1; is = ap lists (sym (tree_at-is expr_shape ex node h.0 h.1)) }

  -- one turn: what is left, and that it is less
  pub record Turn (node : Node) (before : List Node) (numbers after : List Node) : Type 0 where
    pub next : Listing node numbers after
    pub falls : left after < left before

  reverse-last : (before pending : List Node) (n : Node) → before ≡ pending ++ n ∷ [] → reverse before ≡ n ∷ reverse pending
  reverse-last before pending n is = ap reverse is ∙ reverse-append pending (n ∷ [])

  -- the number that was taken is that of an entry
  pub on_top : (node n : Node) (numbers before pending : List Node) → before ≡ pending ++ n ∷ [] → Listing node numbers before → n.0 < length ex
  on_top node n numbers before pending is d = of d.trees (subst (λ (ns : List Node). StandsOnce expr_shape ex ns d.trees) (reverse-last before pending n is) d.stands)
    where
      of : (t : Trees AExpr) → StandsOnce expr_shape ex (n ∷ reverse pending) t → n.0 < length ex
      of no_roses s = absurd s.stands
      of (more (rose m p kids) rest) s = slice_get_within ex n.0 p s.stands.1

  module _ (node n : Node) (numbers before pending : List Node) (p : AExpr) (is : before ≡ pending ++ n ∷ []) (d : Listing node numbers before) (e : slice_get ex n.0 ≡ Some p) where
    abbrev Then : List Node → List Node → Type 0
    Then listed after = Turn node before listed after

    top : (t : Trees AExpr) → StandsOnce expr_shape ex (n ∷ reverse pending) t → t ≡ d.trees → (kids rest : Trees AExpr) × (d.trees ≡ more (rose n p kids) rest) × StandsOnce expr_shape ex (n ∷ reverse pending) (more (rose n p kids) rest)
    top no_roses s same = absurd s.stands
    top (more (rose m q kids) rest) s same =
        let number : n ≡ m = s.stands.0 in
        let entry : p ≡ q = (let u = s.stands.1 in cc) in
        let now : more (rose m q kids) rest ≡ more (rose n p kids) rest = rw (number, entry) refl in
        (kids, rest, sym same ∙ now, subst (λ (t : Trees AExpr). StandsOnce expr_shape ex (n ∷ reverse pending) t) now s)

    -- an And gives way to its operands, the left one on top
    pub turn-and : (l r : Node) (after : List Node) → p ≡ BinaryExpr l And r → after ≡ (pending ++ r ∷ []) ++ l ∷ [] → Then numbers after
    turn-and l r after and then = of (top d.trees (subst (λ (ns : List Node). StandsOnce expr_shape ex ns d.trees) (reverse-last before pending n is) d.stands) refl)
      where
        over : reverse after ≡ l ∷ r ∷ reverse pending
        over = reverse-last after (pending ++ r ∷ []) l then ∙ ap (λ (ns : List Node). l ∷ ns) (reverse-append pending (r ∷ []))

        of : ((kids rest : Trees AExpr) × (d.trees ≡ more (rose n p kids) rest) × StandsOnce expr_shape ex (n ∷ reverse pending) (more (rose n p kids) rest)) → Then numbers after
        of x =
            let kids = x.0 in
            let rest = x.1 in
            let s = x.3 in
            let below : StandsOnce expr_shape ex (l ∷ r ∷ []) kids = subst (λ (q : AExpr). StandsOnce expr_shape ex (expr_shape.inputs q) kids) and (record { stands = s.stands.3; once = s.once.3 }) in
            let others : StandsOnce expr_shape ex (reverse pending) rest = record { stands = s.stands.4; once = s.once.4 } in
            let both : StandsOnce expr_shape ex (reverse after) (join kids rest) = subst (λ (ns : List Node). StandsOnce expr_shape ex ns (join kids rest)) (sym over) (StandsOnce-join expr_shape ex (l ∷ r ∷ []) (reverse pending) kids rest below others s.once.2) in
            let whole : lists d.trees ≡ lists kids ++ lists rest = ap lists (x.2 ∙ ap (λ (q : AExpr). more (rose n q kids) rest) and) ∙ roots-join (minterm_trees kids) (minterm_trees rest) in
            record {
              next = record { trees = join kids rest; stands = both; is = ap (λ (ns : List Node). numbers ++ ns) (lists-join kids rest ∙ sym whole) ∙ d.is };
              falls = (let now = left-is after (join kids rest) both in let then_size = size-join kids rest in let was : left before ≡ size d.trees = left-is before d.trees d.stands in let is_size : size d.trees ≡ size (more (rose n p kids) rest) = ap size x.2 in omega (arith, now, then_size, was, is_size));
            }

    -- another expression is listed
    pub turn-other : (more_numbers : List Node) → is_and (expr_op p) ≡ false → more_numbers ≡ numbers ++ n ∷ [] → Then more_numbers pending
    turn-other more_numbers other then = of (top d.trees (subst (λ (ns : List Node). StandsOnce expr_shape ex ns d.trees) (reverse-last before pending n is) d.stands) refl)
      where
        of : ((kids rest : Trees AExpr) × (d.trees ≡ more (rose n p kids) rest) × StandsOnce expr_shape ex (n ∷ reverse pending) (more (rose n p kids) rest)) → Then more_numbers pending
        of x =
            let kids = x.0 in
            let rest = x.1 in
            let s = x.3 in
            let others : StandsOnce expr_shape ex (reverse pending) rest = record { stands = s.stands.4; once = s.once.4 } in
            let whole : lists d.trees ≡ n ∷ lists rest = ap lists x.2 ∙ ap (λ (b : _). roots (join (cond b (minterm_trees kids) (more (rose n p kids) no_roses)) (minterm_trees rest))) other in
            record {
              next = record { trees = rest; stands = others; is = ap (λ (ns : List Node). ns ++ lists rest) then ∙ append_assoc numbers (n ∷ []) (lists rest) ∙ ap (λ (ns : List Node). numbers ++ ns) (sym whole) ∙ d.is };
              falls = (let now = left-is pending rest others in let was : left before ≡ size d.trees = left-is before d.trees d.stands in let is_size : size d.trees ≡ size (more (rose n p kids) rest) = ap size x.2 in omega (arith, now, was, is_size));
            }

  -- at the end the minterms are listed
  listing-end : (node : Node) (numbers : List Node) → Listing node numbers [] → numbers ≡ lists (tree_at expr_shape ex node)
  listing-end node numbers d = of d.trees d.stands d.is
    where
      of : (t : Trees AExpr) → StandsOnce expr_shape ex [] t → numbers ++ lists t ≡ lists (tree_at expr_shape ex node) → numbers ≡ lists (tree_at expr_shape ex node)
      of no_roses s e = sym (append-nil numbers) ∙ e
      of (more (rose n p kids) rest) s e = absurd s.stands

  pub listed-exprs : (node : Node) (numbers : List Node) → IsExpr ex node → Listing node numbers [] → map (expr_at ex) numbers ≡ minterms (expr_at ex node)
  listed-exprs node numbers h d =
      let s = tree_at-stands expr_shape ex node h.0 h.1 in
      let t : Trees AExpr = tree_at expr_shape ex node in
      let once = minterms-stand_once ex (node ∷ []) t s in
      ap (map (expr_at ex)) (listing-end node numbers d)
      ∙ listed-map ex (lists t)
      ∙ ap listed (exprs_at-is ex (lists t) (minterm_trees t) once)
      ∙ minterms-are ex (node ∷ []) t s.stands
      ∙ of t s
    where
      of : (t : Trees AExpr) → StandsOnce expr_shape ex (node ∷ []) t → flat_map minterms (listed (bare_exprs t)) ≡ minterms (one_expr (bare_exprs t))
      of no_roses s = absurd s.stands
      of (more (rose n p kids) no_roses) s = append-nil (minterms (rose tt (expr_op p) (bare_exprs kids)))
      of (more (rose n p kids) (more (rose m q us) rest)) s = absurd s.stands.4

  pub listed-place : (node : Node) (numbers : List Node) → Listing node numbers [] → TakePlace ex ex numbers (node ∷ [])
  listed-place node numbers d = place_for ex ex numbers (node ∷ []) (longer_same ex) for
    where
      for : StandFor ex ex numbers (node ∷ [])
      for f h =
          let is : numbers ≡ lists f = listing-end node numbers d ∙ ap lists (tree_at-is expr_shape ex node f h) in
          (minterm_trees f, subst (λ (ns : List Node). StandsOnce expr_shape ex ns (minterm_trees f)) (sym is) (minterms-stand_once ex (node ∷ []) f h), λ k r. inl (minterm-within f k r))
