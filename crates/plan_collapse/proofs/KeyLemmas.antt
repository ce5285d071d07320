-- The keys that a minterm of an arena gives, by the sides of its operands.
use Rattle.std.proofs.Common.{◌≡◌, ◌∙◌, ◌&&◌, Bool, true, false, cond, List, [], ◌∷◌, Option, Some, None, option_map, option_and_then, is_some, IfNone, IfSome, refl, sym, ap, ap₂, subst, inl, inr}
use Rattle.std.specs.List.{slice_get}
use Rattle.std.specs.Option.{option_map_or}
use Rattle.plan_core.specs.declared.arena.Node.{Node}
use Rattle.plan_core.specs.Columns.{Columns}
use Rattle.plan_core.specs.declared.data_type.DataType.TheVariants.{Int64}
use Rattle.plan_tree.specs.Rose.{rose}
use Rattle.plan_tree.specs.Stands.{Trees, Reaches}
use Rattle.plan_tree.proofs.TreeLemmas.{opened}
use Rattle.plan_expr.specs.declared.aexpr.AExpr.{AExpr}
use Rattle.plan_expr.specs.declared.aexpr.AExpr.TheVariants.{Column, Literal, Alias, BinaryExpr, Ternary, Agg, Function, Window, Len}
use Rattle.plan_expr.specs.declared.operator.Operator.{Operator}
use Rattle.plan_expr.specs.Exprs.{Expr, expr_at, expr_op, exprs_at}
use Rattle.plan_expr.specs.Operands.{IsExpr, expr_shape, operands_of}
use Rattle.plan_expr.proofs.ExprLemmas.{expr_down, expr_open}
use Rattle.plan_frame.specs.Exprs.{expr_type, is_type}
use Rattle.plan_join.specs.declared.origin.Side.{Side}
use Rattle.plan_join.specs.declared.origin.Side.TheVariants as sides
use Rattle.plan_prune_parts.specs.Left.{StandFor}
use Rattle.plan_prune_parts.specs.Places.{StandExprs, TakePlace}
use Rattle.plan_prune_parts.proofs.LongerLemmas.{first_exprs, longer_same}
use Rattle.plan_prune_parts.proofs.PlaceLemmas.{place_alone, place_same, place_swapped, place_trans}
use Rattle.plan_collapse_laws.specs.CrossKeys.{all_from, Crossed, equality_keys, inequality_keys, inequality_of, is_equality, is_side, KeyPair, paired, turned_round, whole_only}
use Rattle.plan_collapse.specs.declared.keys.KeyNodes.{KeyNodes}
use Rattle.plan_collapse.specs.KeysAt.{both_nodes, keys_by, pair_at}
use Rattle.plan_collapse.proofs.Places.{place_for}

-- the sides from which the columns of an expression come are told
abbrev pub Tells : Crossed → Expr → Option Side → Type 0
Tells j e found = (side : Side) → all_from j side e ≡ option_map_or (is_side side) found false

module _ (ex : List AExpr) where
  -- the keys of a comparison
  pub paired-by : (j : Crossed) (first second : Option Side) (l r : Node) (op : Operator) → Tells j (expr_at ex l) first → Tells j (expr_at ex r) second → option_map (pair_at ex j) (keys_by first second l op r) ≡ paired j op (expr_at ex l) (expr_at ex r)
  paired-by j first second l r op h g =
      of first second
      ∙ sym (ap₂ (λ (p q : Bool). chosen p q (all_from j sides.Right (expr_at ex l)) (all_from j sides.Left (expr_at ex r))) (h sides.Left) (g sides.Right)
      ∙ ap₂ (λ (s t : Bool). chosen (option_map_or (is_side sides.Left) first false) (option_map_or (is_side sides.Right) second false) s t) (h sides.Right) (g sides.Left))
    where
      -- by four tests
      chosen : (p q s t : Bool) → Option KeyPair
      chosen p q s t = cond (p && q) (Some (pair_at ex j (record { op = op; left = l; right = r }))) (cond (s && t) (Some (pair_at ex j (record { op = turned_round op; left = r; right = l }))) None)

      of : (x y : Option Side) → option_map (pair_at ex j) (keys_by x y l op r) ≡ chosen (option_map_or (is_side sides.Left) x false) (option_map_or (is_side sides.Right) y false) (option_map_or (is_side sides.Right) x false) (option_map_or (is_side sides.Left) y false)
      of (Some sides.Left) (Some sides.Right) = refl
      of (Some sides.Right) (Some sides.Left) = refl
      of (Some sides.Left) (Some sides.Left) = refl
      of (Some sides.Right) (Some sides.Right) = refl
      of (Some sides.Left) None = refl
      of (Some sides.Right) None = refl
      of None y = refl

  -- they stand in the place of the operands
  keys-place : (first second : Option Side) (l r : Node) (op : Operator) (k : KeyNodes) → keys_by first second l op r ≡ Some k → TakePlace ex ex (both_nodes k) (l ∷ r ∷ [])
  keys-place (Some sides.Left) (Some sides.Right) l r op k e = (let same : record { op = op; left = l; right = r } ≡ k = cc in subst (λ (x : KeyNodes). TakePlace ex ex (both_nodes x) (l ∷ r ∷ [])) same (place_same ex (l ∷ r ∷ [])))
  keys-place (Some sides.Right) (Some sides.Left) l r op k e = (let same : record { op = turned_round op; left = r; right = l } ≡ k = cc in subst (λ (x : KeyNodes). TakePlace ex ex (both_nodes x) (l ∷ r ∷ [])) same (place_swapped ex (l ∷ []) (r ∷ [])))
  keys-place first second l r op k e = cc

  pub keys-places : (first second : Option Side) (l r : Node) (op : Operator) (found : Option KeyNodes) → found ≡ keys_by first second l op r → IfSome found (λ (k : KeyNodes). TakePlace ex ex (both_nodes k) (l ∷ r ∷ []))
  keys-places first second l r op None e = tt
  keys-places first second l r op (Some k) e = keys-place first second l r op k (sym e)

  module _ (n : Node) (p : AExpr) (h : IsExpr ex n) (e : slice_get ex n.0 ≡ Some p) where
    -- the operands of an expression stand in its place
    pub operands-place : TakePlace ex ex (operands_of p) (n ∷ [])
    operands-place = place_for ex ex (operands_of p) (n ∷ []) (longer_same ex) for
      where
        for : StandFor ex ex (operands_of p) (n ∷ [])
        for f s =
            let o = opened expr_shape ex n p f s e in
            (o.kids, o.inputs, λ k r. inl (subst (λ (t : Trees AExpr). Reaches t k) (sym o.is) (inr (inl r))))

    -- an equality, and another expression
    pub equality-keys : (j : Crossed) (l r : Node) (op : Operator) → p ≡ BinaryExpr l op r → is_equality op ≡ true → equality_keys j (expr_at ex n) ≡ paired j op (expr_at ex l) (expr_at ex r)
    equality-keys j l r op is one =
        ap (equality_keys j) (expr_open ex n p h e ∙ ap (λ (q : AExpr). rose tt (expr_op q) (exprs_at ex (operands_of q))) is)
        ∙ ap (λ (b : Bool). cond b (paired j op (expr_at ex l) (expr_at ex r)) None) one

    pub no-equality : (j : Crossed) → ((l r : Node) (op : Operator) → p ≡ BinaryExpr l op r → is_equality op ≡ false) → equality_keys j (expr_at ex n) ≡ None
    no-equality j other = ap (equality_keys j) (expr_open ex n p h e) ∙ of p other
      where
        of : (q : AExpr) → ((l r : Node) (op : Operator) → q ≡ BinaryExpr l op r → is_equality op ≡ false) → equality_keys j (rose tt (expr_op q) (exprs_at ex (operands_of q))) ≡ None
        of (BinaryExpr l op r) none = ap (λ (b : Bool). cond b (paired j op (expr_at ex l) (expr_at ex r)) None) (none l r op refl)
        of (Column name) none = refl
        of (Literal value) none = refl
        of (Alias input name) none = refl
        of (Ternary predicate truthy falsy) none = refl
        of (Agg agg) none = refl
        of (Function input function options) none = refl
        of (Window function partition_by) none = refl
        of Len none = refl

    -- an inequality, and another expression
    pub inequality-keys : (j : Crossed) (l r : Node) (op : Operator) → p ≡ BinaryExpr l op r → is_some (inequality_of op) ≡ true → inequality_keys j (expr_at ex n) ≡ option_and_then (whole_only j.left) (paired j op (expr_at ex l) (expr_at ex r))
    inequality-keys j l r op is one =
        ap (inequality_keys j) (expr_open ex n p h e ∙ ap (λ (q : AExpr). rose tt (expr_op q) (exprs_at ex (operands_of q))) is)
        ∙ ap (λ (b : Bool). cond b (option_and_then (whole_only j.left) (paired j op (expr_at ex l) (expr_at ex r))) None) one

    pub no-inequality : (j : Crossed) → ((l r : Node) (op : Operator) → p ≡ BinaryExpr l op r → is_some (inequality_of op) ≡ false) → inequality_keys j (expr_at ex n) ≡ None
    no-inequality j other = ap (inequality_keys j) (expr_open ex n p h e) ∙ of p other
      where
        of : (q : AExpr) → ((l r : Node) (op : Operator) → q ≡ BinaryExpr l op r → is_some (inequality_of op) ≡ false) → inequality_keys j (rose tt (expr_op q) (exprs_at ex (operands_of q))) ≡ None
        of (BinaryExpr l op r) none = ap (λ (b : Bool). cond b (option_and_then (whole_only j.left) (paired j op (expr_at ex l) (expr_at ex r))) None) (none l r op refl)
        of (Column name) none = refl
        of (Literal value) none = refl
        of (Alias input name) none = refl
        of (Ternary predicate truthy falsy) none = refl
        of (Agg agg) none = refl
        of (Function input function options) none = refl
        of (Window function partition_by) none = refl
        of Len none = refl

    -- the operands of a comparison stand, and its keys stand in its place
    pub operands-stand : (l r : Node) (op : Operator) → p ≡ BinaryExpr l op r → IsExpr ex l × IsExpr ex r
    operands-stand l r op is = (
      (expr_down ex n l p 0 h e (ap (λ (q : AExpr). slice_get (operands_of q) 0) is)).1,
      (expr_down ex n r p 1 h e (ap (λ (q : AExpr). slice_get (operands_of q) 1) is)).1,
    )

    pub minterm-place : (l r : Node) (op : Operator) (found : Option KeyNodes) → p ≡ BinaryExpr l op r → IfSome found (λ (k : KeyNodes). TakePlace ex ex (both_nodes k) (l ∷ r ∷ [])) → IfSome found (λ (k : KeyNodes). TakePlace ex ex (both_nodes k) (n ∷ []))
    minterm-place l r op None is place = tt
    minterm-place l r op (Some k) is place = place_trans ex ex ex (both_nodes k) (l ∷ r ∷ []) (n ∷ []) place (subst (λ (ns : List Node). TakePlace ex ex ns (n ∷ [])) (ap operands_of is) operands-place)

  -- keys stand
  pub left-stands : (l r : Node) (found : Option KeyNodes) → StandExprs ex (l ∷ r ∷ []) → IfSome found (λ (k : KeyNodes). TakePlace ex ex (both_nodes k) (l ∷ r ∷ [])) → IfSome found (λ (k : KeyNodes). IsExpr ex k.left)
  left-stands l r None s place = tt
  left-stands l r (Some k) s place = first_exprs ex (k.left ∷ []) (k.right ∷ []) (place_alone ex ex (both_nodes k) (l ∷ r ∷ []) place s)

  -- the whole numbers among keys
  pub whole-keys : (j : Crossed) (s : Columns) (found now : Option KeyNodes) → j.left ≡ s → IfSome now (λ (k : KeyNodes). (found ≡ Some k) × (is_type (expr_type (expr_at ex k.left) s) Int64 ≡ true)) → IfNone now (IfSome found (λ (k : KeyNodes). is_type (expr_type (expr_at ex k.left) s) Int64 ≡ false)) → option_map (pair_at ex j) now ≡ option_and_then (whole_only j.left) (option_map (pair_at ex j) found)
  whole-keys j s found (Some k) same some none =
      sym (ap (λ (o : Option KeyNodes). option_and_then (whole_only j.left) (option_map (pair_at ex j) o)) some.0
      ∙ ap (λ (t : Columns). whole_only t (pair_at ex j k)) same
      ∙ ap (λ (b : Bool). cond b (Some (pair_at ex j k)) None) some.1)
  whole-keys j s None None same some none = refl
  whole-keys j s (Some k) None same some none =
      sym (ap (λ (t : Columns). whole_only t (pair_at ex j k)) same ∙ ap (λ (b : Bool). cond b (Some (pair_at ex j k)) None) none)

  pub whole-place : (ns : List Node) (s : Columns) (found now : Option KeyNodes) → IfSome now (λ (k : KeyNodes). (found ≡ Some k) × (is_type (expr_type (expr_at ex k.left) s) Int64 ≡ true)) → IfSome found (λ (k : KeyNodes). TakePlace ex ex (both_nodes k) ns) → IfSome now (λ (k : KeyNodes). TakePlace ex ex (both_nodes k) ns)
  whole-place ns s found None some place = tt
  whole-place ns s found (Some k) some place = subst (λ (o : Option KeyNodes). IfSome o (λ (x : KeyNodes). TakePlace ex ex (both_nodes x) ns)) some.0 place
