-- Joins that may follow two valid plans.
use Rattle.std.proofs.Common.{◌≡◌, ◌∙◌, ◌++◌, ◌<◌, All, false, List, [], ◌∷◌, get_or, length, Some, refl, sym, ap, ap₂, subst, append-nil, append_assoc, arith}
use Rattle.std.specs.List.{slice_get}
use Rattle.std.proofs.Math.Seq.{take-append_seam, drop-append_seam}
use Rattle.std.proofs.lemmas.List.Elements.{All-take, All-drop}
use Rattle.std.proofs.lemmas.Option.{slice_get_within}
use Rattle.plan_core.specs.declared.arena.Node.{Node}
use Rattle.plan_core.specs.Columns.{Columns, HasDistinctNames, names_of}
use Rattle.plan_tree.specs.Rose.{Roses, rose, no_roses, more, join}
use Rattle.plan_tree.specs.Stands.{Trees, Apart, Reaches, Stands, StandsOnce}
use Rattle.plan_tree.proofs.Frames.{Stands-kept, slice_get-append, slice_get-append_last}
use Rattle.plan_tree.proofs.Numbers.{Reaches-within}
use Rattle.plan_tree.proofs.ReadLemmas.{trees_at-is}
use Rattle.plan_tree.proofs.SplitLemmas.{StandsOnce-join}
use Rattle.plan_expr.specs.declared.aexpr.AExpr.{AExpr}
use Rattle.plan_expr.specs.declared.expr_ir.ExprIR.{ExprIR}
use Rattle.plan_expr.specs.Exprs.{all_named_at, Named}
use Rattle.plan_expr.specs.Operands.{IsExpr, expr_shape}
use Rattle.plan_ir.specs.declared.ir.IR.{IR}
use Rattle.plan_ir.specs.declared.ir.IR.TheVariants.{Join}
use Rattle.plan_ir.specs.Parts.{condition_of, inputs_of, is_invalid, list_of, plan_shape, IsPlan, roots_in, roots_of}
use Rattle.plan_ir.specs.Plans.{Op, bare, op_at, plans_at, plans_of}
use Rattle.plan_ir.proofs.PlanLemmas.{plan_open}
use Rattle.plan_join.specs.declared.options.JoinOptions.{JoinOptions}
use Rattle.plan_join.specs.Naming.{LieIn, join_columns}
use Rattle.plan_join.specs.Told.{Told, column_keys, told_at}
use Rattle.plan_meaning.specs.JoinChecks.{join_checks}
use Rattle.plan_meaning.specs.PlanAt.{one_plan, plan_at}
use Rattle.plan_meaning.specs.Steps.{IsValid}
use Rattle.plan_meaning.specs.Typing.{AllHold, checks, schema, schemas, with_two}
use Rattle.plan_meaning.proofs.CheckParts.{same_is}
use Rattle.plan_meaning.proofs.JoinLemmas.{differ_distinct, join_good}
use Rattle.plan_meaning.proofs.SideLemmas.{plans_at-append}
use Rattle.plan_meaning.proofs.Validity.{one_stands}
use Rattle.plan_builder.specs.Builds.{IsBuilt, MayFollow, columns_at}
use Rattle.plan_builder.proofs.Follow.{next_stands}

-- the keys of a join that may follow

abbrev pub AllStand : List AExpr → List ExprIR → Type 0
AllStand ex es = All (λ (e : ExprIR). IsExpr ex e.node) es

-- expressions that stand are entries
within : (ex : List AExpr) (keys : List ExprIR) → AllStand ex keys → LieIn ex keys
within ex keys h k d lt = entry (get_or keys k d).node (h k d lt)
  where
    entry : (n : Node) → IsExpr ex n → n.0 < length ex
    entry n (no_roses, s) = absurd s.stands
    entry n (more (rose m p kids) rest, s) = slice_get_within ex n.0 p s.stands.1

module _ (lp : List IR) (ex : List AExpr) (left right : Node) (stored : Columns) (lo ro : List ExprIR) (o : JoinOptions) (follows : MayFollow lp ex (Join left right stored lo ro o)) where
  keys_stand : AllStand ex (lo ++ ro)
  keys_stand =
      let all = next_stands lp ex (Join left right stored lo ro o) ((lo ++ ro) ++ list_of (condition_of o)) follows refl in
      subst (AllStand ex) (take-append_seam (lo ++ ro) (list_of (condition_of o))) (All-take (λ (e : ExprIR). IsExpr ex e.node) (length (lo ++ ro)) ((lo ++ ro) ++ list_of (condition_of o)) all)

  pub left_within : LieIn ex lo
  left_within = within ex lo (subst (AllStand ex) (take-append_seam lo ro) (All-take (λ (e : ExprIR). IsExpr ex e.node) (length lo) (lo ++ ro) keys_stand))

  pub right_within : LieIn ex ro
  right_within = within ex ro (subst (AllStand ex) (drop-append_seam lo ro) (All-drop (λ (e : ExprIR). IsExpr ex e.node) (length lo) (lo ++ ro) keys_stand))

-- the columns that it stores

checked_once : (ls rs : List Named) (stored : Columns) (told : Told) (ss : List Columns) → AllHold (with_two ss (join_checks ls rs stored told)) → HasDistinctNames stored
checked_once ls rs stored told [] h = (let none = h.0 in cc)
checked_once ls rs stored told (s ∷ []) h = (let none = h.0 in cc)
checked_once ls rs stored told (s ∷ t ∷ []) h =
    let g = join_good ls rs stored told s t h in
    let wide : Columns = join_columns told.args (column_keys ls) (column_keys rs) s t in
    subst HasDistinctNames (sym (same_is stored wide g.same)) (differ_distinct (names_of wide) g.differ)
checked_once ls rs stored told (s ∷ t ∷ u ∷ ss) h = (let none = h.0 in cc)

-- no name comes twice among them
pub stored_once : (lp : List IR) (ex : List AExpr) (left right : Node) (stored : Columns) (lo ro : List ExprIR) (o : JoinOptions) → MayFollow lp ex (Join left right stored lo ro o) → HasDistinctNames stored
stored_once lp ex left right stored lo ro o follows =
    let p : IR = Join left right stored lo ro o in
    let n : Node = record { 0 = length lp } in
    let b = follows n refl in
    let whole : plan_at (lp ++ p ∷ []) ex n ≡ rose tt (op_at ex p) (bare (plans_at (lp ++ p ∷ []) ex (left ∷ right ∷ []))) =
    ap (λ (x : Roses Node Op). one_plan (bare x)) (plan_open (lp ++ p ∷ []) ex n p b.plan (slice_get-append_last plan_shape lp p)) in
    let v : IsValid (rose tt (op_at ex p) (bare (plans_at (lp ++ p ∷ []) ex (left ∷ right ∷ [])))) = subst IsValid whole b.valid in
    checked_once (all_named_at ex lo) (all_named_at ex ro) stored (told_at ex o) (schemas (bare (plans_at (lp ++ p ∷ []) ex (left ∷ right ∷ [])))) v.0

-- a node over two valid plans

roots-join : (f g : Trees IR) → roots_in (join f g) ≡ roots_in f ++ roots_in g
roots-join no_roses g = refl
roots-join (more (rose n p kids) rest) g =
    ap (λ (l : List Node). roots_of p ++ (roots_in kids ++ l)) (roots-join rest g)
    ∙ ap (λ (l : List Node). roots_of p ++ l) (sym (append_assoc (roots_in kids) (roots_in rest) (roots_in g)))
    ∙ sym (append_assoc (roots_of p) (roots_in kids ++ roots_in rest) (roots_in g))

-- what is built stays so where entries are appended
pub built_stays : (lp later : List IR) (ex : List AExpr) (root : Node) → IsBuilt lp ex root → IsBuilt (lp ++ later) ex root
built_stays lp later ex root b =
    let t : Trees IR = b.plan.nodes in
    let s = b.plan.stands.nodes in
    let nodes : StandsOnce plan_shape (lp ++ later) (root ∷ []) t = record {
      stands = Stands-kept plan_shape lp (lp ++ later) (root ∷ []) t s.stands (λ k r. slice_get-append plan_shape lp later k (Reaches-within plan_shape lp (root ∷ []) t k s.stands r));
      once = s.once;
    } in
    let is : plan_at (lp ++ later) ex root ≡ plan_at lp ex root =
    ap (λ (x : Trees IR). one_plan (bare (plans_of ex x))) (trees_at-is plan_shape (lp ++ later) (root ∷ []) t nodes ∙ sym (trees_at-is plan_shape lp (root ∷ []) t s)) in
    record {
      plan = record { nodes = t; exprs = b.plan.exprs; stands = record { nodes = nodes; exprs = b.plan.stands.exprs } };
      valid = subst IsValid (sym is) b.valid;
    }

-- a node over two valid plans that share no node may follow them, where its expressions stand beside the plans' and its checks hold
module _ (lp : List IR) (ex : List AExpr) (left right : Node) (b : IsBuilt lp ex left) (c : IsBuilt lp ex right) (p : IR) (over : inputs_of p ≡ left ∷ right ∷ []) (fit : is_invalid p ≡ false) (apart : Apart b.plan.nodes c.plan.nodes) (e : Trees AExpr) (exprs : StandsOnce expr_shape ex (roots_of p ++ (roots_in b.plan.nodes ++ roots_in c.plan.nodes)) e) (good : AllHold (checks (op_at ex p) (columns_at lp ex left ∷ columns_at lp ex right ∷ []))) where
  abbrev t : Trees IR
  t = join b.plan.nodes c.plan.nodes

  both : StandsOnce plan_shape lp (left ∷ right ∷ []) t
  both = StandsOnce-join plan_shape lp (left ∷ []) (right ∷ []) b.plan.nodes c.plan.nodes b.plan.stands.nodes c.plan.stands.nodes apart

  -- the two plans, side by side
  plans_are : (x y : Node) (op op' : Op) (kids kids' : Roses Node Op) → plans_at lp ex (left ∷ []) ≡ more (rose x op kids) no_roses → plans_at lp ex (right ∷ []) ≡ more (rose y op' kids') no_roses → plans_of ex t ≡ more (rose x op kids) (more (rose y op' kids') no_roses)
  plans_are x y op op' kids kids' f g =
      ap (plans_of ex) (sym (trees_at-is plan_shape lp (left ∷ right ∷ []) t both))
      ∙ plans_at-append lp ex (left ∷ []) (right ∷ [])
      ∙ ap₂ (λ (u v : Roses Node Op). join u v) f g

  below_valid : IsValid (rose tt (op_at ex p) (bare (plans_of ex t)))
  below_valid =
      let u = one_stands lp ex left b.plan in
      let w = one_stands lp ex right c.plan in
      let at : plan_at lp ex left ≡ rose tt u.1 (bare u.2) = ap (λ (x : Roses Node Op). one_plan (bare x)) u.3 in
      let beside : plan_at lp ex right ≡ rose tt w.1 (bare w.2) = ap (λ (x : Roses Node Op). one_plan (bare x)) w.3 in
      let v : IsValid (rose tt u.1 (bare u.2)) = subst IsValid at b.valid in
      let z : IsValid (rose tt w.1 (bare w.2)) = subst IsValid beside c.valid in
      let holds : AllHold (checks (op_at ex p) (schema (rose tt u.1 (bare u.2)) ∷ schema (rose tt w.1 (bare w.2)) ∷ [])) =
      subst (λ (ss : List Columns). AllHold (checks (op_at ex p) ss)) (ap₂ (λ (x y : Columns). x ∷ y ∷ []) (ap schema at) (ap schema beside)) good in
      subst (λ (x : Roses Node Op). IsValid (rose tt (op_at ex p) (bare x))) (sym (plans_are u.0 w.0 u.1 w.1 u.2 w.2 u.3 w.3)) (holds, (v.0, v.1, (z.0, z.1, tt)))

  module _ (n : Node) (last : n.0 ≡ length lp) where
    here : slice_get (lp ++ p ∷ []) n.0 ≡ Some p
    here = ap (slice_get (lp ++ p ∷ [])) last ∙ slice_get-append_last plan_shape lp p

    new : Reaches t n.0 → ⊥
    new r = let w = Reaches-within plan_shape lp (left ∷ right ∷ []) t n.0 both.stands r in omega (arith, w, last)

    below : Stands plan_shape (lp ++ p ∷ []) (left ∷ right ∷ []) t
    below = Stands-kept plan_shape lp (lp ++ p ∷ []) (left ∷ right ∷ []) t both.stands (λ k r. slice_get-append plan_shape lp (p ∷ []) k (Reaches-within plan_shape lp (left ∷ right ∷ []) t k both.stands r))

    nodes : StandsOnce plan_shape (lp ++ p ∷ []) (n ∷ []) (more (rose n p t) no_roses)
    nodes = record {
      stands = (refl, here, fit, subst (λ (ns : List Node). Stands plan_shape (lp ++ p ∷ []) ns t) (sym over) below, tt);
      once = (new, (λ r. r), (λ k x y. y), both.once, tt);
    }

    roots : roots_of p ++ (roots_in b.plan.nodes ++ roots_in c.plan.nodes) ≡ roots_of p ++ (roots_in t ++ [])
    roots = ap (λ (l : List Node). roots_of p ++ l) (sym (append-nil (roots_in t) ∙ roots-join b.plan.nodes c.plan.nodes))

    plan : IsPlan (lp ++ p ∷ []) ex n
    plan = record {
      nodes = more (rose n p t) no_roses;
      exprs = e;
      stands = record {
        nodes = nodes;
        exprs = subst (λ (l : List Node). StandsOnce expr_shape ex l e) roots exprs;
      };
    }

    is : plan_at (lp ++ p ∷ []) ex n ≡ rose tt (op_at ex p) (bare (plans_of ex t))
    is = ap (λ (x : Trees IR). one_plan (bare (plans_of ex x))) (trees_at-is plan_shape (lp ++ p ∷ []) (n ∷ []) (more (rose n p t) no_roses) nodes)

  pub over_two_follow : MayFollow lp ex p
  over_two_follow n last = record { plan = plan n last; valid = subst IsValid (sym (is n last)) below_valid }
