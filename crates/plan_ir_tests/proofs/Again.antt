-- A node that stands in a valid plan may follow it once more, as what the builder puts on its inputs.
use Rattle.std.proofs.Common.{◌≡◌, ◌∙◌, ◌++◌, ◌<◌, ◌≤◌, ℕ, All, List, [], ◌∷◌, arith, get_or, length, Some, refl, sym, ap, ap₂, subst}
use Rattle.std.specs.List.{slice_get}
use Rattle.std.proofs.Math.Seq.{take-append_seam, drop-append_seam}
use Rattle.std.proofs.lemmas.List.Elements.{All-take, All-drop}
use Rattle.std.proofs.lemmas.Option.{slice_get_within}
use Rattle.std.specs.Prelude.{Bool}
use Rattle.plan_core.specs.declared.arena.Node.{Node}
use Rattle.plan_core.specs.declared.options.ProjectionOptions.{ProjectionOptions}
use Rattle.plan_core.specs.Columns.{Columns}
use Rattle.plan_tree.specs.Rose.{Roses, rose, no_roses, more, join}
use Rattle.plan_tree.specs.Stands.{Trees, Reaches, Stands, StandsOnce}
use Rattle.plan_tree.proofs.Frames.{Stands-kept, slice_get-append, slice_get-append_last}
use Rattle.plan_tree.proofs.Numbers.{Reaches-within}
use Rattle.plan_tree.proofs.ReadLemmas.{trees_at-is}
use Rattle.plan_tree.proofs.TreeLemmas.{Opened, opened}
use Rattle.plan_options.specs.declared.group.GroupbyOptions.{GroupbyOptions}
use Rattle.plan_expr.specs.declared.aexpr.AExpr.{AExpr}
use Rattle.plan_expr.specs.declared.expr_ir.ExprIR.{ExprIR}
use Rattle.plan_expr.specs.Exprs.{all_named_at}
use Rattle.plan_expr.specs.Operands.{IsExpr, expr_shape}
use Rattle.plan_ir.specs.declared.ir.IR.{IR}
use Rattle.plan_ir.specs.declared.ir.IR.TheVariants.{GroupBy, HStack, Join, Select}
use Rattle.plan_ir.specs.Parts.{condition_of, inputs_of, IsPlan, list_of, plan_shape, roots_in, roots_of}
use Rattle.plan_ir.specs.Plans.{Op, bare, op_at, plans_at, plans_of}
use Rattle.plan_ir.proofs.PlanLemmas.{plan_down, plan_open}
use Rattle.plan_join.specs.declared.options.JoinOptions.{JoinOptions}
use Rattle.plan_join.specs.Naming.{join_columns, key_columns}
use Rattle.plan_join.specs.Told.{column_keys, told_at}
use Rattle.plan_frame.specs.Grouping.{group_exprs}
use Rattle.plan_frame.specs.Made.{made_schema}
use Rattle.plan_meaning.specs.PlanAt.{one_plan, plan_at}
use Rattle.plan_meaning.specs.Steps.{IsValid}
use Rattle.plan_meaning.specs.Typing.{AllHold, AllValid, checks, schema, schemas}
use Rattle.plan_meaning.proofs.CheckParts.{made_good, same_is}
use Rattle.plan_meaning.proofs.JoinLemmas.{join_good}
use Rattle.plan_meaning.proofs.NodeExprs.{all_stand}
use Rattle.plan_meaning.proofs.SideLemmas.{plans_at-append}
use Rattle.plan_meaning.proofs.Validity.{one_stands}
use Rattle.plan_check_parts.proofs.JoinLemmas.{columns_at as keys_at}
use Rattle.plan_builder.specs.Builds.{addition, columns_at, grouping, IsBuilt, joining, MayFollow, selection}

-- a list with one item
pub one_item : {A : Type 0} (xs : List A) (x : A) → 1 ≤ length xs → length xs < 2 → x ≡ get_or xs 0 x → xs ≡ x ∷ []
one_item [] x a b e = absurd (omega (arith, a))
one_item (y ∷ []) x a b e = ap (λ z. z ∷ []) (sym e)
one_item (y ∷ z ∷ ys) x a b e = absurd (omega (arith, b))

-- the root of a plan is an entry
pub inside : (lp : List IR) (ex : List AExpr) (n : Node) → IsPlan lp ex n → n.0 < length lp
inside lp ex n h = entry h.nodes h.stands.nodes.stands
  where
    entry : (t : Trees IR) → Stands plan_shape lp (n ∷ []) t → n.0 < length lp
    entry no_roses s = absurd s
    entry (more (rose m p kids) rest) s = slice_get_within lp n.0 p s.1

-- a plan alone among plans side by side
alone_valid : (lp : List IR) (ex : List AExpr) (i : Node) → IsPlan lp ex i → AllValid (bare (plans_at lp ex (i ∷ []))) → IsValid (plan_at lp ex i)
alone_valid lp ex i h v =
    let o = one_stands lp ex i h in
    let w : AllValid (more (rose tt o.1 (bare o.2)) no_roses) = subst (λ (x : Roses Node Op). AllValid (bare x)) o.3 v in
    let is : plan_at lp ex i ≡ rose tt o.1 (bare o.2) = ap (λ (x : Roses Node Op). one_plan (bare x)) o.3 in
    subst IsValid (sym is) (w.0, w.1)

alone_schema : (lp : List IR) (ex : List AExpr) (i : Node) → IsPlan lp ex i → schemas (bare (plans_at lp ex (i ∷ []))) ≡ columns_at lp ex i ∷ []
alone_schema lp ex i h =
    let o = one_stands lp ex i h in
    ap (λ (x : Roses Node Op). schemas (bare x)) o.3 ∙ sym (ap (λ (x : Roses Node Op). schema (one_plan (bare x)) ∷ []) o.3)

-- a node over one input: that is a valid plan, and the checks hold over its columns
pub record OverOne (lp : List IR) (ex : List AExpr) (p : IR) (i : Node) : Type 0 where
  pub plan : IsPlan lp ex i
  pub valid : IsValid (plan_at lp ex i)
  pub holds : AllHold (checks (op_at ex p) (columns_at lp ex i ∷ []))

-- a node over two inputs
pub record OverTwo (lp : List IR) (ex : List AExpr) (p : IR) (i j : Node) : Type 0 where
  pub left : IsBuilt lp ex i
  pub right : IsBuilt lp ex j
  pub holds : AllHold (checks (op_at ex p) (columns_at lp ex i ∷ columns_at lp ex j ∷ []))

module _ (lp : List IR) (ex : List AExpr) (n : Node) (p : IR) (plan : IsPlan lp ex n) (valid : IsValid (plan_at lp ex n)) (entry : slice_get lp n.0 ≡ Some p) where
  o : Opened plan_shape lp n p plan.nodes
  o = opened plan_shape lp n p plan.nodes plan.stands.nodes entry

  module _ (m : Node) (last : m.0 ≡ length lp) where
    stay : Stands plan_shape (lp ++ p ∷ []) (inputs_of p) o.kids
    stay = Stands-kept plan_shape lp (lp ++ p ∷ []) (inputs_of p) o.kids o.inputs.stands (λ k r. slice_get-append plan_shape lp (p ∷ []) k (Reaches-within plan_shape lp (inputs_of p) o.kids k o.inputs.stands r))

    new : Reaches o.kids m.0 → ⊥
    new r = let w = Reaches-within plan_shape lp (inputs_of p) o.kids m.0 o.inputs.stands r in omega (arith, w, last)

    nodes : StandsOnce plan_shape (lp ++ p ∷ []) (m ∷ []) (more (rose m p o.kids) no_roses)
    nodes = record {
      stands = (refl, ap (slice_get (lp ++ p ∷ [])) last ∙ slice_get-append_last plan_shape lp p, o.valid, stay, tt);
      once = (new, (λ r. r), (λ k x y. y), o.inputs.once, tt);
    }

    again_plan : IsPlan (lp ++ p ∷ []) ex m
    again_plan = record {
      nodes = more (rose m p o.kids) no_roses;
      exprs = plan.exprs;
      stands = record {
        nodes = nodes;
        exprs = subst (λ (t : Trees IR). StandsOnce expr_shape ex (roots_in t) plan.exprs) o.is plan.stands.exprs;
      };
    }

    same : plan_at (lp ++ p ∷ []) ex m ≡ plan_at lp ex n
    same =
        ap (λ (t : Trees IR). one_plan (bare (plans_of ex t))) (trees_at-is plan_shape (lp ++ p ∷ []) (m ∷ []) (more (rose m p o.kids) no_roses) nodes)
        ∙ sym (ap (λ (t : Trees IR). one_plan (bare (plans_of ex t))) (trees_at-is plan_shape lp (n ∷ []) plan.nodes plan.stands.nodes ∙ o.is))

  -- the node may follow once more
  pub again : MayFollow lp ex p
  again m last = record { plan = again_plan m last; valid = subst IsValid (sym (same m last)) valid }

  whole : IsValid (rose tt (op_at ex p) (bare (plans_at lp ex (inputs_of p))))
  whole = subst IsValid (ap (λ (x : Roses Node Op). one_plan (bare x)) (plan_open lp ex n p plan entry)) valid

  pub over_one : (i : Node) → inputs_of p ≡ i ∷ [] → OverOne lp ex p i
  over_one i over =
      let below : IsPlan lp ex i = (plan_down lp ex n p plan entry 0 i (ap (λ (l : List Node). slice_get l 0) over)).1 in
      let v : AllValid (bare (plans_at lp ex (i ∷ []))) = subst (λ (ns : List Node). AllValid (bare (plans_at lp ex ns))) over whole.1 in
      let h : AllHold (checks (op_at ex p) (schemas (bare (plans_at lp ex (i ∷ []))))) = subst (λ (ns : List Node). AllHold (checks (op_at ex p) (schemas (bare (plans_at lp ex ns))))) over whole.0 in
      record {
        plan = below;
        valid = alone_valid lp ex i below v;
        holds = subst (λ (ss : List Columns). AllHold (checks (op_at ex p) ss)) (alone_schema lp ex i below) h;
      }

  pub over_two : (i j : Node) → inputs_of p ≡ i ∷ j ∷ [] → OverTwo lp ex p i j
  over_two i j over =
      let left : IsPlan lp ex i = (plan_down lp ex n p plan entry 0 i (ap (λ (l : List Node). slice_get l 0) over)).1 in
      let right : IsPlan lp ex j = (plan_down lp ex n p plan entry 1 j (ap (λ (l : List Node). slice_get l 1) over)).1 in
      let u = one_stands lp ex i left in
      let w = one_stands lp ex j right in
      let sides : plans_at lp ex (inputs_of p) ≡ more (rose u.0 u.1 u.2) (more (rose w.0 w.1 w.2) no_roses) =
      ap (plans_at lp ex) over ∙ plans_at-append lp ex (i ∷ []) (j ∷ []) ∙ ap₂ (λ (x y : Roses Node Op). join x y) u.3 w.3 in
      let v : AllValid (more (rose tt u.1 (bare u.2)) (more (rose tt w.1 (bare w.2)) no_roses)) = subst (λ (x : Roses Node Op). AllValid (bare x)) sides whole.1 in
      let rest : AllValid (more (rose tt w.1 (bare w.2)) no_roses) = v.2 in
      let at : plan_at lp ex i ≡ rose tt u.1 (bare u.2) = ap (λ (x : Roses Node Op). one_plan (bare x)) u.3 in
      let beside : plan_at lp ex j ≡ rose tt w.1 (bare w.2) = ap (λ (x : Roses Node Op). one_plan (bare x)) w.3 in
      let h : AllHold (checks (op_at ex p) (schema (rose tt u.1 (bare u.2)) ∷ schema (rose tt w.1 (bare w.2)) ∷ [])) = subst (λ (x : Roses Node Op). AllHold (checks (op_at ex p) (schemas (bare x)))) sides whole.0 in
      record {
        left = record { plan = left; valid = subst IsValid (sym at) (v.0, v.1) };
        right = record { plan = right; valid = subst IsValid (sym beside) (rest.0, rest.1) };
        holds = subst (λ (ss : List Columns). AllHold (checks (op_at ex p) ss)) (sym (ap₂ (λ (x y : Columns). x ∷ y ∷ []) (ap schema at) (ap schema beside))) h;
      }

-- the selection at a number
pub selects : (lp : List IR) (ex : List AExpr) (n i : Node) (es : List ExprIR) (cs : Columns) (o : ProjectionOptions) → IsPlan lp ex n → IsValid (plan_at lp ex n) → slice_get lp n.0 ≡ Some (Select i es cs o) → MayFollow lp ex (selection lp ex i es o)
selects lp ex n i es cs o plan valid entry =
    let p : IR = Select i es cs o in
    let one = over_one lp ex n p plan valid entry i refl in
    let good = made_good [] (all_named_at ex es) cs (columns_at lp ex i) one.holds.1 in
    subst (λ (x : Columns). MayFollow lp ex (Select i es x o)) (same_is cs (made_schema [] (all_named_at ex es) (columns_at lp ex i)) good.same) (again lp ex n p plan valid entry)

-- the addition at a number
pub adds : (lp : List IR) (ex : List AExpr) (n i : Node) (es : List ExprIR) (cs : Columns) (o : ProjectionOptions) → IsPlan lp ex n → IsValid (plan_at lp ex n) → slice_get lp n.0 ≡ Some (HStack i es cs o) → MayFollow lp ex (addition lp ex i es o)
adds lp ex n i es cs o plan valid entry =
    let p : IR = HStack i es cs o in
    let one = over_one lp ex n p plan valid entry i refl in
    let good = made_good (columns_at lp ex i) (all_named_at ex es) cs (columns_at lp ex i) one.holds in
    subst (λ (x : Columns). MayFollow lp ex (HStack i es x o)) (same_is cs (made_schema (columns_at lp ex i) (all_named_at ex es) (columns_at lp ex i)) good.same) (again lp ex n p plan valid entry)

-- the grouping at a number
pub groups : (lp : List IR) (ex : List AExpr) (n i : Node) (keys aggs : List ExprIR) (cs : Columns) (ordered : Bool) (o : GroupbyOptions) → IsPlan lp ex n → IsValid (plan_at lp ex n) → slice_get lp n.0 ≡ Some (GroupBy i keys aggs cs ordered o) → MayFollow lp ex (grouping lp ex i keys aggs ordered o)
groups lp ex n i keys aggs cs ordered o plan valid entry =
    let p : IR = GroupBy i keys aggs cs ordered o in
    let one = over_one lp ex n p plan valid entry i refl in
    let es = group_exprs (all_named_at ex keys) (all_named_at ex aggs) in
    let good = made_good [] es cs (columns_at lp ex i) one.holds.1 in
    subst (λ (x : Columns). MayFollow lp ex (GroupBy i keys aggs x ordered o)) (same_is cs (made_schema [] es (columns_at lp ex i)) good.same) (again lp ex n p plan valid entry)

-- the join at a number
pub joins : (lp : List IR) (ex : List AExpr) (n i j : Node) (cs : Columns) (lo ro : List ExprIR) (o : JoinOptions) → IsPlan lp ex n → IsValid (plan_at lp ex n) → slice_get lp n.0 ≡ Some (Join i j cs lo ro o) → MayFollow lp ex (joining lp ex i j lo ro o)
joins lp ex n i j cs lo ro o plan valid entry =
    let p : IR = Join i j cs lo ro o in
    let two = over_two lp ex n p plan valid entry i j refl in
    let s : Columns = columns_at lp ex i in
    let t : Columns = columns_at lp ex j in
    let ls = all_named_at ex lo in
    let rs = all_named_at ex ro in
    let good = join_good ls rs cs (told_at ex o) s t two.holds in
    let wide : Columns = join_columns o.args (column_keys ls) (column_keys rs) s t in
    let stored : cs ≡ wide = same_is cs wide good.same in
    let all = all_stand lp ex n p ((lo ++ ro) ++ list_of (condition_of o)) plan entry refl in
    let both : All (λ (e : ExprIR). IsExpr ex e.node) (lo ++ ro) = subst (All (λ (e : ExprIR). IsExpr ex e.node)) (take-append_seam (lo ++ ro) (list_of (condition_of o))) (All-take (λ (e : ExprIR). IsExpr ex e.node) (length (lo ++ ro)) ((lo ++ ro) ++ list_of (condition_of o)) all) in
    let left = subst (All (λ (e : ExprIR). IsExpr ex e.node)) (take-append_seam lo ro) (All-take (λ (e : ExprIR). IsExpr ex e.node) (length lo) (lo ++ ro) both) in
    let right = subst (All (λ (e : ExprIR). IsExpr ex e.node)) (drop-append_seam lo ro) (All-drop (λ (e : ExprIR). IsExpr ex e.node) (length lo) (lo ++ ro) both) in
    let is : cs ≡ join_columns o.args (key_columns ex lo) (key_columns ex ro) s t = stored ∙ ap₂ (λ (x y : List (List ℕ)). join_columns o.args x y s t) (keys_at ex lo left) (keys_at ex ro right) in
    subst (λ (x : Columns). MayFollow lp ex (Join i j x lo ro o)) is (again lp ex n p plan valid entry)
