-- A node that was taken is pruned by its step.
use Rattle.std.proofs.Common.{◌≡◌, ◌<◌, Bool, true, false, not, List, [], ◌∷◌, ◌++◌, ◌||◌, length, max, ◌+◌, Option, Some, None, unwrap_or, refl, sym, ap, ◌∙◌, arith, subst}
use Rattle.std.specs.List.{slice_get, slice_set}
use Rattle.plan_core.specs.declared.arena.Node.{Node}
use Rattle.plan_tree.specs.Rose.{levels, no_roses}
use Rattle.plan_tree.specs.Stands.{Trees, StandsOnce}
use Rattle.plan_tree.proofs.Frames.{StandsOnce-set}
use Rattle.plan_tree.proofs.TreeLemmas.{height, height_at, height-is, opened, tallest}
use Rattle.plan_expr.specs.declared.aexpr.AExpr.{AExpr}
use Rattle.plan_ir.specs.declared.ir.IR.{IR}
use Rattle.plan_ir.specs.declared.ir.IR.TheVariants.{Slice, Filter, Scan, DataFrameScan, SimpleProjection, Select, HStack, Sort, GroupBy, Join, Distinct, MapFunction, Sink, Union, HConcat, Cache, Invalid}
use Rattle.plan_ir.specs.Parts.{plan_shape, inputs_of, roots_in, roots_of, IsPlan}
use Rattle.plan_prune_parts.specs.declared.kept.Kept.{Kept}
use Rattle.plan_prune_joins.specs.Joined.{IsKept}
use Rattle.plan_prune_steps.specs.Steps.{IsPutBack, step_of, put_back}
use Rattle.plan_prune.proofs.JoinPruned.{join_pruned}
use Rattle.plan_expr.specs.Exprs.{Named, all_named_at}
use Rattle.plan_ir.specs.Plans.{bare, op_at, plans_at}
use Rattle.plan_expr.specs.Leaves.{Name}
use Rattle.plan_core.specs.Columns.{Columns, names_of}
use Rattle.plan_frame.specs.Frames.{names_or}
use Rattle.plan_meaning.specs.Counting.{is_count}
use Rattle.plan_meaning.specs.Asked.{grouping_names, kept_exprs, needed_names, selected_exprs, set_of}
use Rattle.plan_pruned.specs.Pruned.{asked_columns, asked_with, kept, mapped_names, pruned_output, top_below}
use Rattle.plan_prune_parts.specs.declared.step.Step.TheVariants.{Leaf, Over, Each}
use Rattle.plan_prune_parts.specs.Kept.{is_some_name, names_at, selected_at, stacked_at, stored_after}
use Rattle.plan_pruned.specs.Renamed.{IsLonger}
use Rattle.plan_prune_parts.specs.Places.{StandExprs}
use Rattle.plan_prune.specs.Prunes.{AreInputs, InputsPruned, MarksAt, Prunes, PrunesAt, PrunesEach, PrunesUnder}
use Rattle.plan_prune_parts.specs.Tops.{covered_at, with_columns_on}
use Rattle.plan_prune.specs.Taken.{top_columns}
use Rattle.plan_prune_parts.specs.Said.{columns_at, stand_in_at}
use Rattle.plan_prune.proofs.PruneLemmas.{finish, one_list, stays, stands_taken, stands_after}
use Rattle.plan_prune.proofs.ScanPruned.{plain_top, scan_pruned}
use Rattle.plan_prune_parts.proofs.LongerLemmas.{below_exprs, exprs_longer, own_exprs, plan_trees}
use Rattle.plan_prune_parts.proofs.PlaceLemmas.{place_same}
use Rattle.plan_prune_parts.proofs.KeptLemmas.{selected_named, selected_place, select_built, hstack_asks}
use Rattle.plan_prune.proofs.HStackPruned.{hstack_pruned, found as there}
use Rattle.plan_prune.proofs.GroupPruned.{grouped_asks, grouped_built, grouped_place}
use Rattle.plan_prune.proofs.ConcatPruned.{concat_pruned}
use Rattle.plan_prune.proofs.EachLemmas.{each_marks, one_covered, one_plain, tall, union_pruned}
use Rattle.plan_prune.proofs.TakenSteps.{each_parts, is_each, is_over, over_parts, leaf_parts, IsEach}

-- what stands at the input of the node that goes back, once the input is pruned
pub over_stands : (low : Bool) (asked names : List Name) (a b c : List IR) (ex grown : List AExpr) (n i : Node) (p q d : IR) (t : Trees IR) → StandsOnce plan_shape a (n ∷ []) t → slice_get a n.0 ≡ Some p → b ≡ slice_set a n.0 d → Over i names q ≡ step_of b ex asked p → PrunesAt low names b c ex grown i → (u : Trees IR) × StandsOnce plan_shape c (inputs_of q) u
over_stands low asked names a b c ex grown n i p q d t h e taken is below =
    let o = is_over b ex asked names p q i is in
    let s = stands_after low names b c ex grown i (stands_taken a b n i p d t h e taken o.one) below in
    (s.0, subst (λ (ns : List Node). StandsOnce plan_shape c ns s.0) (sym o.same) s.1)

-- a node without inputs is pruned by its step
module _ (top : Bool) (asked : List Name) (a b z : List IR) (ex : List AExpr) (n : Node) (columns : Option Columns) (q d : IR) (t : Trees IR) (h : StandsOnce plan_shape a (n ∷ []) t) (taken : b ≡ slice_set a n.0 d) (back : z ≡ with_columns_on (top_columns top columns) b n q) where
  put_leaf : (o : Option Columns) (r : IR) → Leaf columns q ≡ Leaf o r → z ≡ with_columns_on (top_columns top o) b n r
  put_leaf o r e =
      let x = leaf_parts columns o q r e in
      back ∙ ap (λ (u : Option Columns). with_columns_on (top_columns top u) b n q) x.0 ∙ ap (with_columns_on (top_columns top o) b n) x.1

  pub leaf_pruned : (p : IR) → slice_get a n.0 ≡ Some p → Leaf columns q ≡ step_of b ex asked p → Prunes top asked a z ex ex n t
  leaf_pruned (Scan sources info hive predicate output kind options) e is = rw (put_leaf _ _ is) (scan_pruned a b ex n d t h sources info hive predicate output kind options e taken top asked)
  leaf_pruned (DataFrameScan df schema output) e is =
      rw (put_leaf _ _ is ∙ plain_top top b n (DataFrameScan df schema (pruned_output asked schema output)))
      (stays a b ex n (DataFrameScan df schema output) d t h refl e taken top asked (DataFrameScan df schema (pruned_output asked schema output)) refl refl refl refl refl)
  leaf_pruned (Slice j offset len) e is = cc
  leaf_pruned (Filter j predicate) e is = cc
  leaf_pruned (SimpleProjection j cs) e is = cc
  leaf_pruned (Select j es schema options) e is = cc
  leaf_pruned (HStack j es schema options) e is = cc
  leaf_pruned (Sort j keys part options) e is = cc
  leaf_pruned (GroupBy j keys aggs schema ordered options) e is = cc
  leaf_pruned (Join left right schema left_on right_on options) e is = cc
  leaf_pruned (Distinct j options) e is = cc
  leaf_pruned (MapFunction j function) e is = cc
  leaf_pruned (Sink j payload) e is = cc
  leaf_pruned (Union inputs options) e is = cc
  leaf_pruned (HConcat inputs schema options) e is = cc
  leaf_pruned (Cache j id cache_hits) e is = cc
  leaf_pruned Invalid e is = let o = opened plan_shape a n Invalid t h e in let v : true ≡ false = o.valid in cc

-- a node over an input is pruned by its step, once the input is pruned
module _ (top low : Bool) (asked names : List Name) (a b c z : List IR) (ex grown : List AExpr) (longer : IsLonger ex grown) (n i : Node) (q d : IR) (t : Trees IR) (h : StandsOnce plan_shape a (n ∷ []) t) (s : StandExprs ex (roots_in t)) (taken : b ≡ slice_set a n.0 d) (below : PrunesAt low names b c ex grown i) (back : z ≡ put_back (is_some_name asked) c grown n q) where
  put_over : (j : Node) (others : List Name) (r : IR) → Over i names q ≡ Over j others r → z ≡ put_back (is_some_name asked) c grown n r
  put_over j others r e = let x = over_parts i j names others q r e in back ∙ ap (put_back (is_some_name asked) c grown n) x.2

  named : (j : Node) (others : List Name) (r : IR) → Over i names q ≡ Over j others r → names ≡ others
  named j others r e = let x = over_parts i j names others q r e in x.1

  one : (j : Node) (others : List Name) (r : IR) → Over i names q ≡ Over j others r → j ∷ [] ≡ i ∷ []
  one j others r e = let x = over_parts i j names others q r e in ap (λ (k : Node). k ∷ []) (sym x.0)

  pub over_pruned : (p : IR) → slice_get a n.0 ≡ Some p → low ≡ top_below top (op_at ex p) → Over i names q ≡ step_of b ex asked p → Prunes top asked a z ex grown n t
  over_pruned (Slice j offset len) e low_is is =
      rw (put_over _ _ _ is) (finish top low asked names a b c ex grown n i (Slice j offset len) (Slice j offset len) d t longer h s e taken (one _ _ _ is) refl refl (place_same ex _) refl low_is (one_list (named _ _ _ is)) refl below)
  over_pruned (Filter j predicate) e low_is is =
      rw (put_over _ _ _ is) (finish top low asked names a b c ex grown n i (Filter j predicate) (Filter j predicate) d t longer h s e taken (one _ _ _ is) refl refl (place_same ex _) refl low_is (one_list (named _ _ _ is)) refl below)
  over_pruned (SimpleProjection j columns) e low_is is =
      rw (put_over _ _ _ is) (finish top low asked names a b c ex grown n i (SimpleProjection j columns) (SimpleProjection j (kept asked columns)) d t longer h s e taken (one _ _ _ is) refl refl (place_same ex _) refl low_is (one_list (named _ _ _ is)) refl below)
  over_pruned (Select j es schema options) e low_is is =
      let ks = selected_at ex asked es in
      let cs = stored_after (is_some_name asked) [] (names_at ks) schema in
      rw (put_over _ _ _ is) (finish top low asked names a b c ex grown n i (Select j es schema options) (Select j ks cs options) d t longer h s e taken (one _ _ _ is) refl refl
      (selected_place ex asked es) refl low_is
      (one_list
      (named _ _ _ is
      ∙ ap (λ (l : List Named). needed_names (all_named_at ex es) (stand_in_at b ex j) l) (selected_named ex asked es)
      ∙ ap (λ (k : Node). needed_names (all_named_at ex es) (stand_in_at b ex k) (selected_exprs (set_of asked) (all_named_at ex es))) (sym (over_parts i j names _ q _ is).0)))
      (select_built ex asked es ks schema cs options (bare (plans_at c grown (i ∷ []))) refl refl)
      below)
  over_pruned (HStack j es schema options) e low_is is =
      let x = over_parts i j names _ q _ is in
      hstack_pruned top low asked names a b c ex grown longer n j es schema options d t h s e taken low_is
      (named _ _ _ is ∙ hstack_asks ex asked es (stacked_at asked es) (columns_at b ex j) refl)
      (subst (λ (k : Node). PrunesAt low names b c ex grown k) x.0 below)
      (is_some_name asked) (stacked_at asked es) z refl refl (put_over _ _ _ is)
  over_pruned (Sort j keys part options) e low_is is =
      rw (put_over _ _ _ is) (finish top low asked names a b c ex grown n i (Sort j keys part options) (Sort j keys part options) d t longer h s e taken (one _ _ _ is) refl refl (place_same ex _) refl low_is (one_list (named _ _ _ is)) refl below)
  over_pruned (GroupBy j keys aggs schema ordered options) e low_is is =
      let ks = stacked_at asked aggs in
      let cs = stored_after (is_some_name asked) [] (names_at (keys ++ ks)) schema in
      rw (put_over _ _ _ is) (finish top low asked names a b c ex grown n i (GroupBy j keys aggs schema ordered options) (GroupBy j keys ks cs ordered options) d t longer h s e taken (one _ _ _ is) refl refl
      (grouped_place ex asked keys aggs) refl low_is
      (one_list
      (named _ _ _ is
      ∙ grouped_asks ex asked keys aggs (columns_at b ex j)
      ∙ ap (λ (k : Node). grouping_names (all_named_at ex keys) (kept_exprs (set_of asked) (all_named_at ex aggs)) asked (columns_at b ex k)) (sym (over_parts i j names _ q _ is).0)))
      (grouped_built ex asked keys aggs ks schema cs ordered options (bare (plans_at c grown (i ∷ []))) refl refl)
      below)
  over_pruned (Distinct j options) e low_is is =
      rw (put_over _ _ _ is) (finish top low asked names a b c ex grown n i (Distinct j options) (Distinct j options) d t longer h s e taken (one _ _ _ is) refl refl (place_same ex _) refl low_is
      (one_list (named _ _ _ is ∙ ap (λ (k : Node). asked_with asked (names_or options.subset (names_of (columns_at b ex k)))) (sym (over_parts i j names _ q _ is).0))) refl below)
  over_pruned (MapFunction j function) e low_is is =
      rw (put_over _ _ _ is) (finish top low asked names a b c ex grown n i (MapFunction j function) (MapFunction j function) d t longer h s e taken (one _ _ _ is) refl refl (place_same ex _) refl low_is
      (one_list (named _ _ _ is ∙ ap (λ (k : Node). mapped_names asked function (columns_at b ex k)) (sym (over_parts i j names _ q _ is).0))) refl below)
  over_pruned (Sink j payload) e low_is is =
      rw (put_over _ _ _ is) (finish top low asked names a b c ex grown n i (Sink j payload) (Sink j payload) d t longer h s e taken (one _ _ _ is) refl refl (place_same ex _) refl low_is (one_list (named _ _ _ is)) refl below)
  over_pruned (Join left right schema left_on right_on options) e low_is is = cc
  over_pruned (Scan sources info hive predicate output kind options) e low_is is = cc
  over_pruned (Union inputs options) e low_is is = cc
  over_pruned (HConcat inputs schema options) e low_is is = cc
  over_pruned (Cache j id cache_hits) e low_is is = cc
  over_pruned (DataFrameScan df schema output) e low_is is = cc
  over_pruned Invalid e low_is is = cc

-- one input, pruned and then under a projection or not
pub one_more : (top : Bool) (covers : Option (List Name)) (asked : List Name) (b c z : List IR) (ex grown : List AExpr) (n : Node) → PrunesAt top asked b c ex grown n → ((names : List Name) → covers ≡ Some names → z ≡ covered_at (asked_columns names (columns_at c grown n)) c n) → (covers ≡ None → z ≡ c) → n.0 < length c → PrunesUnder top covers asked b z ex grown n
one_more top (Some names) asked b c z ex grown n x on off low t h = one_covered top asked names b c z ex grown n (unwrap_or (slice_get c n.0) Invalid) t (there c n.0 low) (on names refl) (x t h)
one_more top None asked b c z ex grown n x on off low t h = rw (off refl) (one_plain top asked b c ex grown n t (x t h))

-- a node over inputs is pruned by its step, once these are pruned
module _ (top low : Bool) (asked : List Name) (lists : List (List Name)) (covers : Option (List Name)) (kept : Option Kept) (a b c z : List IR) (ex mid grown : List AExpr) (longer : IsLonger ex mid) (further : IsLonger mid grown) (n : Node) (inputs : List Node) (q d : IR) (t : Trees IR) (h : StandsOnce plan_shape a (n ∷ []) t) (s : StandExprs ex (roots_in t)) (taken : b ≡ slice_set a n.0 d) (back : IsPutBack (is_some_name asked) kept c z mid grown n q) (below : (kids : Trees IR) → StandsOnce plan_shape b inputs kids → StandExprs ex (roots_in kids) → PrunesEach low covers lists b c ex mid inputs kids) where
  -- where nothing is kept of it, it goes back as it is, and no expressions are added
  put_plain : (r : IR) → kept ≡ None → q ≡ r → (z ≡ put_back (is_some_name asked) c mid n r) × (grown ≡ mid)
  put_plain r none e =
      let y : ((es : List AExpr) → z ≡ put_back (is_some_name asked) c es n q) × (grown ≡ mid) = subst (λ (o : Option Kept). IsPutBack (is_some_name asked) o c z mid grown n q) none back in
      (y.0 mid ∙ ap (put_back (is_some_name asked) c mid n) e, y.1)

  below_own : (own : List Node) → inputs ≡ own → (kids : Trees IR) → StandsOnce plan_shape b own kids → StandExprs ex (roots_in kids) → PrunesEach low covers lists b c ex mid own kids
  below_own own is = subst (λ (ns : List Node). (kids : Trees IR) → StandsOnce plan_shape b ns kids → StandExprs ex (roots_in kids) → PrunesEach low covers lists b c ex mid ns kids) is below

  pub each_pruned : (p : IR) → slice_get a n.0 ≡ Some p → low ≡ top_below top (op_at ex p) → IsKept b ex asked p kept → Each inputs lists covers None q ≡ step_of b ex asked p → Prunes top asked a z ex grown n t
  each_pruned (Union own options) e low_is keeps is =
      let x = each_parts inputs _ lists _ covers _ q _ is in
      let y = put_plain _ keeps x.3 in
      subst (λ (es : List AExpr). Prunes top asked a z ex es n t) (sym y.1) (union_pruned top low asked covers lists a b c z ex mid longer n own options d taken y.0 low_is x.1 x.2 (below_own own x.0) t h s e)
  each_pruned (HConcat own schema options) e low_is keeps is =
      let x = each_parts inputs _ lists _ covers _ q _ is in
      let y = put_plain _ keeps x.3 in
      subst (λ (es : List AExpr). Prunes top asked a z ex es n t) (sym y.1) (concat_pruned top low asked covers lists a b c z ex mid longer n own schema options d taken y.0 low_is x.1 x.2 (below_own own x.0) t h s e)
  each_pruned (Join left right schema left_on right_on options) e low_is keeps is =
      let x = each_parts inputs _ lists _ covers _ q _ is in
      join_pruned top low covers a b c z ex mid grown longer further n left right schema left_on right_on options d taken low_is x.2 asked lists kept x.1 (below_own (left ∷ right ∷ []) x.0) keeps (subst (λ (r : IR). IsPutBack (is_some_name asked) kept c z mid grown n r) x.3 back) t h s e
  each_pruned (Slice j offset len) e low_is keeps is = cc
  each_pruned (Filter j predicate) e low_is keeps is = cc
  each_pruned (Scan sources info hive predicate output kind options) e low_is keeps is = cc
  each_pruned (DataFrameScan df schema output) e low_is keeps is = cc
  each_pruned (SimpleProjection j cs) e low_is keeps is = cc
  each_pruned (Select j es schema options) e low_is keeps is = cc
  each_pruned (HStack j es schema options) e low_is keeps is = cc
  each_pruned (Sort j keys part options) e low_is keeps is = cc
  each_pruned (GroupBy j keys aggs schema ordered options) e low_is keeps is = cc
  each_pruned (Distinct j options) e low_is keeps is = cc
  each_pruned (MapFunction j function) e low_is keeps is = cc
  each_pruned (Sink j payload) e low_is keeps is = cc
  each_pruned (Cache j id hits) e low_is keeps is = cc
  each_pruned Invalid e low_is keeps is = cc

-- what a call on an input of a node asks, and what comes of the node, which goes back after the last
module _ (asked : List Name) (a b : List IR) (ex : List AExpr) (n : Node) (inputs : List Node) (lists : List (List Name)) (covers : Option (List Name)) (p q d : IR) (plan : IsPlan a ex n) (e : slice_get a n.0 ≡ Some p) (taken : b ≡ slice_set a n.0 d) (step : Each inputs lists covers None q ≡ step_of b ex asked p) where
  abbrev each_is : IsEach inputs lists p q
  each_is = is_each b ex asked inputs lists covers p q step

  -- what stands at its inputs, once it is taken
  abbrev each_kids : Trees IR
  each_kids = (opened plan_shape a n p plan.nodes plan.stands.nodes e).kids

  kids_stand : StandsOnce plan_shape b inputs each_kids
  kids_stand =
      let o = opened plan_shape a n p plan.nodes plan.stands.nodes e in
      let under : StandsOnce plan_shape b (inputs_of p) o.kids = rw taken (StandsOnce-set plan_shape a (inputs_of p) o.kids n.0 d o.inputs o.above) in
      subst (λ (l : List Node). StandsOnce plan_shape b l o.kids) each_is.own under

  kids_exprs : StandExprs ex (roots_in each_kids)
  kids_exprs = let o = opened plan_shape a n p plan.nodes plan.stands.nodes e in below_exprs ex p o.kids no_roses (rw o.is at (plan_trees a ex n plan.nodes plan plan.stands.nodes))

  pub each_inputs : AreInputs b ex inputs
  each_inputs = (each_kids, kids_stand, kids_exprs)

  pub each_long : length lists ≡ length inputs
  each_long = each_is.long

  pub each_falls : tallest plan_shape (height plan_shape (length b) b) inputs < height_at plan_shape a n
  each_falls =
      let o = opened plan_shape a n p plan.nodes plan.stands.nodes e in
      let high : height_at plan_shape a n ≡ levels plan.nodes = height-is plan_shape a n plan.nodes plan.stands.nodes in
      let top : levels plan.nodes ≡ max (1 + levels o.kids) 0 = ap levels o.is in
      omega (arith, high, top, tall b inputs each_kids kids_stand)

  -- what stands at the inputs of the node that goes back
  pub each_left : (before mid : Bool) (c : List IR) (grown : List AExpr) → InputsPruned before mid covers lists b c ex grown inputs → (t : Trees IR) × StandsOnce plan_shape c (inputs_of q) t
  each_left before mid c grown x =
      let y = x.prunes each_kids kids_stand kids_exprs in
      (y.trees, subst (λ (l : List Node). StandsOnce plan_shape c l y.trees) (sym each_is.same) y.rewrites.stands)

  -- the expressions of the node that goes back stand on
  pub each_exprs : (grown : List AExpr) → IsLonger ex grown → StandExprs grown (roots_of q)
  each_exprs grown longer =
      let o = opened plan_shape a n p plan.nodes plan.stands.nodes e in
      let stand : StandExprs ex (roots_of p) = own_exprs ex p o.kids no_roses (rw o.is at (plan_trees a ex n plan.nodes plan plan.stands.nodes)) in
      subst (λ (ns : List Node). StandExprs grown ns) (sym each_is.exprs) (exprs_longer ex grown longer (roots_of p) stand)

  pub each_step : (top before mid : Bool) (kept : Option Kept) (c z : List IR) (now grown : List AExpr) → not before ≡ top_below top (op_at ex p) → IsKept b ex asked p kept → InputsPruned before mid covers lists b c ex now inputs → IsLonger ex now → IsLonger now grown → IsPutBack (is_some_name asked) kept c z now grown n q → PrunesAt top asked a z ex grown n
  each_step top before mid kept c z now grown low keeps x longer further back t h =
      each_pruned top (not before) asked lists covers kept a b c z ex now grown longer further n inputs q d t h (plan_trees a ex n t plan h) taken back x.prunes p e low keeps step

  pub each_mark : (first before mid : Bool) (c : List IR) (grown : List AExpr) → before ≡ (first || is_count (op_at ex p)) → InputsPruned before mid covers lists b c ex grown inputs → MarksAt first mid a ex n
  each_mark first before mid c grown is x = each_marks first before mid a b ex n inputs p d plan e taken each_is.own (each_is.opens ex) is x.marks
