-- A join is pruned at its number, once its sides are.
use Rattle.std.proofs.Common.{◌≡◌, ℕ, zero, suc, ◌+◌, ◌<◌, ◌≤◌, ◌⊎◌, Bool, true, false, cond, List, [], ◌∷◌, ◌++◌, length, Option, Some, None, unwrap_or, option_map, inl, inr, refl, sym, ap, ap₂, ◌∙◌, arith, length-set, length-append, subst, append-nil, append_assoc}
use Rattle.std.specs.List.{slice_get, slice_set}
use Rattle.std.proofs.lemmas.Option.{slice_get_within}
use Rattle.plan_core.specs.declared.arena.Node.{Node}
use Rattle.plan_core.specs.Columns.{Columns}
use Rattle.plan_core.specs.Options.{default_projection}
use Rattle.plan_options.specs.declared.join.JoinArgs.{JoinArgs}
use Rattle.plan_options.specs.declared.join.JoinCoalesce.TheVariants.{CoalesceColumns}
use Rattle.plan_tree.specs.Rose.{Roses, rose, no_roses, more, join}
use Rattle.plan_tree.specs.Stands.{Trees, Reaches, Apart, StandsOnce, Rewrites}
use Rattle.plan_tree.proofs.TreeLemmas.{opened}
use Rattle.plan_tree.proofs.Numbers.{Reaches-within}
use Rattle.plan_tree.proofs.Frames.{join-left, join-right, Reaches-join, Rewrites-back, Rewrites-trans, StandsOnce-set}
use Rattle.plan_tree.proofs.SplitLemmas.{StandsOnce-split, StandsOnce-join}
use Rattle.plan_expr.specs.declared.aexpr.AExpr.{AExpr}
use Rattle.plan_expr.specs.declared.expr_ir.ExprIR.{ExprIR}
use Rattle.plan_expr.specs.Exprs.{Named, all_named_at}
use Rattle.plan_expr.specs.Leaves.{Name}
use Rattle.plan_expr.specs.Operands.{expr_shape}
use Rattle.plan_join.specs.declared.options.JoinOptions.{JoinOptions}
use Rattle.plan_join.specs.declared.origin.Side.{Side}
use Rattle.plan_join.specs.Naming.{has_right, join_columns}
use Rattle.plan_join.specs.Told.{KindOptions, Told, column_keys, kind_options_at, told_at}
use Rattle.plan_ir.specs.declared.ir.IR.{IR}
use Rattle.plan_ir.specs.declared.ir.IR.TheVariants as nodes
use Rattle.plan_ir.specs.Parts.{plan_shape, condition_of, inputs_of, is_invalid, list_of, roots_of, roots_in}
use Rattle.plan_ir.specs.Plans.{Op, Plan, op_at, plans_of, bare, join as join_op}
use Rattle.plan_pruned.specs.JoinPruned.{called_now, first_of_each, may_coalesce, narrowed_args, pruned_join, renamed_kind, topped_if}
use Rattle.plan_prune_parts.specs.declared.top.Top.{Top}
use Rattle.plan_prune_parts.specs.declared.top.Top.TheVariants.{Nothing, Projection, Selection}
use Rattle.plan_prune_parts.specs.Left.{condition_nodes, put_on, top_nodes, StandFor}
use Rattle.plan_prune_parts.specs.Origins.{origin_in}
use Rattle.plan_meaning.specs.JoinAsked.{left_names, origin_of, right_names}
use Rattle.plan_meaning.specs.Typing.{first_schema, rest_schemas}
use Rattle.plan_schema.specs.Stored.{stored_all}
use Rattle.plan_pruned.specs.Pruned.{asks_plans, pruned_all, rebuilt, top_below}
use Rattle.plan_pruned.specs.Renamed.{IsLonger}
use Rattle.plan_prune_parts.specs.declared.kept.Kept.{Kept}
use Rattle.plan_prune_joins.specs.Joined.{IsJoined, JoinPut, Keeps, with_on, joined_options}
use Rattle.plan_prune_steps.specs.Steps.{IsPutBack}
use Rattle.plan_prune_parts.specs.Kept.{is_some_name}
use Rattle.plan_prune_parts.specs.Places.{StandExprs, TakePlace}
use Rattle.plan_prune.specs.Prunes.{Prunes, PrunesEach, covered_by}
use Rattle.plan_prune_parts.specs.Tops.{with_top}
use Rattle.plan_prune_parts.specs.Said.{columns_at}
use Rattle.plan_prune.proofs.ConcatPruned.{columns_all}
use Rattle.plan_prune.proofs.EachLemmas.{each_finish}
use Rattle.plan_prune_parts.proofs.KeptLemmas.{numbers_append, numbers_of}
use Rattle.plan_prune_parts.proofs.LongerLemmas.{below_exprs, join_longer, longer_trans, own_exprs, plans_longer, trees_longer}
use Rattle.plan_prune_parts.proofs.PlaceLemmas.{place_alone, place_before, place_behind, place_equal, place_same, place_swapped, place_trans}
use Rattle.plan_prune.proofs.PruneLemmas.{goes_beneath, goes_under, under}

-- what stands for numbers, and only reaches what these did and new entries, takes their place
pub place_for : (ex grown : List AExpr) (new old : List Node) → IsLonger ex grown → StandFor ex grown new old → TakePlace ex grown new old
place_for ex grown new old longer x =
    let long : length grown ≡ length ex + length longer.0 = ap length longer.1 ∙ length-append ex longer.0 in
    record { grows = omega (arith, long); stand = among }
  where
    among : (before after : List Node) → StandFor ex grown (before ++ (new ++ after)) (before ++ (old ++ after))
    among before after f h =
        let s = StandsOnce-split expr_shape ex before (old ++ after) f h in
        let r = StandsOnce-split expr_shape ex old after s.right s.second in
        let made = x r.left r.first in
        let first : StandsOnce expr_shape grown before s.left = trees_longer ex grown longer before s.left s.first in
        let last : StandsOnce expr_shape grown after r.right = trees_longer ex grown longer after r.right r.second in
        let behind : (k : ℕ) → Reaches (join r.left r.right) k → Reaches s.right k = λ k u. subst (λ (t : Trees AExpr). Reaches t k) (sym r.is) u in
        let beside : Apart made.0 r.right = λ k u v. elim (made.2 k u) as (λ _. ⊥) [ inl w ↦ r.apart k w v | inr w ↦ (let within = Reaches-within expr_shape ex after r.right k r.second.stands v in omega (arith, w, within)) ] in
        let inner = StandsOnce-join expr_shape grown new after made.0 r.right made.1 last beside in
        -- what is reached behind was reached there, or is new
        let reached : (k : ℕ) → Reaches (join made.0 r.right) k → Reaches s.right k ⊎ (length ex ≤ k) = λ k v. elim (Reaches-join expr_shape made.0 r.right k v) as (λ _. Reaches s.right k ⊎ (length ex ≤ k)) [
          | inl w ↦ elim (made.2 k w) as (λ _. Reaches s.right k ⊎ (length ex ≤ k)) [ inl y ↦ inl (behind k (join-left expr_shape r.left r.right k y)) | inr y ↦ inr y ]
          | inr w ↦ inl (behind k (join-right expr_shape r.left r.right k w))
        ] in
        let apart : Apart s.left (join made.0 r.right) = λ k u v. elim (reached k v) as (λ _. ⊥) [ inl w ↦ s.apart k u w | inr w ↦ (let within = Reaches-within expr_shape ex before s.left k s.first.stands u in omega (arith, w, within)) ] in
        let whole : (k : ℕ) → Reaches (join s.left s.right) k → Reaches f k = λ k u. subst (λ (t : Trees AExpr). Reaches t k) (sym s.is) u in (
          join s.left (join made.0 r.right),
          StandsOnce-join expr_shape grown before (new ++ after) s.left (join made.0 r.right) first inner apart,
          λ k u. elim (Reaches-join expr_shape s.left (join made.0 r.right) k u) as (λ _. Reaches f k ⊎ (length ex ≤ k)) [
            | inl w ↦ inl (whole k (join-left expr_shape s.left s.right k w))
            | inr w ↦ elim (reached k w) as (λ _. Reaches f k ⊎ (length ex ≤ k)) [ inl y ↦ inl (whole k (join-right expr_shape s.left s.right k y)) | inr y ↦ inr y ]
          ],
        )

-- an arena in which an entry was changed and changed back
restored : (c : List IR) (k : ℕ) (q : IR) → k < length c → c ≡ slice_set (slice_set c k q) k (unwrap_or (slice_get c k) nodes.Invalid)
restored [] k q h = absurd (omega arith)
restored (x ∷ c) zero q h = refl
restored (x ∷ c) (suc k) q h = ap (λ (l : List IR). x ∷ l) (restored c k q (omega arith))

-- a node over trees at a number, with what goes on top of it: then it stands at the other number
abbrev topped_trees : Node → Node → Top → IR → Trees IR → Trees IR
topped_trees n m Nothing q kids = more (rose n q kids) no_roses
topped_trees n m (Projection cs) q kids = under n m cs q kids
topped_trees n m (Selection es schema) q kids = more (rose n (nodes.Select m es schema default_projection) (more (rose m q kids) no_roses)) no_roses

-- a node that was taken goes back over what was rewritten below it, with what goes on top of it
module _ (a b c : List IR) (n : Node) (p q d : IR) (kids below : Trees IR) (h : StandsOnce plan_shape a (n ∷ []) (more (rose n p kids) no_roses)) (taken : b ≡ slice_set a n.0 d) (x : Rewrites plan_shape b c (inputs_of p) kids below) (same : inputs_of q ≡ inputs_of p) (valid : is_invalid q ≡ false) where
  abbrev between : List IR
  between = slice_set c n.0 q

  alone : Rewrites plan_shape a between (n ∷ []) (more (rose n p kids) no_roses) (more (rose n q below) no_roses)
  alone = Rewrites-back plan_shape a b c n p q d kids below h taken x same valid

  small : n.0 < length c
  small = let in_a = slice_get_within a n.0 p h.stands.1 in let long : length b ≡ length a = rw taken (length-set a n.0 d) in omega (arith, in_a, long, x.keeps.grows)

  topped_rewrites : (top : Top) → Rewrites plan_shape a (with_on top c n q) (n ∷ []) (more (rose n p kids) no_roses) (topped_trees n (record { 0 = length c }) top q below)
  topped_rewrites Nothing = alone
  topped_rewrites (Projection cs) =
      Rewrites-trans plan_shape a between (with_top cs c n q) (n ∷ []) (more (rose n p kids) no_roses) (more (rose n q below) no_roses) (under n (record { 0 = length c }) cs q below) alone
      (goes_under between c n q q (unwrap_or (slice_get c n.0) nodes.Invalid) below cs alone.stands (restored c n.0 q small) refl valid)
  topped_rewrites (Selection es schema) =
      let m : Node = record { 0 = length c } in
      let above : IR = nodes.Select m es schema default_projection in
      Rewrites-trans plan_shape a between (slice_set (c ++ q ∷ []) n.0 above) (n ∷ []) (more (rose n p kids) no_roses) (more (rose n q below) no_roses) (more (rose n above (more (rose m q below) no_roses)) no_roses) alone
      (goes_beneath between c n q q (unwrap_or (slice_get c n.0) nodes.Invalid) above below alone.stands (restored c n.0 q small) refl valid refl refl)

-- its expressions, and what the trees are

topped_roots : (n m : Node) (top : Top) (q : IR) (below : Trees IR) → roots_in (topped_trees n m top q below) ≡ (top_nodes top ++ roots_of q) ++ roots_in below
topped_roots n m Nothing q below = ap (λ (l : List Node). roots_of q ++ l) (append-nil (roots_in below))
topped_roots n m (Projection cs) q below = append-nil (roots_of q ++ (roots_in below ++ [])) ∙ ap (λ (l : List Node). roots_of q ++ l) (append-nil (roots_in below))
topped_roots n m (Selection es schema) q below =
    ap (λ (l : List Node). numbers_of es ++ l) (append-nil (roots_of q ++ (roots_in below ++ [])) ∙ ap (λ (l : List Node). roots_of q ++ l) (append-nil (roots_in below)))
    ∙ sym (append_assoc (numbers_of es) (roots_of q) (roots_in below))

topped_plans : (ex : List AExpr) (n m : Node) (top : Top) (q : IR) (below : Trees IR) → bare (plans_of ex (topped_trees n m top q below)) ≡ more (put_on ex top (rose tt (op_at ex q) (bare (plans_of ex below)))) no_roses
topped_plans ex n m Nothing q below = refl
topped_plans ex n m (Projection cs) q below = refl
topped_plans ex n m (Selection es schema) q below = refl

-- what goes on top goes before the keys, and the new condition in the place of the old one
joined_place : (ex mid grown : List AExpr) (keys top old new below kids : List Node) → IsLonger mid grown → StandFor mid grown (top ++ new) old → TakePlace ex mid below kids → TakePlace ex grown ((top ++ (keys ++ new)) ++ below) ((keys ++ old) ++ kids)
joined_place ex mid grown keys top old new below kids further x y =
    let turned : TakePlace grown grown (top ++ (keys ++ new)) (keys ++ (top ++ new)) =
    place_trans grown grown grown (top ++ (keys ++ new)) ((top ++ keys) ++ new) (keys ++ (top ++ new)) (place_equal grown (top ++ (keys ++ new)) ((top ++ keys) ++ new) (sym (append_assoc top keys new)))
    (place_trans grown grown grown ((top ++ keys) ++ new) ((keys ++ top) ++ new) (keys ++ (top ++ new)) (place_before grown grown new (top ++ keys) (keys ++ top) (place_swapped grown keys top)) (place_equal grown ((keys ++ top) ++ new) (keys ++ (top ++ new)) (append_assoc keys top new))) in
    let made : TakePlace mid grown (keys ++ (top ++ new)) (keys ++ old) = place_behind mid grown keys (top ++ new) old (place_for mid grown (top ++ new) old further x) in
    let front : TakePlace mid grown (top ++ (keys ++ new)) (keys ++ old) = place_trans mid grown grown (top ++ (keys ++ new)) (keys ++ (top ++ new)) (keys ++ old) turned made in
    place_trans ex mid grown ((top ++ (keys ++ new)) ++ below) ((keys ++ old) ++ below) ((keys ++ old) ++ kids) (place_before mid grown below (top ++ (keys ++ new)) (keys ++ old) front) (place_behind ex mid (keys ++ old) below kids y)

-- what a join is told that puts out the left keys alone is of the same kind
same_kind : (args : JoinArgs) (w : Bool) → has_right (cond w (record args { coalesce = CoalesceColumns }) args).how ≡ has_right args.how
same_kind args true = refl
same_kind args false = refl

-- two ways to name that give each name the same are the same
same_ways : (by own : Name → Option (Side × Name)) → ((a : Name) → by a ≡ own a) → by ≡ own
same_ways by own h = λ i a. h a i

-- a join is pruned over its sides
module _ (top low : Bool) (covers : Option (List Name)) (a b c z : List IR) (ex mid grown : List AExpr) (longer : IsLonger ex mid) (further : IsLonger mid grown) (n l r : Node) (schema : Columns) (left_on right_on : List ExprIR) (options : JoinOptions) (d : IR) (taken : b ≡ slice_set a n.0 d) (low_is : low ≡ top_below top (op_at ex (nodes.Join l r schema left_on right_on options))) (covers_is : covers ≡ None) where
  abbrev p : IR
  p = nodes.Join l r schema left_on right_on options

  abbrev ls : List Named
  ls = all_named_at ex left_on

  abbrev rs : List Named
  rs = all_named_at ex right_on

  abbrev told : Told
  told = told_at ex options

  abbrev s : Columns
  s = columns_at b ex l

  abbrev t : Columns
  t = columns_at b ex r

  abbrev own : Name → Option (Side × Name)
  own = origin_of ls rs told s t

  abbrev asked_of : List Name → Columns → Columns → List (List Name)
  asked_of asked u v = left_names asked ls rs told u v ∷ right_names asked ls rs told u v ∷ []

  -- the columns of the sides
  left_columns : (lp : List IR) (es : List AExpr) (f : Trees IR) → StandsOnce plan_shape lp (l ∷ r ∷ []) f → columns_at lp es l ≡ first_schema (stored_all (bare (plans_of es f)))
  left_columns lp es f h = ap first_schema (columns_all lp es (l ∷ r ∷ []) f h)

  right_columns : (lp : List IR) (es : List AExpr) (f : Trees IR) → StandsOnce plan_shape lp (l ∷ r ∷ []) f → columns_at lp es r ≡ first_schema (rest_schemas (stored_all (bare (plans_of es f))))
  right_columns lp es f h = ap (λ (ss : List Columns). first_schema (rest_schemas ss)) (columns_all lp es (l ∷ r ∷ []) f h)

  -- the sides as they are pruned
  abbrev inputs : List Name → Roses (Unit {0}) Op → Roses (Unit {0}) Op
  inputs asked kids = pruned_all (top_below top (op_at ex p)) (asks_plans asked (op_at ex p) kids) kids

  sides_pruned : (asked : List Name) (lists : List (List Name)) (f : Trees IR) → lists ≡ asked_of asked s t → StandsOnce plan_shape b (l ∷ r ∷ []) f → (x : PrunesEach low covers lists b c ex mid (l ∷ r ∷ []) f) → bare (plans_of mid x.trees) ≡ inputs asked (bare (plans_of ex f))
  sides_pruned asked lists f lists_are h x =
      let kids : Roses (Unit {0}) Op = bare (plans_of ex f) in
      x.pruned
      ∙ ap₂ (λ (w : Bool) (ns : List (List Name)). covered_by covers (pruned_all w ns kids)) low_is (lists_are ∙ ap₂ (asked_of asked) (left_columns b ex f h) (right_columns b ex f h))
      ∙ ap (λ (o : Option (List Name)). covered_by o (inputs asked kids)) covers_is

  -- the join that is made, with what goes on top of it, is the pruned join
  joined_built : (asked : List Name) (e : Name) (k : Kept) (made : IR) (above : Top) (j : IsJoined k c mid grown l r left_on right_on (joined_options (e ∷ asked) rs options s) made above) (f g : Trees IR) → k.asked ≡ e ∷ asked → origin_in k.origins ≡ own → StandExprs ex (roots_of p) → StandsOnce plan_shape b (l ∷ r ∷ []) f → StandsOnce plan_shape c (l ∷ r ∷ []) g → bare (plans_of grown g) ≡ bare (plans_of mid g) → bare (plans_of mid g) ≡ inputs (e ∷ asked) (bare (plans_of ex f)) → put_on grown above (rose tt (op_at grown (nodes.Join l r j.schema left_on right_on j.now)) (bare (plans_of grown g))) ≡ rebuilt top (e ∷ asked) (op_at ex p) (stored_all (bare (plans_of ex f))) (inputs (e ∷ asked) (bare (plans_of ex f)))
  joined_built asked e k made above j f g names_are by_is stand h h' same pruned_is =
      let names : List Name = e ∷ asked in
      let args : JoinArgs = narrowed_args options.args names rs s in
      let kinds : Option KindOptions = option_map (kind_options_at ex) options.options in
      let left : Roses (Unit {0}) Op = inputs names (bare (plans_of ex f)) in
      let by : Name → Option (Side × Name) = origin_in k.origins in
      let x : Columns = columns_at c mid l in
      let y : Columns = columns_at c mid r in
      let made_keys = join_longer ex mid longer left_on right_on options stand in
      let last_keys = join_longer ex grown (longer_trans ex mid grown longer further) left_on right_on options stand in
      let now : List Named → Columns → (Name → Option (Side × Name)) → Name → Name = λ lm u o. called_now args (column_keys lm) u o in
      let cols : List Named → List Named → Columns → Columns → Columns = λ lm rm u v. first_of_each (join_columns args (column_keys lm) (column_keys rm) u v) in
      let tell : (Name → Name) → Option KindOptions → Told = λ w ks. record { allow_parallel = options.allow_parallel; force_parallel = options.force_parallel; args = args; options = option_map (renamed_kind w) ks } in
      let whole : Bool → List Name → (lm rm lg rg : List Named) → (u v : Columns) → (Name → Option (Side × Name)) → Option KindOptions → Roses (Unit {0}) Op → Plan =
      λ w ns lm rm lg rg u v o ks ins. topped_if w (now lm u o) ns (cols lm rm u v) (rose tt (join_op lg rg (cols lm rm u v) (tell (now lm u o) ks)) ins) in
      let here : Bool = has_right args.how in
      let lm : List Named = all_named_at mid left_on in
      let rm : List Named = all_named_at mid right_on in
      let lg : List Named = all_named_at grown left_on in
      let rg : List Named = all_named_at grown right_on in
      let km : Option KindOptions = option_map (kind_options_at mid) options.options in
      let plans : Roses (Unit {0}) Op = bare (plans_of grown g) in
      j.on_top (rose tt (join_op lg rg j.schema (told_at grown j.now)) plans)
      ∙ ap₂ (λ (cs : Columns) (o : Told). topped_if here (now lm x by) k.asked cs (rose tt (join_op lg rg cs o) plans)) j.columns j.told
      ∙ ap₂ (λ (u v : List Named). whole here k.asked u rm v rg x y by km plans) made_keys.0 last_keys.0
      ∙ ap₂ (λ (u v : List Named). whole here k.asked ls u ls v x y by km plans) made_keys.1 last_keys.1
      ∙ ap₂ (λ (ks : Option KindOptions) (ins : Roses (Unit {0}) Op). whole here k.asked ls rs ls rs x y by ks ins) made_keys.2 (same ∙ pruned_is)
      ∙ ap₂ (λ (u v : Columns). whole here k.asked ls rs ls rs u v by kinds left)
      (left_columns c mid g h' ∙ ap (λ (ts : Roses (Unit {0}) Op). first_schema (stored_all ts)) pruned_is)
      (right_columns c mid g h' ∙ ap (λ (ts : Roses (Unit {0}) Op). first_schema (rest_schemas (stored_all ts))) pruned_is)
      ∙ ap₂ (λ (ns : List Name) (o : Name → Option (Side × Name)). whole here ns ls rs ls rs (first_schema (stored_all left)) (first_schema (rest_schemas (stored_all left))) o kinds left) names_are by_is
      ∙ ap (λ (w : Bool). whole w names ls rs ls rs (first_schema (stored_all left)) (first_schema (rest_schemas (stored_all left))) own kinds left) (same_kind options.args (may_coalesce options.args names rs s))
      ∙ ap₂ (λ (u v : Columns). pruned_join names ls rs schema told u v left) (left_columns b ex f h) (right_columns b ex f h)

  pub join_pruned : (asked : List Name) (lists : List (List Name)) (kept : Option Kept) → lists ≡ asked_of asked s t → ((kids : Trees IR) → StandsOnce plan_shape b (l ∷ r ∷ []) kids → StandExprs ex (roots_in kids) → PrunesEach low covers lists b c ex mid (l ∷ r ∷ []) kids) → Keeps asked own kept → IsPutBack (is_some_name asked) kept c z mid grown n (nodes.Join l r schema left_on right_on (joined_options asked rs options s)) → (u : Trees IR) → StandsOnce plan_shape a (n ∷ []) u → StandExprs ex (roots_in u) → slice_get a n.0 ≡ Some p → Prunes top asked a z ex grown n u
  join_pruned [] lists kept lists_are below keeps back u h st e =
      let y : ((es : List AExpr) → z ≡ slice_set c n.0 p) × (grown ≡ mid) = subst (λ (o : Option Kept). IsPutBack false o c z mid grown n p) keeps back in
      subst (λ (es : List AExpr). Prunes top [] a z ex es n u) (sym y.1)
      (each_finish top low [] covers lists a b c z ex mid n p p d u longer h st e taken (y.0 mid) refl refl (place_same ex (roots_of p)) refl
      (λ kids under stand. let x = below kids under stand in (x, ap (λ (f : Roses (Unit {0}) Op). rose tt (op_at ex p) f) (sides_pruned [] lists kids lists_are under x))))
  join_pruned (f ∷ asked) lists kept lists_are below keeps back u h st e =
      let names : List Name = f ∷ asked in
      let k : Kept = keeps.0 in
      let y : JoinPut k c z mid grown n (nodes.Join l r schema left_on right_on (joined_options names rs options s)) = subst (λ (o : Option Kept). IsPutBack true o c z mid grown n (nodes.Join l r schema left_on right_on (joined_options names rs options s))) keeps.1 back in
      let j : IsJoined k c mid grown l r left_on right_on (joined_options names rs options s) y.made y.top = y.is in
      let q : IR = nodes.Join l r j.schema left_on right_on j.now in
      let m : Node = record { 0 = length c } in
      let o = opened plan_shape a n p u h e in
      let under_it : StandsOnce plan_shape b (l ∷ r ∷ []) o.kids = rw taken (StandsOnce-set plan_shape a (l ∷ r ∷ []) o.kids n.0 d o.inputs o.above) in
      let whole : StandExprs ex (roots_of p ++ (roots_in o.kids ++ [])) = rw o.is at st in
      let inside : StandExprs ex (roots_in o.kids) = below_exprs ex p o.kids no_roses whole in
      let x = below o.kids under_it inside in
      let same : bare (plans_of grown x.trees) ≡ bare (plans_of mid x.trees) = plans_longer mid grown further x.trees (place_alone ex mid (roots_in x.trees) (roots_in o.kids) x.exprs inside) in
      let placed : z ≡ with_on y.top c n q = y.placed ∙ ap (with_on y.top c n) j.is in
      let keys : List Node = numbers_of (left_on ++ right_on) in
      let new_roots : roots_in (topped_trees n m y.top q x.trees) ≡ (top_nodes y.top ++ (keys ++ condition_nodes j.now)) ++ roots_in x.trees =
      topped_roots n m y.top q x.trees ∙ ap (λ (ns : List Node). (top_nodes y.top ++ ns) ++ roots_in x.trees) (numbers_append mid (left_on ++ right_on) (list_of (condition_of j.now))) in
      let old_roots : (keys ++ condition_nodes options) ++ roots_in o.kids ≡ roots_of p ++ (roots_in o.kids ++ []) =
      ap₂ (λ (ns ms : List Node). ns ++ ms) (sym (numbers_append mid (left_on ++ right_on) (list_of (condition_of options)))) (sym (append-nil (roots_in o.kids))) in
      rw (placed, o.is) (record {
        trees = topped_trees n m y.top q x.trees;
        rewrites = topped_rewrites a b c n p q d o.kids x.trees (rw o.is at h) taken x.rewrites refl refl y.top;
        exprs =
            place_trans ex grown grown (roots_in (topped_trees n m y.top q x.trees)) ((top_nodes y.top ++ (keys ++ condition_nodes j.now)) ++ roots_in x.trees) (roots_of p ++ (roots_in o.kids ++ [])) (place_equal grown (roots_in (topped_trees n m y.top q x.trees)) ((top_nodes y.top ++ (keys ++ condition_nodes j.now)) ++ roots_in x.trees) new_roots)
            (place_trans ex ex grown ((top_nodes y.top ++ (keys ++ condition_nodes j.now)) ++ roots_in x.trees) ((keys ++ condition_nodes options) ++ roots_in o.kids) (roots_of p ++ (roots_in o.kids ++ [])) (joined_place ex mid grown keys (top_nodes y.top) (condition_nodes options) (condition_nodes j.now) (roots_in x.trees) (roots_in o.kids) further j.place x.exprs) (place_equal ex ((keys ++ condition_nodes options) ++ roots_in o.kids) (roots_of p ++ (roots_in o.kids ++ [])) old_roots));
        pruned =
            topped_plans grown n m y.top q x.trees
            ∙ ap (λ (w : Plan). more w no_roses) (joined_built asked f k y.made y.top j o.kids x.trees keeps.2 (same_ways (origin_in k.origins) own keeps.3) (own_exprs ex p o.kids no_roses whole) under_it x.rewrites.stands same (sides_pruned names lists o.kids lists_are under_it x));
      })
