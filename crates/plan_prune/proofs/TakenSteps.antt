-- What the step of a node that was taken says of the node.
use Rattle.std.proofs.Common.{◌≡◌, Bool, true, false, not, List, [], ◌∷◌, ◌&&◌, ◌||◌, length, Option, Some, None, refl, sym, ap, ◌∙◌, subst}
use Rattle.std.specs.List.{slice_get, slice_set}
use Rattle.plan_core.specs.declared.arena.Node.{Node}
use Rattle.plan_tree.specs.Stands.{Trees}
use Rattle.plan_expr.specs.declared.aexpr.AExpr.{AExpr}
use Rattle.plan_ir.specs.declared.ir.IR.{IR}
use Rattle.plan_ir.specs.declared.ir.IR.TheVariants.{Slice, Filter, Scan, DataFrameScan, SimpleProjection, Select, HStack, Sort, GroupBy, Join, Distinct, MapFunction, Sink, Union, HConcat, Cache, Invalid}
use Rattle.plan_ir.specs.Parts.{inputs_of, is_join, roots_of}
use Rattle.plan_expr.specs.declared.expr_ir.ExprIR.{ExprIR}
use Rattle.plan_join.specs.declared.options.JoinOptions.{JoinOptions}
use Rattle.plan_prune_parts.specs.declared.kept.Kept.{Kept}
use Rattle.plan_prune_joins.specs.Joined.{IsKept, joined_options}
use Rattle.plan_prune_steps.specs.Steps.{step_of}
use Rattle.plan_prune.specs.Taken.{IsTaken}
use Rattle.plan_expr.specs.Exprs.{Named, all_named_at}
use Rattle.plan_ir.specs.Plans.{bare, op_at, plans_of}
use Rattle.plan_expr.specs.Leaves.{Name}
use Rattle.plan_core.specs.Columns.{Columns}
use Rattle.plan_meaning.specs.Counting.{is_closed, is_count, meet_count}
use Rattle.plan_pruned.specs.Pruned.{kept}
use Rattle.plan_prune_parts.specs.declared.step.Step.{Step}
use Rattle.plan_prune_parts.specs.declared.step.Step.TheVariants.{Leaf, Over, Closed, Each}
use Rattle.plan_prune.specs.Prunes.{MarksAt}
use Rattle.plan_prune_parts.specs.Said.{columns_at}
use Rattle.plan_prune_parts.specs.Steps.{with_kept}
use Rattle.plan_prune.proofs.PruneLemmas.{alone}
use Rattle.plan_prune_steps.proofs.AlikeLemmas.{length-alike}
use Rattle.plan_prune.proofs.ConcatPruned.{length-held}

-- a step with what is kept is the step of a node, over no inputs, one, or several
leaf_kept : (kept : Option Kept) (s : Step) (columns : Option Columns) (q : IR) → Leaf columns q ≡ with_kept kept s → Leaf columns q ≡ s
leaf_kept kept (Leaf others p) columns q e = e
leaf_kept kept (Over i names p) columns q e = cc
leaf_kept kept (Closed others p) columns q e = cc
leaf_kept kept (Each inputs lists covers k p) columns q e = cc

over_kept : (kept : Option Kept) (s : Step) (i : Node) (names : List Name) (q : IR) → Over i names q ≡ with_kept kept s → Over i names q ≡ s
over_kept kept (Over j others p) i names q e = e
over_kept kept (Leaf others p) i names q e = cc
over_kept kept (Closed columns p) i names q e = cc
over_kept kept (Each inputs lists covers k p) i names q e = cc

closed_kept : (kept : Option Kept) (s : Step) (columns : Option Columns) (q : IR) → Closed columns q ≡ with_kept kept s → Closed columns q ≡ s
closed_kept kept (Closed others p) columns q e = e
closed_kept kept (Leaf others p) columns q e = cc
closed_kept kept (Over i names p) columns q e = cc
closed_kept kept (Each inputs lists covers k p) columns q e = cc

-- what a step keeps
abbrev kept_in : Step → Option Kept
kept_in (Each inputs lists covers k p) = k
kept_in other = None

none_in : (lp : List IR) (ex : List AExpr) (asked : List Name) (p : IR) → kept_in (step_of lp ex asked p) ≡ None
none_in lp ex asked (Slice j offset len) = refl
none_in lp ex asked (Filter j predicate) = refl
none_in lp ex asked (Scan sources info hive predicate output kind options) = refl
none_in lp ex asked (DataFrameScan df schema output) = refl
none_in lp ex asked (SimpleProjection j columns) = refl
none_in lp ex asked (Select j es schema options) = refl
none_in lp ex asked (HStack j es schema options) = refl
none_in lp ex asked (Sort j keys part options) = refl
none_in lp ex asked (GroupBy j keys aggs schema ordered options) = refl
none_in lp ex asked (Join left right schema left_on right_on options) = refl
none_in lp ex asked (Distinct j options) = refl
none_in lp ex asked (MapFunction j function) = refl
none_in lp ex asked (Sink j payload) = refl
none_in lp ex asked (Union inputs options) = refl
none_in lp ex asked (HConcat inputs schema options) = refl
none_in lp ex asked (Cache j id cache_hits) = refl
none_in lp ex asked Invalid = refl

each_kept : (kept k : Option Kept) (s : Step) (inputs : List Node) (lists : List (List Name)) (covers : Option (List Name)) (q : IR) → kept_in s ≡ None → Each inputs lists covers k q ≡ with_kept kept s → (kept ≡ k) × (Each inputs lists covers None q ≡ s)
each_kept kept k (Each ns ls o j p) inputs lists covers q none e = (cc, cc)
each_kept kept k (Leaf columns p) inputs lists covers q none e = cc
each_kept kept k (Over i names p) inputs lists covers q none e = cc
each_kept kept k (Closed columns p) inputs lists covers q none e = cc

-- so it is of what was taken
module _ (before after : Bool) (lp new : List IR) (ex : List AExpr) (asked : List Name) (n : Node) (step : Step) (taken : IsTaken before after lp new ex asked n step) where
  pub leaf_taken : (columns : Option Columns) (q : IR) → step ≡ Leaf columns q → Leaf columns q ≡ step_of new ex asked taken.entry
  leaf_taken columns q e = leaf_kept taken.kept (step_of new ex asked taken.entry) columns q (sym e ∙ taken.step_is)

  pub over_taken : (i : Node) (names : List Name) (q : IR) → step ≡ Over i names q → Over i names q ≡ step_of new ex asked taken.entry
  over_taken i names q e = over_kept taken.kept (step_of new ex asked taken.entry) i names q (sym e ∙ taken.step_is)

  pub closed_taken : (columns : Option Columns) (q : IR) → step ≡ Closed columns q → Closed columns q ≡ step_of new ex asked taken.entry
  closed_taken columns q e = closed_kept taken.kept (step_of new ex asked taken.entry) columns q (sym e ∙ taken.step_is)

  each_both : (inputs : List Node) (lists : List (List Name)) (covers : Option (List Name)) (k : Option Kept) (q : IR) → step ≡ Each inputs lists covers k q → (taken.kept ≡ k) × (Each inputs lists covers None q ≡ step_of new ex asked taken.entry)
  each_both inputs lists covers k q e = each_kept taken.kept k (step_of new ex asked taken.entry) inputs lists covers q (none_in new ex asked taken.entry) (sym e ∙ taken.step_is)

  pub each_taken : (inputs : List Node) (lists : List (List Name)) (covers : Option (List Name)) (k : Option Kept) (q : IR) → step ≡ Each inputs lists covers k q → Each inputs lists covers None q ≡ step_of new ex asked taken.entry
  each_taken inputs lists covers k q e = (each_both inputs lists covers k q e).1

  pub kept_taken : (inputs : List Node) (lists : List (List Name)) (covers : Option (List Name)) (k : Option Kept) (q : IR) → step ≡ Each inputs lists covers k q → IsKept new ex asked taken.entry k
  kept_taken inputs lists covers k q e = subst (λ (o : Option Kept). IsKept new ex asked taken.entry o) (each_both inputs lists covers k q e).0 taken.kept_is

-- equal steps have equal parts
pub over_parts : (i j : Node) (names others : List Name) (p q : IR) → Over i names p ≡ Over j others q → (i ≡ j) × (names ≡ others) × (p ≡ q)
over_parts i j names others p q e = (cc, cc, cc)

pub leaf_parts : (o u : Option Columns) (p q : IR) → Leaf o p ≡ Leaf u q → (o ≡ u) × (p ≡ q)
leaf_parts o u p q e = (cc, cc)

-- a step over an input is that of a node with this input, and the node goes back over it
pub record IsOver (p q : IR) (i : Node) : Type 0 where
  pub one : inputs_of p ≡ i ∷ []
  pub same : inputs_of q ≡ i ∷ []
  pub first : slice_get (inputs_of p) 0 ≡ Some i
  pub opens : (ex : List AExpr) → is_closed (op_at ex p) ≡ false

made_over : (i j : Node) (names others : List Name) (p q r : IR) → ((ex : List AExpr) → is_closed (op_at ex p) ≡ false) → inputs_of p ≡ j ∷ [] → inputs_of r ≡ j ∷ [] → Over i names q ≡ Over j others r → IsOver p q i
made_over i j names others p q r opens one same e =
    let x = over_parts i j names others q r e in
    let there : j ∷ [] ≡ i ∷ [] = ap (λ (k : Node). k ∷ []) (sym x.0) in
    record { one = one ∙ there; same = ap inputs_of x.2 ∙ same ∙ there; first = ap (λ (l : List Node). slice_get l 0) (one ∙ there); opens = opens }

pub is_over : (lp : List IR) (ex : List AExpr) (asked names : List Name) (p q : IR) (i : Node) → Over i names q ≡ step_of lp ex asked p → IsOver p q i
is_over lp ex asked names (Slice j offset len) q i e = made_over i j names _ (Slice j offset len) q _ (λ ex. refl) refl refl e
is_over lp ex asked names (Filter j predicate) q i e = made_over i j names _ (Filter j predicate) q _ (λ ex. refl) refl refl e
is_over lp ex asked names (Scan sources info hive predicate output kind options) q i e = cc
is_over lp ex asked names (DataFrameScan df schema output) q i e = cc
is_over lp ex asked names (SimpleProjection j columns) q i e = made_over i j names _ (SimpleProjection j columns) q _ (λ ex. refl) refl refl e
is_over lp ex asked names (Select j es schema options) q i e = made_over i j names _ (Select j es schema options) q _ (λ ex. refl) refl refl e
is_over lp ex asked names (HStack j es schema options) q i e = made_over i j names _ (HStack j es schema options) q _ (λ ex. refl) refl refl e
is_over lp ex asked names (Sort j keys part options) q i e = made_over i j names _ (Sort j keys part options) q _ (λ ex. refl) refl refl e
is_over lp ex asked names (GroupBy j keys aggs schema ordered options) q i e = made_over i j names _ (GroupBy j keys aggs schema ordered options) q _ (λ ex. refl) refl refl e
is_over lp ex asked names (Join left right schema left_on right_on options) q i e = cc
is_over lp ex asked names (Distinct j options) q i e = made_over i j names _ (Distinct j options) q _ (λ ex. refl) refl refl e
is_over lp ex asked names (MapFunction j function) q i e = made_over i j names _ (MapFunction j function) q _ (λ ex. refl) refl refl e
is_over lp ex asked names (Sink j payload) q i e = made_over i j names _ (Sink j payload) q _ (λ ex. refl) refl refl e
is_over lp ex asked names (Union inputs options) q i e = cc
is_over lp ex asked names (HConcat inputs schema options) q i e = cc
is_over lp ex asked names (Cache j id cache_hits) q i e = cc
is_over lp ex asked names Invalid q i e = cc

-- a step without an input is that of a node without inputs
leaf_alone : (lp : List IR) (ex : List AExpr) (asked : List Name) (columns : Option Columns) (p q : IR) → Leaf columns q ≡ step_of lp ex asked p → inputs_of p ≡ []
leaf_alone lp ex asked columns (Slice j offset len) q e = cc
leaf_alone lp ex asked columns (Filter j predicate) q e = cc
leaf_alone lp ex asked columns (Scan sources info hive predicate output kind options) q e = refl
leaf_alone lp ex asked columns (DataFrameScan df schema output) q e = refl
leaf_alone lp ex asked columns (SimpleProjection j cs) q e = cc
leaf_alone lp ex asked columns (Select j es schema options) q e = cc
leaf_alone lp ex asked columns (HStack j es schema options) q e = cc
leaf_alone lp ex asked columns (Sort j keys part options) q e = cc
leaf_alone lp ex asked columns (GroupBy j keys aggs schema ordered options) q e = cc
leaf_alone lp ex asked columns (Join left right schema left_on right_on options) q e = cc
leaf_alone lp ex asked columns (Distinct j options) q e = cc
leaf_alone lp ex asked columns (MapFunction j function) q e = cc
leaf_alone lp ex asked columns (Sink j payload) q e = cc
leaf_alone lp ex asked columns (Union inputs options) q e = cc
leaf_alone lp ex asked columns (HConcat inputs schema options) q e = cc
leaf_alone lp ex asked columns (Cache j id cache_hits) q e = cc
leaf_alone lp ex asked columns Invalid q e = refl

-- the mark after it is set where a node counts rows, and else left

pub mark_set : (before : Bool) {count after : Bool} → count ≡ true → after ≡ true → after ≡ (before || count)
mark_set true a b = b
mark_set false a b = b ∙ sym a

pub mark_kept : (before : Bool) {count after : Bool} → count ≡ false → after ≡ before → after ≡ (before || count)
mark_kept true a b = b
mark_kept false a b = b ∙ sym a

pub top_marked : (before count after : Bool) → after ≡ (before || count) → not after ≡ (not before && not count)
top_marked true count after is = ap not is
top_marked false count after is = ap not is

-- the mark after a node without inputs: it is set where the node counts rows

marked_once : (x y c : Bool) → (x || y) ≡ (x || (y || ((not c && false) || false)))
marked_once true y c = refl
marked_once false true c = refl
marked_once false false true = refl
marked_once false false false = refl

pub marks_leaf : (before mid : Bool) (lp b : List IR) (ex : List AExpr) (asked : List Name) (n : Node) (columns : Option Columns) (p q : IR) → slice_get lp n.0 ≡ Some p → Leaf columns q ≡ step_of b ex asked p → mid ≡ (before || is_count (op_at ex p)) → MarksAt before mid lp ex n
marks_leaf before mid lp b ex asked n columns p q e leaf is t h =
    is ∙ marked_once before (is_count (op_at ex p)) (is_closed (op_at ex p)) ∙ ap (λ (u : Trees IR). before || meet_count (bare (plans_of ex u))) (sym (alone lp (slice_set lp n.0 p) ex n p p t h (leaf_alone b ex asked columns p q leaf) e refl))

-- names that are there are the same, or aren't there
pub some_same : (o : Option (List Name)) (x y : List Name) → o ≡ Some x → o ≡ Some y → x ≡ y
some_same None x y e f = cc
some_same (Some z) x y e f = cc

pub none_some : (o : Option (List Name)) (x : List Name) → o ≡ None → o ≡ Some x → ⊥
none_some None x e f = cc
none_some (Some z) x e f = cc

-- a step over each input is that of a node with these inputs, which asks each of them, and the node goes back over them
pub record IsEach (inputs : List Node) (lists : List (List Name)) (p q : IR) : Type 0 where
  pub own : inputs_of p ≡ inputs
  pub same : inputs_of q ≡ inputs
  pub long : length lists ≡ length inputs
  pub exprs : roots_of q ≡ roots_of p
  pub opens : (ex : List AExpr) → is_closed (op_at ex p) ≡ false

pub each_parts : (ns ms : List Node) (l m : List (List Name)) (o u : Option (List Name)) (p q : IR) → Each ns l o None p ≡ Each ms m u None q → (ns ≡ ms) × (l ≡ m) × (o ≡ u) × (p ≡ q)
each_parts ns ms l m o u p q e = (cc, cc, cc, cc)

made_each : (ns ms : List Node) (l m : List (List Name)) (o u : Option (List Name)) (p q r : IR) → ((ex : List AExpr) → is_closed (op_at ex p) ≡ false) → inputs_of p ≡ ms → inputs_of r ≡ ms → length m ≡ length ms → roots_of r ≡ roots_of p → Each ns l o None q ≡ Each ms m u None r → IsEach ns l p q
made_each ns ms l m o u p q r opens own same long exprs e =
    let x = each_parts ns ms l m o u q r e in
    record { own = own ∙ sym x.0; same = ap inputs_of x.3 ∙ same ∙ sym x.0; long = ap length x.1 ∙ long ∙ ap length (sym x.0); exprs = ap roots_of x.3 ∙ exprs; opens = opens }

-- the expressions of a join that goes back are those that it had
joined_roots : (asked : List Name) (left right : Node) (schema : Columns) (left_on right_on : List ExprIR) (options : JoinOptions) (rs : List Named) (s : Columns) → roots_of (Join left right schema left_on right_on (joined_options asked rs options s)) ≡ roots_of (Join left right schema left_on right_on options)
joined_roots [] left right schema left_on right_on options rs s = refl
joined_roots (a ∷ asked) left right schema left_on right_on options rs s = refl

pub is_each : (b : List IR) (ex : List AExpr) (asked : List Name) (inputs : List Node) (lists : List (List Name)) (covers : Option (List Name)) (p q : IR) → Each inputs lists covers None q ≡ step_of b ex asked p → IsEach inputs lists p q
is_each b ex asked inputs lists covers (Union own options) q e = made_each inputs own lists _ covers _ (Union own options) q _ (λ ex. refl) refl refl (length-alike asked own) refl e
is_each b ex asked inputs lists covers (HConcat own schema options) q e = made_each inputs own lists _ covers _ (HConcat own schema options) q _ (λ ex. refl) refl refl (length-held b ex asked own) refl e
is_each b ex asked inputs lists covers (Slice j offset len) q e = cc
is_each b ex asked inputs lists covers (Filter j predicate) q e = cc
is_each b ex asked inputs lists covers (Scan sources info hive predicate output kind options) q e = cc
is_each b ex asked inputs lists covers (DataFrameScan df schema output) q e = cc
is_each b ex asked inputs lists covers (SimpleProjection j cs) q e = cc
is_each b ex asked inputs lists covers (Select j es schema options) q e = cc
is_each b ex asked inputs lists covers (HStack j es schema options) q e = cc
is_each b ex asked inputs lists covers (Sort j keys part options) q e = cc
is_each b ex asked inputs lists covers (GroupBy j keys aggs schema ordered options) q e = cc
is_each b ex asked inputs lists covers (Join left right schema left_on right_on options) q e = made_each inputs (left ∷ right ∷ []) lists _ covers _ (Join left right schema left_on right_on options) q _ (λ ex. refl) refl refl refl (joined_roots asked left right schema left_on right_on options (all_named_at ex right_on) (columns_at b ex left)) e
is_each b ex asked inputs lists covers (Distinct j options) q e = cc
is_each b ex asked inputs lists covers (MapFunction j function) q e = cc
is_each b ex asked inputs lists covers (Sink j payload) q e = cc
is_each b ex asked inputs lists covers (Cache j id hits) q e = cc
is_each b ex asked inputs lists covers Invalid q e = cc

-- something is kept of a join alone, and a join goes back
none_kept : (kept : Option Kept) (k : Kept) → kept ≡ None → kept ≡ Some k → ⊥
none_kept None k e f = cc
none_kept (Some j) k e f = cc

pub kept_join : (b : List IR) (ex : List AExpr) (asked : List Name) (inputs : List Node) (lists : List (List Name)) (covers : Option (List Name)) (kept : Option Kept) (k : Kept) (p q : IR) → IsKept b ex asked p kept → kept ≡ Some k → Each inputs lists covers None q ≡ step_of b ex asked p → is_join q ≡ true
kept_join b ex asked inputs lists covers kept k (Join left right schema left_on right_on options) q keeps some e = ap is_join (each_parts inputs _ lists _ covers _ q _ e).3
kept_join b ex asked inputs lists covers kept k (Union own options) q keeps some e = absurd (none_kept kept k keeps some)
kept_join b ex asked inputs lists covers kept k (HConcat own schema options) q keeps some e = absurd (none_kept kept k keeps some)
kept_join b ex asked inputs lists covers kept k (Slice j offset len) q keeps some e = cc
kept_join b ex asked inputs lists covers kept k (Filter j predicate) q keeps some e = cc
kept_join b ex asked inputs lists covers kept k (Scan sources info hive predicate output kind options) q keeps some e = cc
kept_join b ex asked inputs lists covers kept k (DataFrameScan df schema output) q keeps some e = cc
kept_join b ex asked inputs lists covers kept k (SimpleProjection j cs) q keeps some e = cc
kept_join b ex asked inputs lists covers kept k (Select j es schema options) q keeps some e = cc
kept_join b ex asked inputs lists covers kept k (HStack j es schema options) q keeps some e = cc
kept_join b ex asked inputs lists covers kept k (Sort j keys part options) q keeps some e = cc
kept_join b ex asked inputs lists covers kept k (GroupBy j keys aggs schema ordered options) q keeps some e = cc
kept_join b ex asked inputs lists covers kept k (Distinct j options) q keeps some e = cc
kept_join b ex asked inputs lists covers kept k (MapFunction j function) q keeps some e = cc
kept_join b ex asked inputs lists covers kept k (Sink j payload) q keeps some e = cc
kept_join b ex asked inputs lists covers kept k (Cache j id hits) q keeps some e = cc
kept_join b ex asked inputs lists covers kept k Invalid q keeps some e = cc
