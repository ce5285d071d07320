-- The parts of a join: what stands at its sides, its keys and its condition, and what is kept of it.
use Rattle.std.proofs.Common.{◌≡◌, ◌∙◌, All, length, List, [], ◌∷◌, ◌++◌, Option, None, Some, true, refl, ap, ap₂, subst, arith}
use Rattle.plan_core.specs.declared.arena.Node.{Node}
use Rattle.plan_core.specs.Columns.{Columns}
use Rattle.plan_tree.specs.Stands.{Trees, StandsOnce}
use Rattle.plan_tree.proofs.SplitLemmas.{StandsOnce-split}
use Rattle.plan_expr.specs.declared.aexpr.AExpr.{AExpr}
use Rattle.plan_expr.specs.declared.expr_ir.ExprIR.{ExprIR}
use Rattle.plan_expr.specs.Leaves.{Name}
use Rattle.plan_expr.specs.Operands.{IsExpr}
use Rattle.plan_ir.specs.declared.ir.IR.{IR}
use Rattle.plan_ir.specs.declared.ir.IR.TheVariants.{Slice, Filter, Scan, DataFrameScan, SimpleProjection, Select, HStack, Sort, GroupBy, Join, Distinct, MapFunction, Sink, Union, HConcat, Cache, Invalid}
use Rattle.plan_ir.specs.Parts.{condition_of, is_join, list_of, plan_shape, roots_of}
use Rattle.plan_join.specs.declared.options.JoinOptions.{JoinOptions}
use Rattle.plan_join.specs.declared.origin.Side.{Side}
use Rattle.plan_join.specs.Told.{told_at}
use Rattle.plan_pruned.specs.JoinPruned.{narrowed_args}
use Rattle.plan_meaning.specs.JoinAsked.{left_asked, right_asked}
use Rattle.plan_expr.specs.Exprs.{all_named_at}
use Rattle.plan_prune_parts.specs.declared.step.Step.TheVariants.{Each}
use Rattle.plan_prune_joins.specs.Joined.{joined_step, IsKept, Keeps}
use Rattle.plan_prune_parts.specs.Origins.{origin_in}
use Rattle.plan_prune_parts.specs.declared.kept.Kept.{Kept}
use Rattle.plan_prune_parts.specs.Places.{StandExprs}
use Rattle.plan_prune_parts.proofs.KeptLemmas.{each_stands, numbers_append, numbers_of}
use Rattle.plan_prune_parts.proofs.LongerLemmas.{first_exprs, last_exprs}

-- what stands at the sides of a join
module _ (lp : List IR) (left right : Node) (h : (t : Trees IR) × StandsOnce plan_shape lp (left ∷ right ∷ []) t) where
  pub left_stands : (t : Trees IR) × StandsOnce plan_shape lp (left ∷ []) t
  left_stands = let s = StandsOnce-split plan_shape lp (left ∷ []) (right ∷ []) h.0 h.1 in (s.left, s.first)

  pub right_stands : (t : Trees IR) × StandsOnce plan_shape lp (right ∷ []) t
  right_stands = let s = StandsOnce-split plan_shape lp (left ∷ []) (right ∷ []) h.0 h.1 in (s.right, s.second)

-- its keys and its condition stand
pub record JoinStands (ex : List AExpr) (left_on right_on : List ExprIR) (options : JoinOptions) : Type 0 where
  pub left : All (λ (e : ExprIR). IsExpr ex e.node) left_on
  pub right : All (λ (e : ExprIR). IsExpr ex e.node) right_on
  pub condition : All (λ (e : ExprIR). IsExpr ex e.node) (list_of (condition_of options))

pub join_stands : (ex : List AExpr) (left right : Node) (schema : Columns) (left_on right_on : List ExprIR) (options : JoinOptions) → StandExprs ex (roots_of (Join left right schema left_on right_on options)) → JoinStands ex left_on right_on options
join_stands ex left right schema left_on right_on options h =
    let cs : List ExprIR = list_of (condition_of options) in
    let whole : StandExprs ex (numbers_of (left_on ++ right_on) ++ numbers_of cs) = subst (λ (ns : List Node). StandExprs ex ns) (numbers_append ex (left_on ++ right_on) cs) h in
    let keys : StandExprs ex (numbers_of left_on ++ numbers_of right_on) = subst (λ (ns : List Node). StandExprs ex ns) (numbers_append ex left_on right_on) (first_exprs ex (numbers_of (left_on ++ right_on)) (numbers_of cs) whole) in
    record {
      left = each_stands ex left_on (first_exprs ex (numbers_of left_on) (numbers_of right_on) keys);
      right = each_stands ex right_on (last_exprs ex (numbers_of left_on) (numbers_of right_on) keys);
      condition = each_stands ex cs (last_exprs ex (numbers_of (left_on ++ right_on)) (numbers_of cs) whole);
    }

-- names that are kept are kept, where there are some
pub keeps_some : (asked : List Name) (by : Name → Option (Side × Name)) (k : Kept) → (length asked ≡ 0 → ⊥) → k.asked ≡ asked → ((a : Name) → origin_in k.origins a ≡ by a) → Keeps asked by (Some k)
keeps_some [] by k some names same = absurd (some refl)
keeps_some (a ∷ asked) by k some names same = (k, refl, names, same)

-- where something is kept of a join, something is asked, and from which columns its names are is kept
pub kept_some : (asked : List Name) (by : Name → Option (Side × Name)) (k : Kept) → Keeps asked by (Some k) → length asked ≡ 0 → ⊥
kept_some [] by k kept e = cc
kept_some (b ∷ asked) by k kept e = omega (arith, e)

pub kept_origins : (asked : List Name) (by : Name → Option (Side × Name)) (k : Kept) → Keeps asked by (Some k) → (a : Name) → origin_in k.origins a ≡ by a
kept_origins [] by k kept a = cc
kept_origins (b ∷ asked) by k (other, is, names, same) a =
    let own : k ≡ other = cc in
    ap (λ (x : Kept). origin_in x.origins a) own ∙ same a

-- where nothing is kept of a join, nothing is asked
pub kept_none : (asked : List Name) (by : Name → Option (Side × Name)) → Keeps asked by None → [] ≡ asked
kept_none [] by kept = refl
kept_none (b ∷ asked) by (k, is, names, same) = cc

pub unkept_join : (lp : List IR) (ex : List AExpr) (asked : List Name) (p : IR) → is_join p ≡ true → IsKept lp ex asked p None → [] ≡ asked
unkept_join lp ex asked (Join left right schema left_on right_on options) e kept = kept_none asked _ kept
unkept_join lp ex asked (Slice j offset len) e kept = cc
unkept_join lp ex asked (Filter j predicate) e kept = cc
unkept_join lp ex asked (Scan sources info hive predicate output kind options) e kept = cc
unkept_join lp ex asked (DataFrameScan df schema output) e kept = cc
unkept_join lp ex asked (SimpleProjection j cs) e kept = cc
unkept_join lp ex asked (Select j es schema options) e kept = cc
unkept_join lp ex asked (HStack j es schema options) e kept = cc
unkept_join lp ex asked (Sort j keys part options) e kept = cc
unkept_join lp ex asked (GroupBy j keys aggs schema ordered options) e kept = cc
unkept_join lp ex asked (Distinct j options) e kept = cc
unkept_join lp ex asked (MapFunction j function) e kept = cc
unkept_join lp ex asked (Sink j payload) e kept = cc
unkept_join lp ex asked (Union inputs options) e kept = cc
unkept_join lp ex asked (HConcat inputs schema options) e kept = cc
unkept_join lp ex asked (Cache j id hits) e kept = cc
unkept_join lp ex asked Invalid e kept = cc

-- of a node nothing is kept where nothing is asked
pub keeps_none : (lp : List IR) (ex : List AExpr) (asked : List Name) (p : IR) → length asked ≡ 0 → IsKept lp ex asked p None
keeps_none lp ex [] (Join left right schema left_on right_on options) e = refl
keeps_none lp ex (a ∷ asked) (Join left right schema left_on right_on options) e = absurd (omega (arith, e))
keeps_none lp ex asked (Slice j offset len) e = refl
keeps_none lp ex asked (Filter j predicate) e = refl
keeps_none lp ex asked (Scan sources info hive predicate output kind options) e = refl
keeps_none lp ex asked (DataFrameScan df schema output) e = refl
keeps_none lp ex asked (SimpleProjection j cs) e = refl
keeps_none lp ex asked (Select j es schema options) e = refl
keeps_none lp ex asked (HStack j es schema options) e = refl
keeps_none lp ex asked (Sort j keys part options) e = refl
keeps_none lp ex asked (GroupBy j keys aggs schema ordered options) e = refl
keeps_none lp ex asked (Distinct j options) e = refl
keeps_none lp ex asked (MapFunction j function) e = refl
keeps_none lp ex asked (Sink j payload) e = refl
keeps_none lp ex asked (Union inputs options) e = refl
keeps_none lp ex asked (HConcat inputs schema options) e = refl
keeps_none lp ex asked (Cache j id hits) e = refl
keeps_none lp ex asked Invalid e = refl

-- the step of a join that is asked names
module _ (ex : List AExpr) where
  pub joined_some : (asked : List Name) (left right : Node) (schema : Columns) (left_on right_on : List ExprIR) (options now : JoinOptions) (s t : Columns) (lists : List (List Name)) → (length asked ≡ 0 → ⊥) → lists ≡ left_asked (all_named_at ex left_on) (all_named_at ex right_on) (told_at ex options) asked s t ∷ right_asked (all_named_at ex left_on) (all_named_at ex right_on) (told_at ex options) asked s t ∷ [] → now ≡ record options { args = narrowed_args options.args asked (all_named_at ex right_on) s } → Each (left ∷ right ∷ []) lists None None (Join left right schema left_on right_on now) ≡ joined_step ex asked left right schema left_on right_on options s t
  joined_some [] left right schema left_on right_on options now s t lists some lists_are now_is = absurd (some refl)
  joined_some (a ∷ asked) left right schema left_on right_on options now s t lists some lists_are now_is =
      ap₂ (λ (ls : List (List Name)) (o : JoinOptions). Each (left ∷ right ∷ []) ls None None (Join left right schema left_on right_on o)) lists_are now_is
