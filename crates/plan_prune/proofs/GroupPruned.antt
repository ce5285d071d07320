-- What a grouping keeps and asks, with numbers and without.
use Rattle.std.proofs.Common.{◌≡◌, Bool, List, [], ◌∷◌, ◌++◌, sym, ap, ap₂, ◌∙◌}
use Rattle.plan_core.specs.Columns.{Columns}
use Rattle.plan_options.specs.declared.group.GroupbyOptions.{GroupbyOptions}
use Rattle.plan_tree.specs.Rose.{Roses, rose}
use Rattle.plan_expr.specs.declared.aexpr.AExpr.{AExpr}
use Rattle.plan_expr.specs.declared.expr_ir.ExprIR.{ExprIR}
use Rattle.plan_expr.specs.Exprs.{Named, all_named_at}
use Rattle.plan_expr.specs.Leaves.{Name}
use Rattle.plan_ir.specs.Plans.{Op, group_by}
use Rattle.plan_meaning.specs.Relating.{names}
use Rattle.plan_frame.specs.ExprLists.{out_names}
use Rattle.plan_meaning.specs.Asked.{grouping_names, kept_exprs, set_of}
use Rattle.plan_pruned.specs.Pruned.{pruned_group_by}
use Rattle.plan_prune_parts.specs.Kept.{stacked_at, is_some_name, names_at, with_typed, stored_after}
use Rattle.plan_prune_parts.specs.Places.{TakePlace}
use Rattle.plan_prune_parts.proofs.PlaceLemmas.{place_behind}
use Rattle.plan_prune_parts.proofs.KeptLemmas.{all_kept, asked_named, named_append, numbers_append, numbers_of, out_names_at, stacked_place}

module _ (ex : List AExpr) where
  stacked_named : (asked : List Name) (es : List ExprIR) → all_named_at ex (stacked_at asked es) ≡ kept_exprs (set_of asked) (all_named_at ex es)
  stacked_named [] es = sym (all_kept ex (all_named_at ex es))
  stacked_named (a ∷ asked) es = asked_named ex (a ∷ asked) es

  -- the numbers of keys and of the aggregates that are kept take the place of all
  pub grouped_place : (asked : List Name) (keys aggs : List ExprIR) → TakePlace ex ex (numbers_of (keys ++ stacked_at asked aggs)) (numbers_of (keys ++ aggs))
  grouped_place asked keys aggs =
      rw (numbers_append ex keys (stacked_at asked aggs), numbers_append ex keys aggs) (place_behind ex ex (numbers_of keys) (numbers_of (stacked_at asked aggs)) (numbers_of aggs) (stacked_place ex asked aggs))

  -- what a grouping asks
  pub grouped_asks : (asked : List Name) (keys aggs : List ExprIR) (s : Columns) → grouping_names (all_named_at ex keys) (all_named_at ex (stacked_at asked aggs)) asked s ≡ grouping_names (all_named_at ex keys) (kept_exprs (set_of asked) (all_named_at ex aggs)) asked s
  grouped_asks asked keys aggs s = ap (λ (l : List Named). grouping_names (all_named_at ex keys) l asked s) (stacked_named asked aggs)

  -- it goes back with what it keeps
  pub grouped_built : (asked : List Name) (keys aggs ks : List ExprIR) (schema cs : Columns) (ordered : Bool) (options : GroupbyOptions) (f : Roses (Unit {0}) Op) → ks ≡ stacked_at asked aggs → cs ≡ stored_after (is_some_name asked) [] (names_at (keys ++ ks)) schema → rose tt (group_by (all_named_at ex keys) (all_named_at ex ks) cs ordered options) f ≡ pruned_group_by asked (all_named_at ex keys) (all_named_at ex aggs) schema ordered options f
  grouped_built [] keys aggs ks schema cs ordered options f kept stored = ap₂ (λ (l : List ExprIR) (s : Columns). rose tt (group_by (all_named_at ex keys) (all_named_at ex l) s ordered options) f) kept stored
  grouped_built (a ∷ asked) keys aggs ks schema cs ordered options f kept stored =
      let named : all_named_at ex ks ≡ kept_exprs (names (a ∷ asked)) (all_named_at ex aggs) = ap (all_named_at ex) kept ∙ asked_named ex (a ∷ asked) aggs in
      ap (λ (s : Columns). rose tt (group_by (all_named_at ex keys) (all_named_at ex ks) s ordered options) f) (stored ∙ ap (λ (l : List Name). with_typed [] l schema) (out_names_at ex (keys ++ ks) ∙ ap out_names (named_append ex keys ks)))
      ∙ ap (λ (l : List Named). rose tt (group_by (all_named_at ex keys) l (with_typed [] (out_names (all_named_at ex keys ++ l)) schema) ordered options) f) named
