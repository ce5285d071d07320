-- An addition of columns is pruned at its number.
use Rattle.std.proofs.Common.{◌≡◌, ◌<◌, ℕ, zero, suc, Bool, true, false, List, [], ◌∷◌, length, Some, unwrap_or, refl, sym, ap, ◌∙◌, arith, subst}
use Rattle.std.specs.List.{slice_get, slice_set}
use Rattle.std.proofs.Math.Dec.{ltb}
use Rattle.std.proofs.lemmas.Bool.{lt-ltb, le-ltb}
use Rattle.plan_core.specs.Columns.{Columns}
use Rattle.plan_core.specs.declared.arena.Node.{Node}
use Rattle.plan_core.specs.declared.options.ProjectionOptions.{ProjectionOptions}
use Rattle.plan_tree.specs.Stands.{Trees, StandsOnce}
use Rattle.plan_expr.specs.declared.aexpr.AExpr.{AExpr}
use Rattle.plan_expr.specs.declared.expr_ir.ExprIR.{ExprIR}
use Rattle.plan_ir.specs.declared.ir.IR.{IR}
use Rattle.plan_ir.specs.declared.ir.IR.TheVariants.{HStack, Invalid}
use Rattle.plan_ir.specs.Parts.{plan_shape, roots_in}
use Rattle.plan_expr.specs.Exprs.{all_named_at}
use Rattle.plan_ir.specs.Plans.{hstack, plans_at, bare}
use Rattle.plan_expr.specs.Leaves.{Name}
use Rattle.plan_meaning.specs.Typing.{first_schema}
use Rattle.plan_schema.specs.Stored.{stored_all}
use Rattle.plan_pruned.specs.Pruned.{stacked_names, top_below}
use Rattle.plan_pruned.specs.Renamed.{IsLonger}
use Rattle.plan_prune_parts.specs.Places.{StandExprs, TakePlace}
use Rattle.plan_prune.specs.Prunes.{Prunes, PrunesAt}
use Rattle.plan_prune_parts.specs.Kept.{stacked_at, is_some_name, names_at, with_typed, stored_after, with_stacked}
use Rattle.plan_prune.proofs.PruneLemmas.{finish, one_list, moves_up, is_entry, stands_taken, stands_after}
use Rattle.plan_prune_parts.proofs.KeptLemmas.{numbers_of, stacked_place, hstack_built, hstack_gone}

-- the entry at a number of an arena
pub found : (xs : List IR) (k : ℕ) → k < length xs → slice_get xs k ≡ Some (unwrap_or (slice_get xs k) Invalid)
found [] k h = absurd (omega arith)
found (x ∷ xs) zero h = refl
found (x ∷ xs) (suc k) h = found xs k (omega arith)

-- whether names are asked, by how many there are
pub some_len : (asked : List Name) (k : ℕ) → k ≡ length asked → ltb 0 k ≡ is_some_name asked
some_len [] k e = le-ltb 0 k (omega (arith, e))
some_len (a ∷ asked) k e = lt-ltb 0 k (omega (arith, e))

module _ (top low : Bool) (asked names : List Name) (a b c : List IR) (ex grown : List AExpr) (longer : IsLonger ex grown) (n i : Node) (es : List ExprIR) (schema : Columns) (options : ProjectionOptions) (d : IR) (t : Trees IR) (h : StandsOnce plan_shape a (n ∷ []) t) (s : StandExprs ex (roots_in t)) (e : slice_get a n.0 ≡ Some (HStack i es schema options)) (taken : b ≡ slice_set a n.0 d) (low_is : low ≡ top_below top (hstack (all_named_at ex es) schema options)) (asks_is : names ≡ stacked_names asked (all_named_at ex es) (first_schema (stored_all (bare (plans_at b ex (i ∷ [])))))) (below : PrunesAt low names b c ex grown i) where
  abbrev columns : Columns
  columns = first_schema (stored_all (bare (plans_at c grown (i ∷ []))))

  place : (ks : List ExprIR) → ks ≡ stacked_at asked es → TakePlace ex ex (numbers_of ks) (numbers_of es)
  place ks kept = subst (λ (l : List ExprIR). TakePlace ex ex (numbers_of l) (numbers_of es)) (sym kept) (stacked_place ex asked es)

  back : (ks : List ExprIR) (cs : Columns) → ks ≡ stacked_at asked es → (is_some_name asked ≡ true → length ks ≡ 0 → ⊥) → cs ≡ stored_after (is_some_name asked) columns (names_at ks) schema → Prunes top asked a (slice_set c n.0 (HStack i ks cs options)) ex grown n t
  back ks cs kept some stored =
      finish top low asked names a b c ex grown n i (HStack i es schema options) (HStack i ks cs options) d t longer h s e taken refl refl refl (place ks kept) refl low_is (one_list asks_is)
      (hstack_built ex asked es ks schema columns cs options (bare (plans_at c grown (i ∷ []))) kept some refl stored) below

  placed : (is_asked : Bool) (ks : List ExprIR) → is_asked ≡ is_some_name asked → ks ≡ stacked_at asked es → Prunes top asked a (with_stacked is_asked c n i ks schema options columns) ex grown n t
  placed false ks some kept = back ks schema kept (λ y. absurd (no (some ∙ y))) (ap (λ (s : Bool). stored_after s columns (names_at ks) schema) some)
    where
      no : false ≡ true → ⊥
      no x = cc
  placed true [] some kept =
      let after = stands_after low names b c ex grown i (stands_taken a b n i (HStack i es schema options) d t h e taken refl) below in
      moves_up top low asked names a b c ex grown n i (HStack i es schema options) (unwrap_or (slice_get c i.0) Invalid) d Invalid t h e taken refl (found c i.0 (is_entry c i after)) refl low_is (one_list asks_is)
      (λ ss f. hstack_gone ex asked es [] schema options f kept (sym some) refl) below
  placed true (x ∷ ks) some kept =
      back (x ∷ ks) (with_typed columns (names_at (x ∷ ks)) schema) kept (λ y z. absurd (omega (arith, z))) (ap (λ (s : Bool). stored_after s columns (names_at (x ∷ ks)) schema) some)

  -- the arena in which it was put is that in which it is pruned
  pub hstack_pruned : (is_asked : Bool) (ks : List ExprIR) (z : List IR) → is_asked ≡ is_some_name asked → ks ≡ stacked_at asked es → z ≡ with_stacked is_asked c n i ks schema options (first_schema (stored_all (bare (plans_at c grown (i ∷ []))))) → Prunes top asked a z ex grown n t
  hstack_pruned is_asked ks z some kept is = rw is (placed is_asked ks some kept)
