-- What selections and additions keep of their expressions, with numbers and without.
use Rattle.std.proofs.Common.{◌≡◌, ◌&&◌, arith, length, get_or, option_map, Some, subst, Bool, true, false, cond, All, List, [], ◌∷◌, ◌++◌, map, refl, sym, ap, ap₂, ◌∙◌, append-nil}
use Rattle.std.specs.List.{slice_get, slice_set}
use Rattle.std.proofs.lemmas.List.Elements.{All-filter}
use Rattle.std.proofs.lemmas.Option.{slice_get-get_or, slice_get-map}
use Rattle.plan_tree.proofs.TreeLemmas.{nth, StandsOnce-nth}
use Rattle.plan_expr.specs.Operands.{expr_shape, IsExpr}
use Rattle.plan_core.specs.Columns.{Columns}
use Rattle.plan_core.specs.declared.options.ProjectionOptions.{ProjectionOptions}
use Rattle.plan_tree.specs.Rose.{Roses, rose}
use Rattle.plan_core.specs.declared.arena.Node.{Node}
use Rattle.plan_core.specs.Names.{has}
use Rattle.plan_expr.specs.declared.aexpr.AExpr.{AExpr}
use Rattle.plan_expr.specs.declared.expr_ir.ExprIR.{ExprIR}
use Rattle.plan_ir.specs.declared.ir.IR.{IR}
use Rattle.plan_ir.specs.declared.ir.IR.TheVariants.{HStack}
use Rattle.plan_expr.specs.Exprs.{Named, expr_at, named_at, all_named_at}
use Rattle.plan_ir.specs.Plans.{Op, select, hstack}
use Rattle.plan_expr.specs.Leaves.{Name}
use Rattle.plan_expr.specs.Naming.{name_of}
use Rattle.plan_expr.specs.Scalars.{is_scalar}
use Rattle.plan_frame.specs.ExprLists.{all_scalar, first_many, out_names}
use Rattle.plan_meaning.specs.Relating.{all, names}
use Rattle.plan_meaning.specs.Asked.{kept_exprs, selected_exprs, set_of}
use Rattle.plan_schema.specs.Stored.{stored_all}
use Rattle.plan_pruned.specs.Pruned.{added_names, stacked_names, pruned_select, stacked, pruned_hstack}
use Rattle.plan_prune_parts.specs.Places.{StandExprs, TakePlace}
use Rattle.plan_meaning.specs.PlanAt.{one_plan}
use Rattle.plan_meaning.specs.Typing.{first_schema}
use Rattle.plan_prune_parts.specs.Kept.{asked_exprs, many_at, selected_at, stacked_at, is_some_name, names_at, with_typed, stored_after, asks_after, with_stacked}
use Rattle.plan_prune_parts.proofs.PlaceLemmas.{place_alone, place_same, place_behind, place_trans, place_before, place_without, place_swapped}

-- the numbers of expressions
abbrev pub numbers_of : List ExprIR → List Node
numbers_of es = map (λ (e : ExprIR). e.node) es

module _ (ex : List AExpr) where
  pub asked_named : (asked : List Name) (es : List ExprIR) → all_named_at ex (asked_exprs asked es) ≡ kept_exprs (names asked) (all_named_at ex es)
  asked_named asked [] = refl
  asked_named asked (e ∷ es) = go (has asked (name_of e.output_name)) (asked_named asked es)
    where
      go : (b : Bool) → all_named_at ex (asked_exprs asked es) ≡ kept_exprs (names asked) (all_named_at ex es) → all_named_at ex (cond b (e ∷ asked_exprs asked es) (asked_exprs asked es)) ≡ cond b (named_at ex e ∷ kept_exprs (names asked) (all_named_at ex es)) (kept_exprs (names asked) (all_named_at ex es))
      go true h = ap (λ (l : List Named). named_at ex e ∷ l) h
      go false h = h

  pub many_named : (es : List ExprIR) → all_named_at ex (many_at ex es) ≡ first_many (all_named_at ex es)
  many_named [] = refl
  many_named (e ∷ es) = go (is_scalar (expr_at ex e.node)) (many_named es)
    where
      go : (b : Bool) → all_named_at ex (many_at ex es) ≡ first_many (all_named_at ex es) → all_named_at ex (cond b (many_at ex es) (e ∷ [])) ≡ cond b (first_many (all_named_at ex es)) (named_at ex e ∷ [])
      go true h = h
      go false h = refl

  pub named_append : (xs ys : List ExprIR) → all_named_at ex (xs ++ ys) ≡ all_named_at ex xs ++ all_named_at ex ys
  named_append [] ys = refl
  named_append (x ∷ xs) ys = ap (λ (l : List Named). named_at ex x ∷ l) (named_append xs ys)

  -- everything is kept where everything is asked
  pub all_kept : (es : List Named) → kept_exprs all es ≡ es
  all_kept [] = refl
  all_kept (e ∷ es) = ap (λ (l : List Named). e ∷ l) (all_kept es)

  none_many : (es : List Named) → all_scalar es ≡ true → first_many es ≡ []
  none_many [] h = refl
  none_many (e ∷ es) h = go (is_scalar e.expr) h (λ k. none_many es k)
    where
      go : (b : Bool) → (b && all_scalar es) ≡ true → (all_scalar es ≡ true → first_many es ≡ []) → cond b (first_many es) (e ∷ []) ≡ []
      go true k f = f k
      go false k f = cc

  all_selected : (es : List Named) → selected_exprs all es ≡ es
  all_selected es = ap (λ (l : List Named). cond (all_scalar l) (l ++ first_many es) l) (all_kept es) ∙ go (all_scalar es) refl
    where
      go : (b : Bool) → all_scalar es ≡ b → cond b (es ++ first_many es) es ≡ es
      go true h = ap (λ (l : List Named). es ++ l) (none_many es h) ∙ append-nil es
      go false h = refl

  pub selected_named : (asked : List Name) (es : List ExprIR) → all_named_at ex (selected_at ex asked es) ≡ selected_exprs (set_of asked) (all_named_at ex es)
  selected_named [] es = sym (all_selected (all_named_at ex es))
  selected_named (a ∷ asked) es = here (all_scalar (all_named_at ex ks)) ∙ ap (λ (l : List Named). cond (all_scalar l) (l ++ first_many (all_named_at ex es)) l) (asked_named (a ∷ asked) es)
    where
      ks : List ExprIR
      ks = asked_exprs (a ∷ asked) es

      here : (b : Bool) → all_named_at ex (cond b (ks ++ many_at ex es) ks) ≡ cond b (all_named_at ex ks ++ first_many (all_named_at ex es)) (all_named_at ex ks)
      here true = named_append ks (many_at ex es) ∙ ap (λ (l : List Named). all_named_at ex ks ++ l) (many_named es)
      here false = refl

  -- the numbers of what is kept take the place of all
  pub asked_place : (asked : List Name) (es : List ExprIR) → TakePlace ex ex (numbers_of (asked_exprs asked es)) (numbers_of es)
  asked_place asked [] = place_same ex []
  asked_place asked (e ∷ es) = go (has asked (name_of e.output_name)) (asked_place asked es)
    where
      go : (b : Bool) → TakePlace ex ex (numbers_of (asked_exprs asked es)) (numbers_of es) → TakePlace ex ex (numbers_of (cond b (e ∷ asked_exprs asked es) (asked_exprs asked es))) (numbers_of (e ∷ es))
      go true x = place_behind ex ex (e.node ∷ []) (numbers_of (asked_exprs asked es)) (numbers_of es) x
      go false x = place_trans ex ex ex (numbers_of (asked_exprs asked es)) (numbers_of es) (e.node ∷ numbers_of es) x (place_before ex ex (numbers_of es) [] (e.node ∷ []) (place_without ex (e.node ∷ [])))

  pub numbers_append : (xs ys : List ExprIR) → numbers_of (xs ++ ys) ≡ numbers_of xs ++ numbers_of ys
  numbers_append [] ys = refl
  numbers_append (x ∷ xs) ys = ap (λ (l : List Node). x.node ∷ l) (numbers_append xs ys)

  -- and where these are scalar throughout, with the first that isn't
  many_place : (asked : List Name) (es : List ExprIR) → all_scalar (all_named_at ex (asked_exprs asked es)) ≡ true → TakePlace ex ex (numbers_of (asked_exprs asked es ++ many_at ex es)) (numbers_of es)
  many_place asked [] h = place_same ex []
  many_place asked (e ∷ es) h = go (has asked (name_of e.output_name)) (is_scalar (expr_at ex e.node)) refl h (λ k. many_place asked es k)
    where
      ks : List ExprIR
      ks = asked_exprs asked es

      drop : TakePlace ex ex (numbers_of es) (e.node ∷ numbers_of es)
      drop = place_before ex ex (numbers_of es) [] (e.node ∷ []) (place_without ex (e.node ∷ []))

      none : false ≡ true → ⊥
      none x = cc

      go : (b s : Bool) → is_scalar (expr_at ex e.node) ≡ s → all_scalar (all_named_at ex (cond b (e ∷ ks) ks)) ≡ true → (all_scalar (all_named_at ex ks) ≡ true → TakePlace ex ex (numbers_of (ks ++ many_at ex es)) (numbers_of es)) → TakePlace ex ex (numbers_of (cond b (e ∷ ks) ks ++ cond s (many_at ex es) (e ∷ []))) (numbers_of (e ∷ es))
      go true true is k f =
          let rest : all_scalar (all_named_at ex ks) ≡ true = (let q : (is_scalar (expr_at ex e.node) && all_scalar (all_named_at ex ks)) ≡ true = k in cc) in
          place_behind ex ex (e.node ∷ []) (numbers_of (ks ++ many_at ex es)) (numbers_of es) (f rest)
      go true false is k f = absurd (none (subst (λ (b : Bool). (b && all_scalar (all_named_at ex ks)) ≡ true) is k))
      go false true is k f = place_trans ex ex ex (numbers_of (ks ++ many_at ex es)) (numbers_of es) (e.node ∷ numbers_of es) (f k) drop
      go false false is k f =
          rw (numbers_append ks (e ∷ [])) (place_trans ex ex ex (numbers_of ks ++ e.node ∷ []) (e.node ∷ numbers_of ks) (e.node ∷ numbers_of es) (place_swapped ex (e.node ∷ []) (numbers_of ks)) (place_behind ex ex (e.node ∷ []) (numbers_of ks) (numbers_of es) (asked_place asked es)))

  pub selected_place : (asked : List Name) (es : List ExprIR) → TakePlace ex ex (numbers_of (selected_at ex asked es)) (numbers_of es)
  selected_place [] es = place_same ex (numbers_of es)
  selected_place (a ∷ asked) es = go (all_scalar (all_named_at ex (asked_exprs (a ∷ asked) es))) refl
    where
      go : (b : Bool) → all_scalar (all_named_at ex (asked_exprs (a ∷ asked) es)) ≡ b → TakePlace ex ex (numbers_of (cond b (asked_exprs (a ∷ asked) es ++ many_at ex es) (asked_exprs (a ∷ asked) es))) (numbers_of es)
      go true h = many_place (a ∷ asked) es h
      go false h = asked_place (a ∷ asked) es

  pub stacked_place : (asked : List Name) (es : List ExprIR) → TakePlace ex ex (numbers_of (stacked_at asked es)) (numbers_of es)
  stacked_place [] es = place_same ex (numbers_of es)
  stacked_place (a ∷ asked) es = asked_place (a ∷ asked) es

  pub out_names_at : (es : List ExprIR) → names_at es ≡ out_names (all_named_at ex es)
  out_names_at [] = refl
  out_names_at (e ∷ es) = ap (λ (l : List Name). name_of e.output_name ∷ l) (out_names_at es)

  -- a selection goes back with what it keeps
  pub select_built : (asked : List Name) (es ks : List ExprIR) (schema cs : Columns) (options : ProjectionOptions) (f : Roses (Unit {0}) Op) → ks ≡ selected_at ex asked es → cs ≡ stored_after (is_some_name asked) [] (names_at ks) schema → rose tt (select (all_named_at ex ks) cs options) f ≡ pruned_select asked (all_named_at ex es) schema options f
  select_built [] es ks schema cs options f kept stored = ap₂ (λ (l : List ExprIR) (s : Columns). rose tt (select (all_named_at ex l) s options) f) kept stored
  select_built (a ∷ asked) es ks schema cs options f kept stored =
      let named : all_named_at ex ks ≡ selected_exprs (names (a ∷ asked)) (all_named_at ex es) = ap (all_named_at ex) kept ∙ selected_named (a ∷ asked) es in
      ap (λ (s : Columns). rose tt (select (all_named_at ex ks) s options) f) (stored ∙ ap (λ (l : List Name). with_typed [] l schema) (out_names_at ks))
      ∙ ap (λ (l : List Named). rose tt (select l (with_typed [] (out_names l) schema) options) f) named

  -- an addition goes back with what it keeps
  pub hstack_built : (asked : List Name) (es ks : List ExprIR) (schema s cs : Columns) (options : ProjectionOptions) (f : Roses (Unit {0}) Op) → ks ≡ stacked_at asked es → (is_some_name asked ≡ true → length ks ≡ 0 → ⊥) → s ≡ first_schema (stored_all f) → cs ≡ stored_after (is_some_name asked) s (names_at ks) schema → rose tt (hstack (all_named_at ex ks) cs options) f ≡ pruned_hstack asked (all_named_at ex es) schema options f
  hstack_built [] es ks schema s cs options f kept some is stored = ap₂ (λ (l : List ExprIR) (t : Columns). rose tt (hstack (all_named_at ex l) t options) f) kept stored
  hstack_built (a ∷ asked) es ks schema s cs options f kept some is stored =
      let named : all_named_at ex ks ≡ kept_exprs (names (a ∷ asked)) (all_named_at ex es) = ap (all_named_at ex) kept ∙ asked_named (a ∷ asked) es in
      ap (λ (t : Columns). rose tt (hstack (all_named_at ex ks) t options) f) (stored ∙ ap₂ (λ (t : Columns) (l : List Name). with_typed t l schema) is (out_names_at ks))
      ∙ whole ks (some refl)
      ∙ ap (λ (l : List Named). stacked l schema options f) named
    where
      whole : (l : List ExprIR) → (length l ≡ 0 → ⊥) → rose tt (hstack (all_named_at ex l) (with_typed (first_schema (stored_all f)) (out_names (all_named_at ex l)) schema) options) f ≡ stacked (all_named_at ex l) schema options f
      whole [] h = absurd (h refl)
      whole (e ∷ l) h = refl

  -- without any its input takes its place
  pub hstack_gone : (asked : List Name) (es ks : List ExprIR) (schema : Columns) (options : ProjectionOptions) (f : Roses (Unit {0}) Op) → ks ≡ stacked_at asked es → is_some_name asked ≡ true → length ks ≡ 0 → one_plan f ≡ pruned_hstack asked (all_named_at ex es) schema options f
  hstack_gone [] es ks schema options f kept some none = cc
  hstack_gone (a ∷ asked) es ks schema options f kept some none =
      whole ks none ∙ ap (λ (l : List Named). stacked l schema options f) (ap (all_named_at ex) kept ∙ asked_named (a ∷ asked) es)
    where
      whole : (l : List ExprIR) → length l ≡ 0 → one_plan f ≡ stacked (all_named_at ex l) schema options f
      whole [] h = refl
      whole (e ∷ l) h = absurd (omega arith)

  -- what an addition asks
  pub hstack_asks : (asked : List Name) (es ks : List ExprIR) (s : Columns) → ks ≡ stacked_at asked es → asks_after asked (all_named_at ex ks) s ≡ stacked_names asked (all_named_at ex es) s
  hstack_asks [] es ks s kept = refl
  hstack_asks (a ∷ asked) es ks s kept = ap (λ (l : List Named). added_names (a ∷ asked) l s) (ap (all_named_at ex) kept ∙ asked_named (a ∷ asked) es)

  -- what stands still does where it is kept
  pub asked_stand : (P : ExprIR → Type 0) (asked : List Name) (es : List ExprIR) → All P es → All P (asked_exprs asked es)
  asked_stand P asked es h = All-filter (λ (e : ExprIR). has asked (name_of e.output_name)) P es h

  -- each of some expressions over which trees stand
  pub each_stands : (es : List ExprIR) → StandExprs ex (numbers_of es) → All (λ (e : ExprIR). IsExpr ex e.node) es
  each_stands es h = λ i d lt.
      let e : ExprIR = get_or es i d in
      let here : slice_get (numbers_of es) i ≡ Some e.node = slice_get-map (λ (x : ExprIR). x.node) es i ∙ ap (option_map (λ (x : ExprIR). x.node)) (slice_get-get_or es i d lt) in
      (nth expr_shape h.0 i, StandsOnce-nth expr_shape ex (numbers_of es) h.0 i e.node h.1 here)

  pub selected_stand : (asked : List Name) (es ks : List ExprIR) → ks ≡ selected_at ex asked es → StandExprs ex (numbers_of es) → All (λ (e : ExprIR). IsExpr ex e.node) ks
  selected_stand asked es ks is h = each_stands ks (rw is (place_alone ex ex (numbers_of (selected_at ex asked es)) (numbers_of es) (selected_place asked es) h))

  pub stacked_stand : (asked : List Name) (es ks : List ExprIR) → ks ≡ stacked_at asked es → StandExprs ex (numbers_of es) → All (λ (e : ExprIR). IsExpr ex e.node) ks
  stacked_stand asked es ks is h = each_stands ks (rw is (place_alone ex ex (numbers_of (stacked_at asked es)) (numbers_of es) (stacked_place asked es) h))

-- an addition is put with its columns
pub stacked_put : (b : Bool) (lp : List IR) (n i : Node) (es : List ExprIR) (schema cs s : Columns) (options : ProjectionOptions) → b ≡ true → (length es ≡ 0 → ⊥) → cs ≡ with_typed s (names_at es) schema → slice_set lp n.0 (HStack i es cs options) ≡ with_stacked b lp n i es schema options s
stacked_put false lp n i es schema cs s options on some is = cc
stacked_put true lp n i [] schema cs s options on some is = absurd (some refl)
stacked_put true lp n i (e ∷ es) schema cs s options on some is = ap (λ (t : Columns). slice_set lp n.0 (HStack i (e ∷ es) t options)) is
