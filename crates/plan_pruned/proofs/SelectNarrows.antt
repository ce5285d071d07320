-- A selection that keeps what is asked narrows.
use Rattle.std.proofs.Common.{◌≡◌, ℕ, Bool, true, false, cond, not, List, [], ◌∷◌, refl, sym, ap, ap₂, ◌∙◌, subst}
use Rattle.std.specs.List.{AllByRecursion}
use Rattle.plan_core.specs.declared.options.ProjectionOptions.{ProjectionOptions}
use Rattle.plan_core.specs.Columns.{Columns, type_of, with_types}
use Rattle.plan_core.specs.Names.{has, AreDistinct}
use Rattle.plan_expr.specs.Exprs.{Named}
use Rattle.plan_ir.specs.Plans.{select}
use Rattle.plan_expr.specs.Leaves.{Name}
use Rattle.plan_meaning.specs.Checks.{is_empty}
use Rattle.plan_meaning.specs.Typing.{checks, AllHold}
use Rattle.plan_frame.specs.ExprLists.{out_names, all_scalar, all_leaves}
use Rattle.plan_frame.specs.Made.{made_schema, made_columns, selected}
use Rattle.plan_frame.specs.Frames.{Frame, Column, found, with_columns, Agree}
use Rattle.plan_meaning.specs.Relating.{Asked, all, names, Holding, AgreeOn}
use Rattle.plan_meaning.specs.Asked.{selected_exprs, Fair}
use Rattle.plan_meaning.proofs.CheckParts.{MadeGood, made_good, good_made}
use Rattle.plan_meaning.proofs.KeptColumns.{types_selected, columns_selected}
use Rattle.plan_frame.proofs.MadeColumns.{some-made}
use Rattle.plan_meaning.proofs.KeptExprs.{all_selected, distinct_selected, named_selected, selected_named, scalar-selected}
use Rattle.plan_meaning.proofs.AskedSets.{has_some}
use Rattle.plan_pruned.specs.Pruned.{typed_names}
use Rattle.plan_pruned.proofs.NarrowLemmas.{Local, one_step}
use Rattle.plan_pruned.proofs.ProjectionNarrows.{some_is}
use Rattle.plan_schema.proofs.StoredLemmas.{same_is}
use Rattle.plan_pruned.proofs.MadeNarrows.{SameLeaves, same_made, same_values, once_names, left_stored, left_made}

some_exprs : (es : List Named) (b : Name) → has (out_names es) b ≡ true → is_empty es ≡ false
some_exprs [] b i = cc
some_exprs (e ∷ es) b i = refl

module _ (es : List Named) (schema : Columns) (options : ProjectionOptions) (s : Columns) (good : AllHold (checks (select es schema options) (s ∷ []))) where
  parts : MadeGood [] es schema s
  parts = made_good [] es schema s good.1

  module _ (wanted : List Name) (fair : Fair wanted (made_schema [] es s)) (r : Columns) (same : SameLeaves (selected_exprs (names wanted) es) r s) where
    abbrev ks : List Named
    ks = selected_exprs (names wanted) es

    sub : (P : Named → Type 0) → AllByRecursion P es → AllByRecursion P (selected_exprs (names wanted) es)
    sub P h = all_selected P (names wanted) es h

    once : AreDistinct (out_names (selected_exprs (names wanted) es))
    once = distinct_selected (names wanted) es (once_names [] es schema s parts)

    -- an asked name is an expression's
    made_name : (b : Name) → has wanted b ≡ true → has (out_names es) b ≡ true
    made_name b i = sym (some-made s [] es b) ∙ fair.known b i

    some_left : is_empty (selected_exprs (names wanted) es) ≡ false
    some_left =
        let first = has_some wanted fair.some in
        some_exprs ks first.0 (named_selected (names wanted) es first.0 first.1 (made_name first.0 first.1))

    stored-left : with_types [] (typed_names schema (out_names (selected_exprs (names wanted) es))) ≡ made_schema [] (selected_exprs (names wanted) es) r
    stored-left = ap (with_types []) (left_stored [] es schema s parts ks sub r same)

    type-now : (b : Name) → has wanted b ≡ true → type_of (made_schema [] (selected_exprs (names wanted) es) r) b ≡ type_of (made_schema [] es s) b
    type-now b i = ap (λ (cs : Columns). type_of (with_types [] cs) b) (same_made ks r s same) ∙ types_selected s (names wanted) [] es b i

    holds : Holding wanted (made_schema [] (selected_exprs (names wanted) es) r) (made_schema [] es s)
    holds = record {
      held = λ b i. let t = some_is (type_of (made_schema [] es s) b) (fair.known b i) in (t.0, type-now b i ∙ t.1, t.1);
      within = λ b e. some-made s [] es b ∙ selected_named (names wanted) es b (sym (some-made r [] ks b) ∙ e);
    }

    agrees : (f g : Frame) → Agree (all_leaves (selected_exprs (names wanted) es)) f g → Agree wanted (selected (selected_exprs (names wanted) es) f) (selected es g)
    agrees f g a =
        let hf : ℕ = cond (all_scalar ks) 1 f.height in
        let hg : ℕ = cond (all_scalar es) 1 g.height in
        let hh : hf ≡ hg = ap₂ (λ (t : Bool) (n : ℕ). cond t 1 n) (scalar-selected (names wanted) es) a.height in
        record {
          height = hh;
          same = λ b i.
              ap (λ (cs : List Column). found (with_columns [] cs) b) (same_values hf ks f g a ∙ ap (λ (n : ℕ). made_columns n g ks) hh)
              ∙ columns_selected hg g (names wanted) [] es b i;
        }

    -- a selection that keeps what is asked, over an input that narrows at what it reads
    pub local_selected : (x : Asked) → ((f g : Frame) → AgreeOn x f g → Agree (all_leaves (selected_exprs (names wanted) es)) f g) → Local (select (selected_exprs (names wanted) es) (with_types [] (typed_names schema (out_names (selected_exprs (names wanted) es)))) options) (select es schema options) (x ∷ []) (names wanted) (r ∷ []) (s ∷ [])
    local_selected x weak =
        let stored = with_types [] (typed_names schema (out_names ks)) in
        record {
          good = (ap not some_left, good_made [] ks stored r (left_made [] es schema s parts ks sub r same [] stored once stored-left));
          schema = holds;
          fits = λ c k. k;
          step = λ c fs gs f k hr has ag st. one_step c (select ks stored options) (select es schema options) x (names wanted) r s
              (λ f0 g0 f hr hs ag st. (selected es g0, refl, subst (λ (y : Frame). Agree wanted y (selected es g0)) (sym st) (agrees f0 g0 (weak f0 g0 ag)))) fs gs f hr has ag st;
        }

  -- a selection of which everything is asked, over an input that narrows at what it reads
  pub whole_selected : (x : Asked) (r : Columns) → SameLeaves es r s → ((f g : Frame) → AgreeOn x f g → Agree (all_leaves es) f g) → Local (select es schema options) (select es schema options) (x ∷ []) all (r ∷ []) (s ∷ [])
  whole_selected x r same weak =
      let is : schema ≡ made_schema [] es r = same_is schema (made_schema [] es s) parts.same ∙ ap (with_types []) (sym (same_made es r s same)) in
      record {
        good = (good.0, good_made [] es schema r (left_made [] es schema s parts es (λ P h. h) r same [] schema (once_names [] es schema s parts) is));
        schema = ap (with_types []) (same_made es r s same);
        fits = λ c k. k;
        step = λ c fs gs f k hr has ag st. one_step c (select es schema options) (select es schema options) x all r s
            (λ f0 g0 f hr hs ag st. (selected es g0, refl, st ∙ alike f0 g0 (weak f0 g0 ag))) fs gs f hr has ag st;
      }
    where
      alike : (f g : Frame) → Agree (all_leaves es) f g → selected es f ≡ selected es g
      alike f g a =
          let hf : ℕ = cond (all_scalar es) 1 f.height in
          let hg : ℕ = cond (all_scalar es) 1 g.height in
          let hh : hf ≡ hg = ap (λ (n : ℕ). cond (all_scalar es) 1 n) a.height in
          ap₂ (λ (n : ℕ) (cs : List Column). record { height = n; columns = with_columns [] cs }) hh (same_values hf es f g a ∙ ap (λ (n : ℕ). made_columns n g es) hh)
