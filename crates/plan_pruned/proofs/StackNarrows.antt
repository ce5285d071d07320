-- An addition of columns that keeps what is asked narrows, and where nothing is kept its input does.
use Rattle.std.proofs.Common.{◌≡◌, ℕ, Bool, true, false, List, [], ◌∷◌, map, Option, Some, None, refl, sym, ap, ◌∙◌, subst, is_some, ⊎_elim}
use Rattle.std.specs.List.{AllByRecursion, filter as only_where}
use Rattle.std.proofs.lemmas.Bool.{both_ways, or_cases, or_left, or_right, false_from_ne_true}
use Rattle.plan_core.specs.declared.options.ProjectionOptions.{ProjectionOptions}
use Rattle.plan_core.specs.Columns.{Columns, names_of, type_of, with_types}
use Rattle.plan_core.specs.Names.{has, with_names, AreDistinct}
use Rattle.plan_expr.specs.Exprs.{Named}
use Rattle.plan_ir.specs.Plans.{hstack}
use Rattle.plan_expr.specs.Leaves.{Name}
use Rattle.plan_frame.specs.ExprLists.{out_names, all_leaves}
use Rattle.plan_frame.specs.Made.{made_column, made_schema, made_columns, made}
use Rattle.plan_meaning.specs.Typing.{checks, AllHold}
use Rattle.plan_frame.specs.Frames.{Frame, Column, HasSchema, found, with_columns, Agree}
use Rattle.plan_meaning.specs.Relating.{names, Holding, NarrowColumns}
use Rattle.plan_meaning.specs.Asked.{set_of, kept_exprs, Fair}
use Rattle.plan_frame.proofs.NameSets.{some-type_of, keeps_names, adds_names}
use Rattle.plan_frame.proofs.FrameLemmas.{agree_fewer}
use Rattle.plan_meaning.proofs.CheckParts.{MadeGood, made_good, good_made}
use Rattle.plan_frame.proofs.MadeColumns.{types_over, columns_over, some-made, some-found}
use Rattle.plan_meaning.proofs.KeptColumns.{types_kept, columns_kept}
use Rattle.plan_meaning.proofs.KeptExprs.{all_kept_exprs, distinct_kept, kept_named, has_where}
use Rattle.plan_meaning.proofs.Fairness.{unmade}
use Rattle.plan_pruned.specs.Pruned.{typed_names}
use Rattle.plan_pruned.proofs.NarrowLemmas.{Local, one_step}
use Rattle.plan_pruned.proofs.ProjectionNarrows.{some_is}
use Rattle.plan_pruned.proofs.MadeNarrows.{SameLeaves, set_types, set_within, set_frames, same_made, same_values, once_names, left_stored, left_made}

pub none_is : {X : Type 0} (o : Option X) → is_some o ≡ false → o ≡ None
none_is None e = refl
none_is (Some x) e = cc

module _ (es : List Named) (s : Columns) (wanted : List Name) where
  -- where no expression is kept, the input's columns narrow those of the addition
  pub dropped_holds : kept_exprs (names wanted) es ≡ [] → (r : Columns) → Holding wanted r s → Holding wanted r (made_schema s es s)
  dropped_holds none r h = record {
    held = λ b i. let k = h.held b i in (k.0, k.1, sym (unmade es [] wanted s none b i) ∙ k.2);
    within = λ b e. some-made s s es b ∙ or_left (is_some (type_of s b)) (has (out_names es) b) (h.within b e);
  }

  -- and its frames agree
  pub dropped_agrees : kept_exprs (names wanted) es ≡ [] → (f g : Frame) → Agree wanted f g → Agree wanted f (made g.height g.columns es g)
  dropped_agrees none f g a = record {
    height = a.height;
    same = λ b i.
        a.same b i
        ∙ ap (λ (ks : List Named). found (with_columns g.columns (made_columns g.height g ks)) b) (sym none)
        ∙ columns_kept g.height g (names wanted) g.columns es b i;
  }

module _ (es : List Named) (schema : Columns) (options : ProjectionOptions) (s : Columns) (wanted : List Name) (good : AllHold (checks (hstack es schema options) (s ∷ []))) (fair : Fair wanted (made_schema s es s)) (r : Columns) (h : NarrowColumns (set_of (with_names (only_where (has (names_of s)) wanted) (all_leaves (kept_exprs (names wanted) es)))) r s) where
  abbrev ks : List Named
  ks = kept_exprs (names wanted) es

  abbrev old : List Name
  old = only_where (has (names_of s)) wanted

  abbrev w : List Name
  w = with_names old (all_leaves ks)

  parts : MadeGood s es schema s
  parts = made_good s es schema s good

  sub : (P : Named → Type 0) → AllByRecursion P es → AllByRecursion P (kept_exprs (names wanted) es)
  sub P k = all_kept_exprs P (names wanted) es k

  once : AreDistinct (out_names (kept_exprs (names wanted) es))
  once = distinct_kept (names wanted) es (once_names s es schema s parts)

  same : SameLeaves (kept_exprs (names wanted) es) r s
  same b i = set_types w r s h b (adds_names old (all_leaves ks) b i)

  -- a name that the input doesn't have is not in what is left of it
  unknown : (b : Name) → has (names_of s) b ≡ false → is_some (type_of r b) ≡ false
  unknown b n = false_from_ne_true (is_some (type_of r b)) (λ q. both_ways (is_some (type_of s b)) (some-type_of s b ∙ n) (set_within w r s h b q))

  base-type : (b : Name) → has wanted b ≡ true → type_of r b ≡ type_of s b
  base-type b i = at (has (names_of s) b) refl
    where
      at : (t : Bool) → has (names_of s) b ≡ t → type_of r b ≡ type_of s b
      at true e = set_types w r s h b (keeps_names old (all_leaves ks) b (has_where (has (names_of s)) wanted b e i))
      at false e = none_is (type_of r b) (unknown b e) ∙ sym (none_is (type_of s b) (some-type_of s b ∙ e))

  base-column : (f g : Frame) → HasSchema f r → HasSchema g s → Agree (with_names (only_where (has (names_of s)) wanted) (all_leaves (kept_exprs (names wanted) es))) f g → (b : Name) → has wanted b ≡ true → found f.columns b ≡ found g.columns b
  base-column f g hf hg a b i = at (has (names_of s) b) refl
    where
      at : (t : Bool) → has (names_of s) b ≡ t → found f.columns b ≡ found g.columns b
      at true e = a.same b (keeps_names old (all_leaves ks) b (has_where (has (names_of s)) wanted b e i))
      at false e =
          none_is (found f.columns b) (some-found f.height f.columns r b hf ∙ unknown b e)
          ∙ sym (none_is (found g.columns b) (some-found g.height g.columns s b hg ∙ some-type_of s b ∙ e))

  type-now : (b : Name) → has wanted b ≡ true → type_of (made_schema r (kept_exprs (names wanted) es) r) b ≡ type_of (made_schema s es s) b
  type-now b i =
      types_over r r s (map (made_column r) ks) b (base-type b i)
      ∙ ap (λ (cs : Columns). type_of (with_types s cs) b) (same_made ks r s same)
      ∙ types_kept s (names wanted) s es b i

  holds : Holding wanted (made_schema r (kept_exprs (names wanted) es) r) (made_schema s es s)
  holds = record {
    held = λ b i. let t = some_is (type_of (made_schema s es s) b) (fair.known b i) in (t.0, type-now b i ∙ t.1, t.1);
    within = λ b e.
        some-made s s es b
        ∙ ⊎_elim
        (λ q. or_left (is_some (type_of s b)) (has (out_names es) b) (set_within w r s h b q))
        (λ q. or_right (is_some (type_of s b)) (has (out_names es) b) (kept_named (names wanted) es b q).0)
        (or_cases (is_some (type_of r b)) (has (out_names ks) b) (sym (some-made r r ks b) ∙ e));
  }

  agrees : (f g : Frame) → HasSchema f r → HasSchema g s → Agree (with_names (only_where (has (names_of s)) wanted) (all_leaves (kept_exprs (names wanted) es))) f g → Agree wanted (made f.height f.columns (kept_exprs (names wanted) es) f) (made g.height g.columns es g)
  agrees f g hf hg a = record {
    height = a.height;
    same = λ b i.
        let leaf = agree_fewer (all_leaves ks) w f g (λ c k. adds_names old (all_leaves ks) c k) a in
        columns_over f.height f f.columns g.columns (made_columns f.height f ks) b (base-column f g hf hg a b i)
        ∙ ap (λ (cs : List Column). found (with_columns g.columns cs) b) (same_values f.height ks f g leaf ∙ ap (λ (n : ℕ). made_columns n g ks) a.height)
        ∙ columns_kept g.height g (names wanted) g.columns es b i;
  }

  -- an addition that keeps what is asked, over an input that narrows at the asked names of its own and at what is read
  pub local_stacked : Local (hstack (kept_exprs (names wanted) es) (with_types r (typed_names schema (out_names (kept_exprs (names wanted) es)))) options) (hstack es schema options) (set_of (with_names (only_where (has (names_of s)) wanted) (all_leaves (kept_exprs (names wanted) es))) ∷ []) (names wanted) (r ∷ []) (s ∷ [])
  local_stacked =
      let stored = with_types r (typed_names schema (out_names ks)) in
      record {
        good = good_made r ks stored r (left_made s es schema s parts ks sub r same r stored once (ap (with_types r) (left_stored s es schema s parts ks sub r same)));
        schema = holds;
        fits = λ c k. k;
        step = λ c fs gs f k hr has ag st. one_step c (hstack ks stored options) (hstack es schema options) (set_of w) (names wanted) r s
            (λ f0 g0 f hr hs ag st. (made g0.height g0.columns es g0, refl, subst (λ (y : Frame). Agree wanted y (made g0.height g0.columns es g0)) (sym st) (agrees f0 g0 hr hs (set_frames w f0 g0 ag)))) fs gs f hr has ag st;
      }

-- the same, by what the kept expressions are
pub local_added : (es : List Named) (schema : Columns) (options : ProjectionOptions) (s : Columns) (wanted : List Name) → AllHold (checks (hstack es schema options) (s ∷ [])) → Fair wanted (made_schema s es s) → (r : Columns) (ks : List Named) → kept_exprs (names wanted) es ≡ ks → NarrowColumns (set_of (with_names (only_where (has (names_of s)) wanted) (all_leaves ks))) r s → Local (hstack ks (with_types r (typed_names schema (out_names ks))) options) (hstack es schema options) (set_of (with_names (only_where (has (names_of s)) wanted) (all_leaves ks)) ∷ []) (names wanted) (r ∷ []) (s ∷ [])
local_added es schema options s wanted good fair r stay is h =
    subst
    (λ (ys : List Named). NarrowColumns (set_of (with_names (only_where (has (names_of s)) wanted) (all_leaves ys))) r s → Local (hstack ys (with_types r (typed_names schema (out_names ys))) options) (hstack es schema options) (set_of (with_names (only_where (has (names_of s)) wanted) (all_leaves ys)) ∷ []) (names wanted) (r ∷ []) (s ∷ []))
    is (λ k. local_stacked es schema options s wanted good fair r k) h
