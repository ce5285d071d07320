-- The checks of what a cross join under a run becomes: of the join on keys, of the cross join by a condition, and of the filter that is left.
use Rattle.std.proofs.Common.{◌≡◌, ◌∙◌, ◌++◌, ℕ, suc, Bool, true, false, not, ◌&&◌, ◌||◌, List, [], ◌∷◌, map, length, Option, Some, None, is_some, refl, sym, ap, ap₂, subst}
use Rattle.std.specs.List.{AllByRecursion}
use Rattle.std.proofs.lemmas.Bool.{and_parts as parts_of}
use Rattle.plan_core.specs.declared.data_type.DataType.TheVariants as types
use Rattle.plan_core.specs.Columns.{Columns, names_of, same_columns}
use Rattle.plan_options.specs.declared.join.JoinArgs.{JoinArgs}
use Rattle.plan_options.specs.declared.join.JoinCoalesce.TheVariants.{KeepColumns}
use Rattle.plan_options.specs.declared.join.JoinType.{JoinType}
use Rattle.plan_options.specs.declared.join.JoinType.TheVariants.{Cross}
use Rattle.plan_options.specs.Join.{coalesces, suffix_of}
use Rattle.plan_expr.specs.Exprs.{Expr, Named}
use Rattle.plan_expr.specs.Forms.{has_form}
use Rattle.plan_expr.specs.Leaves.{Name, leaves}
use Rattle.plan_expr.specs.Naming.{naming, may_be_named}
use Rattle.plan_frame.specs.Exprs.{all_known, expr_type, is_type}
use Rattle.plan_frame.proofs.FrameLemmas.{some_type_is}
use Rattle.plan_join.specs.Naming.{drops_left, join_columns, left_rest, right_rest, with_right}
use Rattle.plan_join.specs.Told.{KindOptions, condition, Told, column_keys, expr_column}
use Rattle.plan_join.specs.Sides.{fills}
use Rattle.plan_meaning.specs.Functions.{all_differ}
use Rattle.plan_meaning.specs.Checks.{is_none}
use Rattle.plan_meaning.specs.JoinChecks.{are_one_type, are_paired, conditions, fits_kind, is_built_join, is_elementwise, is_formed_condition, is_formed_key, is_key_type, left_keys_plain, pair_checks, right_keys_plain}
use Rattle.plan_meaning.specs.Typing.{AllHold}
use Rattle.plan_meaning.proofs.JoinLemmas.{JoinGood}
use Rattle.plan_collapse_laws.specs.CrossKeys.{KeyPair}
use Rattle.plan_meaning.proofs.KeptExprs.{all_append}
use Rattle.plan_collapse_laws.specs.Collapsed.{keeping}
use Rattle.plan_collapse_laws.specs.TakenKeys.{self_named, told_now, left_keys, right_keys, some_expr}
use Rattle.plan_collapse_laws.specs.FilteredFrames.{PutsOutAll}
use Rattle.plan_collapse_laws.proofs.JoinFrames.{cross_all}
use Rattle.plan_collapse_laws.proofs.Filters.{FiltersGood}
use Rattle.plan_collapse_laws.proofs.OneSide.{left_whole, right_whole}
use Rattle.plan_collapse_laws.specs.Predicates.{IsPredicate, KeyGood}
use Rattle.plan_collapse_laws.proofs.Predicates.{both_hold, filter_good, named_well}

-- joins of one suffix that put out all columns have the same ones
pub same_wide : (args now : JoinArgs) → PutsOutAll args → PutsOutAll now → suffix_of now ≡ suffix_of args → (lk rk : List Name) (s t : Columns) → join_columns now lk rk s t ≡ join_columns args [] [] s t
same_wide args now all kept e lk rk s t =
    ap (λ (suffix : Name). with_right suffix (left_rest now lk s) (right_rest now rk t)) e
    ∙ ap₂ (with_right (suffix_of args)) (left_whole now kept s t lk ∙ sym (left_whole args all s t [])) (right_whole now kept s t rk ∙ sym (right_whole args all s t []))

-- pairs of keys have types that may stand in a join that takes theirs
keys_paired : (how : JoinType) (n : ℕ) (s t : Columns) (ks : List KeyPair) → AllByRecursion (λ (k : KeyPair). KeyGood s t k × (is_key_type how (expr_type k.right_key t) ≡ true)) ks → AllHold (pair_checks how n s t (left_keys ks) (right_keys ks))
keys_paired how n s t [] h = tt
keys_paired how n s t (k ∷ ks) h =
    let g = h.0.0 in (
      both_hold (is_key_type how (expr_type k.right_key t)) (are_one_type (expr_type k.left_key s) (expr_type k.right_key t)) h.0.1 (ap₂ are_one_type g.left_typed g.right_typed ∙ some_type_is g.kind),
      keys_paired how (suc n) s t ks h.1,
    )

-- what holds of all keys
all_left : (P : KeyPair → Type 0) (Q : Named → Type 0) → ((k : KeyPair) → P k → Q (self_named k.left_key)) → (ks : List KeyPair) → AllByRecursion P ks → AllByRecursion Q (left_keys ks)
all_left P Q by [] h = tt
all_left P Q by (k ∷ ks) h = (by k h.0, all_left P Q by ks h.1)

all_right : (P : KeyPair → Type 0) (Q : Named → Type 0) → ((k : KeyPair) → P k → Q (self_named k.right_key)) → (ks : List KeyPair) → AllByRecursion P ks → AllByRecursion Q (right_keys ks)
all_right P Q by [] h = tt
all_right P Q by (k ∷ ks) h = (by k h.0, all_right P Q by ks h.1)

formed_key : (plain : Bool) → plain ≡ false → (e : Named) → has_form e.expr ≡ true → is_formed_key plain e ≡ true
formed_key plain p e h = both_hold (has_form e.expr) (not plain || is_some (expr_column e.expr)) h (ap (λ (b : Bool). not b || is_some (expr_column e.expr)) p)

not_plain : (a b c : Bool) → a ≡ false → c ≡ false → ((a && b) || c) ≡ false
not_plain true b c p q = cc
not_plain false b c p q = q

and_false : (a b : Bool) → a ≡ false → (a && b) ≡ false
and_false true b p = cc
and_false false b p = refl

some_kind : {X : Type 0} (o : Option X) (x : X) → o ≡ Some x → is_some o ≡ true
some_kind o x e = ap is_some e

module _ (stored : Columns) (told : Told) (s t : Columns) (g : JoinGood [] [] stored told s t) (all : PutsOutAll told.args) where
  abbrev pub given_columns : Columns
  given_columns = join_columns told.args [] [] s t

  -- what filters and a condition above a cross join are
  pub run_predicates : (run : List Named) → FiltersGood given_columns run → AllByRecursion (λ (e : Named). is_elementwise e.expr ≡ true) run → AllByRecursion (λ (e : Named). IsPredicate given_columns e.expr) run
  run_predicates [] h w = tt
  run_predicates (e ∷ run) h w = (record { formed = h.0.0; known = h.0.1.0; truth = h.0.1.1.0; by_row = w.0 }, run_predicates run h.1 w.1)

  pub own_predicates : AllByRecursion (IsPredicate given_columns) (map (λ (e : Named). e.expr) (conditions told.options))
  own_predicates = go (conditions told.options) g.condition_formed g.condition_known g.condition_typed
    where
      go : (es : List Named) → AllByRecursion (λ (e : Named). is_formed_condition e ≡ true) es → AllByRecursion (λ (e : Named). all_known (leaves e.expr) given_columns ≡ true) es → AllByRecursion (λ (e : Named). is_type (expr_type e.expr given_columns) types.Boolean ≡ true) es → AllByRecursion (IsPredicate given_columns) (map (λ (e : Named). e.expr) es)
      go [] a b c = tt
      go (e ∷ es) a b c = let p = parts_of (has_form e.expr) (is_elementwise e.expr) a.0 in (record { formed = p.0; known = b.0; truth = c.0; by_row = p.1 }, go es a.1 b.1 c.1)

  -- a join on keys
  module _ (how : JoinType) (options : Option KindOptions) (ks : List KeyPair) (kept : PutsOutAll (keeping how told.args)) (none : conditions options ≡ [])
      (built : (are_paired how (length (left_keys ks)) (length (right_keys ks)) && fits_kind how (length (left_keys ks)) options) ≡ true)
      (keys : AllByRecursion (λ (k : KeyPair). KeyGood s t k × (is_key_type how (expr_type k.right_key t) ≡ true)) ks) where
    abbrev now : JoinArgs
    now = keeping how told.args

    now_wide : join_columns now (column_keys (left_keys ks)) (column_keys (right_keys ks)) s t ≡ given_columns
    now_wide = same_wide told.args now all kept refl (column_keys (left_keys ks)) (column_keys (right_keys ks)) s t

    no_left : left_keys_plain now ≡ false
    no_left = not_plain (coalesces now.how now.coalesce) (drops_left now.how) (fills now.how now.coalesce) kept.keeps kept.filled

    no_right : right_keys_plain now ≡ false
    no_right = and_false (coalesces now.how now.coalesce) (not (drops_left now.how)) kept.keeps

    no_condition : (P : Named → Type 0) → AllByRecursion P (conditions options)
    no_condition P = subst (λ (es : List Named). AllByRecursion P es) (sym none) tt

    abbrev Good : KeyPair → Type 0
    Good k = KeyGood s t k × (is_key_type how (expr_type k.right_key t) ≡ true)

    pub keyed_good : JoinGood (left_keys ks) (right_keys ks) stored (told_now now options told) s t
    unfolding is_built_join
    keyed_good = record {
      built = both_hold (is_none told.args.slice) (are_paired how (length (left_keys ks)) (length (right_keys ks)) && fits_kind how (length (left_keys ks)) options) (parts_of (is_none told.args.slice) (are_paired told.args.how 0 0 && fits_kind told.args.how 0 told.options) g.built).0 built;
      left_formed = all_left Good (λ (e : Named). is_formed_key (left_keys_plain now) e ≡ true) (λ k h. formed_key (left_keys_plain now) no_left (self_named k.left_key) h.0.left_formed) ks keys;
      right_formed = all_right Good (λ (e : Named). is_formed_key (right_keys_plain now) e ≡ true) (λ k h. formed_key (right_keys_plain now) no_right (self_named k.right_key) h.0.right_formed) ks keys;
      condition_formed = no_condition (λ (e : Named). is_formed_condition e ≡ true);
      left_known = all_left Good (λ (e : Named). all_known (leaves e.expr) s ≡ true) (λ k h. h.0.left_known) ks keys;
      right_known = all_right Good (λ (e : Named). all_known (leaves e.expr) t ≡ true) (λ k h. h.0.right_known) ks keys;
      condition_known = no_condition (λ (e : Named). all_known (leaves e.expr) (join_columns now (column_keys (left_keys ks)) (column_keys (right_keys ks)) s t) ≡ true);
      left_typed = all_left Good (λ (e : Named). is_key_type how (expr_type e.expr s) ≡ true) (λ k h. ap (is_key_type how) (h.0.left_typed ∙ sym h.0.right_typed) ∙ h.1) ks keys;
      pairs = keys_paired how (suc (length (left_keys ks))) s t ks keys;
      condition_typed = no_condition (λ (e : Named). is_type (expr_type e.expr (join_columns now (column_keys (left_keys ks)) (column_keys (right_keys ks)) s t)) types.Boolean ≡ true);
      left_differ = g.left_differ;
      right_differ = g.right_differ;
      differ = ap (λ (cs : Columns). all_differ (names_of cs)) now_wide ∙ g.differ;
      same = ap (same_columns stored) now_wide ∙ g.same;
      named = all_append (λ (e : Named). may_be_named e.name (naming e.expr) ≡ true) (left_keys ks ++ right_keys ks) (conditions options)
          (all_append (λ (e : Named). may_be_named e.name (naming e.expr) ≡ true) (left_keys ks) (right_keys ks)
          (all_left Good (λ (e : Named). may_be_named e.name (naming e.expr) ≡ true) (λ k h. named_well s k.left_key (some_kind (expr_type k.left_key s) h.0.kind h.0.left_typed)) ks keys)
          (all_right Good (λ (e : Named). may_be_named e.name (naming e.expr) ≡ true) (λ k h. named_well t k.right_key (some_kind (expr_type k.right_key t) h.0.kind h.0.right_typed)) ks keys))
          (no_condition (λ (e : Named). may_be_named e.name (naming e.expr) ≡ true));
    }

  -- a cross join by a condition
  module _ (cross : told.args.how ≡ Cross) (x : Expr) (p : IsPredicate given_columns x) where
    abbrev free : JoinArgs
    free = record told.args { coalesce = KeepColumns }

    pub free_all : PutsOutAll free
    free_all = cross_all free cross

    free_wide : join_columns free [] [] s t ≡ given_columns
    free_wide = same_wide told.args free all free_all refl [] [] s t

    pub conditioned_good : JoinGood [] [] stored (told_now free (Some (condition (self_named x))) told) s t
    unfolding is_built_join
    conditioned_good = record {
      built = both_hold (is_none told.args.slice) (are_paired told.args.how 0 0 && fits_kind told.args.how 0 (Some (condition (self_named x)))) (parts_of (is_none told.args.slice) (are_paired told.args.how 0 0 && fits_kind told.args.how 0 told.options) g.built).0 (ap (λ (h : JoinType). are_paired h 0 0 && fits_kind h 0 (Some (condition (self_named x)))) cross);
      left_formed = tt;
      right_formed = tt;
      condition_formed = (both_hold (has_form x) (is_elementwise x) p.formed p.by_row, tt);
      left_known = tt;
      right_known = tt;
      condition_known = (ap (all_known (leaves x)) free_wide ∙ p.known, tt);
      left_typed = tt;
      pairs = tt;
      condition_typed = (ap (λ (cs : Columns). is_type (expr_type x cs) types.Boolean) free_wide ∙ p.truth, tt);
      left_differ = g.left_differ;
      right_differ = g.right_differ;
      differ = ap (λ (cs : Columns). all_differ (names_of cs)) free_wide ∙ g.differ;
      same = ap (same_columns stored) free_wide ∙ g.same;
      named = ((filter_good given_columns x p).1.1.1.0, tt);
    }

-- the filter that is left

pub rest_good : (s : Columns) (o : Option Expr) → AllByRecursion (IsPredicate s) (some_expr o) → FiltersGood s (map self_named (some_expr o))
rest_good s None h = tt
rest_good s (Some e) h = (filter_good s e h.0, tt)
