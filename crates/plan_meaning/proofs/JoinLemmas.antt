-- Joins: what their checks say, part by part; a left key is of the type of the right one that fills it.
use Rattle.std.proofs.Common.{◌≡◌, ℕ, suc, ◌+◌, Bool, true, false, not, ◌&&◌, ◌||◌, cond, List, [], ◌∷◌, ◌++◌, length, Option, Some, None, refl, sym, ap, ap₂, ◌∙◌, subst, is_some}
use Rattle.std.specs.List.{AllByRecursion, IsDistinct, cons_option}
use Rattle.std.specs.Str.{bytes_eq}
use Rattle.std.proofs.lemmas.Bool.{and_parts, not-true, false_from_ne_true, both_ways}
use Rattle.plan_core.specs.declared.data_type.DataType.{DataType}
use Rattle.plan_core.specs.declared.data_type.DataType.TheVariants as types
use Rattle.plan_core.specs.declared.error.PolarsError.TheVariants.{InvalidOperation, SchemaFieldNotFound, SchemaMismatch}
use Rattle.plan_core.specs.Columns.{Columns, names_of, type_of, same_columns}
use Rattle.plan_core.specs.Names.{has, AreDistinct}
use Rattle.plan_options.specs.declared.join.JoinCoalesce.{JoinCoalesce}
use Rattle.plan_options.specs.declared.join.JoinCoalesce.TheVariants.{CoalesceColumns}
use Rattle.plan_options.specs.declared.join.JoinType.{JoinType}
use Rattle.plan_options.specs.declared.join.JoinType.TheVariants.{Full}
use Rattle.plan_options.specs.Join.{coalesces}
use Rattle.plan_tree.specs.Rose.{rose, no_roses}
use Rattle.plan_expr.specs.Exprs.{column, Expr, Named}
use Rattle.plan_expr.specs.Forms.{has_form}
use Rattle.plan_expr.specs.Leaves.{Name, leaves}
use Rattle.plan_expr.specs.Naming.{naming, may_be_named}
use Rattle.plan_frame.specs.Exprs.{all_known, expr_type, is_type}
use Rattle.plan_frame.proofs.FrameLemmas.{is_type_some}
use Rattle.plan_frame.proofs.NameSets.{named}
use Rattle.plan_join.specs.Naming.{drops_left, join_columns}
use Rattle.plan_join.specs.Told.{Told, column_keys, expr_column}
use Rattle.plan_join.specs.Sides.{fills, filler, partner}
use Rattle.plan_meaning.specs.Functions.{all_differ}
use Rattle.plan_meaning.specs.Checks.{each, naming_checks, stored_checks}
use Rattle.plan_meaning.specs.JoinChecks.{are_one_type, conditions, is_built_join, is_formed_condition, is_formed_key, is_key_type, join_checks, join_exprs, join_form_checks, join_leaf_checks, join_once_checks, join_type_checks, left_keys_plain, pair_checks, right_keys_plain}
use Rattle.plan_meaning.specs.Typing.{AllHold}
use Rattle.plan_meaning.proofs.CheckParts.{each_pass, hold_front, hold_back, pass_names}

-- names that all differ are distinct
pub differ_distinct : (names : List Name) → all_differ names ≡ true → AreDistinct names
unfolding IsDistinct
differ_distinct [] h = tt
differ_distinct (a ∷ names) h =
    let p = and_parts (not (has names a)) (all_differ names) h in (
      pass_names (λ (y : Name). bytes_eq a y ≡ false) names (λ y j. false_from_ne_true (bytes_eq a y) (λ q. both_ways (has names a) (not-true (has names a) p.0) (subst (λ (z : Name). has names z ≡ true) (sym (named a y q)) j))),
      differ_distinct names p.1,
    )

-- and distinct names all differ
pub distinct_differ : (names : List Name) → AreDistinct names → all_differ names ≡ true
unfolding IsDistinct
distinct_differ [] d = refl
distinct_differ (a ∷ names) d = both_are (not (has names a)) (all_differ names) (ap not (none_of a names d.0)) (distinct_differ names d.1)
  where
    none_of : (a : Name) (ys : List Name) → AllByRecursion (λ (y : Name). bytes_eq a y ≡ false) ys → has ys a ≡ false
    none_of a [] h = refl
    none_of a (y ∷ ys) h = ap (λ (b : Bool). b || has ys a) h.0 ∙ none_of a ys h.1

    both_are : (x y : Bool) → x ≡ true → y ≡ true → (x && y) ≡ true
    both_are true y p q = q
    both_are false y p q = cc

-- what the checks on a join say, part by part
pub record JoinGood (left_on right_on : List Named) (stored : Columns) (told : Told) (s t : Columns) : Type 0 where
  pub built : is_built_join (length left_on) (length right_on) told ≡ true
  pub left_formed : AllByRecursion (λ (e : Named). is_formed_key (left_keys_plain told.args) e ≡ true) left_on
  pub right_formed : AllByRecursion (λ (e : Named). is_formed_key (right_keys_plain told.args) e ≡ true) right_on
  pub condition_formed : AllByRecursion (λ (e : Named). is_formed_condition e ≡ true) (conditions told.options)
  pub left_known : AllByRecursion (λ (e : Named). all_known (leaves e.expr) s ≡ true) left_on
  pub right_known : AllByRecursion (λ (e : Named). all_known (leaves e.expr) t ≡ true) right_on
  pub condition_known : AllByRecursion (λ (e : Named). all_known (leaves e.expr) (join_columns told.args (column_keys left_on) (column_keys right_on) s t) ≡ true) (conditions told.options)
  pub left_typed : AllByRecursion (λ (e : Named). is_key_type told.args.how (expr_type e.expr s) ≡ true) left_on
  pub pairs : AllHold (pair_checks told.args.how (suc (length left_on)) s t left_on right_on)
  pub condition_typed : AllByRecursion (λ (e : Named). is_type (expr_type e.expr (join_columns told.args (column_keys left_on) (column_keys right_on) s t)) types.Boolean ≡ true) (conditions told.options)
  pub left_differ : all_differ (names_of s) ≡ true
  pub right_differ : all_differ (names_of t) ≡ true
  pub differ : all_differ (names_of (join_columns told.args (column_keys left_on) (column_keys right_on) s t)) ≡ true
  pub same : same_columns stored (join_columns told.args (column_keys left_on) (column_keys right_on) s t) ≡ true
  pub named : AllByRecursion (λ (e : Named). may_be_named e.name (naming e.expr) ≡ true) (join_exprs left_on right_on told)

module _ (left_on right_on : List Named) (stored : Columns) (told : Told) (s t : Columns) where
  abbrev wide : Columns
  wide = join_columns told.args (column_keys left_on) (column_keys right_on) s t

  abbrev behind : ℕ
  behind = suc (length left_on + length right_on)

  pub join_good : AllHold (join_checks left_on right_on stored told s t) → JoinGood left_on right_on stored told s t
  unfolding join_form_checks join_leaf_checks join_type_checks join_once_checks stored_checks naming_checks
  join_good h =
      let f1 = each InvalidOperation 1 (is_formed_key (left_keys_plain told.args)) left_on in
      let f2 = each InvalidOperation (suc (length left_on)) (is_formed_key (right_keys_plain told.args)) right_on in
      let f3 = each InvalidOperation behind is_formed_condition (conditions told.options) in
      let a1 = each SchemaFieldNotFound 1 (λ (e : Named). all_known (leaves e.expr) s) left_on in
      let a2 = each SchemaFieldNotFound (suc (length left_on)) (λ (e : Named). all_known (leaves e.expr) t) right_on in
      let a3 = each SchemaFieldNotFound behind (λ (e : Named). all_known (leaves e.expr) wide) (conditions told.options) in
      let b1 = each SchemaMismatch 1 (λ (e : Named). is_key_type told.args.how (expr_type e.expr s)) left_on in
      let b2 = pair_checks told.args.how (suc (length left_on)) s t left_on right_on in
      let b3 = each SchemaMismatch behind (λ (e : Named). is_type (expr_type e.expr wide) types.Boolean) (conditions told.options) in
      let forms = join_form_checks left_on right_on told in
      let known = join_leaf_checks left_on right_on told s t wide in
      let typed = join_type_checks left_on right_on told s t wide in
      let once = join_once_checks s t wide in
      let rest = stored_checks stored wide ++ naming_checks (join_exprs left_on right_on told) in
      let own = hold_front forms (known ++ (typed ++ (once ++ rest))) h in
      let h1 = hold_back forms (known ++ (typed ++ (once ++ rest))) h in
      let read = hold_front known (typed ++ (once ++ rest)) h1 in
      let h2 = hold_back known (typed ++ (once ++ rest)) h1 in
      let of_type = hold_front typed (once ++ rest) h2 in
      let h3 = hold_back typed (once ++ rest) h2 in
      let differ = and_parts (all_differ (names_of s)) (all_differ (names_of t) && all_differ (names_of wide)) h3.0 in
      let differ' = and_parts (all_differ (names_of t)) (all_differ (names_of wide)) differ.1 in
      record {
        built = own.0;
        left_formed = each_pass InvalidOperation 1 (is_formed_key (left_keys_plain told.args)) left_on (hold_front f1 (f2 ++ f3) own.1);
        right_formed = each_pass InvalidOperation (suc (length left_on)) (is_formed_key (right_keys_plain told.args)) right_on (hold_front f2 f3 (hold_back f1 (f2 ++ f3) own.1));
        condition_formed = each_pass InvalidOperation behind is_formed_condition (conditions told.options) (hold_back f2 f3 (hold_back f1 (f2 ++ f3) own.1));
        left_known = each_pass SchemaFieldNotFound 1 (λ (e : Named). all_known (leaves e.expr) s) left_on (hold_front a1 (a2 ++ a3) read);
        right_known = each_pass SchemaFieldNotFound (suc (length left_on)) (λ (e : Named). all_known (leaves e.expr) t) right_on (hold_front a2 a3 (hold_back a1 (a2 ++ a3) read));
        condition_known = each_pass SchemaFieldNotFound behind (λ (e : Named). all_known (leaves e.expr) wide) (conditions told.options) (hold_back a2 a3 (hold_back a1 (a2 ++ a3) read));
        left_typed = each_pass SchemaMismatch 1 (λ (e : Named). is_key_type told.args.how (expr_type e.expr s)) left_on (hold_front b1 (b2 ++ b3) of_type);
        pairs = hold_front b2 b3 (hold_back b1 (b2 ++ b3) of_type);
        condition_typed = each_pass SchemaMismatch behind (λ (e : Named). is_type (expr_type e.expr wide) types.Boolean) (conditions told.options) (hold_back b2 b3 (hold_back b1 (b2 ++ b3) of_type));
        left_differ = differ.0;
        right_differ = differ'.0;
        differ = differ'.1;
        same = h3.1.0;
        named = each_pass SchemaMismatch 1 (λ (e : Named). may_be_named e.name (naming e.expr)) (join_exprs left_on right_on told) h3.1.1;
      }

-- an expression that is a column has the column's type
column_type : (e : Expr) (a : Name) (s : Columns) → expr_column e ≡ Some a → expr_type e s ≡ type_of s a
column_type (rose n (column b) no_roses) a s h = (let same : b ≡ a = cc in ap (type_of s) same)
column_type e a s h = cc

-- a key that must be a column is one
key_column_is : (e : Named) → is_formed_key true e ≡ true → (a : Name) × (expr_column e.expr ≡ Some a)
key_column_is e h = at (expr_column e.expr) refl (and_parts (has_form e.expr) (is_some (expr_column e.expr)) h).1
  where
    at : (o : Option Name) → expr_column e.expr ≡ o → is_some o ≡ true → (a : Name) × (expr_column e.expr ≡ Some a)
    at None q p = cc
    at (Some a) q p = (a, q)

one_type : (x y : Option DataType) → are_one_type x y ≡ true → x ≡ y
one_type None y h = cc
one_type (Some u) y h = sym (is_type_some y u h)

-- in pairs of keys that are columns, a left column has the type of its partner
paired_types : (how : JoinType) (k : ℕ) (s t : Columns) (ls rs : List Named) → AllByRecursion (λ (e : Named). is_formed_key true e ≡ true) ls → AllByRecursion (λ (e : Named). is_formed_key true e ≡ true) rs → AllHold (pair_checks how k s t ls rs) → (a b : Name) → partner (column_keys ls) (column_keys rs) a ≡ Some b → type_of s a ≡ type_of t b
paired_types how k s t [] rs hl hr p a b e = cc
paired_types how k s t (l ∷ ls) [] hl hr p a b e =
    let c = key_column_is l hl.0 in
    none (ap (λ (o : Option Name). partner (cons_option o (column_keys ls)) [] a) (sym c.1) ∙ e)
  where
    none : None ≡ Some b → type_of s a ≡ type_of t b
    none e = cc
paired_types how k s t (l ∷ ls) (r ∷ rs) hl hr p a b e =
    let c = key_column_is l hl.0 in
    let d = key_column_is r hr.0 in
    at c.0 d.0 (bytes_eq a c.0) refl c.1 d.1 (sym (ap₂ (λ (x y : Option Name). partner (cons_option x (column_keys ls)) (cons_option y (column_keys rs)) a) c.1 d.1) ∙ e) (λ q. paired_types how (suc k) s t ls rs hl.1 hr.1 p.1 a b q)
  where
    at : (x y : Name) (m : Bool) → bytes_eq a x ≡ m → expr_column l.expr ≡ Some x → expr_column r.expr ≡ Some y → cond m (Some y) (partner (column_keys ls) (column_keys rs) a) ≡ Some b → (partner (column_keys ls) (column_keys rs) a ≡ Some b → type_of s a ≡ type_of t b) → type_of s a ≡ type_of t b
    at x y true m c d q later =
        let here : y ≡ b = cc in
        ap (type_of s) (named a x m)
        ∙ sym (column_type l.expr x s c)
        ∙ one_type (expr_type l.expr s) (expr_type r.expr t) (and_parts (is_key_type how (expr_type r.expr t)) (are_one_type (expr_type l.expr s) (expr_type r.expr t)) p.0).1
        ∙ column_type r.expr y t d
        ∙ ap (type_of t) here
    at x y false m c d q later = later q

-- a join that fills left keys drops right ones
filled_right : (how : JoinType) (c : JoinCoalesce) → fills how c ≡ true → (coalesces how c && not (drops_left how)) ≡ true
filled_right Full CoalesceColumns e = refl
filled_right how c e = cc

or_right : (x y : Bool) → y ≡ true → (x || y) ≡ true
or_right true y h = refl
or_right false y h = h

-- a left key has the type of the right one that fills it
pub key_fills : (left_on right_on : List Named) (stored : Columns) (told : Told) (s t : Columns) → JoinGood left_on right_on stored told s t → (a b : Name) → filler told.args (column_keys left_on) (column_keys right_on) a ≡ Some b → type_of s a ≡ type_of t b
key_fills left_on right_on stored told s t g a b e = at (fills told.args.how told.args.coalesce) refl e
  where
    at : (m : Bool) → fills told.args.how told.args.coalesce ≡ m → cond m (partner (column_keys left_on) (column_keys right_on) a) None ≡ Some b → type_of s a ≡ type_of t b
    at true m q =
        let left : left_keys_plain told.args ≡ true = or_right (coalesces told.args.how told.args.coalesce && drops_left told.args.how) (fills told.args.how told.args.coalesce) m in
        let right : right_keys_plain told.args ≡ true = filled_right told.args.how told.args.coalesce m in
        paired_types told.args.how (suc (length left_on)) s t left_on right_on
        (subst (λ (p : Bool). AllByRecursion (λ (e : Named). is_formed_key p e ≡ true) left_on) left g.left_formed)
        (subst (λ (p : Bool). AllByRecursion (λ (e : Named). is_formed_key p e ≡ true) right_on) right g.right_formed)
        g.pairs a b q
    at false m q = cc
