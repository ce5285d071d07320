-- The first fault of a join, by the checks on its keys and on its condition, one after another.
use Rattle.std.proofs.Common.{◌≡◌, ◌∙◌, ◌&&◌, All, ℕ, suc, ◌+◌, Bool, true, false, List, [], ◌∷◌, ◌++◌, length, Option, None, Some, is_some, refl, sym, ap, ap₂, arith, append_assoc}
use Rattle.std.proofs.lemmas.List.{length-map}
use Rattle.plan_core.specs.declared.arena.Node.{Node}
use Rattle.plan_core.specs.declared.data_type.DataType.{DataType}
use Rattle.plan_core.specs.declared.data_type.DataType.TheVariants.{Boolean}
use Rattle.plan_core.specs.declared.error.PolarsError.TheVariants.{SchemaFieldNotFound, Duplicate, SchemaMismatch, InvalidOperation}
use Rattle.plan_core.specs.Columns.{Columns, names_of, type_of}
use Rattle.plan_expr.specs.declared.aexpr.AExpr.{AExpr}
use Rattle.plan_expr.specs.declared.expr_ir.ExprIR.{ExprIR}
use Rattle.plan_expr.specs.Exprs.{all_named_at, named_at, Named}
use Rattle.plan_expr.specs.Leaves.{Name, leaves}
use Rattle.plan_expr.specs.Naming.{naming, may_be_named}
use Rattle.plan_expr.specs.Operands.{IsExpr}
use Rattle.plan_frame.specs.Exprs.{all_known, expr_type, is_type}
use Rattle.plan_frame.proofs.Depends.{type_within}
use Rattle.plan_ir.specs.Parts.{condition_of, list_of}
use Rattle.plan_join.specs.declared.options.JoinOptions.{JoinOptions}
use Rattle.plan_join.specs.Naming.{join_columns, key_columns}
use Rattle.plan_join.specs.Told.{Told, column_keys, told_at}
use Rattle.plan_meaning.specs.Checks.{Check, check, each, naming_checks, stored_checks}
use Rattle.plan_meaning.specs.Functions.{all_differ}
use Rattle.plan_meaning.specs.JoinChecks.{conditions, is_built_join, is_formed_condition, is_formed_key, is_key_type, join_checks, join_exprs, join_form_checks, join_leaf_checks, join_once_checks, join_type_checks, left_keys_plain, pair_checks, right_keys_plain}
use Rattle.plan_meaning.specs.Typing.{at, first_fault, or_fault}
use Rattle.plan_schema.proofs.CheckLemmas.{fault_append}
use Rattle.plan_check_parts.proofs.EachLemmas.{each-append, each-same}
use Rattle.plan_check_parts.proofs.JoinLemmas.{columns_at, conditions_at}

-- checks on the keys of both sides and on the condition, at the places of these

module _ (ex : List AExpr) (lo ro : List ExprIR) (o : JoinOptions) where
  abbrev lefts : List Named
  lefts = all_named_at ex lo

  abbrev rights : List Named
  rights = all_named_at ex ro

  abbrev told : Told
  told = told_at ex o

  abbrev condition : List Named
  condition = all_named_at ex (list_of (condition_of o))

  right_place : suc (length lefts) ≡ 1 + length lo
  right_place = let long = length-map lo (named_at ex) in omega (arith, long)

  behind : suc (length lefts + length rights) ≡ 1 + length lo + length ro
  behind = let long = length-map lo (named_at ex) in let longer = length-map ro (named_at ex) in omega (arith, long, longer)

  module _ (n : Node) where
    three : (first : List Check) (second : ℕ → List Check) (third : ℕ → List Named → List Check)
        → first_fault n (first ++ (second (suc (length lefts)) ++ third (suc (length lefts + length rights)) (conditions told.options))) ≡ or_fault (first_fault n first) (or_fault (first_fault n (second (1 + length lo))) (first_fault n (third (1 + length lo + length ro) condition)))
    three first second third =
        ap (λ (cs : List Check). first_fault n (first ++ cs)) (ap₂ (λ (a b : List Check). a ++ b) (ap second right_place) (ap₂ third behind (conditions_at ex o)))
        ∙ fault_append n first (second (1 + length lo) ++ third (1 + length lo + length ro) condition)
        ∙ ap (or_fault (first_fault n first)) (fault_append n (second (1 + length lo)) (third (1 + length lo + length ro) condition))

    pub form_fault : first_fault n (join_form_checks lefts rights told) ≡ or_fault (first_fault n (check InvalidOperation 0 (is_built_join (length lo) (length ro) told) ∷ [])) (or_fault (first_fault n (each InvalidOperation 1 (is_formed_key (left_keys_plain o.args)) lefts)) (or_fault (first_fault n (each InvalidOperation (1 + length lo) (is_formed_key (right_keys_plain o.args)) rights)) (first_fault n (each InvalidOperation (1 + length lo + length ro) is_formed_condition condition))))
    unfolding join_form_checks
    form_fault =
        let rest : List Check = each InvalidOperation 1 (is_formed_key (left_keys_plain o.args)) lefts ++ (each InvalidOperation (suc (length lefts)) (is_formed_key (right_keys_plain o.args)) rights ++ each InvalidOperation (suc (length lefts + length rights)) is_formed_condition (conditions told.options)) in
        ap₂ (λ (l r : ℕ). first_fault n ((check InvalidOperation 0 (is_built_join l r told) ∷ []) ++ rest)) (length-map lo (named_at ex)) (length-map ro (named_at ex))
        ∙ fault_append n (check InvalidOperation 0 (is_built_join (length lo) (length ro) told) ∷ []) rest
        ∙ ap (or_fault (first_fault n (check InvalidOperation 0 (is_built_join (length lo) (length ro) told) ∷ []))) (three (each InvalidOperation 1 (is_formed_key (left_keys_plain o.args)) lefts) (λ (p : ℕ). each InvalidOperation p (is_formed_key (right_keys_plain o.args)) rights) (λ (p : ℕ) (es : List Named). each InvalidOperation p is_formed_condition es))

    pub leaf_fault : (s t columns : Columns) → first_fault n (join_leaf_checks lefts rights told s t columns) ≡ or_fault (first_fault n (each SchemaFieldNotFound 1 (λ (x : Named). all_known (leaves x.expr) s) lefts)) (or_fault (first_fault n (each SchemaFieldNotFound (1 + length lo) (λ (x : Named). all_known (leaves x.expr) t) rights)) (first_fault n (each SchemaFieldNotFound (1 + length lo + length ro) (λ (x : Named). all_known (leaves x.expr) columns) condition)))
    unfolding join_leaf_checks
    leaf_fault s t columns = three (each SchemaFieldNotFound 1 (λ (x : Named). all_known (leaves x.expr) s) lefts) (λ (p : ℕ). each SchemaFieldNotFound p (λ (x : Named). all_known (leaves x.expr) t) rights) (λ (p : ℕ) (es : List Named). each SchemaFieldNotFound p (λ (x : Named). all_known (leaves x.expr) columns) es)

    pub type_fault : (s t columns : Columns) → first_fault n (join_type_checks lefts rights told s t columns) ≡ or_fault (first_fault n (each SchemaMismatch 1 (λ (x : Named). is_key_type o.args.how (expr_type x.expr s)) lefts)) (or_fault (first_fault n (pair_checks o.args.how (1 + length lo) s t lefts rights)) (first_fault n (each SchemaMismatch (1 + length lo + length ro) (λ (x : Named). is_type (expr_type x.expr columns) Boolean) condition)))
    unfolding join_type_checks
    type_fault s t columns =
        three (each SchemaMismatch 1 (λ (x : Named). is_key_type o.args.how (expr_type x.expr s)) lefts) (λ (p : ℕ). pair_checks o.args.how p s t lefts rights) (λ (p : ℕ) (es : List Named). each SchemaMismatch p (λ (x : Named). is_type (expr_type x.expr columns) Boolean) es)

    pub naming_fault : first_fault n (naming_checks (join_exprs lefts rights told)) ≡ or_fault (first_fault n (each SchemaMismatch 1 (λ (x : Named). may_be_named x.name (naming x.expr)) lefts)) (or_fault (first_fault n (each SchemaMismatch (1 + length lo) (λ (x : Named). may_be_named x.name (naming x.expr)) rights)) (first_fault n (each SchemaMismatch (1 + length lo + length ro) (λ (x : Named). may_be_named x.name (naming x.expr)) condition)))
    unfolding naming_checks
    naming_fault =
        let test : Named → Bool = λ x. may_be_named x.name (naming x.expr) in
        let conds : List Named = conditions told.options in
        let second : 1 + length lefts ≡ suc (length lefts) = omega arith in
        let third : suc (length lefts) + length rights ≡ suc (length lefts + length rights) = omega arith in
        ap (first_fault n)
        (ap (each SchemaMismatch 1 test) (append_assoc lefts rights conds)
        ∙ each-append SchemaMismatch 1 test lefts (rights ++ conds)
        ∙ ap (λ (cs : List Check). each SchemaMismatch 1 test lefts ++ cs)
        (ap (λ (p : ℕ). each SchemaMismatch p test (rights ++ conds)) second
        ∙ each-append SchemaMismatch (suc (length lefts)) test rights conds
        ∙ ap (λ (p : ℕ). each SchemaMismatch (suc (length lefts)) test rights ++ each SchemaMismatch p test conds) third))
        ∙ three (each SchemaMismatch 1 test lefts) (λ (p : ℕ). each SchemaMismatch p test rights) (λ (p : ℕ) (es : List Named). each SchemaMismatch p test es)

  -- columns that have the types of others are as good

  known_same : (names : List Name) (s t : Columns) → ((a : Name) → type_of s a ≡ type_of t a) → all_known names s ≡ all_known names t
  known_same [] s t h = refl
  known_same (a ∷ names) s t h = ap₂ (λ (x : Option DataType) (b : Bool). is_some x && b) (h a) (known_same names s t h)

  leaf_same : (s t columns others : Columns) → ((a : Name) → type_of columns a ≡ type_of others a) → join_leaf_checks lefts rights told s t columns ≡ join_leaf_checks lefts rights told s t others
  unfolding join_leaf_checks
  leaf_same s t columns others h =
      ap (λ (cs : List Check). each SchemaFieldNotFound 1 (λ (x : Named). all_known (leaves x.expr) s) lefts ++ (each SchemaFieldNotFound (suc (length lefts)) (λ (x : Named). all_known (leaves x.expr) t) rights ++ cs))
      (each-same SchemaFieldNotFound (suc (length lefts + length rights)) (λ (x : Named). all_known (leaves x.expr) columns) (λ (x : Named). all_known (leaves x.expr) others) (conditions told.options) (λ x. known_same (leaves x.expr) columns others h))

  type_same : (s t columns others : Columns) → ((a : Name) → type_of columns a ≡ type_of others a) → join_type_checks lefts rights told s t columns ≡ join_type_checks lefts rights told s t others
  unfolding join_type_checks
  type_same s t columns others h =
      ap (λ (cs : List Check). each SchemaMismatch 1 (λ (x : Named). is_key_type o.args.how (expr_type x.expr s)) lefts ++ (pair_checks o.args.how (suc (length lefts)) s t lefts rights ++ cs))
      (each-same SchemaMismatch (suc (length lefts + length rights)) (λ (x : Named). is_type (expr_type x.expr columns) Boolean) (λ (x : Named). is_type (expr_type x.expr others) Boolean) (conditions told.options) (λ x. ap (λ (d : Option DataType). is_type d Boolean) (type_within x.expr columns others (λ a i. h a))))

  -- the first fault of the whole

  -- faults of the forms come first
  pub forms_first : (n : Node) (stored s t : Columns) → (rest : List Check) × (first_fault n (join_checks lefts rights stored told s t) ≡ or_fault (first_fault n (join_form_checks lefts rights told)) (first_fault n rest))
  forms_first n stored s t =
      let wide : Columns = join_columns o.args (column_keys lefts) (column_keys rights) s t in
      let rest : List Check = join_leaf_checks lefts rights told s t wide ++ (join_type_checks lefts rights told s t wide ++ (join_once_checks s t wide ++ (stored_checks stored wide ++ naming_checks (join_exprs lefts rights told)))) in
      (rest, fault_append n (join_form_checks lefts rights told) rest)

  module _ (left : All (λ (x : ExprIR). IsExpr ex x.node) lo) (right : All (λ (x : ExprIR). IsExpr ex x.node) ro) where
    pub keys_are : (s t : Columns) → join_columns o.args (column_keys lefts) (column_keys rights) s t ≡ join_columns o.args (key_columns ex lo) (key_columns ex ro) s t
    keys_are s t = ap₂ (λ (l r : List Name). join_columns o.args l r s t) (columns_at ex lo left) (columns_at ex ro right)

    pub join_fault : (n : Node) (stored s t columns : Columns) → ((a : Name) → type_of columns a ≡ type_of (join_columns o.args (key_columns ex lo) (key_columns ex ro) s t) a)
        → first_fault n (join_checks lefts rights stored told s t) ≡ or_fault (first_fault n (join_form_checks lefts rights told)) (or_fault (first_fault n (join_leaf_checks lefts rights told s t columns)) (or_fault (first_fault n (join_type_checks lefts rights told s t columns)) (or_fault (first_fault n (join_once_checks s t (join_columns o.args (key_columns ex lo) (key_columns ex ro) s t))) (or_fault (first_fault n (stored_checks stored (join_columns o.args (key_columns ex lo) (key_columns ex ro) s t))) (first_fault n (naming_checks (join_exprs lefts rights told)))))))
    join_fault n stored s t columns h =
        let wide : Columns = join_columns o.args (key_columns ex lo) (key_columns ex ro) s t in
        let forms : List Check = join_form_checks lefts rights told in
        let known : List Check = join_leaf_checks lefts rights told s t columns in
        let typed : List Check = join_type_checks lefts rights told s t columns in
        let once : List Check = join_once_checks s t wide in
        let names : List Check = naming_checks (join_exprs lefts rights told) in
        ap (λ (w : Columns). first_fault n (forms ++ (join_leaf_checks lefts rights told s t w ++ (join_type_checks lefts rights told s t w ++ (join_once_checks s t w ++ (stored_checks stored w ++ names)))))) (keys_are s t)
        ∙ ap₂ (λ (a b : List Check). first_fault n (forms ++ (a ++ (b ++ (once ++ (stored_checks stored wide ++ names)))))) (sym (leaf_same s t columns wide h)) (sym (type_same s t columns wide h))
        ∙ fault_append n forms (known ++ (typed ++ (once ++ (stored_checks stored wide ++ names))))
        ∙ ap (or_fault (first_fault n forms))
        (fault_append n known (typed ++ (once ++ (stored_checks stored wide ++ names)))
        ∙ ap (or_fault (first_fault n known))
        (fault_append n typed (once ++ (stored_checks stored wide ++ names))
        ∙ ap (or_fault (first_fault n typed))
        (fault_append n once (stored_checks stored wide ++ names)
        ∙ ap (or_fault (first_fault n once)) (fault_append n (stored_checks stored wide) names))))

-- no name comes twice among the columns of either side, nor among those of the join
pub once_none : (n : Node) (s t columns : Columns) → all_differ (names_of s) ≡ true → all_differ (names_of t) ≡ true → all_differ (names_of columns) ≡ true → first_fault n (join_once_checks s t columns) ≡ None
unfolding join_once_checks
once_none n s t columns e f g = rw (e, f, g) refl

-- one does among those of the join
pub once_fault : (n : Node) (s t columns : Columns) → all_differ (names_of s) ≡ true → all_differ (names_of t) ≡ true → all_differ (names_of columns) ≡ false → first_fault n (join_once_checks s t columns) ≡ Some (Duplicate (at n 0))
unfolding join_once_checks
once_fault n s t columns e f g = rw (e, f, g) refl
