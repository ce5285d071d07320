-- The checks on the keys and the aggregates of a grouping, and the columns that they make, said of their numbers.
use Rattle.std.proofs.Common.{◌≡◌, ℕ, zero, suc, ◌+◌, ◌&&◌, Bool, true, false, cond, List, [], ◌∷◌, ◌++◌, length, map, take, unwrap_or, All, subst, Option, Some, None, is_some, refl, sym, ap, ap₂, ◌∙◌, add-one}
use Rattle.std.specs.Prelude.{option_and_then}
use Rattle.std.specs.List.{slice_get}
use Rattle.std.proofs.lemmas.List.Elements.{All-append, All-take, All-drop}
use Rattle.std.proofs.Math.Seq.{take-append_seam, drop-append_seam}
use Rattle.std.proofs.lemmas.List.{map-append, length-map}
use Rattle.plan_core.specs.declared.data_type.DataType.{DataType}
use Rattle.plan_core.specs.declared.data_type.DataType.TheVariants.{Int64}
use Rattle.plan_core.specs.declared.arena.Node.{Node}
use Rattle.plan_core.specs.declared.error.At.{At}
use Rattle.plan_core.specs.declared.error.PolarsError.{PolarsError}
use Rattle.plan_core.specs.declared.error.PolarsError.TheVariants.{InvalidOperation, SchemaFieldNotFound, SchemaMismatch}
use Rattle.plan_core.specs.Columns.{Columns, with_type}
use Rattle.plan_tree.specs.Rose.{rose, no_roses, more}
use Rattle.plan_expr.specs.declared.aexpr.AExpr.{AExpr}
use Rattle.plan_expr.specs.declared.agg.Aggregate.TheVariants.{Implode}
use Rattle.plan_expr.specs.declared.expr_ir.ExprIR.{ExprIR}
use Rattle.plan_expr.specs.Exprs.{aggregate, Expr, Named, named_at, all_named_at, expr_at}
use Rattle.plan_expr.specs.Operands.{IsExpr}
use Rattle.plan_expr.specs.Forms.{has_form}
use Rattle.plan_expr.specs.Leaves.{Name, leaves}
use Rattle.plan_expr.specs.Naming.{Naming, by_column, by_literal, by_alias, unnamed, or_naming, naming, may_be_named, name_of}
use Rattle.plan_expr.specs.Scalars.{is_scalar}
use Rattle.plan_expr.specs.Types.{list_of, all_of}
use Rattle.plan_frame.specs.Exprs.{all_known, expr_type, op_type}
use Rattle.plan_frame.specs.Grouping.{gathered, gathered_expr, group_exprs}
use Rattle.plan_meaning.specs.Checks.{Check, check, each, each_new, form_checks, leaf_checks, type_checks, once_checks, stored_checks, naming_checks}
use Rattle.plan_meaning.specs.Typing.{first_fault, or_fault, made_checks}
use Rattle.plan_frame.specs.Made.{made_schema}
use Rattle.plan_frame.specs.ExprLists.{out_names}
use Rattle.plan_frame.proofs.GroupLemmas.{gathered-leaves, gathered-names}
use Rattle.plan_schema.proofs.CheckLemmas.{each-map, fault_append}
use Rattle.plan_check_parts.proofs.EachLemmas.{each-append}

-- gathered expressions

and_true : (b : Bool) → (b && true) ≡ b
and_true true = refl
and_true false = refl

gathered-form : (e : Expr) → has_form (gathered_expr e) ≡ has_form e
gathered-form e = at (is_scalar e)
  where
    at : (b : Bool) → has_form (cond b e (rose tt (aggregate Implode) (more e no_roses))) ≡ has_form e
    at true = refl
    at false = and_true (has_form e)

or_unnamed : (m : Naming) → or_naming m unnamed ≡ m
or_unnamed (by_column a) = refl
or_unnamed (by_literal a) = refl
or_unnamed (by_alias a) = refl
or_unnamed unnamed = refl

gathered-naming : (e : Expr) → naming (gathered_expr e) ≡ naming e
gathered-naming e = at (is_scalar e)
  where
    at : (b : Bool) → naming (cond b e (rose tt (aggregate Implode) (more e no_roses))) ≡ naming e
    at true = refl
    at false = or_unnamed (naming e)

-- the type for a group, from that for each row
pub gathered-type : (e : Expr) (s : Columns) → expr_type (gathered_expr e) s ≡ cond (is_scalar e) (expr_type e s) (option_and_then list_of (expr_type e s))
gathered-type e s = at (is_scalar e)
  where
    lists : (o : Option DataType) → option_and_then (op_type (aggregate Implode) s) (all_of (o ∷ [])) ≡ option_and_then list_of o
    lists None = refl
    lists (Some t) = refl

    at : (b : Bool) → expr_type (cond b e (rose tt (aggregate Implode) (more e no_roses))) s ≡ cond b (expr_type e s) (option_and_then list_of (expr_type e s))
    at true = refl
    at false = lists (expr_type e s)

-- checks on keys and on gathered aggregates

module _ (fault : At → PolarsError) (holds : Named → Bool) (same : (e : Named) → holds (gathered e) ≡ holds e) where
  aggs_alike : (k : ℕ) (aggs : List Named) → each fault k holds (map gathered aggs) ≡ each fault k holds aggs
  aggs_alike k [] = refl
  aggs_alike k (e ∷ aggs) = ap₂ (λ (b : Bool) (cs : List Check). check fault k b ∷ cs) (same e) (aggs_alike (suc k) aggs)

  -- a check that holds of a gathered aggregate where it holds of the aggregate
  alike : (k : ℕ) (keys aggs : List Named) → each fault k holds (group_exprs keys aggs) ≡ each fault k holds (keys ++ aggs)
  alike k [] aggs = aggs_alike k aggs
  alike k (e ∷ keys) aggs = ap (λ (cs : List Check). check fault k (holds e) ∷ cs) (alike (suc k) keys aggs)

module _ (ex : List AExpr) (keys aggs : List ExprIR) where
  together : all_named_at ex keys ++ all_named_at ex aggs ≡ all_named_at ex (keys ++ aggs)
  together = sym (map-append (named_at ex) keys aggs)

  pub group_forms : form_checks (group_exprs (all_named_at ex keys) (all_named_at ex aggs)) ≡ form_checks (all_named_at ex (keys ++ aggs))
  unfolding form_checks
  group_forms =
      alike InvalidOperation (λ (e : Named). has_form e.expr) (λ e. gathered-form e.expr) 1 (all_named_at ex keys) (all_named_at ex aggs)
      ∙ ap (each InvalidOperation 1 (λ (e : Named). has_form e.expr)) together

  pub group_leaves : (s : Columns) → leaf_checks (group_exprs (all_named_at ex keys) (all_named_at ex aggs)) s ≡ leaf_checks (all_named_at ex (keys ++ aggs)) s
  unfolding leaf_checks
  group_leaves s =
      alike SchemaFieldNotFound (λ (e : Named). all_known (leaves e.expr) s) (λ e. ap (λ (l : List Name). all_known l s) (gathered-leaves e.expr)) 1 (all_named_at ex keys) (all_named_at ex aggs)
      ∙ ap (each SchemaFieldNotFound 1 (λ (e : Named). all_known (leaves e.expr) s)) together

  pub group_namings : naming_checks (group_exprs (all_named_at ex keys) (all_named_at ex aggs)) ≡ naming_checks (all_named_at ex (keys ++ aggs))
  unfolding naming_checks
  group_namings =
      alike SchemaMismatch (λ (e : Named). may_be_named e.name (naming e.expr)) (λ e. ap (may_be_named e.name) (gathered-naming e.expr)) 1 (all_named_at ex keys) (all_named_at ex aggs)
      ∙ ap (each SchemaMismatch 1 (λ (e : Named). may_be_named e.name (naming e.expr))) together

  pub group_once : once_checks (group_exprs (all_named_at ex keys) (all_named_at ex aggs)) ≡ once_checks (all_named_at ex (keys ++ aggs))
  unfolding once_checks
  group_once =
      let ks = all_named_at ex keys in
      let gs = all_named_at ex aggs in
      let own : Named → Name = λ e. name_of e.name in
      ap (each_new 1 [])
      (map-append own ks (map gathered gs) ∙ ap (λ (l : List Name). map own ks ++ l) (gathered-names gs) ∙ sym (map-append own ks gs) ∙ ap out_names together)

  -- the types of the keys, and then those of the aggregates for a group
  pub group_types : (n : Node) (s : Columns) → first_fault n (type_checks (group_exprs (all_named_at ex keys) (all_named_at ex aggs)) s) ≡ or_fault (first_fault n (type_checks (all_named_at ex keys) s)) (first_fault n (each SchemaMismatch (1 + length keys) (λ (e : Named). is_some (expr_type e.expr s)) (map gathered (all_named_at ex aggs))))
  unfolding type_checks
  group_types n s =
      let typed : Named → Bool = λ e. is_some (expr_type e.expr s) in
      let gs = map gathered (all_named_at ex aggs) in
      ap (first_fault n) (each-append SchemaMismatch 1 typed (all_named_at ex keys) gs)
      ∙ fault_append n (each SchemaMismatch 1 typed (all_named_at ex keys)) (each SchemaMismatch (1 + length (all_named_at ex keys)) typed gs)
      ∙ ap (λ (j : ℕ). or_fault (first_fault n (each SchemaMismatch 1 typed (all_named_at ex keys))) (first_fault n (each SchemaMismatch (1 + j) typed gs))) (length-map keys (named_at ex))

-- the check on the types of aggregates for a group, said of their numbers
pub gathered-at : (ex : List AExpr) (k : ℕ) (es : List ExprIR) (s : Columns) → each SchemaMismatch k (λ (e : Named). is_some (expr_type e.expr s)) (map gathered (all_named_at ex es)) ≡ each SchemaMismatch k (λ (e : ExprIR). is_some (expr_type (gathered_expr (expr_at ex e.node)) s)) es
gathered-at ex k es s =
    sym (each-map SchemaMismatch k (λ (e : Named). is_some (expr_type e.expr s)) gathered (all_named_at ex es))
    ∙ sym (each-map SchemaMismatch k (λ (e : Named). is_some (expr_type (gathered_expr e.expr) s)) (named_at ex) es)

-- columns

-- the columns of expressions, and then of others
made-append : (base : Columns) (xs ys : List Named) (s : Columns) → made_schema base (xs ++ ys) s ≡ made_schema (made_schema base xs s) ys s
made-append base [] ys s = refl
made-append base (x ∷ xs) ys s = made-append (with_type base (name_of x.name) (unwrap_or (expr_type x.expr s) Int64)) xs ys s

-- the columns of keys, and then of aggregates
pub group_made : (made : Columns) (keys aggs : List Named) (s : Columns) → made ≡ made_schema [] keys s → made_schema made (map gathered aggs) s ≡ made_schema [] (group_exprs keys aggs) s
group_made made keys aggs s e = ap (λ (base : Columns). made_schema base (map gathered aggs) s) e ∙ sym (made-append [] keys (map gathered aggs) s)

-- the columns of aggregates, with those of one more
gathered_suc : (ex : List AExpr) (base : Columns) (es : List ExprIR) (s : Columns) (i : ℕ) (e : ExprIR) → slice_get es i ≡ Some e → with_type (made_schema base (map gathered (all_named_at ex (take i es))) s) (name_of e.output_name) (unwrap_or (expr_type (gathered_expr (expr_at ex e.node)) s) Int64) ≡ made_schema base (map gathered (all_named_at ex (take (suc i) es))) s
gathered_suc ex base [] s i e k = cc
gathered_suc ex base (x ∷ es) s zero e k = let q : e ≡ x = cc in ap (λ (y : ExprIR). with_type base (name_of y.output_name) (unwrap_or (expr_type (gathered_expr (expr_at ex y.node)) s) Int64)) q
gathered_suc ex base (x ∷ es) s (suc i) e k = gathered_suc ex (with_type base (name_of x.output_name) (unwrap_or (expr_type (gathered_expr (expr_at ex x.node)) s) Int64)) es s i e k

pub gathered-next : (ex : List AExpr) (base : Columns) (es : List ExprIR) (s : Columns) (i : ℕ) (e : ExprIR) → slice_get es i ≡ Some e → with_type (made_schema base (map gathered (all_named_at ex (take i es))) s) (name_of e.output_name) (unwrap_or (expr_type (gathered_expr (expr_at ex e.node)) s) Int64) ≡ made_schema base (map gathered (all_named_at ex (take (i + 1) es))) s
gathered-next ex base es s i e k = gathered_suc ex base es s i e k ∙ ap (λ (n : ℕ). made_schema base (map gathered (all_named_at ex (take n es))) s) (sym (add-one i))

-- the first fault of a grouping, by the keys and the aggregates as they are written
pub group_fault : (n : Node) (ex : List AExpr) (keys aggs : List ExprIR) (stored s : Columns) → first_fault n (made_checks [] (group_exprs (all_named_at ex keys) (all_named_at ex aggs)) stored s) ≡ or_fault (first_fault n (form_checks (all_named_at ex (keys ++ aggs)))) (or_fault (first_fault n (leaf_checks (all_named_at ex (keys ++ aggs)) s)) (or_fault (first_fault n (type_checks (group_exprs (all_named_at ex keys) (all_named_at ex aggs)) s)) (or_fault (first_fault n (once_checks (all_named_at ex (keys ++ aggs)))) (or_fault (first_fault n (stored_checks stored (made_schema [] (group_exprs (all_named_at ex keys) (all_named_at ex aggs)) s))) (first_fault n (naming_checks (all_named_at ex (keys ++ aggs))))))))
unfolding made_checks
group_fault n ex keys aggs stored s =
    rw (sym (group_forms ex keys aggs), sym (group_leaves ex keys aggs s), sym (group_once ex keys aggs), sym (group_namings ex keys aggs))
    (simp (fault_append n) refl)

-- all that holds of keys and of aggregates holds of both
pub both_stand : (ex : List AExpr) (keys aggs exprs : List ExprIR) → exprs ≡ keys ++ aggs → All (λ (e : ExprIR). IsExpr ex e.node) keys → All (λ (e : ExprIR). IsExpr ex e.node) aggs → All (λ (e : ExprIR). IsExpr ex e.node) exprs
both_stand ex keys aggs exprs e h k = subst (All (λ (x : ExprIR). IsExpr ex x.node)) (sym e) (All-append (λ (x : ExprIR). IsExpr ex x.node) keys aggs h k)

-- and what holds of both holds of each
pub keys_stand : (ex : List AExpr) (keys aggs : List ExprIR) → All (λ (e : ExprIR). IsExpr ex e.node) (keys ++ aggs) → All (λ (e : ExprIR). IsExpr ex e.node) keys
keys_stand ex keys aggs h = subst (All (λ (e : ExprIR). IsExpr ex e.node)) (take-append_seam keys aggs) (All-take (λ (e : ExprIR). IsExpr ex e.node) (length keys) (keys ++ aggs) h)

pub aggs_stand : (ex : List AExpr) (keys aggs : List ExprIR) → All (λ (e : ExprIR). IsExpr ex e.node) (keys ++ aggs) → All (λ (e : ExprIR). IsExpr ex e.node) aggs
aggs_stand ex keys aggs h = subst (All (λ (e : ExprIR). IsExpr ex e.node)) (drop-append_seam keys aggs) (All-drop (λ (e : ExprIR). IsExpr ex e.node) (length keys) (keys ++ aggs) h)
