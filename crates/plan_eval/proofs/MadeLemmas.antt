-- The types that stored columns have for the expressions of a valid node.
use Rattle.std.proofs.Common.{◌≡◌, ◌∙◌, ◌++◌, All, true, List, [], ◌∷◌, map, Option, Some, is_some, unwrap_or, ap, ap₂, refl, sym, subst}
use Rattle.std.specs.List.{AllByRecursion}
use Rattle.std.proofs.lemmas.List.{map-append}
use Rattle.std.proofs.lemmas.List.Elements.{All-from_recursion}
use Rattle.std.proofs.lemmas.List.Sums.{fold-append}
use Rattle.plan_core.specs.Columns.{Columns, type_of, with_type, with_types}
use Rattle.plan_core.specs.declared.data_type.DataType.{DataType}
use Rattle.plan_core.specs.declared.data_type.DataType.TheVariants.{Int64}
use Rattle.plan_core.proofs.SameLemmas.{same_columns-Decides}
use Rattle.plan_expr.specs.declared.aexpr.AExpr.{AExpr}
use Rattle.plan_expr.specs.declared.expr_ir.ExprIR.{ExprIR}
use Rattle.plan_expr.specs.Exprs.{Named, all_named_at}
use Rattle.plan_expr.specs.Leaves.{Name}
use Rattle.plan_expr.specs.Naming.{name_of}
use Rattle.plan_frame.specs.Grouping.{gathered, group_exprs}
use Rattle.plan_meaning.specs.Typing.{AllHold, made_checks}
use Rattle.plan_frame.specs.Made.{made_column, made_schema}
use Rattle.plan_frame.specs.ExprLists.{out_names}
use Rattle.plan_meaning.proofs.CheckParts.{MadeGood, made_good}
use Rattle.plan_frame.proofs.GroupLemmas.{all_back, all_front}
use Rattle.plan_meaning.proofs.KeptExprs.{new_distinct}
use Rattle.plan_frame.proofs.MadeColumns.{types_made}
use Rattle.plan_function_tables.specs.Given.{stored_column}

abbrev HasType : Columns → Columns → Named → Type 0
HasType stored s e = type_of stored (name_of e.name) ≡ Some (made_column s e).1

are-some : (ex : List AExpr) (stored s : Columns) (es : List ExprIR) → AllByRecursion (HasType stored s) (all_named_at ex es) → AllByRecursion (λ (e : ExprIR). is_some (type_of stored (name_of e.output_name)) ≡ true) es
are-some ex stored s [] h = tt
are-some ex stored s (e ∷ es) h = (ap is_some h.0, are-some ex stored s es h.1)

are-made : (ex : List AExpr) (stored s : Columns) (es : List ExprIR) → AllByRecursion (HasType stored s) (all_named_at ex es) → map (stored_column stored) es ≡ map (made_column s) (all_named_at ex es)
are-made ex stored s [] h = refl
are-made ex stored s (e ∷ es) h = ap₂ (λ (o : Option DataType) (cs : Columns). (name_of e.output_name, unwrap_or o Int64) ∷ cs) h.0 (are-made ex stored s es h.1)

-- each expression of a valid node has its type under its name
have-types : (base : Columns) (es : List Named) (stored s : Columns) → MadeGood base es stored s → AllByRecursion (HasType stored s) es
have-types base es stored s good =
    let same : stored ≡ made_schema base es s = (same_columns-Decides stored (made_schema base es s) true (sym good.same)).0 refl in
    subst (λ (t : Columns). AllByRecursion (HasType t s) es) (sym same) (types_made s base es (new_distinct 1 [] (out_names es) good.once))

module _ (ex : List AExpr) (base : Columns) (es : List ExprIR) (stored s : Columns) (good : MadeGood base (all_named_at ex es) stored s) where
  typed : AllByRecursion (HasType stored s) (all_named_at ex es)
  typed = have-types base (all_named_at ex es) stored s good

  -- each name of an expression is stored
  pub stored-named : All (λ (e : ExprIR). is_some (type_of stored (name_of e.output_name)) ≡ true) es
  stored-named = All-from_recursion _ es (are-some ex stored s es typed)

  -- with the type of the expression
  pub stored-made : map (stored_column stored) es ≡ map (made_column s) (all_named_at ex es)
  stored-made = are-made ex stored s es typed

-- Groupings

gathered-some : (ex : List AExpr) (stored s : Columns) (es : List ExprIR) → AllByRecursion (HasType stored s) (map gathered (all_named_at ex es)) → AllByRecursion (λ (e : ExprIR). is_some (type_of stored (name_of e.output_name)) ≡ true) es
gathered-some ex stored s [] h = tt
gathered-some ex stored s (e ∷ es) h = (ap is_some h.0, gathered-some ex stored s es h.1)

gathered-made : (ex : List AExpr) (stored s : Columns) (es : List ExprIR) → AllByRecursion (HasType stored s) (map gathered (all_named_at ex es)) → map (stored_column stored) es ≡ map (made_column s) (map gathered (all_named_at ex es))
gathered-made ex stored s [] h = refl
gathered-made ex stored s (e ∷ es) h = ap₂ (λ (o : Option DataType) (cs : Columns). (name_of e.output_name, unwrap_or o Int64) ∷ cs) h.0 (gathered-made ex stored s es h.1)

module _ (ex : List AExpr) (keys aggs : List ExprIR) (stored s : Columns) (valid : AllHold (made_checks [] (group_exprs (all_named_at ex keys) (all_named_at ex aggs)) stored s)) where
  abbrev key-exprs : List Named
  key-exprs = all_named_at ex keys

  abbrev agg-exprs : List Named
  agg-exprs = map gathered (all_named_at ex aggs)

  both-typed : AllByRecursion (HasType stored s) (key-exprs ++ agg-exprs)
  both-typed = have-types [] (key-exprs ++ agg-exprs) stored s (made_good [] (key-exprs ++ agg-exprs) stored s valid)

  -- each name of a key is stored, and each of an aggregate
  pub keys-named : All (λ (e : ExprIR). is_some (type_of stored (name_of e.output_name)) ≡ true) keys
  keys-named = All-from_recursion _ keys (are-some ex stored s keys (all_front (HasType stored s) key-exprs agg-exprs both-typed))

  pub aggs-named : All (λ (e : ExprIR). is_some (type_of stored (name_of e.output_name)) ≡ true) aggs
  aggs-named = All-from_recursion _ aggs (gathered-some ex stored s aggs (all_back (HasType stored s) key-exprs agg-exprs both-typed))

  -- with the type that it has for a group
  pub groups-typed : with_types (with_types [] (map (stored_column stored) keys)) (map (stored_column stored) aggs) ≡ made_schema [] (key-exprs ++ agg-exprs) s
  groups-typed =
      let put : Columns → Name × DataType → Columns = λ (t : Columns) (d : Name × DataType). with_type t d.0 d.1 in
      ap₂ (λ (xs ys : Columns). with_types (with_types [] xs) ys)
      (are-made ex stored s keys (all_front (HasType stored s) key-exprs agg-exprs both-typed))
      (gathered-made ex stored s aggs (all_back (HasType stored s) key-exprs agg-exprs both-typed))
      ∙ sym (fold-append put [] (map (made_column s) key-exprs) (map (made_column s) agg-exprs))
      ∙ ap (with_types []) (sym (map-append (made_column s) key-exprs agg-exprs))
