use Rattle.std.proofs.Common.{◌≡◌, ◌++◌, [], ◌∷◌, not, Bool, Option, true, false, is_some, List, sym, ap, ap₂, ◌∙◌, subst, append_assoc}
use Rattle.std.specs.Prelude.{IfOk, IfSome}
use Rattle.plan_core.specs.declared.data_type.DataType.TheVariants.{String}
use Rattle.plan_core.specs.Columns.{Columns, names_of}
use Rattle.plan_core.specs.Names.{has}
use Rattle.plan_expr.specs.Leaves.{Name}
use Rattle.plan_meaning.specs.Functions.{all_differ, unpivoted_names, variable_name, value_name}
use Rattle.plan_frame.specs.Reshaped.{columns_at}
use Rattle.plan_schema.proofs.UnpivotColumns.{differ_front, own_again, own-last}
use Rattle.plan_schema.proofs.unpivot.unpivoted.Goals as goal

pub returns-in_default-clause-some : goal.returns-in_default-clause-some
returns-in_default-clause-some c =
    let bad : all_differ c.args.args.now.index ≡ false = ap all_differ (sym c.as_slice.ensures) ∙ sym c.in_ok-repeated.ensures.some ∙ ap (λ (o : Option Columns). is_some o) c.in_default.is in
    sym (differ_front c.args.args.now.index (variable_name c.args.args.now ∷ value_name c.args.args.now ∷ []) bad)

pub returns-in_default-2-clause-some : goal.returns-in_default-2-clause-some
returns-in_default-2-clause-some c =
    let index : List Name = c.args.args.now.index in
    let made : c.in-Some.repeated ≡ columns_at c.args.schema.now index = subst (λ (o : Option Columns). IfSome o (λ (s : Columns). s ≡ columns_at c.args.schema.now c.as_slice.result.now)) c.in-Some.is c.in_ok-repeated.ensures.columns ∙ ap (columns_at c.args.schema.now) c.as_slice.ensures in
    let old : not (has (names_of c.in-Some.repeated) (variable_name c.args.args.now)) ≡ false =
    ap (λ (a : Name). not (has (names_of c.in-Some.repeated) a)) (sym c.in_ok-variable_name.ensures) ∙ sym c.in_ok-named.ensures.some ∙ ap (λ (o : Option Columns). is_some o) c.in_default-2.is in
    sym (own_again c.args.schema.now c.in-Some.repeated index made (variable_name c.args.args.now) (value_name c.args.args.now) old)

pub returns-clause-columns : goal.returns-clause-columns
returns-clause-columns c =
    let index : List Name = c.args.args.now.index in
    let made : c.in-Some.repeated ≡ columns_at c.args.schema.now index = subst (λ (o : Option Columns). IfSome o (λ (s : Columns). s ≡ columns_at c.args.schema.now c.as_slice.result.now)) c.in-Some.is c.in_ok-repeated.ensures.columns ∙ ap (columns_at c.args.schema.now) c.as_slice.ensures in
    let named : c.in-Some-2.named ≡ c.in-Some.repeated ++ (c.in_ok-variable_name.field-0, String) ∷ [] = subst (λ (o : Option Columns). IfSome o (λ (s : Columns). s ≡ c.in-Some.repeated ++ (c.in_ok-variable_name.field-0, String) ∷ [])) c.in-Some-2.is c.in_ok-named.ensures.columns in
    let all : c.in-Some-2.named ++ (c.in_ok-value_name.field-0, c.args.dtype) ∷ [] ≡ columns_at c.args.schema.now index ++ (variable_name c.args.args.now, String) ∷ (value_name c.args.args.now, c.args.dtype) ∷ [] =
    ap₂ (λ (s : Columns) (a : Name). s ++ (a, c.args.dtype) ∷ []) named c.in_ok-value_name.ensures
    ∙ append_assoc c.in-Some.repeated ((c.in_ok-variable_name.field-0, String) ∷ []) ((value_name c.args.args.now, c.args.dtype) ∷ [])
    ∙ ap₂ (λ (s : Columns) (a : Name). s ++ (a, String) ∷ (value_name c.args.args.now, c.args.dtype) ∷ []) made c.in_ok-variable_name.ensures in
    subst (λ (t : Columns). IfOk c.with_new-4.result (λ (o : Option Columns). IfSome o (λ (s : Columns). s ≡ t))) all c.with_new-4.ensures.columns

pub returns-clause-some : goal.returns-clause-some
returns-clause-some c =
    let index : List Name = c.args.args.now.index in
    let made : c.in-Some.repeated ≡ columns_at c.args.schema.now index = subst (λ (o : Option Columns). IfSome o (λ (s : Columns). s ≡ columns_at c.args.schema.now c.as_slice.result.now)) c.in-Some.is c.in_ok-repeated.ensures.columns ∙ ap (columns_at c.args.schema.now) c.as_slice.ensures in
    let named : c.in-Some-2.named ≡ c.in-Some.repeated ++ (variable_name c.args.args.now, String) ∷ [] = subst (λ (o : Option Columns). IfSome o (λ (s : Columns). s ≡ c.in-Some.repeated ++ (c.in_ok-variable_name.field-0, String) ∷ [])) c.in-Some-2.is c.in_ok-named.ensures.columns ∙ ap (λ (a : Name). c.in-Some.repeated ++ (a, String) ∷ []) c.in_ok-variable_name.ensures in
    let differ : all_differ index ≡ true = ap all_differ (sym c.as_slice.ensures) ∙ sym c.in_ok-repeated.ensures.some ∙ ap (λ (o : Option Columns). is_some o) c.in-Some.is in
    let new : not (has (names_of c.in-Some.repeated) (variable_name c.args.args.now)) ≡ true =
    ap (λ (a : Name). not (has (names_of c.in-Some.repeated) a)) (sym c.in_ok-variable_name.ensures) ∙ sym c.in_ok-named.ensures.some ∙ ap (λ (o : Option Columns). is_some o) c.in-Some-2.is in
    let last : not (has (names_of c.in-Some-2.named) c.in_ok-value_name.field-0) ≡ all_differ (unpivoted_names c.args.args.now) =
    ap (λ (a : Name). not (has (names_of c.in-Some-2.named) a)) c.in_ok-value_name.ensures ∙ sym (own-last c.args.schema.now c.in-Some.repeated index made (variable_name c.args.args.now) (value_name c.args.args.now) c.in-Some-2.named String differ new named) in
    subst (λ (b : Bool). IfOk c.with_new-4.result (λ (o : Option Columns). is_some o ≡ b)) last c.with_new-4.ensures.some
