use Rattle.std.proofs.Common.{◌≡◌, ◌∙◌, ap, sym, rules, Bool, true, false, if◌then◌else◌, is_some, None, Some}
use Rattle.std.specs.List.{list_all}
use Rattle.plan_dsl.specs.declared.expr.AggExpr.TheViews.{the_lemmas}
use Rattle.plan_expr.specs.Types.{aggregate_type}
use Rattle.plan_dsl.specs.Typing.{expr_type}
use Rattle.plan_dsl.proofs.TypeLemmas.{agg_typed, function_many, row_typed-is, row_types-is}
use Rattle.plan_dsl_schema.proofs.typing.+types.Goals as goal

pub expr_type-returns-in_err-expr_type-in-Agg : goal.expr_type-returns-in_err-expr_type-in-Agg
expr_type-returns-in_err-expr_type-in-Agg t c =
    let none : c.expr_type-in-Agg.result ≡ None = search rules in
    let typed = agg_typed c.args.schema.now c.args.expr.now c.input.result.now c.in-Agg.agg c.expr_type-in-Agg.result None c.in-Agg.is c.input.ensures c.expr_type-in-Agg.ensures none in
    let given : c.from_residual-in_err-expr_type-in-Agg.result ≡ None = search rules in
    given ∙ sym typed

pub expr_type-returns-in_ok-expr_type-in-Agg : goal.expr_type-returns-in_ok-expr_type-in-Agg
expr_type-returns-in_ok-expr_type-in-Agg t c =
    let there : c.expr_type-in-Agg.result ≡ Some c.in_ok-expr_type-in-Agg.field-0 = search rules in
    let typed = agg_typed c.args.schema.now c.args.expr.now c.input.result.now c.in-Agg.agg c.expr_type-in-Agg.result (Some c.in_ok-expr_type-in-Agg.field-0) c.in-Agg.is c.input.ensures c.expr_type-in-Agg.ensures there in
    c.aggregate_type.ensures ∙ ap (λ k. aggregate_type k c.in_ok-expr_type-in-Agg.field-0) c.aggregate.ensures ∙ sym typed

pub expr_type-returns-in-Function : goal.expr_type-returns-in-Function
expr_type-returns-in-Function t c = search (rules, the_lemmas, row_types-is)

pub expr_type-returns-then-all_typed : goal.expr_type-returns-then-all_typed
expr_type-returns-then-all_typed t c =
    let kind : expr_type c.args.schema.now c.args.expr.now ≡ (if list_all (λ e. is_some (expr_type c.args.schema.now e)) c.in-Window.partition_by.items then expr_type c.args.schema.now c.in-Window.function.value else None) = search (rules, the_lemmas, row_typed-is) in
    let typed : list_all (λ e. is_some (expr_type c.args.schema.now e)) c.in-Window.partition_by.items ≡ true = search rules in
    let same : c.expr_type-then-all_typed.result ≡ expr_type c.args.schema.now c.in-Window.function.value = search rules in
    same ∙ sym (kind ∙ ap (λ (b : Bool). if b then expr_type c.args.schema.now c.in-Window.function.value else None) typed)

pub expr_type-returns-else-all_typed : goal.expr_type-returns-else-all_typed
expr_type-returns-else-all_typed t c =
    let kind : expr_type c.args.schema.now c.args.expr.now ≡ (if list_all (λ e. is_some (expr_type c.args.schema.now e)) c.in-Window.partition_by.items then expr_type c.args.schema.now c.in-Window.function.value else None) = search (rules, the_lemmas, row_typed-is) in
    let typed : list_all (λ e. is_some (expr_type c.args.schema.now e)) c.in-Window.partition_by.items ≡ false = search rules in
    sym (kind ∙ ap (λ (b : Bool). if b then expr_type c.args.schema.now c.in-Window.function.value else None) typed)

pub function_type-returns-in_default-2 : goal.function_type-returns-in_default-2
function_type-returns-in_default-2 t c = sym (function_many c.args.function (expr_type c.args.schema.now) c.args.inputs.now c.in_default.len_at_least)
