use Rattle.std.proofs.Common.{◌≡◌, ◌∙◌, ◌+◌, ap, inr, refl, subst, sym, Option, Some, ℕ}
use Rattle.std.specs.List.{slice_get}
use Rattle.std.proofs.lemmas.Option.{slice_get_read}
use Rattle.std.proofs.lemmas.Result.{err_from_is_err_and}
use Rattle.plan_dsl_schema.proofs.SchemaLemmas.{IsPassed, passed_fault, passed_next, passed_none}
use Rattle.plan_dsl_schema.proofs.schema.expressions_to_schema.Goals as goal

pub loop-place-init : goal.loop-place-init
loop-place-init c = passed_none c.args.context c.args.schema.now c.args.exprs.now c.new-made.result c.new-made.ensures

pub returns-in_err-dtype-clause-refused : goal.returns-in_err-dtype-clause-refused
returns-in_err-dtype-clause-refused c =
    let here : slice_get c.args.exprs.now c.loop-place.place ≡ Some c.index-exprs-place.result = slice_get_read c.args.exprs.now _ c.loop-place.place c.index-exprs-place.result refl c.loop-place-test.true c.index-exprs-place.is in
    let p = err_from_is_err_and c.from_residual.result c.from_residual.ensures.1 in
    rw (p.1, p.2) (inr (passed_fault c.args.context c.args.schema.now c.args.exprs.now c.loop-place.place c.index-exprs-place.result _ c.loop-place.made c.loop-place.repeated c.loop-place.invariant here c.in_err-dtype.ensures.refused))

pub loop-place-preserved : goal.loop-place-preserved
loop-place-preserved c =
    let here : slice_get c.args.exprs.now c.loop-place.place ≡ Some c.index-exprs-place.result = slice_get_read c.args.exprs.now _ c.loop-place.place c.index-exprs-place.result refl c.loop-place-test.true c.index-exprs-place.is in
    let more = passed_next c.args.context c.args.schema.now c.args.exprs.now c.loop-place.place c.index-exprs-place.result c.in_ok-name.name c.in_ok-dtype.dtype c.loop-place.made c.add_column.new.made c.in_ok-is_new.is_new c.loop-place.repeated
    c.loop-place.invariant here c.in_ok-dtype.ensures.faultless (c.form_name.ensures ∙ ap Some (sym c.in_ok-name.ensures)) c.in_ok-dtype.ensures.dtype c.in_ok-is_new.ensures.new c.in_ok-is_new.ensures.added in
    subst (λ (r : Option ℕ). IsPassed c.args.context c.args.schema.now c.args.exprs.now (c.loop-place.place + 1) c.add_column.new.made r) (sym c.first_repeated-repeated.ensures) more
