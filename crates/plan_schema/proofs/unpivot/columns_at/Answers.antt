use Rattle.std.proofs.Common.{◌≡◌, ◌++◌, [], ◌∷◌, not, Option, Some, true, false, is_some, sym, ap, ◌∙◌, subst, arith}
use Rattle.std.specs.List.{slice_get}
use Rattle.std.specs.Prelude.{IfSome}
use Rattle.plan_core.specs.Columns.{Columns, names_of}
use Rattle.plan_core.specs.Names.{has}
use Rattle.plan_expr.specs.Leaves.{Name}
use Rattle.plan_frame.specs.Reshaped.{type_or}
use Rattle.plan_frame.proofs.ScalarExprs.{item_here}
use Rattle.plan_schema.proofs.UnpivotColumns.{made-next, made_new, made_again}
use Rattle.plan_schema.proofs.unpivot.columns_at.Goals as goal

pub returns-in_default-clause-some : goal.returns-in_default-clause-some
returns-in_default-clause-some c =
    let item : slice_get c.args.names.now c.loop-name.name-index ≡ Some c.name-item.result = item_here c.args.names.now c.loop-name.name-index c.name-item.result (omega arith) c.name-item.is in
    let old : not (has (names_of c.loop-name.made) c.name-item.result) ≡ false =
    ap (λ (a : Name). not (has (names_of c.loop-name.made) a)) (sym c.in_ok-try_clone.ensures) ∙ sym c.in_ok-more.ensures.some ∙ ap (λ (o : Option Columns). is_some o) c.in_default.is in
    sym (made_again c.args.schema.now c.loop-name.made c.args.names.now c.loop-name.name-index c.name-item.result item c.loop-name.invariant.0 old)

pub loop-name-preserved : goal.loop-name-preserved
loop-name-preserved c =
    let item : slice_get c.args.names.now c.loop-name.name-index ≡ Some c.name-item.result = item_here c.args.names.now c.loop-name.name-index c.name-item.result (omega arith) c.name-item.is in
    let new : not (has (names_of c.loop-name.made) c.name-item.result) ≡ true =
    ap (λ (a : Name). not (has (names_of c.loop-name.made) a)) (sym c.in_ok-try_clone.ensures) ∙ sym c.in_ok-more.ensures.some ∙ ap (λ (o : Option Columns). is_some o) c.in-Some.is in
    let more : c.in-Some.more ≡ c.loop-name.made ++ (c.in_ok-try_clone.field-0, c.type_or-dtype.result) ∷ [] =
    subst (λ (o : Option Columns). IfSome o (λ (s : Columns). s ≡ c.loop-name.made ++ (c.in_ok-try_clone.field-0, c.type_or-dtype.result) ∷ [])) c.in-Some.is c.in_ok-more.ensures.columns in
    let named : c.in_ok-try_clone.field-0 ≡ c.name-item.result = c.in_ok-try_clone.ensures in
    let typed : c.type_or-dtype.result ≡ type_or c.args.schema.now c.name-item.result = c.type_or-dtype.ensures ∙ ap (type_or c.args.schema.now) c.as_str.ensures in (
      rw (more, named, typed) (made-next c.args.schema.now c.loop-name.made c.args.names.now c.loop-name.name-index c.name-item.result item c.loop-name.invariant.0),
      made_new c.args.schema.now c.loop-name.made c.args.names.now c.loop-name.name-index c.name-item.result item c.loop-name.invariant.0 c.loop-name.invariant.1 new,
    )
