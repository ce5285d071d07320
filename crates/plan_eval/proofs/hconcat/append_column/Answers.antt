use Rattle.std.proofs.Common.{◌≡◌, ◌∙◌, Bool, Bor, List, Option, Some, None, is_some, refl, sym, ap}
use Rattle.std.specs.Option.{option_copied}
use Rattle.std.proofs.lemmas.Result.{on_ok_weaker}
use Rattle.std.specs.List.{range_with_len}
use Rattle.plan_expr.specs.Leaves.{Name}
use Rattle.plan_frame.specs.Frames.{Column, picked}
use Rattle.plan_table.specs.declared.column.Column.{Column as Typed}
use Rattle.plan_table.specs.Tables.{column_of, types_of}
use Rattle.plan_value.specs.Shown.{columns_shown, values_of}
use Rattle.plan_eval.proofs.BesideLemmas.{kept-shown, kept-types, new-shown, new-types}
use Rattle.plan_eval.proofs.hconcat.append_column.Goals as goal

copied : (o : Option (Bor Typed)) → is_some (option_copied o) ≡ is_some o
copied None = refl
copied (Some c) = refl

-- a column is found where the call finds one
there : (cs : List Typed) (a b : Name) (o : Option (Bor Typed)) (t u : Bool) → option_copied o ≡ column_of cs b → b ≡ a → t ≡ is_some o → t ≡ u → is_some (column_of cs a) ≡ u
there cs a b o t u found same is e = ap (λ (x : Name). is_some (column_of cs x)) (sym same) ∙ sym (ap is_some found) ∙ copied o ∙ sym is ∙ e

pub returns-then-is_some-clause-shown : goal.returns-then-is_some-clause-shown
returns-then-is_some-clause-shown c =
    let cs = c.args.columns.now in
    let own = c.args.column in
    let x : Column = record { name = own.name; values = picked (range_with_len 0 c.args.height) (values_of own.values) } in
    kept-shown cs x own.dtype (there cs own.name c.as_str.result.now c.get.result c.is_some.result _ c.get.ensures c.as_str.ensures c.is_some.ensures c.if-is_some.true)

pub returns-then-is_some-clause-types : goal.returns-then-is_some-clause-types
returns-then-is_some-clause-types c =
    let cs = c.args.columns.now in
    let own = c.args.column in
    let x : Column = record { name = own.name; values = picked (range_with_len 0 c.args.height) (values_of own.values) } in
    kept-types cs x own.dtype (there cs own.name c.as_str.result.now c.get.result c.is_some.result _ c.get.ensures c.as_str.ensures c.is_some.ensures c.if-is_some.true)

pub returns-clause-shown : goal.returns-clause-shown
returns-clause-shown c =
    let cs = c.args.columns.now in
    let own = c.args.column in
    let d = c.in_ok-levelled.field-0 in
    let x : Column = record { name = own.name; values = picked (range_with_len 0 c.args.height) (values_of own.values) } in
    let new = there cs own.name c.as_str.result.now c.get.result c.is_some.result _ c.get.ensures c.as_str.ensures c.is_some.ensures c.if-is_some.false in
    on_ok_weaker c.with_column.result (λ e. ap columns_shown e ∙ new-shown cs x own.dtype d c.in_ok-levelled.ensures.shown c.in_ok-levelled.ensures.dtype new) c.with_column.ensures.after

pub returns-clause-types : goal.returns-clause-types
returns-clause-types c =
    let cs = c.args.columns.now in
    let own = c.args.column in
    let d = c.in_ok-levelled.field-0 in
    let x : Column = record { name = own.name; values = picked (range_with_len 0 c.args.height) (values_of own.values) } in
    let new = there cs own.name c.as_str.result.now c.get.result c.is_some.result _ c.get.ensures c.as_str.ensures c.is_some.ensures c.if-is_some.false in
    on_ok_weaker c.with_column.result (λ e. ap types_of e ∙ new-types cs x own.dtype d c.in_ok-levelled.ensures.shown c.in_ok-levelled.ensures.dtype new) c.with_column.ensures.after
