use Rattle.std.proofs.Common.{◌≡◌, ◌∙◌, ◌++◌, ◌∷◌, [], List, Option, Some, ap, sym, subst, unwrap_or}
use Rattle.std.specs.List.{slice_get}
use Rattle.plan_core.specs.declared.data_type.DataType.{DataType}
use Rattle.plan_core.specs.Columns.{Columns, without}
use Rattle.plan_meaning.specs.Functions.{renamed}
use Rattle.plan_check.specs.Renamed.{MakeUp}
use Rattle.plan_check.specs.declared.renamed.TakenColumn.{TakenColumn}
use Rattle.plan_check.proofs.RenamedLemmas.{left-none, left-one}
use Rattle.plan_check.proofs.renamed.take_column.Goals as goal

pub returns-in_default : goal.returns-in_default
returns-in_default c = λ old_names new_names made h. left-none c.args.old.now c.args.new.now old_names new_names c.args.taken.now c.args.columns.now made c.in_default.ensures.absent h

pub returns : goal.returns
returns c = λ old_names new_names made h.
    let t : TakenColumn = record { index = c.in-Some.index; name = c.in_ok-name.name; dtype = c.in-Some-shift_remove.dtype } in
    let stands = c.in-Some.ensures.stands in
    let found : Some c.in-Some-shift_remove.dtype ≡ Some stands.0 = sym c.in-Some-shift_remove.is ∙ c.shift_remove.ensures.given ∙ stands.2 in
    let same : c.in-Some-shift_remove.dtype ≡ stands.0 = ap (λ (o : Option DataType). unwrap_or o c.in-Some-shift_remove.dtype) found in
    let here : slice_get c.args.columns.now c.in-Some.index ≡ Some (c.args.old.now, c.in-Some-shift_remove.dtype) = stands.1 ∙ ap (λ (d : DataType). Some (c.args.old.now, d)) (sym same) in
    let is : MakeUp (c.args.taken.now ++ t ∷ []) (without c.args.columns.now c.args.old.now) (renamed old_names new_names) made = left-one c.args.old.now c.args.new.now old_names new_names c.args.taken.now c.args.columns.now made t c.len-len.ensures.distinct here c.in_ok-name.ensures h in
    subst (λ (l : List TakenColumn). MakeUp l c.shift_remove.new.self (renamed old_names new_names) made) (sym c.in_ok-push.ensures.pushed)
    (subst (λ (s : Columns). MakeUp (c.args.taken.now ++ t ∷ []) s (renamed old_names new_names) made) (sym c.shift_remove.ensures.after) is)
