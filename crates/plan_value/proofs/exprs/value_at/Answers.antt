use Rattle.std.proofs.Common.{◌≡◌, ◌∙◌, ap, rules}
use Rattle.plan_table.specs.declared.value.AnyValue.{AnyValue}
use Rattle.plan_table.specs.declared.value.AnyValue.TheVariants.{Null}
use Rattle.plan_value.specs.Groups.{own_at}
use Rattle.plan_value.specs.Shown.{value_of}
use Rattle.plan_value.proofs.GroupLemmas.{own-is}
use Rattle.plan_value.proofs.exprs.value_at.Goals as goal

pub returns-in_ok-try_clone-in-Some-clause-shown : goal.returns-in_ok-try_clone-in-Some-clause-shown
returns-in_ok-try_clone-in-Some-clause-shown c =
    let own : c.in_ok-try_clone-in-Some.field-0 ≡ own_at c.args.row c.args.values.now = search rules in
    ap value_of own ∙ own-is c.args.values.now c.args.row

pub returns-in-None-clause-shown : goal.returns-in-None-clause-shown
returns-in-None-clause-shown c =
    let own : ◌≡◌ {A = AnyValue} Null (own_at c.args.row c.args.values.now) = search rules in
    ap value_of own ∙ own-is c.args.values.now c.args.row
