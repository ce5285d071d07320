use Rattle.std.proofs.Common.{◌≡◌, ◌∙◌, ap, sym, arith, List, Option, unwrap_or}
use Rattle.std.proofs.Math.Path.{fun_ext}
use Rattle.plan_core.specs.Columns.{names_of}
use Rattle.plan_core.specs.Names.{with_name}
use Rattle.plan_expr.specs.Leaves.{Name}
use Rattle.plan_meaning.specs.Functions.{former, name_in, names_now, renamed}
use Rattle.plan_pruned.proofs.ListSteps.{not_past}
use Rattle.plan_pruned.proofs.NameSteps.{former-next, former-skip}
use Rattle.plan_pruned.proofs.functions.former_names.Goals.{in-Some+in-Some-get+in_ok-add, in-Some+in_default-get, in_default}
use Rattle.plan_pruned.proofs.functions.former_names.Goals as goal

pub loop-i-preserved : goal.loop-i-preserved
loop-i-preserved c =
    let now : Name → Name = renamed c.args.existing.now c.args.new.now in
    let columns : List Name = names_of c.args.columns.now in
    let same : names_now c.in_ok-new.field-0 ≡ now = fun_ext (λ (a : Name). ap (λ (o : Option Name). unwrap_or o a) (c.in_ok-new.ensures a)) in
    let back : (a : Name) → former now columns a ≡ name_in c.in_ok-back.back a = λ a. ap (λ (by : Name → Name). former by columns a) (sym same) ∙ sym (c.in_ok-back.ensures a) in
    elim c.match-get_at_index.branch [
      | in-Some+in-Some-get+in_ok-add w ↦
          w.formers-is ∙ w.in_ok-add.ensures.after
          ∙ ap (λ (l : List Name). with_name l w.in-Some-get.former.now) c.loop-i.invariant
          ∙ former-next now columns c.args.names.now c.loop-i.i w.in-Some.name.now w.in-Some.ensures.found w.in-Some-get.former.now c.len-i-end.ensures.distinct (back w.in-Some.name.now ∙ w.in-Some-get.ensures.some)
      | in-Some+in_default-get w ↦
          w.formers-is ∙ c.loop-i.invariant
          ∙ former-skip now columns c.args.names.now c.loop-i.i w.in-Some.name.now w.in-Some.ensures.found (back w.in-Some.name.now ∙ w.in_default-get.ensures.none)
      | in_default w ↦ absurd (not_past c.args.names.now c.loop-i.i w.in_default.ensures.none (omega (arith, c.loop-i-test.true, c.len-i-end.ensures.value)))
    ]
