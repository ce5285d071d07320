use Rattle.std.proofs.Common.{◌∙◌, arith, sym}
use Rattle.plan_core.specs.declared.data_type.DataType.{DataType}
use Rattle.plan_core.specs.Columns.{names_of}
use Rattle.plan_expr.specs.Leaves.{Name}
use Rattle.plan_prune_names.proofs.AmongLemmas.{among-next, lacks-one}
use Rattle.plan_prune_names.proofs.PlaceSteps.{named_past}
use Rattle.plan_prune_names.proofs.among.are_all_among.Goals.{in-Some+else-not-contains, in_default}
use Rattle.plan_prune_names.proofs.among.are_all_among.Goals as goal

pub returns-then-not-contains-clause-lacking : goal.returns-then-not-contains-clause-lacking
returns-then-not-contains-clause-lacking c = λ no h. lacks-one c.args.names.now (names_of c.args.columns.now.types) c.loop-i.i c.in-Some.name.now c.in-Some.ensures.found (sym c.contains.ensures ∙ c.if-not-contains.true) h

pub loop-i-preserved : goal.loop-i-preserved
loop-i-preserved c =
    elim c.match-name_at.branch [
      | in-Some+else-not-contains w ↦
          among-next (λ (column : Name × DataType). column.0) c.args.names.now c.args.columns.now.types c.loop-i.i w.in-Some.name.now w.in-Some.ensures.found (sym w.contains.ensures ∙ w.if-not-contains.false) c.loop-i.invariant
      | in_default w ↦ absurd (named_past (λ (column : Name × DataType). column.0) c.args.columns.now.types c.loop-i.i w.in_default.ensures.none (omega (arith, c.loop-i-test.true, c.len-i-end.ensures)))
    ]
