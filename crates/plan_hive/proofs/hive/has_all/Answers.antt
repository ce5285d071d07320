use Rattle.std.proofs.Common.{◌≡◌, ◌∙◌, false, true, not, sym, ap, arith}
use Rattle.plan_core.specs.Names.{has}
use Rattle.plan_hive.specs.Parts.{part_names}
use Rattle.plan_hive.proofs.EntryLemmas.{got}
use Rattle.plan_hive.proofs.FaultLemmas.{all-more, all-not}
use Rattle.plan_scan.proofs.StatLemmas.{is-within}
use Rattle.plan_hive.proofs.hive.has_all.Goals.{in-Some+else-is_none, in_default}
use Rattle.plan_hive.proofs.hive.has_all.Goals as goal

pub loop-i-preserved : goal.loop-i-preserved
loop-i-preserved c =
    let names = part_names c.args.values.now in
    let firsts = c.args.firsts.now in
    elim c.match-get_at_index.branch [
      | in-Some+else-is_none w ↦
          let there : has names w.in-Some.name.now ≡ true = got c.args.values.now w.in-Some.name.now w.get.result w.is_none.result w.get.ensures w.is_none.ensures ∙ ap not w.if-is_none.false in
          all-more (has names) firsts c.loop-i.i w.in-Some.name.now w.in-Some.ensures.found c.loop-i.invariant there
      | in_default w ↦ absurd (is-within firsts c.loop-i.i (omega (arith, c.len-i-end.ensures.value)) w.in_default.ensures.none)
    ]

pub returns-then-is_none : goal.returns-then-is_none
returns-then-is_none c =
    let names = part_names c.args.values.now in
    let absent : has names c.in-Some.name.now ≡ false = got c.args.values.now c.in-Some.name.now c.get.result c.is_none.result c.get.ensures c.is_none.ensures ∙ ap not c.if-is_none.true in
    sym (all-not (has names) c.args.firsts.now c.loop-i.i c.in-Some.name.now c.in-Some.ensures.found absent)
