use Rattle.std.proofs.Common.{◌<◌, arith, length, slice_index_or}
use Rattle.std.proofs.lemmas.List.{length-set}
use Rattle.plan_copy.proofs.NumberingLemmas.{numbered-more}
use Rattle.plan_copy.proofs.numbering.Numbering.in_order.Goals as goal

pub loop-i-preserved : goal.loop-i-preserved
loop-i-preserved c =
    let within : (slice_index_or c.args.listed.now c.loop-i.i (record { 0 = 0 })).0 < length c.loop-i.table.items = omega (arith, c.loop-i.invariant.full, c.requires.within c.loop-i.i (record { 0 = 0 }) c.loop-i-test.true) in
    record {
      full = simp length-set c.loop-i.invariant.full;
      numbered = numbered-more c.loop-i.table.items c.args.listed.now c.loop-i.i (record { 0 = 0 }) c.requires.distinct c.loop-i-test.true within c.loop-i.invariant.numbered;
    }
