use Rattle.std.proofs.Common.{◌≡◌, take}
use Rattle.plan_ir.specs.Reads.{once}
use Rattle.plan_copy.proofs.reading.add_new.Given as goal

abbrev pub invariant-loop-name : goal.invariant-loop-name
invariant-loop-name l = record {
  met : l.met ≡ once (take l.name-index l.names);
  kept : l.kept ≡ l.met;
}
