use Rattle.std.proofs.Common.{rules}
use Rattle.plan_doc_scans.specs.Hive.{hive_part_of, hive_parts_of}
use Rattle.plan_doc_parts.proofs.PairLemmas.{each_is_read}
use Rattle.plan_doc_scans.proofs.hive.hive_parts.Goals as goal

pub returns : goal.returns
unfolding hive_parts_of
returns c = rw c.in_ok-entries.ensures (each_is_read hive_part_of c.each.ensures (λ v r p. search rules))
