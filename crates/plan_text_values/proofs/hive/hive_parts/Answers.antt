-- The parts, one for one.
use Rattle.std.proofs.Common.{rules}
use Rattle.plan_text_pieces.specs.Hive.{hive_part_data}
use Rattle.plan_text_values.proofs.ListLemmas.{each_is_written}
use Rattle.plan_text_values.proofs.hive.hive_parts.Goals as goal

pub returns : goal.returns
returns c = each_is_written hive_part_data c.in_ok-written.ensures (λ x r p. search rules)
