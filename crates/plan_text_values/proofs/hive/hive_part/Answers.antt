-- The columns, one for one.
use Rattle.std.proofs.Common.{rules, ap, ◌∙◌}
use Rattle.plan_text_pieces.specs.Hive.{hive_column_data}
use Rattle.plan_text_pieces.specs.Values.{list_data}
use Rattle.plan_text_values.proofs.ListLemmas.{each_is_written}
use Rattle.plan_text_values.proofs.hive.hive_part.Goals as goal

pub returns : goal.returns
returns c = each_is_written hive_column_data c.in_ok-written.ensures (λ x r p. search rules) ∙ ap (list_data hive_column_data) (c.column_stats-columns.ensures.value ∙ c.get_statistics.ensures)
