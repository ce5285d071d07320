-- The truths, one for one.
use Rattle.std.proofs.Common.{rules}
use Rattle.serde_json.specs.Data.{boolean}
use Rattle.plan_text_values.proofs.ListLemmas.{each_is_written}
use Rattle.plan_text_values.proofs.values.truths.Goals as goal

pub returns : goal.returns
returns c = each_is_written boolean c.in_ok-written.ensures (λ x r p. search rules)
