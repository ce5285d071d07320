-- The names, one for one.
use Rattle.std.proofs.Common.{rules}
use Rattle.serde_json.specs.Data.{string}
use Rattle.plan_text_values.proofs.ListLemmas.{each_is_written}
use Rattle.plan_text_values.proofs.values.names.Goals as goal

pub returns : goal.returns
returns c = each_is_written string c.in_ok-written.ensures (λ x r p. search rules)
