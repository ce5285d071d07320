use Rattle.std.proofs.Common.{◌∙◌, ◌+◌, rules}
use Rattle.std.specs.Int.{w64}
use Rattle.std.proofs.lemmas.Int.{to_z-of_z}
use Rattle.plan_file_tables.proofs.NumberLemmas.{cut-wrapped}
use Rattle.plan_file_tables.proofs.numbers.row_number.Goals as goal

pub returns : goal.returns
returns c = to_z-of_z w64 c.cast_signed.result (search rules) ∙ c.cast_signed.ensures ∙ cut-wrapped (c.args.first + c.args.row)
