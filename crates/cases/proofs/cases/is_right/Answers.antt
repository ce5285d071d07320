use Rattle.std.proofs.Common.{refl}
use Rattle.std.proofs.lemmas.Result.{IfOk-weaker}
use Rattle.cases.specs.Cases.IsJudged.{read, valued}
use Rattle.cases.proofs.cases.is_right.Goals as goal

pub returns-in-value : goal.returns-in-value
returns-in-value c = IfOk-weaker c.value.result _ _ (λ right h. valued c.in-value.is h) c.value.ensures

pub returns-in-reads : goal.returns-in-reads
returns-in-reads c = IfOk-weaker c.variant.result _ _ (λ right h. read c.in-reads.is h refl) c.variant.ensures
