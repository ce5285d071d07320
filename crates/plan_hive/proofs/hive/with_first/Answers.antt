use Rattle.std.proofs.Common.{◌∙◌, List, sym, ap, option_copied}
use Rattle.std.proofs.lemmas.Result.{IfErr-weaker}
use Rattle.plan_hive.specs.Hive.{read_paths}
use Rattle.plan_hive.specs.Parts.{Text}
use Rattle.plan_hive.proofs.HiveLemmas.{first-read}
use Rattle.plan_hive.proofs.hive.with_first.Goals as goal

pub returns-clause-refusal : goal.returns-clause-refusal
returns-clause-refusal c =
    let schema = option_copied c.args.schema in
    let told =
    first-read c.args.start schema c.args.reader.now c.args.paths.now c.args.parts.now (sym c.is_empty.ensures ∙ c.if-is_empty.false)
    ∙ ap (λ (names : List Text). read_paths c.args.start schema c.args.reader.now names c.args.paths.now) (sym c.in_ok-firsts.ensures) in
    IfErr-weaker c.read_paths.result _ _ (λ fault e other. told ∙ e other) c.read_paths.ensures.refusal
