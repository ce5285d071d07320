use Rattle.std.proofs.Common.{◌≡◌, ◌∙◌, List, sym, ap, option_copied}
use Rattle.std.proofs.lemmas.Result.{IfErr-weaker, IfOk-weaker}
use Rattle.plan_hive.specs.Parts.{HivePart}
use Rattle.plan_hive.specs.Hive.{hive_columns, partitions, read_paths}
use Rattle.plan_hive.proofs.HiveLemmas.{names-read}
use Rattle.plan_hive.proofs.hive.read_paths.Goals as goal

read : (c : goal.After-drop-all-inside) → read_paths c.args.start (option_copied c.args.schema) c.args.reader.now c.args.firsts.now c.args.paths.now ≡ partitions (hive_columns (option_copied c.args.schema) c.args.reader.now c.as_slice.result.now c.args.firsts.now) c.as_slice.result.now
read c =
    let schema = option_copied c.args.schema in
    names-read c.args.start schema c.args.reader.now c.args.firsts.now c.args.paths.now c.in-Ok.ensures.fault
    ∙ ap (λ (all : List (List HivePart)). partitions (hive_columns schema c.args.reader.now all c.args.firsts.now) all) (sym (c.as_slice.ensures ∙ c.in-Ok.ensures.values))

pub returns-in-Ok-clause-answer : goal.returns-in-Ok-clause-answer
returns-in-Ok-clause-answer c = IfOk-weaker c.typed_partitions.result _ _ (λ parts e. read c ∙ e) c.typed_partitions.ensures.answer

pub returns-in-Ok-clause-refusal : goal.returns-in-Ok-clause-refusal
returns-in-Ok-clause-refusal c = IfErr-weaker c.typed_partitions.result _ _ (λ fault e other. read c ∙ e other) c.typed_partitions.ensures.refusal
