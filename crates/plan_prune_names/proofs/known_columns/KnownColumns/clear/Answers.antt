use Rattle.std.proofs.Common.{◌++◌, ◌∙◌, ap, refl}
use Rattle.std.proofs.lemmas.Result.{on_ok_weaker}
use Rattle.plan_core.specs.Columns.{Columns, type_of}
use Rattle.plan_prune_names.specs.Known.{as_changes}
use Rattle.plan_prune_names.proofs.KnownLemmas.{clear-over}
use Rattle.plan_prune_names.proofs.known_columns.KnownColumns.clear.Goals as goal

pub returns-clause-over : goal.returns-clause-over
returns-clause-over c = on_ok_weaker c.into_changes.result (λ added.
    clear-over c.args.self.now (record { is_known = c.args.self.now.is_known; types = c.replace-types.new.dest; changes = c.into_changes.new.changes; marks = c.args.self.now.marks }) refl
    (added ∙ ap (λ (s : Columns). c.args.self.now.changes.items ++ as_changes s) c.replace-types.ensures.value)
    (λ a. ap (λ (s : Columns). type_of s a) (c.replace-types.ensures.after ∙ c.new.ensures))) c.into_changes.ensures
