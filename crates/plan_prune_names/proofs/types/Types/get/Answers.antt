use Rattle.std.proofs.Common.{◌∙◌, ap}
use Rattle.plan_core.specs.Columns.{Columns, type_of}
use Rattle.plan_core.proofs.ColumnLemmas.{type_of-seen}
use Rattle.plan_prune_names.proofs.types.Types.get.Goals as goal

pub returns : goal.returns
returns c =
    c.copied.ensures ∙ c.get.ensures.value
    ∙ type_of-seen c.self.inside.types.entries c.args.name.now
    ∙ ap (λ (s : Columns). type_of s c.args.name.now) c.self.view_is
