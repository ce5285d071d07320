use Rattle.std.proofs.Common.{◌∙◌, ap, sym, Some}
use Rattle.std.specs.List.{slice_get}
use Rattle.plan_core.specs.Columns.{Columns, names_of}
use Rattle.plan_expr.specs.Leaves.{Name}
use Rattle.plan_prune_names.proofs.TypeLemmas.{name-seen}
use Rattle.plan_prune_names.proofs.types.Types.name_at.Goals as goal

pub returns-in-Some-clause-found : goal.returns-in-Some-clause-found
returns-in-Some-clause-found c =
    ap (λ (s : Columns). slice_get (names_of s) c.args.index) (sym c.self.view_is)
    ∙ name-seen c.self.inside.types.entries c.args.index c.in-Some.name.now c.in-Some.field-0-1.now c.in-Some.ensures.entry
    ∙ ap (λ (a : Name). Some a) (sym c.as_str.ensures.value)
