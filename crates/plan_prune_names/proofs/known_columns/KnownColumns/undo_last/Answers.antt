use Rattle.std.proofs.Common.{◌++◌, ◌∙◌, ap, refl, Option, Some, sym}
use Rattle.std.specs.Prelude.{string_bytes, option_to_list}
use Rattle.plan_core.specs.declared.data_type.DataType.{DataType}
use Rattle.plan_expr.specs.Leaves.{Name}
use Rattle.plan_prune_names.proofs.KnownLemmas.{undone}
use Rattle.plan_prune_names.proofs.known_columns.KnownColumns.undo_last.Goals as goal

pub returns-in_ok-set-clause-types : goal.returns-in_ok-set-clause-types
returns-in_ok-set-clause-types c =
    undone c.args.self.now (record { is_known = c.args.self.now.is_known; types = c.set.new.self; changes = c.pop.new.self; marks = c.args.self.now.marks }) (string_bytes c.change.inside.name) c.change.inside.before c.pop.new.self.items
    (c.pop.ensures.items ∙ ap (λ (o : Option (Name × Option DataType)). c.pop.new.self.items ++ option_to_list o) (c.in-Some.is ∙ ap (λ (p : Name × Option DataType). Some p) (sym c.change.view_is)))
    refl c.in_ok-set.ensures.after
