use Rattle.std.proofs.Common.{◌++◌, ◌∷◌, [], ◌∙◌, ap, ap₂, cond, refl, Option}
use Rattle.std.specs.Str.{bytes_eq}
use Rattle.plan_core.specs.declared.data_type.DataType.{DataType}
use Rattle.plan_expr.specs.Leaves.{Name}
use Rattle.plan_prune_names.specs.Known.{type_in}
use Rattle.plan_prune_names.proofs.KnownLemmas.{set-over}
use Rattle.plan_prune_names.proofs.known_columns.KnownColumns.set.Goals as goal

pub returns-clause-over : goal.returns-clause-over
returns-clause-over c =
    set-over c.args.self.now (record { is_known = c.args.self.now.is_known; types = c.set.new.self; changes = c.push.new.self; marks = c.args.self.now.marks }) c.args.name.now c.args.dtype refl
    (c.in_ok-push.ensures.items
    ∙ ap₂ (λ (n : Name) (d : Option DataType). c.args.self.now.changes.items ++ (n, d) ∷ []) c.in_ok-name.ensures.ok (c.in_ok-before.ensures.given ∙ ap (type_in c.args.self.now) c.in_ok-from_str.ensures.ok))
    (λ a. c.in_ok-before.ensures.after a ∙ ap (λ (n : Name). cond (bytes_eq a n) c.args.dtype (type_in c.args.self.now a)) c.in_ok-from_str.ensures.ok)
