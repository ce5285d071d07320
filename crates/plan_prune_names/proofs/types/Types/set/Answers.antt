use Rattle.std.proofs.Common.{◌∙◌, ap, ap₂, cond, sym, Option, None, Some}
use Rattle.std.specs.Str.{bytes_eq}
use Rattle.std.specs.Prelude.{string_bytes}
use Rattle.plan_core.specs.declared.data_type.DataType.{DataType}
use Rattle.plan_core.specs.Columns.{Columns, type_of}
use Rattle.plan_core.proofs.ColumnLemmas.{type_of-seen}
use Rattle.plan_expr.specs.Leaves.{Name}
use Rattle.plan_prune_names.proofs.TypeLemmas.{type-set}
use Rattle.plan_prune_names.proofs.types.Types.set.Goals as goal

pub returns-in-None-clause-given : goal.returns-in-None-clause-given
returns-in-None-clause-given c =
    c.swap_remove.ensures.value
    ∙ type_of-seen c.self.inside.types.entries c.as_str.result.now
    ∙ ap₂ (λ (s : Columns) (a : Name). type_of s a) c.self.view_is c.as_str.ensures.value

pub returns-in-None-clause-after : goal.returns-in-None-clause-after
returns-in-None-clause-after c = λ a.
    type-set c.self.inside.types c.swap_remove.new.self c.as_str.result.now None c.swap_remove.ensures.updates a
    ∙ ap₂ (λ (n : Name) (s : Columns). cond (bytes_eq a n) None (type_of s a)) c.as_str.ensures.value c.self.view_is
    ∙ ap (λ (d : Option DataType). cond (bytes_eq a (string_bytes c.args.name)) d (type_of c.args.self.now a)) (sym c.in-None.is)

pub returns-in_ok-insert-in-Some-clause-given : goal.returns-in_ok-insert-in-Some-clause-given
returns-in_ok-insert-in-Some-clause-given c =
    c.in_ok-insert-in-Some.ensures.old
    ∙ type_of-seen c.self.inside.types.entries (string_bytes c.args.name)
    ∙ ap (λ (s : Columns). type_of s (string_bytes c.args.name)) c.self.view_is

pub returns-in_ok-insert-in-Some-clause-after : goal.returns-in_ok-insert-in-Some-clause-after
returns-in_ok-insert-in-Some-clause-after c = λ a.
    type-set c.self.inside.types c.insert.new.self (string_bytes c.args.name) (Some c.in-Some.dtype) c.in_ok-insert-in-Some.ensures.updates a
    ∙ ap (λ (s : Columns). cond (bytes_eq a (string_bytes c.args.name)) (Some c.in-Some.dtype) (type_of s a)) c.self.view_is
    ∙ ap (λ (d : Option DataType). cond (bytes_eq a (string_bytes c.args.name)) d (type_of c.args.self.now a)) (sym c.in-Some.is)
