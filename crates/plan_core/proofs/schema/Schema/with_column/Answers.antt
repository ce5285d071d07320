use Rattle.std.proofs.Common.{◌∙◌, ap, refl}
use Rattle.std.specs.Prelude.{string_bytes}
use Rattle.plan_core.proofs.ColumnLemmas.{HasDistinctNames-seen, type_of-seen, with_type-seen, seen}
use Rattle.plan_core.proofs.schema.Schema.with_column.Goals as goal

pub invariant_of-self : goal.invariant_of-self
invariant_of-self c = HasDistinctNames-seen c.insert-old.new.self.entries c.insert-old.ensures.unique

pub invariant_of-self-2 : goal.invariant_of-self-2
invariant_of-self-2 c = HasDistinctNames-seen c.insert-old.new.self.entries c.insert-old.ensures.unique

pub returns-clause-given : goal.returns-clause-given
returns-clause-given c =
    c.in_ok-old.ensures.old ∙ type_of-seen c.deref_mut.result.now.entries (string_bytes c.into_string.result) ∙ rw (c.deref_mut.ensures.value, c.in_ok-fields.ensures.taken, c.into_string.ensures) refl

pub returns-clause-after : goal.returns-clause-after
returns-clause-after c =
    ap seen c.in_ok-old.ensures.entries ∙ with_type-seen c.deref_mut.result.now.entries c.into_string.result c.args.dtype ∙ rw (c.deref_mut.ensures.value, c.in_ok-fields.ensures.taken, c.into_string.ensures) refl
