use Rattle.std.proofs.Common.{◌∙◌, ap, refl}
use Rattle.plan_core.proofs.ColumnLemmas.{HasDistinctNames-seen, seen}
use Rattle.plan_core.proofs.InsertLemmas.{insert-seen, not_contained}
use Rattle.plan_core.proofs.schema.Schema.insert_at_index.Goals as goal

pub shift_insert-inserted-requires-clause-below_len : goal.shift_insert-inserted-requires-clause-below_len
shift_insert-inserted-requires-clause-below_len c = λ there. absurd (not_contained c.deref_mut.result.now c.into_string.result (rw (c.deref_mut.ensures.value, c.in_ok-fields.ensures.taken, c.into_string.ensures) c.requires.absent) there)

pub invariant_of-self : goal.invariant_of-self
invariant_of-self c = HasDistinctNames-seen c.shift_insert-inserted.new.self.entries c.shift_insert-inserted.ensures.unique

pub invariant_of-self-2 : goal.invariant_of-self-2
invariant_of-self-2 c = HasDistinctNames-seen c.shift_insert-inserted.new.self.entries c.shift_insert-inserted.ensures.unique

pub returns-clause-after : goal.returns-clause-after
returns-clause-after c =
    ap seen c.in_ok-inserted.ensures.entries
    ∙ insert-seen c.deref_mut.result.now.entries c.into_string.result c.args.dtype c.args.index (rw (c.deref_mut.ensures.value, c.in_ok-fields.ensures.taken, c.into_string.ensures) c.requires.absent)
    ∙ rw (c.deref_mut.ensures.value, c.in_ok-fields.ensures.taken, c.into_string.ensures) refl
