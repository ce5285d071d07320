use Rattle.std.proofs.Common.{◌≡◌, ◌∙◌, ap, refl}
use Rattle.plan_core.proofs.ColumnLemmas.{HasDistinctNames-seen, type_of-seen, without-seen, seen}
use Rattle.plan_core.proofs.schema.Schema.shift_remove.Goals as goal

pub invariant_of-self-2 : goal.invariant_of-self-2
invariant_of-self-2 c = HasDistinctNames-seen c.shift_remove-removed.new.self.entries c.shift_remove-removed.ensures.unique

pub returns-clause-given : goal.returns-clause-given
returns-clause-given c =
    let are : seen c.in_ok-fields.fields.value.entries ≡ c.args.self.now = rw (← c.self.view_is, ← c.in_ok-fields.ensures.value) refl in
    c.shift_remove-removed.ensures.value ∙ type_of-seen c.deref_mut.result.now.entries c.args.name.now ∙ rw (c.deref_mut.ensures.value, are) refl

pub returns-clause-after : goal.returns-clause-after
returns-clause-after c =
    let are : seen c.in_ok-fields.fields.value.entries ≡ c.args.self.now = rw (← c.self.view_is, ← c.in_ok-fields.ensures.value) refl in
    ap seen c.shift_remove-removed.ensures.entries ∙ without-seen c.deref_mut.result.now.entries c.args.name.now ∙ rw (c.deref_mut.ensures.value, are) refl
