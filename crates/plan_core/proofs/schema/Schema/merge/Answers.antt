use Rattle.std.proofs.Common.{◌≡◌, ◌∙◌, ap, refl}
use Rattle.plan_core.specs.Columns.{Columns, HasDistinctNames, with_types}
use Rattle.plan_core.proofs.ColumnLemmas.{seen}
use Rattle.plan_core.proofs.MergeLemmas.{merged-distinct, merged-seen}
use Rattle.plan_core.proofs.schema.Schema.merge.Goals as goal

pub invariant_of-self : goal.invariant_of-self
invariant_of-self c =
    let old : HasDistinctNames (seen c.deref_mut.result.now.entries) = rw (c.deref_mut.ensures.value, c.in_ok-fields.ensures.taken) c.take_fields.ensures.distinct in
    rw c.in_err-appended.ensures.err old

pub invariant_of-self-2 : goal.invariant_of-self-2
invariant_of-self-2 c =
    let old : HasDistinctNames (seen c.deref_mut.result.now.entries) = rw (c.deref_mut.ensures.value, c.in_ok-fields.ensures.taken) c.take_fields.ensures.distinct in
    merged-distinct c.deref_mut.result.now.entries c.deref_mut-2.result.now.entries c.append-appended.new.self.entries c.in_ok-appended.ensures.entries old

pub returns-clause-after : goal.returns-clause-after
returns-clause-after c =
    let own : seen c.deref_mut.result.now.entries ≡ c.args.self.now = rw (c.deref_mut.ensures.value, c.in_ok-fields.ensures.taken) refl in
    let others : seen c.in-Some.others.value.entries ≡ c.args.other = rw (← c.other.view_is, c.in-Some.is) refl in
    let given : seen c.deref_mut-2.result.now.entries ≡ c.args.other = rw (c.deref_mut-2.ensures.value, c.in-Some.others-is) others in
    merged-seen c.deref_mut.result.now.entries c.deref_mut-2.result.now.entries c.append-appended.new.self.entries c.in_ok-appended.ensures.entries
    ∙ ap (λ (cs : Columns). with_types cs (seen c.deref_mut-2.result.now.entries)) own
    ∙ ap (λ (ds : Columns). with_types c.args.self.now ds) given
