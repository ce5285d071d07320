use Rattle.std.proofs.Common.{◌∷◌, ◌∙◌, ap, sym, subst, ⊎_elim, inl, inr, List}
use Rattle.plan_expr.specs.Leaves.{Name}
use Rattle.plan_frame.specs.Reshaped.{renamed_columns}
use Rattle.plan_meaning.specs.Functions.{renamed}
use Rattle.plan_check.specs.Renamed.{MakeUp, put_back}
use Rattle.plan_check.proofs.RenamedLemmas.{renamed-end}
use Rattle.plan_check.proofs.renamed.take_columns.Goals as goal

pub loop-old-preserved : goal.loop-old-preserved
loop-old-preserved c =
    let old_names : List Name = c.next.new.self.a.rest.now in
    let new_names : List Name = c.next.new.self.b.rest.now in
    let made = renamed_columns (renamed c.args.existing.now c.args.new.now) c.args.columns.now in
    let old = c.in-Some.ensures.steps.0 ∙ ap (λ (a : Name). a ∷ old_names) (sym c.as_str.ensures) in
    let new = c.in-Some.ensures.steps.1 ∙ ap (λ (a : Name). a ∷ new_names) (sym c.as_str-in-loop-old.ensures) in
    c.in_ok-take_column.ensures old_names new_names made
    (subst (λ (l : List Name). MakeUp c.loop-old.taken c.loop-old.columns (renamed l (c.as_str-in-loop-old.result.now ∷ new_names)) made) old
    (subst (λ (l : List Name). MakeUp c.loop-old.taken c.loop-old.columns (renamed c.loop-old.old-iterator.a.rest.now l) made) new c.loop-old.invariant))

pub returns-clause-made : goal.returns-clause-made
returns-clause-made c =
    let old_names = c.loop-old.old-iterator.a.rest.now in
    let new_names = c.loop-old.old-iterator.b.rest.now in
    ap (put_back c.loop-old.taken) (sym (renamed-end old_names new_names c.loop-old.columns (⊎_elim (λ s. inl s.1.0) (λ s. inr s.1.0) c.in-None.ensures.steps)))
    ∙ c.loop-old.invariant.1
