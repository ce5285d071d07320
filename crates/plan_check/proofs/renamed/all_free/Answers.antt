use Rattle.std.proofs.Common.{◌∙◌, sym, ⊎_elim, inl, inr}
use Rattle.plan_check.proofs.RenamedLemmas.{all_free-end}
use Rattle.plan_check.proofs.renamed.all_free.Goals as goal

pub returns : goal.returns
returns c =
    let old_names = c.loop-old.old-iterator.a.rest.now in
    let new_names = c.loop-old.old-iterator.b.rest.now in
    sym (c.loop-old.invariant ∙ all_free-end c.args.old_names.now c.args.columns.now old_names new_names (⊎_elim (λ s. inl s.1.0) (λ s. inr s.1.0) c.in-None.ensures.steps))
