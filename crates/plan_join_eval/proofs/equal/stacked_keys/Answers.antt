use Rattle.std.proofs.Common.{◌∙◌, ◌++◌, List, ap, sym, append-nil, ⊎_elim, inl, inr}
use Rattle.plan_frame.specs.Meaning.{Cell}
use Rattle.plan_value.specs.Cells.{cells_of}
use Rattle.plan_join_eval.proofs.EqualLemmas.{stacked-done}
use Rattle.plan_join_eval.proofs.equal.stacked_keys.Goals as goal

pub returns : goal.returns
returns c =
    let first = c.loop-key.key-iterator.a.rest.now in
    let second = c.loop-key.key-iterator.b.rest.now in
    sym (append-nil (cells_of c.loop-key.keys))
    ∙ ap (λ (l : List Cell). cells_of c.loop-key.keys ++ l) (sym (stacked-done c.args.height c.args.other first second (⊎_elim (λ s. inl s.1.0) (λ s. inr s.1.0) c.in-None.ensures.steps)))
    ∙ c.loop-key.invariant
