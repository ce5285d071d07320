use Rattle.std.proofs.Common.{◌∙◌, ◌++◌, ◌∷◌, [], ap, ℕ}
use Rattle.plan_prune_names.proofs.KnownLemmas.{lays-function}
use Rattle.plan_prune_names.proofs.walk.rise.Goals as goal

pub returns : goal.returns
returns c = λ yes ts h.
    lays-function c.args.columns.now c.change.new.columns c.mark.new.self c.args.function.now ts
    c.in_ok-change.ensures.over
    (c.in_ok-change.ensures.made c.if-not-branch.false)
    c.in_ok-mark.ensures.0 (ap (λ (v : _). v.items) c.in_ok-mark.ensures.1)
    (c.in_ok-mark.ensures.2 ∙ ap (λ (n : ℕ). c.change.new.columns.marks.items ++ n ∷ []) c.change_count-below.ensures)
    h
