use Rattle.std.proofs.Common.{◌∙◌, ◌-◌, ℕ, List, ap₂, sym}
use Rattle.std.proofs.lemmas.List.FromFn.{length-range_with_len}
use Rattle.plan_frame.specs.Frames.{Column}
use Rattle.plan_eval.proofs.between.table_between.Goals as goal

pub returns-clause-frame : goal.returns-clause-frame
returns-clause-frame c =
    ap₂ (λ (h : ℕ) (cs : List Column). record { height = h; columns = cs })
    (c.saturating_sub.ensures ∙ sym (length-range_with_len c.args.first (c.args.end - c.args.first)))
    c.in_ok-columns_between.ensures.shown
