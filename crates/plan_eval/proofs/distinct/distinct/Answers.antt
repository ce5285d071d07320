use Rattle.std.proofs.Common.{◌∙◌, ℕ, List, ap, subst}
use Rattle.plan_meaning.specs.Choices.{AreChosen}
use Rattle.plan_frame.specs.Frames.{rows_at}
use Rattle.plan_frame.specs.Meaning.{Cell, are_alike}
use Rattle.plan_value.specs.Cells.{cells_of}
use Rattle.plan_value.specs.Shown.{frame_of}
use Rattle.plan_eval.proofs.distinct.distinct.Goals as goal

pub returns : goal.returns
returns c ts =
    let options = c.args.options.now in
    let t = c.args.table in
    let rows = c.in_ok-rows.rows.items in
    record {
      step = (rows, subst (λ (cs : List Cell). AreChosen options.maintain_order options.keep_strategy (are_alike cs) t.height rows) (ap cells_of c.as_slice.ensures ∙ c.in_ok-columns.ensures) c.in_ok-rows.ensures, c.in_ok-picked.ensures.frame ∙ ap (λ (l : List ℕ). rows_at l (frame_of t)) c.as_slice-2.ensures.value);
      types = c.in_ok-picked.ensures.types;
    }
