use Rattle.std.proofs.Common.{◌∙◌, ℕ, List, ap, sym, subst}
use Rattle.std.specs.Cmp.{IsTotalOrder}
use Rattle.plan_expr.specs.Exprs.{all_named_at}
use Rattle.plan_frame.specs.Frames.{rows_at}
use Rattle.plan_frame.specs.Meaning.{Cell}
use Rattle.plan_frame.specs.Orders.{rows_cmp}
use Rattle.plan_value.specs.Cells.{cells_of}
use Rattle.plan_value.specs.Shown.{frame_of}
use Rattle.plan_meaning.specs.Choices.{AreRanked}
use Rattle.plan_eval.proofs.SortLemmas.{keys-total}
use Rattle.plan_eval.proofs.sort.in_order.Goals as goal

pub sorted_rows-requires : goal.sorted_rows-requires
sorted_rows-requires c =
    let options = c.args.options.now in
    subst (λ (cs : List Cell). IsTotalOrder (rows_cmp cs options.descending options.nulls_last)) (sym (ap cells_of c.as_slice.ensures ∙ c.in_ok-keys.ensures))
    (keys-total c.args.table (all_named_at c.args.ex.now c.args.keys.now) options.descending options.nulls_last c.requires.rows c.requires.valid)

pub returns : goal.returns
returns c ts part =
    let options = c.args.options.now in
    let t = c.args.table in
    let rows = c.in_ok-rows.rows.items in
    let ranked = subst (λ (cs : List Cell). AreRanked (rows_cmp cs options.descending options.nulls_last) t.height rows) (ap cells_of c.as_slice.ensures ∙ c.in_ok-keys.ensures) c.in_ok-rows.ensures in
    record {
      step = (rows, ranked, c.in_ok-picked.ensures.frame ∙ ap (λ (l : List ℕ). rows_at l (frame_of t)) c.as_slice-2.ensures.value);
      types = c.in_ok-picked.ensures.types;
    }
