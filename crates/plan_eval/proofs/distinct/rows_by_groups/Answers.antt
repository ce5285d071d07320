use Rattle.std.proofs.Common.{◌≡◌, ◌∙◌, false, ◌<◌, ℕ, List, ap, subst}
use Rattle.std.specs.List.Sorted.{IsPermutation}
use Rattle.plan_value.specs.Cells.{cells_of}
use Rattle.plan_eval.specs.Distinct.{kept}
use Rattle.plan_eval.proofs.DistinctLemmas.{groups-chosen}
use Rattle.plan_eval.proofs.distinct.rows_by_groups.Goals as goal

pub rows_of_groups-requires : goal.rows_of_groups-requires
rows_of_groups-requires c = λ i lt. let n = c.in_ok-groups.ensures in n.below i (subst (λ (h : ℕ). i < h) n.height lt)

pub returns : goal.returns
returns c =
    let options = c.args.options.now in
    let groups = c.in_ok-groups.groups in
    let parts = c.in_ok-parts.parts.items in
    let rows = c.in_ok-rows_in_order.field-0.items in
    let moved = subst (λ (ps : List (List ℕ)). IsPermutation (kept options.keep_strategy ps) rows) c.as_slice.ensures.value c.in_ok-rows_in_order.ensures.same in
    let by-parts = λ (e : options.maintain_order ≡ false). c.in_ok-rows_in_order.ensures.by_parts e ∙ ap (kept options.keep_strategy) c.as_slice.ensures.value in
    groups-chosen (cells_of c.args.columns.now) c.args.height groups.count groups.numbers parts rows options.maintain_order options.keep_strategy c.in_ok-groups.ensures c.in_ok-parts.ensures.count c.in_ok-parts.ensures.rows moved c.in_ok-rows_in_order.ensures.in_order by-parts
