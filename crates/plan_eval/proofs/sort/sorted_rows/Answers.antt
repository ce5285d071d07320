use Rattle.std.proofs.Common.{ℕ, List, subst, rules}
use Rattle.std.specs.List.Sorted.{IsPermutation}
use Rattle.std.specs.declared.cmp.Ordering.{Ordering}
use Rattle.plan_frame.specs.Orders.{rows_cmp}
use Rattle.plan_frame.proofs.OrderLemmas.{ties_total}
use Rattle.plan_value.specs.Cells.{cells_of}
use Rattle.plan_meaning.specs.Choices.{by_place}
use Rattle.plan_meaning.proofs.FarApart.{far-apart}
use Rattle.plan_eval.proofs.SortLemmas.{sorted-by}
use Rattle.plan_eval.proofs.sort.sorted_rows.Goals as goal

pub returns : goal.returns
returns c =
    let cmp : ℕ → ℕ → Ordering = rows_cmp (cells_of c.args.keys.now) c.args.options.now.descending c.args.options.now.nulls_last in
    let rows = c.sort_unstable_by.new.self.items in
    let sorted = sorted-by (by_place cmp) rows (ties_total cmp c.requires) c.sort_unstable_by.ensures.sorted (λ a r f k. search rules) in
    record {
      permutes = subst (λ (l : List ℕ). IsPermutation l rows) c.in_ok-rows.ensures c.sort_unstable_by.ensures.permutation;
      ranked = far-apart (by_place cmp) (ties_total cmp c.requires) rows sorted;
    }
