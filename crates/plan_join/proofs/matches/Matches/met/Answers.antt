use Rattle.std.proofs.Common.{◌∙◌, ◌+◌, ◌||◌, ap₂, sym, List, Bool, ℕ}
use Rattle.std.specs.Prelude.{nat_eq}
use Rattle.std.specs.List.{list_any}
use Rattle.plan_join.specs.Given.{is_met, marked}
use Rattle.plan_join.specs.Rows.{matches_of}
use Rattle.plan_join.proofs.PlaceLemmas.{any-next, map-below, marked-test, none-set}
use Rattle.plan_join.proofs.matches.Matches.met.Goals as goal

pub loop-row-init : goal.loop-row-init
loop-row-init c = c.in_ok-met.ensures ∙ none-set c.args.self.now.others

pub loop-row-preserved : goal.loop-row-preserved
loop-row-preserved c =
    let m = c.args.self.now in
    let row = c.loop-row.row in
    c.mark.ensures
    ∙ ap₂ (λ (bs : List Bool) (js : List ℕ). marked bs js) c.loop-row.invariant c.of.ensures
    ∙ marked-test (is_met m row) m.others (matches_of m row)
    ∙ map-below (λ j. is_met m row j || list_any (nat_eq j) (matches_of m row)) (is_met m (row + 1)) m.others (λ j lt. sym (any-next (λ i. list_any (nat_eq j) (matches_of m i)) row))
