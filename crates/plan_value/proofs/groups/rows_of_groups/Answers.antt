use Rattle.std.proofs.Common.{◌≡◌, ◌<◌, ◌∙◌, ◌++◌, ◌∷◌, [], List, ℕ, ap, subst, sym, arith, length, get_or, length-set}
use Rattle.std.proofs.lemmas.List.{get_or_default}
use Rattle.plan_value.proofs.GroupLemmas.{pushed}
use Rattle.plan_value.proofs.groups.rows_of_groups.Goals as goal

pub loop-row-preserved : goal.loop-row-preserved
loop-row-preserved c =
    let row = c.loop-row.row in
    let rows = c.loop-row.rows.items in
    let own = c.as_slice-number-items.result.now in
    let number = get_or own row 0 in
    let same : own ≡ c.args.groups.now.numbers = c.as_slice-number-items.ensures in
    let below : number < c.args.groups.now.count = subst (λ (l : List ℕ). get_or l row 0 < c.args.groups.now.count) (sym same) (c.requires row (subst (λ (l : List ℕ). row < length l) same c.loop-row-test.true)) in
    let inside : number < length rows = omega (arith, below, c.loop-row.invariant.count) in
    record {
      count = length-set rows number c.push.new.self ∙ c.loop-row.invariant.count;
      rows = pushed c.args.groups.now.numbers rows c.args.groups.now.count row number c.push.new.self
          (ap (λ (l : List ℕ). get_or l row 0) same) below c.loop-row.invariant.count c.loop-row.invariant.rows
          (c.in_ok-push.ensures.pushed ∙ ap (λ (l : List ℕ). l ++ row ∷ []) (c.index_mut.ensures.value ∙ get_or_default rows number c.index_mut.result.now [] inside));
    }
