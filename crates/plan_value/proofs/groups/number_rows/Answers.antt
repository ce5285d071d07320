use Rattle.std.proofs.Common.{◌≡◌, ◌∙◌, ◌+◌, List, arith, sym, ℕ, ap, subst}
use Rattle.std.specs.Cmp.Lexicographic.{pointwise}
use Rattle.plan_table.specs.declared.value.AnyValue.{AnyValue}
use Rattle.plan_table.specs.contracts.value.AnyValuePartialEq.TheImpl.{ghosts}
use Rattle.indexmap.specs.IndexSet.{insert_key}
use Rattle.plan_value.specs.Groups.{key_at}
use Rattle.plan_value.proofs.GroupLemmas.{HavePlaces, keys_alike, keys_equiv, numbers-same, place, places-grow}
use Rattle.plan_value.proofs.groups.number_rows.Goals as goal

pub loop-row-preserved : goal.loop-row-preserved
loop-row-preserved c =
    let key : ℕ → List AnyValue = key_at c.args.keys.now in
    let same = c.in_ok-key_in.ensures in
    let n = c.in_ok-number.number in
    let seen = c.loop-row.seen.keys in
    let eq = pointwise ghosts.eq in
    subst (λ (ns : List ℕ). HavePlaces eq key c.insert_full.new.self.keys ns (c.loop-row.row + 1)) (sym c.in_ok-push.ensures.pushed)
    (places-grow eq keys_equiv key seen c.insert_full.new.self.keys c.loop-row.numbers c.loop-row.row n c.loop-row.invariant
    (c.in_ok-number.ensures.keys ∙ ap (insert_key eq seen) same) (c.in_ok-number.ensures.index ∙ ap (place eq seen) same) c.in_ok-number.ensures.within)

pub returns : goal.returns
returns c =
    let key : ℕ → List AnyValue = key_at c.args.keys.now in
    let eq = pointwise ghosts.eq in
    let rows : c.loop-row.row ≡ c.args.height = omega arith in
    let inv = subst (HavePlaces eq key c.loop-row.seen.keys c.loop-row.numbers) rows c.loop-row.invariant in
    record {
      height = inv.rows;
      below = λ i lt. omega (arith, inv.is i lt, inv.within i lt);
      same = λ i j li lj. numbers-same eq keys_equiv key c.loop-row.seen.keys c.loop-row.numbers c.args.height i j inv li lj ∙ keys_alike c.args.keys.now i j;
      first = λ i li g low. let x = inv.first i li g (omega (arith, low, inv.is i li)) in (x.0, x.1, inv.is x.0 (omega (arith, x.1, li)) ∙ x.2);
      all = λ g low. let x = inv.all g (omega (arith, low)) in (x.0, x.1, inv.is x.0 x.1 ∙ x.2);
    }
