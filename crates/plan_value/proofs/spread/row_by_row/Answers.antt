use Rattle.std.proofs.Common.{◌≡◌, ◌∙◌, ◌++◌, List, [], ap, sym, append-nil, ⊎_elim}
use Rattle.plan_frame.specs.Meaning.{zip_by}
use Rattle.plan_value.specs.Pairs.{paired}
use Rattle.plan_frame.specs.Values.{Value}
use Rattle.plan_value.specs.Shown.{values_of}
use Rattle.plan_value.proofs.RowLemmas.{zip-left, zip-right}
use Rattle.plan_value.proofs.spread.row_by_row.Goals as goal

pub returns : goal.returns
returns c =
    let f = paired c.args.pairing in
    let xs = c.loop-left.left-iterator.a.rest.now in
    let ys = c.loop-left.left-iterator.b.rest.now in
    let ended : zip_by f (values_of xs) (values_of ys) ≡ [] = ⊎_elim (λ p. zip-left f xs ys p.1.0) (λ p. zip-right f xs ys p.1.0) c.in-None.ensures.steps in
    sym (append-nil (values_of c.loop-left.values)) ∙ ap (λ (vs : List Value). values_of c.loop-left.values ++ vs) (sym ended) ∙ c.loop-left.invariant
