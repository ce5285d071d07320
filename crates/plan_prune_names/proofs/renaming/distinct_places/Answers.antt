use Rattle.std.proofs.Common.{◌≡◌, ◌∙◌, ap, sym, arith, length, List}
use Rattle.plan_expr.specs.Leaves.{Name}
use Rattle.plan_prune_names.proofs.MoveLemmas.{distinct-by}
use Rattle.plan_prune_names.proofs.renaming.distinct_places.Goals as goal

pub returns : goal.returns
returns c =
    let same : c.len.result ≡ length c.args.names.now = omega (arith, c.if-len-names.false) in
    let once = distinct-by c.args.names.now (ap (λ (l : List Name). length l) (sym c.in_ok-set.ensures) ∙ sym c.len.ensures.value ∙ same) in
    (c.in_ok-of.ensures ∙ c.in_ok-set.ensures ∙ once.1, once.0)
