use Rattle.std.proofs.Common.{◌≡◌, ◌==◌, ◌∙◌, true, false, ap, sym, length, List}
use Rattle.std.proofs.lemmas.Bool.{eq-eqb, eqb-true}
use Rattle.plan_expr.specs.Leaves.{Name}
use Rattle.plan_prune_names.proofs.MoveLemmas.{distinct-by, distinct-short}
use Rattle.plan_prune_names.proofs.moved.are_distinct.Goals as goal

pub returns-clause-distinct : goal.returns-clause-distinct
returns-clause-distinct c = λ yes.
    let same : c.len-2.result ≡ length c.args.names.now = eqb-true _ _ yes in
    distinct-by c.args.names.now (ap (λ (l : List Name). length l) (sym c.in_ok-set_of.ensures) ∙ sym c.len-2.ensures.value ∙ same)

pub returns-clause-twice : goal.returns-clause-twice
returns-clause-twice c = λ no h.
    let same : c.len-2.result ≡ length c.args.names.now = c.len-2.ensures.value ∙ ap (λ (l : List Name). length l) (c.in_ok-set_of.ensures ∙ h) in
    let yes : (c.len-2.result == length c.args.names.now) ≡ true = eq-eqb _ _ same in
    let not_yes : (c.len-2.result == length c.args.names.now) ≡ false = no in
    cc

pub returns-then-names-lt2-clause-distinct : goal.returns-then-names-lt2-clause-distinct
returns-then-names-lt2-clause-distinct c = λ yes. distinct-short c.args.names.now c.if-names-lt2.true
