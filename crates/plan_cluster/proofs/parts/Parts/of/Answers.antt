use Rattle.std.proofs.Common.{◌≡◌, ◌∙◌, ap, ap₂, sym, subst, List}
use Rattle.plan_expr.specs.Exprs.{Named, all_named_at}
use Rattle.plan_expr.specs.Leaves.{Name}
use Rattle.plan_core.specs.Names.{has}
use Rattle.plan_collapse_laws.specs.Staying.{IsOne, out, stays}
use Rattle.plan_cluster.specs.ExprNames.{expr_names}
use Rattle.plan_cluster.specs.Parts.{AreParts, parts_more}
use Rattle.plan_cluster.specs.declared.parts.Parts.{Parts}
use Rattle.plan_cluster.proofs.PartLemmas.{parts-are}
use Rattle.plan_cluster.proofs.parts.Parts.of.Goals as goal

pub returns : goal.returns
returns c =
    let ex = c.args.ex.now in
    let us = c.args.upper.now in
    let lower = expr_names c.args.lower.now in
    let found : List Name = c.in_ok-found.found in
    let h : (e : Named) → IsOne e (all_named_at ex us) → has found (out e) ≡ stays (all_named_at ex us) lower e = λ e i. c.in_ok-found.ensures e i ∙ ap (λ (l : List Name). stays (all_named_at ex us) l e) c.in_ok-places.ensures in
    subst (AreParts ex us lower)
    (sym (c.in_ok-add_all.ensures ∙ ap₂ (λ (l : List Name) (p : Parts). parts_more found l p us) c.in_ok-places.ensures c.new-parts.ensures))
    (parts-are found lower ex us h)
