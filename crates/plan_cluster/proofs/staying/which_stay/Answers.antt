use Rattle.std.proofs.Common.{◌≡◌, ◌∙◌, ap, ap₂, sym, subst, length, List, ℕ}
use Rattle.std.proofs.lemmas.List.{length-map}
use Rattle.plan_core.specs.Names.{AreDistinct, has}
use Rattle.plan_expr.specs.Exprs.{all_named_at}
use Rattle.plan_expr.specs.Leaves.{Name}
use Rattle.plan_frame.specs.ExprLists.{out_names}
use Rattle.plan_collapse_laws.specs.Staying.{out}
use Rattle.plan_cluster.specs.ExprNames.{expr_name}
use Rattle.plan_cluster.specs.Found.{found_after}
use Rattle.plan_cluster.proofs.FoundLemmas.{found-stay}
use Rattle.plan_cluster.proofs.NameLemmas.{names-read}
use Rattle.plan_cluster.proofs.staying.which_stay.Goals as goal

pub returns : goal.returns
returns c =
    let ex = c.args.ex.now in
    let lower = c.args.lower.now in
    let es = all_named_at ex c.args.upper.now in
    let many : length c.args.upper.now ≡ length (out_names es) = sym (ap length (names-read ex c.args.upper.now) ∙ length-map c.args.upper.now expr_name) in
    λ e i.
    ap (λ (l : List Name). has l (out e)) (c.in_ok-add_all_awaited.ensures ∙ ap₂ (λ (f : List Name) (n : ℕ). found_after es lower f n) c.in_ok-found.ensures many)
    ∙ found-stay es lower (subst AreDistinct (sym (names-read ex c.args.upper.now)) c.requires.once) e i
