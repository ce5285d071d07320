use Rattle.std.proofs.Common.{ap, sym, ◌∙◌}
use Rattle.plan_expr.specs.Walks.{is_window}
use Rattle.plan_expr.proofs.ListLemmas.{answers_any}
use Rattle.plan_expr.proofs.find.has_aexpr_window.Goals as goal

pub returns : goal.returns
returns c = answers_any is_window _ _ _ _ c.has_aexpr.ensures.found c.has_aexpr.ensures.absent (λ e b h. ap is_window (sym h.shows) ∙ sym h.says.met)
