use Rattle.std.proofs.Common.{ap, sym, ◌∙◌}
use Rattle.plan_dsl.specs.Names.{is_null}
use Rattle.plan_expr.proofs.ListLemmas.{answers_any}
use Rattle.plan_dsl.proofs.find.has_null.Goals as goal

pub returns : goal.returns
returns c = answers_any is_null _ _ _ _ c.has_expr.ensures.found c.has_expr.ensures.absent (λ e b h. ap is_null (sym h.shows) ∙ sym h.says.met)
