use Rattle.std.proofs.Common.{not, ap, sym, ◌∙◌}
use Rattle.plan_expr.proofs.ListLemmas.{answers_any}
use Rattle.plan_dsl.specs.Typing.{has_own_form}
use Rattle.plan_dsl.specs.Walks.{preorder}
use Rattle.plan_dsl.proofs.FormLemmas.{all-not_any}
use Rattle.plan_dsl.proofs.expr.Expr.has_form.Goals as goal

pub returns : goal.returns
returns c =
    ap not (answers_any (λ e. not (has_own_form e)) _ _ _ _ c.has_expr.ensures.found c.has_expr.ensures.absent (λ e b h. ap (λ x. not (has_own_form x)) (sym h.shows) ∙ sym h.says.met))
    ∙ sym (all-not_any has_own_form (preorder c.args.self.now))
