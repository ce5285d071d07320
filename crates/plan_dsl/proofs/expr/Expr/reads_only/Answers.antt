use Rattle.std.proofs.Common.{not, ap, sym, ◌∙◌}
use Rattle.plan_expr.proofs.ListLemmas.{answers_any}
use Rattle.plan_dsl.specs.Typing.{is_known}
use Rattle.plan_dsl.specs.Walks.{preorder}
use Rattle.plan_dsl.proofs.FormLemmas.{all-not_any}
use Rattle.plan_dsl.proofs.expr.Expr.reads_only.Goals as goal

pub returns : goal.returns
returns c =
    ap not (answers_any (λ e. not (is_known c.args.schema.now e)) _ _ _ _ c.has_expr.ensures.found c.has_expr.ensures.absent (λ e b h. ap (λ x. not (is_known c.args.schema.now x)) (sym h.shows) ∙ sym h.says.met))
    ∙ sym (all-not_any (is_known c.args.schema.now) (preorder c.args.self.now))
