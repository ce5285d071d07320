use Rattle.std.proofs.Common.{Bool, not, ap, sym, ◌∙◌}
use Rattle.plan_expr.specs.declared.aexpr.AExpr.{AExpr}
use Rattle.plan_expr.specs.Walks.{reached, works_row_wise}
use Rattle.plan_expr.proofs.ListLemmas.{answers_any, none-any}
use Rattle.plan_expr.proofs.scalar.is_elementwise.Goals as goal

pub returns : goal.returns
returns c =
    let test : AExpr → Bool = λ e. not (works_row_wise e) in
    ap not (answers_any test _ _ _ _ c.has_aexpr.ensures.found c.has_aexpr.ensures.absent (λ e b h. ap test (sym h.shows) ∙ sym h.says.met))
    ∙ none-any works_row_wise (reached c.args.ex.now c.args.node)
