use Rattle.std.proofs.Common.{◌∙◌, ap, sym, subst, All, List, Some, None}
use Rattle.plan_expr.specs.declared.expr_ir.ExprIR.{ExprIR}
use Rattle.plan_expr.specs.Leaves.{Name}
use Rattle.plan_expr.specs.Operands.{IsExpr}
use Rattle.plan_meaning.specs.Counting.{last_name}
use Rattle.plan_prune_parts.specs.Kept.{many_at}
use Rattle.plan_prune_parts.proofs.StandInLemmas.{made_stand, stands_first, stands_last}
use Rattle.plan_prune_parts.proofs.stand_in.stand_in.Goals as goal

pub first_many-requires : goal.first_many-requires
first_many-requires c =
    subst (λ (l : List ExprIR). All (λ (e : ExprIR). IsExpr c.args.ex.now e.node) l) (sym c.made_by.ensures)
    (made_stand c.args.lp.now c.args.ex.now c.args.node c.requires c.get.result.now c.get.ensures.entry)

pub returns-in-Some : goal.returns-in-Some
returns-in-Some c =
    ap (λ (a : Name). Some a) (c.in_ok-new.ensures ∙ c.output_name.ensures)
    ∙ sym (stands_first c.args.lp.now c.args.ex.now c.args.node c.requires c.get.result.now c.in-Some.expr.now c.get.ensures.entry
    (ap (many_at c.args.ex.now) (sym c.made_by.ensures) ∙ c.in-Some.ensures.some))

pub returns-in-Some-last_name : goal.returns-in-Some-last_name
returns-in-Some-last_name c =
    ap (λ (a : Name). Some a) c.in_ok-new-in-Some-last_name.ensures
    ∙ sym (stands_last c.args.lp.now c.args.ex.now c.args.node c.requires c.get.result.now (Some c.in-Some-last_name.name.now) c.get.ensures.entry
    (ap (many_at c.args.ex.now) (sym c.made_by.ensures) ∙ c.in_default.ensures.none)
    (ap last_name (sym (c.columns.ensures ∙ c.in_ok-stored.ensures.stored c.args.ex.now)) ∙ c.in-Some-last_name.ensures.some))

pub returns : goal.returns
returns c =
    sym (stands_last c.args.lp.now c.args.ex.now c.args.node c.requires c.get.result.now None c.get.ensures.entry
    (ap (many_at c.args.ex.now) (sym c.made_by.ensures) ∙ c.in_default.ensures.none)
    (ap last_name (sym (c.columns.ensures ∙ c.in_ok-stored.ensures.stored c.args.ex.now)) ∙ c.in-None.ensures.none))
