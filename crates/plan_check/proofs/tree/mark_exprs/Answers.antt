use Rattle.std.proofs.Common.{◌≡◌, ◌∙◌, ◌++◌, ◌∷◌, [], ap, sym, Bor, List, map, take, append_assoc}
use Rattle.plan_core.specs.declared.error.At.{At}
use Rattle.plan_expr.specs.declared.expr_ir.ExprIR.{ExprIR}
use Rattle.plan_tree.specs.declared.walking.Step.{Step}
use Rattle.plan_meaning.specs.TreeFaults.{marked}
use Rattle.plan_check.proofs.TreeFaultLemmas.{lent-more}
use Rattle.plan_check.proofs.tree.mark_exprs.Goals as goal

pub loop-i-preserved : goal.loop-i-preserved
loop-i-preserved c =
    let so_far : List (Step At) = marked c.args.node 1 (take c.loop-i.i (map (λ (e : Bor ExprIR). e.now) c.args.exprs.now)) in
    let s : Step At = record { node = c.index-exprs-i.result.now.node; mark = c.at.result } in
    let now : c.push.new.self ≡ c.loop-i.out ++ s ∷ [] = c.in_ok-push.ensures.pushed in
    let before : c.loop-i.out ≡ c.args.out.now ++ so_far = c.loop-i.invariant in
    now ∙ ap (λ (l : List (Step At)). l ++ s ∷ []) before ∙ append_assoc c.args.out.now so_far (s ∷ [])
    ∙ ap (λ (l : List (Step At)). c.args.out.now ++ l) (sym (rw c.at.ensures (lent-more c.args.node c.args.exprs.now c.loop-i.i c.index-exprs-i.result c.loop-i-test.true c.index-exprs-i.is)))
