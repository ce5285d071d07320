use Rattle.std.proofs.Common.{◌≡◌, sym, subst, List, OnOk}
use Rattle.plan_expr.specs.declared.aexpr.AExpr.{AExpr}
use Rattle.plan_ir.specs.declared.ir.IR.{IR}
use Rattle.plan_prune_steps.specs.Steps.{put_back}
use Rattle.plan_prune_steps.proofs.step.put.Goals as goal

pub returns-in-HStack-clause-placed : goal.returns-in-HStack-clause-placed
returns-in-HStack-clause-placed c =
    subst (λ (p : IR). OnOk c.put.result ((ex : List AExpr) → c.put.new.lp ≡ put_back c.args.is_asked c.args.lp.now ex c.args.node p)) (sym c.in-HStack.is) c.put.ensures.placed

pub returns-in-HConcat-clause-placed : goal.returns-in-HConcat-clause-placed
returns-in-HConcat-clause-placed c =
    subst (λ (p : IR). OnOk c.put-in-HConcat.result ((ex : List AExpr) → c.put-in-HConcat.new.lp ≡ put_back c.args.is_asked c.args.lp.now ex c.args.node p)) (sym c.in-HConcat.is) c.put-in-HConcat.ensures.placed
