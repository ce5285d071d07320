use Rattle.std.proofs.Common.{[], ◌∷◌, subst}
use Rattle.std.specs.Fn.{Called}
use Rattle.plan_dsl.specs.Maps.{Maps}
use Rattle.plan_dsl.proofs.expr.Expr.map_expr.Goals as goal

pub returns-in-Ok : goal.returns-in-Ok
returns-in-Ok g c = (
  c.rewrite.new.visitor,
  subst (λ f. Maps (λ p n a q. Called g.F.FnMut p (n, tt) a q) f (c.args.self ∷ []) (c.in-Ok.expr ∷ []) c.rewrite.new.visitor) c.new-mapper.ensures c.in-Ok.ensures.mapped,
)
