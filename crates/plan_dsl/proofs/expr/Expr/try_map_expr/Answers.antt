use Rattle.std.proofs.Common.{[], ◌∷◌, Ok, Err, subst}
use Rattle.std.specs.Fn.{Called}
use Rattle.plan_dsl.specs.Maps.{Maps, StopsAt}
use Rattle.plan_dsl.proofs.expr.Expr.try_map_expr.Goals as goal

pub returns-in-Ok-clause-mapped : goal.returns-in-Ok-clause-mapped
returns-in-Ok-clause-mapped g c = (
  c.rewrite.new.visitor,
  subst (λ f. Maps (λ p n a q. Called g.F.FnMut p (n, tt) (Ok a) q) f (c.args.self ∷ []) (c.in-Ok.expr ∷ []) c.rewrite.new.visitor) c.new-mapper.ensures c.in-Ok.ensures.mapped,
)

pub returns-clause-refused : goal.returns-clause-refused
returns-clause-refused g c = (
  c.rewrite.new.visitor,
  subst (λ f. StopsAt (λ p n a q. Called g.F.FnMut p (n, tt) (Ok a) q) (λ p n x q. Called g.F.FnMut p (n, tt) (Err x) q) f (c.args.self ∷ []) c.in-Err.fault c.rewrite.new.visitor) c.new-mapper.ensures c.in-Err.ensures.refused,
)
