use Rattle.std.proofs.Common.{◌∙◌, true, false, Option, option_map, ap}
use Rattle.plan_expr.specs.Leaves.{Name}
use Rattle.plan_join.specs.declared.origin.Side.TheVariants as sides
use Rattle.plan_join.proofs.ColumnLemmas.{found}
use Rattle.plan_prune_parts.proofs.OriginLemmas.{origin-left, origin-right}
use Rattle.plan_prune_parts.proofs.origins.Origins.get.Goals as goal

pub returns-then-is_some-clause-some : goal.returns-then-is_some-clause-some
returns-then-is_some-clause-some c =
    origin-left c.args.self.now c.args.name.now (found c.args.self.now.left c.args.name.now c.get.result c.is_some.result true c.get.ensures c.is_some.ensures c.if-is_some.true)

pub returns-in-Some-clause-some : goal.returns-in-Some-clause-some
returns-in-Some-clause-some c =
    origin-right c.args.self.now c.args.name.now (found c.args.self.now.left c.args.name.now c.get.result c.is_some.result false c.get.ensures c.is_some.ensures c.if-is_some.false)
    ∙ ap (λ (o : Option Name). option_map (λ (b : Name). (sides.Right, b)) o) c.in-Some.ensures.some

pub returns-in-None-clause-none : goal.returns-in-None-clause-none
returns-in-None-clause-none c =
    origin-right c.args.self.now c.args.name.now (found c.args.self.now.left c.args.name.now c.get.result c.is_some.result false c.get.ensures c.is_some.ensures c.if-is_some.false)
    ∙ ap (λ (o : Option Name). option_map (λ (b : Name). (sides.Right, b)) o) c.in-None.ensures.none
