use Rattle.std.proofs.Common.{map, refl}
use Rattle.plan_builder.specs.Builds.{addition, own_expr}
use Rattle.plan_builder.proofs.Follow.{next_stands, own_stand}
use Rattle.plan_builder.proofs.builder.IRBuilder.with_columns_simple.Goals as goal

pub own_exprs-requires : goal.own_exprs-requires
own_exprs-requires c =
    let ex = c.args.self.now.expr_arena.now in
    let es = map (own_expr ex) c.args.exprs.now in
    own_stand ex c.args.exprs.now (next_stands c.args.self.now.lp_arena.now ex (addition c.args.self.now.lp_arena.now ex c.args.self.now.root es c.args.options) es c.requires.follows refl)
