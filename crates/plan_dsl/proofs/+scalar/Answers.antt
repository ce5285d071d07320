use Rattle.std.proofs.Common.{rules}
use Rattle.plan_dsl.specs.declared.expr.AggExpr.TheViews.{the_lemmas}
use Rattle.plan_dsl.proofs.TypeLemmas.{are_scalar-is}
use Rattle.plan_dsl.proofs.+scalar.Goals as goal

pub expr::Expr::is_scalar-returns-in-Function : goal.expr::Expr::is_scalar-returns-in-Function
expr::Expr::is_scalar-returns-in-Function t c = search (rules, the_lemmas, are_scalar-is)
