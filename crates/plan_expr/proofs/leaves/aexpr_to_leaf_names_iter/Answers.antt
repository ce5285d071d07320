use Rattle.std.proofs.Common.{◌∙◌, ap}
use Rattle.plan_expr.specs.Walks.{column_names}
use Rattle.plan_expr.proofs.LeafLemmas.{leaves_of}
use Rattle.plan_expr.proofs.leaves.aexpr_to_leaf_names_iter.Goals as goal

pub returns : goal.returns
returns c = ap column_names c.in_ok-iter.ensures ∙ leaves_of c.args.ex.now c.args.node c.requires
