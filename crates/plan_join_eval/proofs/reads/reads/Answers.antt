use Rattle.std.proofs.Common.{◌∙◌, [], List, ap}
use Rattle.std.specs.List.{filter as only_where}
use Rattle.plan_expr.specs.Leaves.{Name}
use Rattle.plan_join.specs.Joined.{joined}
use Rattle.plan_value.specs.Shown.{frame_of}
use Rattle.plan_join_eval.specs.Reads.{is_read}
use Rattle.plan_join_eval.proofs.reads.reads.Goals as goal

pub returns-clause-columns : goal.returns-clause-columns
returns-clause-columns c = λ ps.
    c.in_ok-reads_named.ensures.columns ps
    ∙ ap (λ (names : List Name). only_where (is_read names) (joined c.args.args.now [] [] ps (frame_of c.args.left.now) (frame_of c.args.right.now)).columns) c.in_ok-names.ensures
