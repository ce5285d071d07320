use Rattle.std.proofs.Common.{◌∙◌, ap₂}
use Rattle.plan_core.specs.declared.data_type.DataType.{DataType}
use Rattle.plan_core.specs.Columns.{Columns, names_of}
use Rattle.plan_core.specs.Names.{has}
use Rattle.plan_expr.specs.Leaves.{Name}
use Rattle.plan_join_eval.proofs.ReadLemmas.{next-read}
use Rattle.plan_join_eval.proofs.reads.read_table.Goals as goal

pub push_column-requires : goal.push_column-requires
push_column-requires c =
    ap₂ (λ (cs : Columns) (x : Name × DataType). has (names_of cs) x.0) c.loop-read.invariant.types c.in_ok-read_column.ensures.typed
    ∙ next-read c.args.reads.now c.loop-read.read-index c.read-item.result c.loop-read-test.true c.read-item.is c.requires
