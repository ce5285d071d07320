use Rattle.std.proofs.Common.{◌∙◌, ◌++◌, List, map, ap}
use Rattle.std.specs.List.{filter as only_where}
use Rattle.plan_core.specs.declared.data_type.DataType.{DataType}
use Rattle.plan_core.specs.Columns.{Columns, names_of}
use Rattle.plan_expr.specs.Leaves.{Name}
use Rattle.plan_frame.specs.Frames.{Column}
use Rattle.plan_join.specs.Naming.{right_name}
use Rattle.plan_value.specs.Shown.{frame_of}
use Rattle.plan_join_eval.specs.Along.{right_column}
use Rattle.plan_join_eval.specs.declared.reads.Read.{Read}
use Rattle.plan_join_eval.specs.Reads.{is_named, is_read, left_along, read_column, read_type}
use Rattle.plan_join_eval.proofs.reads.reads_among.Goals as goal

pub returns-clause-columns : goal.returns-clause-columns
returns-clause-columns c = λ ps.
    let names = c.args.names.now in
    let ls = c.args.lefts.now in
    let first = only_where (is_read names) (map (left_along (frame_of c.args.left.now) ps) (names_of ls)) in
    let second = only_where (is_read names) (map (right_column (right_name c.args.suffix.now (names_of ls)) (frame_of c.args.right.now) ps) (names_of c.args.rights.now)) in
    c.in_ok-add_rights.ensures.columns ps
    ∙ ap (λ (cs : List Column). cs ++ second) (c.in_ok-add_lefts.ensures.columns ps ∙ ap (λ (rs : List Read). map (read_column ps) rs ++ first) c.new-reads.ensures)

pub returns-clause-types : goal.returns-clause-types
returns-clause-types c =
    let names = c.args.names.now in
    let ls = c.args.lefts.now in
    let second = only_where (is_named names) (map (λ (x : Name × DataType). (right_name c.args.suffix.now (names_of ls) x.0, x.1)) c.args.rights.now) in
    c.in_ok-add_rights.ensures.types
    ∙ ap (λ (cs : Columns). cs ++ second) (c.in_ok-add_lefts.ensures.types ∙ ap (λ (rs : List Read). map read_type rs ++ only_where (is_named names) ls) c.new-reads.ensures)
