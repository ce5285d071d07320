use Rattle.std.proofs.Common.{◌∙◌, ◌++◌, List, ap, ap₂, map, length}
use Rattle.plan_core.specs.Columns.{Columns, names_of}
use Rattle.plan_options.specs.Join.{suffix_of}
use Rattle.plan_expr.specs.Leaves.{Name}
use Rattle.plan_frame.specs.Frames.{Column}
use Rattle.plan_join.specs.Naming.{key_columns, left_rest, right_name}
use Rattle.plan_join.specs.Sides.{filler}
use Rattle.plan_value.specs.Shown.{frame_of, schema_of}
use Rattle.plan_join_eval.specs.Along.{filled_column, right_column}
use Rattle.plan_join_eval.proofs.TableLemmas.{table-joined}
use Rattle.plan_join_eval.proofs.joined.joined_table.Goals as goal

pub returns-clause-frame : goal.returns-clause-frame
returns-clause-frame c =
    let args = c.args.args.now in
    let lk = key_columns c.args.ex.now c.args.left_on.now in
    let rk = key_columns c.args.ex.now c.args.right_on.now in
    let ps = c.args.pairs.now in
    let f = frame_of c.args.left.now in
    let g = frame_of c.args.right.now in
    let lefts = c.in_ok-lefts.ensures in
    let first = c.in_ok-columns.ensures.shown ∙ ap (λ (u : Columns). map (filled_column (filler args lk rk) f g ps) (names_of u)) lefts in
    let second = ap₂ (λ (x : Name) (u : Columns). map (right_column (right_name x (names_of u)) g ps) (names_of c.in_ok-rights.rights)) c.suffix.ensures lefts
    ∙ ap (λ (u : Columns). map (right_column (right_name (suffix_of args) (names_of (left_rest args lk (schema_of c.args.left.now)))) g ps) (names_of u)) c.in_ok-rights.ensures in
    ap (λ (cs : List Column). record { height = length ps; columns = cs })
    (c.in_ok-with_rights.ensures.shown ∙ ap₂ (λ (xs ys : List Column). xs ++ ys) first second ∙ table-joined args lk rk ps c.args.left.now c.args.right.now)
