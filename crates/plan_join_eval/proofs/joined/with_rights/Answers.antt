use Rattle.std.proofs.Common.{◌∙◌, ◌++◌, [], List, ap, ap₂, map, true}
use Rattle.plan_core.specs.declared.data_type.DataType.{DataType}
use Rattle.plan_core.specs.Columns.{names_of}
use Rattle.plan_core.specs.Names.{has}
use Rattle.plan_expr.specs.Leaves.{Name}
use Rattle.plan_frame.specs.Frames.{column_or}
use Rattle.plan_frame.specs.Values.{Value}
use Rattle.plan_join.specs.Naming.{right_name, with_right}
use Rattle.plan_table.specs.Tables.{types_of}
use Rattle.plan_value.specs.Shown.{columns_shown, frame_of, values_of}
use Rattle.plan_join_eval.specs.Along.{right_column}
use Rattle.plan_join_eval.proofs.AlongLemmas.{along-same, next-new, shown-next, types-next}
use Rattle.plan_join_eval.proofs.joined.with_rights.Goals as goal

pub push_column-requires : goal.push_column-requires
push_column-requires c =
    let call = right_name c.args.suffix.now (names_of c.args.lefts.now) in
    ap (has (names_of (types_of c.loop-name.columns))) c.in_ok-right_name.ensures
    ∙ next-new (λ (x : Name × DataType). (call x.0, x.1)) (types_of c.loop-name.columns) c.loop-name.name-iterator c.next.new.self c.in-Some.name.now c.in-Some.dtype.now (with_right c.args.suffix.now c.args.lefts.now c.args.rights.now) c.requires.distinct c.in-Some.ensures.steps c.loop-name.invariant.types

pub loop-name-preserved : goal.loop-name-preserved
loop-name-preserved c =
    let g = frame_of c.args.right.now in
    let a = c.in-Some.name.now in
    let call = right_name c.args.suffix.now (names_of c.args.lefts.now) in
    let own = right_column call g c.args.pairs.now in
    let all = columns_shown c.args.columns ++ map own (names_of c.args.rights.now) in
    let values = c.in_ok-along.ensures ∙ along-same true (values_of c.column_values.result.now) (column_or g a) [] c.args.pairs.now c.column_values.ensures in
    record {
      shown = shown-next own (columns_shown c.loop-name.columns) (columns_shown c.push_column.new.columns) (record { name = c.in_ok-right_name.field-0; values = values_of c.in_ok-along.field-0 }) c.loop-name.name-iterator c.next.new.self a c.in-Some.dtype.now all
          c.in_ok-push_column.ensures.shown (ap₂ (λ (n : Name) (vs : List Value). record { name = n; values = vs }) c.in_ok-right_name.ensures values) c.in-Some.ensures.steps c.loop-name.invariant.shown;
      types = types-next (λ (x : Name × DataType). (call x.0, x.1)) (types_of c.loop-name.columns) (types_of c.push_column.new.columns) (c.in_ok-right_name.field-0, c.in-Some.dtype.now) c.loop-name.name-iterator c.next.new.self a c.in-Some.dtype.now (with_right c.args.suffix.now c.args.lefts.now c.args.rights.now)
          c.in_ok-push_column.ensures.types (ap (λ (n : Name). (n, c.in-Some.dtype.now)) c.in_ok-right_name.ensures) c.in-Some.ensures.steps c.loop-name.invariant.types;
    }
