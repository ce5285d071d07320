use Rattle.std.proofs.Common.{◌∙◌, ◌++◌, List, Option, ℕ, ap, ap₂, sym, map, false}
use Rattle.std.specs.Option.{option_and_then}
use Rattle.std.proofs.lemmas.List.{map-id}
use Rattle.plan_core.specs.declared.data_type.DataType.{DataType}
use Rattle.plan_core.specs.Columns.{Columns, names_of}
use Rattle.plan_core.specs.Names.{has}
use Rattle.plan_expr.specs.Leaves.{Name}
use Rattle.plan_frame.specs.Frames.{column_or}
use Rattle.plan_frame.specs.Values.{Value}
use Rattle.plan_table.specs.Tables.{types_of}
use Rattle.plan_value.specs.Shown.{columns_shown, frame_of, values_of}
use Rattle.plan_join_eval.specs.Along.{filling, left_column, slot, value_along}
use Rattle.plan_join_eval.proofs.AlongLemmas.{along-same, next-new, shown-next, types-next}
use Rattle.plan_join_eval.proofs.joined.with_lefts.Goals as goal

pub push_column-requires : goal.push_column-requires
push_column-requires c =
    ap (has (names_of (types_of c.loop-name.columns))) c.in_ok-new.ensures
    ∙ next-new (λ (x : Name × DataType). x) (types_of c.loop-name.columns) c.loop-name.name-iterator c.next.new.self c.in-Some.name.now c.in-Some.dtype.now c.args.lefts.now c.iter-name-items.ensures.distinct c.in-Some.ensures.steps
    (ap (λ (cs : Columns). types_of c.loop-name.columns ++ cs) (map-id c.loop-name.name-iterator) ∙ c.loop-name.invariant.types)

pub loop-name-preserved : goal.loop-name-preserved
loop-name-preserved c =
    let f = frame_of c.args.left.now in
    let g = frame_of c.args.right.now in
    let fills = c.args.fills.now in
    let a = c.in-Some.name.now in
    let own = left_column c.args.places.now fills f g c.args.pairs.now in
    let filler = ap (λ (o : Option ℕ). filling g (option_and_then (slot fills) o)) c.index_of.ensures.place in
    let values = c.in_ok-along.ensures
    ∙ along-same false (values_of c.column_values-own.result.now) (column_or f a) (values_of c.filler_values-others.result.now) c.args.pairs.now c.column_values-own.ensures
    ∙ ap (λ (others : List Value). map (value_along false (column_or f a) others) c.args.pairs.now) (c.filler_values-others.ensures ∙ filler) in
    record {
      shown = shown-next own (columns_shown c.loop-name.columns) (columns_shown c.push_column.new.columns) (record { name = c.in_ok-new.field-0; values = values_of c.in_ok-along.field-0 }) c.loop-name.name-iterator c.next.new.self a c.in-Some.dtype.now (map own (names_of c.args.lefts.now))
          c.in_ok-push_column.ensures.shown (ap₂ (λ (n : Name) (vs : List Value). record { name = n; values = vs }) c.in_ok-new.ensures values) c.in-Some.ensures.steps c.loop-name.invariant.shown;
      types = ap (λ (cs : Columns). types_of c.push_column.new.columns ++ cs) (sym (map-id c.next.new.self))
          ∙ types-next (λ (x : Name × DataType). x) (types_of c.loop-name.columns) (types_of c.push_column.new.columns) (c.in_ok-new.field-0, c.in-Some.dtype.now) c.loop-name.name-iterator c.next.new.self a c.in-Some.dtype.now c.args.lefts.now
          c.in_ok-push_column.ensures.types (ap (λ (n : Name). (n, c.in-Some.dtype.now)) c.in_ok-new.ensures) c.in-Some.ensures.steps
          (ap (λ (cs : Columns). types_of c.loop-name.columns ++ cs) (map-id c.loop-name.name-iterator) ∙ c.loop-name.invariant.types);
    }
