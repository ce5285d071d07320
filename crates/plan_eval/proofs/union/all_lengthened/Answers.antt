use Rattle.std.proofs.Common.{◌≡◌, ◌∙◌, ◌∷◌, ◌++◌, List, map, ap, ap₂, sym}
use Rattle.std.proofs.lemmas.List.{append-nil}
use Rattle.plan_core.specs.Columns.{Columns}
use Rattle.plan_core.specs.declared.data_type.DataType.{DataType}
use Rattle.plan_expr.specs.Leaves.{Name}
use Rattle.plan_frame.specs.Frames.{Column}
use Rattle.plan_table.specs.declared.column.Column.{Column as Typed}
use Rattle.plan_table.specs.Tables.{types_of}
use Rattle.plan_value.specs.Shown.{columns_shown, frame_of}
use Rattle.plan_value.proofs.ColumnLemmas.{put-types, put-shown}
use Rattle.plan_eval.specs.Stacks.{lengthened}
use Rattle.plan_eval.proofs.union.all_lengthened.Goals as goal

pub loop-column-preserved : goal.loop-column-preserved
loop-column-preserved c =
    let own = c.in-Some.column in
    let d = c.in_ok-lengthened.field-0 in
    let rest = c.next.new.self in
    let left = c.loop-column.column-iterator in
    let whole = types_of c.args.columns in
    let by : List Column → List Column = map (lengthened (frame_of c.args.table.now)) in
    let named : d.name ≡ own.name = ap (λ (x : Column). x.name) c.in_ok-lengthened.ensures.shown in
    let typed : (own.name, own.dtype) ≡ (d.name, d.dtype) = ap₂ (λ (a : Name) (t : DataType). (a, t)) (sym named) (sym c.in_ok-lengthened.ensures.dtype) in
    let steps = ap types_of c.in-Some.ensures.steps ∙ ap (λ (x : Name × DataType). x ∷ types_of rest) typed in
    let shown = ap (λ (cs : List Typed). by (columns_shown cs)) c.in-Some.ensures.steps ∙ ap (λ (x : Column). x ∷ by (columns_shown rest)) (sym c.in_ok-lengthened.ensures.shown) in
    rw c.in_ok-with_column.ensures.after (
      put-shown c.loop-column.made d (types_of left) (types_of rest) whole c.into_values-column-items.ensures.distinct c.loop-column.invariant.1 steps
          (by (columns_shown left)) (by (columns_shown rest)) (by (columns_shown c.args.columns)) c.loop-column.invariant.0 shown,
      put-types c.loop-column.made d (types_of left) (types_of rest) whole c.into_values-column-items.ensures.distinct c.loop-column.invariant.1 steps,
    )

pub returns-clause-shown : goal.returns-clause-shown
returns-clause-shown c =
    let by : List Column → List Column = map (lengthened (frame_of c.args.table.now)) in
    sym (append-nil (columns_shown c.loop-column.made))
    ∙ ap (λ (left : List Typed). columns_shown c.loop-column.made ++ by (columns_shown left)) (sym c.in-None.ensures.steps.0)
    ∙ c.loop-column.invariant.0

pub returns-clause-types : goal.returns-clause-types
returns-clause-types c =
    sym (append-nil (types_of c.loop-column.made))
    ∙ ap (λ (left : List Typed). types_of c.loop-column.made ++ types_of left) (sym c.in-None.ensures.steps.0)
    ∙ c.loop-column.invariant.1
