use Rattle.std.proofs.Common.{◌≡◌, ◌∙◌, ◌++◌, ◌∷◌, [], List, ap, sym, append_assoc}
use Rattle.std.proofs.lemmas.List.{map-append}
use Rattle.plan_expr.specs.Leaves.{Name}
use Rattle.plan_frame.specs.Frames.{column_names, column_or}
use Rattle.plan_frame.specs.Meaning.{Cell, many}
use Rattle.plan_table.specs.declared.column.Column.{Column as Typed}
use Rattle.plan_value.specs.declared.exprs.Values.{Values}
use Rattle.plan_value.specs.declared.exprs.Values.TheVariants.{Many}
use Rattle.plan_value.specs.Cells.{cell_of, cells_of}
use Rattle.plan_value.specs.Shown.{columns_shown, frame_of}
use Rattle.plan_eval.specs.Distinct.{columns_named}
use Rattle.plan_eval.proofs.distinct.all_columns.Goals as goal

pub loop-own-preserved : goal.loop-own-preserved
loop-own-preserved c =
    let f = frame_of c.args.table.now in
    let rest = c.next.new.self in
    let own = c.in-Some.own.now in
    let done = c.loop-own.columns in
    let values = c.in_ok-column.field-0 in
    let left : List Cell = columns_named f (column_names (columns_shown rest)) in
    let cell : Name → Cell = λ (a : Name). many (column_or f a) in
    let here : cell_of (Many values) ≡ cell own.name = ap many c.in_ok-column.ensures ∙ ap cell c.as_str.ensures in
    ap (λ (vs : List Values). cells_of vs ++ left) c.in_ok-push.ensures.pushed
    ∙ ap (λ (cs : List Cell). cs ++ left) (map-append cell_of done (Many values ∷ []))
    ∙ append_assoc (cells_of done) (cell_of (Many values) ∷ []) left
    ∙ ap (λ (d : Cell). cells_of done ++ d ∷ left) here
    ∙ ap (λ (cs : List Typed). cells_of done ++ columns_named f (column_names (columns_shown cs))) (sym c.in-Some.ensures.steps)
    ∙ c.loop-own.invariant
