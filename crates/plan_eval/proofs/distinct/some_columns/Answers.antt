use Rattle.std.proofs.Common.{◌≡◌, ◌∙◌, ◌+◌, ◌++◌, ◌∷◌, [], List, ap, ap₂, sym, subst, take}
use Rattle.std.proofs.lemmas.List.{map-append, take_more}
use Rattle.plan_expr.specs.Leaves.{Name}
use Rattle.plan_frame.specs.Frames.{column_or}
use Rattle.plan_frame.specs.Meaning.{Cell, many}
use Rattle.plan_value.specs.declared.exprs.Values.{Values}
use Rattle.plan_value.specs.declared.exprs.Values.TheVariants.{Many}
use Rattle.plan_value.specs.Cells.{cell_of, cells_of}
use Rattle.plan_value.specs.Shown.{frame_of}
use Rattle.plan_eval.specs.Distinct.{columns_named}
use Rattle.plan_eval.proofs.distinct.some_columns.Goals as goal

pub loop-name-preserved : goal.loop-name-preserved
loop-name-preserved c =
    let f = frame_of c.args.table.now in
    let names = c.args.names.now in
    let i = c.loop-name.name-index in
    let name = c.name-item.result in
    let cell : Name → Cell = λ (a : Name). many (column_or f a) in
    let values = c.in_ok-column.field-0 in
    let own : cell_of (Many values) ≡ cell name = ap many c.in_ok-column.ensures ∙ ap cell c.as_str.ensures in
    subst (λ (vs : List Values). cells_of vs ≡ columns_named f (take (i + 1) names)) (sym c.in_ok-push.ensures.pushed)
    (map-append cell_of c.loop-name.columns (Many values ∷ [])
    ∙ ap₂ (λ (cs : List Cell) (d : Cell). cs ++ d ∷ []) c.loop-name.invariant own
    ∙ sym (map-append cell (take i names) (name ∷ []))
    ∙ ap (columns_named f) (sym (take_more names i name c.loop-name-test.true ∙ ap (λ (a : Name). take i names ++ a ∷ []) (sym c.name-item.is))))
