use Rattle.std.proofs.Common.{◌≡◌, ◌∙◌, ◌+◌, ◌++◌, ◌∷◌, [], List, None, Option, Some, ap, subst, sym, take}
use Rattle.std.proofs.lemmas.List.{take_more}
use Rattle.plan_expr.specs.Leaves.{Name}
use Rattle.plan_frame.specs.Frames.{Column, found, picked_columns}
use Rattle.plan_frame.specs.Values.{Value}
use Rattle.plan_frame.proofs.NameSets.{named}
use Rattle.plan_table.specs.Tables.{column_of}
use Rattle.plan_value.specs.Shown.{column_shown, columns_shown}
use Rattle.plan_value.proofs.ColumnLemmas.{shown-with}
use Rattle.plan_value.proofs.ReadLemmas.{Reads, column_of-name, picked-values, reads-absent, reads-column}
use Rattle.plan_value.proofs.rows.rows_of_columns.Goals as goal
use Rattle.plan_value.proofs.rows.rows_of_columns.Goals.{in-Some+in_ok-picked_column+in_ok-with_column, in_default}

pub loop-name-preserved : goal.loop-name-preserved
loop-name-preserved c =
    let rows = c.args.rows.now in
    let cols = c.args.table.now.columns in
    let names = c.args.names.now in
    let i = c.loop-name.name-index in
    let n = c.name-item.result in
    let old = c.loop-name.columns in
    let values : Name → Option (List Value) = λ (a : Name). found (picked_columns rows (columns_shown cols)) a in
    let upto : take (i + 1) names ≡ take i names ++ n ∷ [] = take_more names i n c.loop-name-test.true ∙ ap (λ (x : Name). take i names ++ x ∷ []) (sym c.name-item.is) in
    let put : (cs : List Column) → columns_shown c.match-get.columns ≡ cs → Reads values cs (take i names ++ n ∷ []) → Reads values (columns_shown c.match-get.columns) (take (i + 1) names) =
    λ cs e h. subst (λ (x : List Column). Reads values x (take (i + 1) names)) (sym e) (subst (Reads values cs) (sym upto) h) in
    elim c.match-get.branch [
      | in-Some+in_ok-picked_column+in_ok-with_column w ↦
          let own = w.in-Some.column.now in
          let d = w.in_ok-picked_column.field-0 in
          let there : column_of cols n ≡ Some own = ap (column_of cols) (sym c.as_str.ensures) ∙ sym w.in-Some.ensures in
          let shown = w.in_ok-picked_column.ensures.shown in
          put _ (ap columns_shown (w.columns-is ∙ w.in_ok-with_column.ensures.after) ∙ shown-with old d)
          (reads-column values (columns_shown old) (take i names) n (column_shown d)
          (named n own.name (column_of-name cols n own there) ∙ ap (λ (x : Column). x.name) (sym shown))
          (picked-values rows cols n (Some own) there ∙ ap (λ (x : Column). Some x.values) (sym shown))
          c.loop-name.invariant)
      | in_default w ↦
          let gone : column_of cols n ≡ None = ap (column_of cols) (sym c.as_str.ensures) ∙ sym w.in_default.ensures in
          put _ (ap columns_shown w.columns-is) (reads-absent values (columns_shown old) (take i names) n (picked-values rows cols n None gone) c.loop-name.invariant)
    ]
