use Rattle.std.proofs.Common.{◌≡◌, ◌∙◌, ◌∷◌, ℕ, List, ap, sym, fold, map}
use Rattle.std.specs.List.{range_with_len}
use Rattle.std.proofs.lemmas.List.Sums.{fold-append}
use Rattle.plan_core.specs.Columns.{Columns}
use Rattle.plan_frame.specs.Frames.{Column, levelled, picked_columns, with_new_column}
use Rattle.plan_frame.specs.Beside.{in_a_row, with_new}
use Rattle.plan_table.specs.declared.table.Table.{Table}
use Rattle.plan_table.specs.Tables.{types_of}
use Rattle.plan_value.specs.Shown.{columns_shown, frame_of, schema_of}
use Rattle.plan_eval.proofs.hconcat.hconcat.Goals as goal

pub loop-table-preserved : goal.loop-table-preserved
loop-table-preserved c =
    let t = c.in-Some.table in
    let inv = c.loop-table.invariant in
    let done = c.loop-table.columns in
    let rest = c.next.new.self.rest.items in
    let h = c.highest-height.result in
    let steps = c.in-Some.ensures.steps.0 in
    let own : List ℕ → List Column = λ (ns : List ℕ). picked_columns ns (columns_shown t.columns) in
    record {
      shown =
          ap (λ (cs : List Column). fold with_new_column cs (levelled h (map frame_of rest))) c.in_ok-append_rows.ensures.shown
          ∙ sym (fold-append with_new_column (columns_shown done) (own (range_with_len 0 h)) (levelled h (map frame_of rest)))
          ∙ sym (ap (λ (ts : List Table). fold with_new_column (columns_shown done) (levelled h (map frame_of ts))) steps)
          ∙ inv.shown;
      types =
          ap (λ (cs : Columns). fold with_new cs (in_a_row (map schema_of rest))) c.in_ok-append_rows.ensures.types
          ∙ sym (fold-append with_new (types_of done) (schema_of t) (in_a_row (map schema_of rest)))
          ∙ sym (ap (λ (ts : List Table). fold with_new (types_of done) (in_a_row (map schema_of ts))) steps)
          ∙ inv.types;
    }
