use Rattle.std.proofs.Common.{◌≡◌, ◌∙◌, ◌<◌, ℕ, List, [], length, map, ap, ap₂, sym, subst}
use Rattle.std.proofs.lemmas.List.{length-map}
use Rattle.plan_core.specs.Columns.{Columns, with_types}
use Rattle.plan_expr.specs.Exprs.{all_named_at}
use Rattle.plan_frame.specs.Frames.{Column, Frame, with_columns}
use Rattle.plan_frame.specs.Meaning.{Cell}
use Rattle.plan_frame.specs.Orders.{key_cells}
use Rattle.plan_options.specs.declared.distinct.UniqueKeepStrategy.TheVariants.{First}
use Rattle.plan_value.specs.declared.exprs.Values.{Values}
use Rattle.plan_value.specs.Cells.{cell_of, cells_of}
use Rattle.plan_value.specs.Groups.{AreNumbered}
use Rattle.plan_value.specs.Shown.{columns_shown, frame_of, schema_of}
use Rattle.plan_eval.specs.Distinct.{kept}
use Rattle.plan_function_tables.specs.Given.{stored_column}
use Rattle.plan_eval.specs.Groups.{columns_in, group_column}
use Rattle.plan_eval.proofs.GroupLemmas.{columns-in, firsts-kept, group-columns, key_column, many-cells}
use Rattle.plan_eval.proofs.MadeLemmas.{aggs-named, groups-typed, keys-named}
use Rattle.plan_eval.proofs.group_by.group_by.Goals as goal

pub rows_of_groups-requires : goal.rows_of_groups-requires
rows_of_groups-requires c = λ i lt. let n = c.in_ok-groups.ensures in n.below i (subst (λ (h : ℕ). i < h) n.height lt)

pub key_columns-requires-clause-each : goal.key_columns-requires-clause-each
key_columns-requires-clause-each c =
    let values = c.in_ok-values.values in
    ap (λ (vs : List Values). length vs) c.as_slice-2.ensures
    ∙ sym (length-map values cell_of)
    ∙ ap (λ (cs : List Cell). length cs) c.in_ok-values.ensures
    ∙ many-cells c.args.ex.now (frame_of c.args.table.now) c.args.keys.now

pub key_columns-requires-clause-named : goal.key_columns-requires-clause-named
key_columns-requires-clause-named c = keys-named c.args.ex.now c.args.keys.now c.args.aggs.now c.args.schema.now (schema_of c.args.table.now) c.requires.valid

pub with_aggregates-requires-clause-named : goal.with_aggregates-requires-clause-named
with_aggregates-requires-clause-named c = aggs-named c.args.ex.now c.args.keys.now c.args.aggs.now c.args.schema.now (schema_of c.args.table.now) c.requires.valid

pub returns : goal.returns
returns c ts ordered options =
    let ex = c.args.ex.now in
    let g : Frame = frame_of c.args.table.now in
    let stored = c.args.schema.now in
    let keys = all_named_at ex c.args.keys.now in
    let aggs = all_named_at ex c.args.aggs.now in
    let groups = c.in_ok-groups.groups in
    let parts = c.in_ok-parts.parts.items in
    let rows = c.in_ok-firsts.firsts.items in
    let cells : cells_of c.as_slice.result.now ≡ key_cells keys g = ap cells_of c.as_slice.ensures ∙ c.in_ok-values.ensures in
    let numbered = subst (λ (cs : List Cell). AreNumbered cs g.height groups.count groups.numbers) cells c.in_ok-groups.ensures in
    let first : rows ≡ kept First parts = c.in_ok-firsts.ensures ∙ ap (kept First) c.as_slice-parts.ensures.value in
    let good = firsts-kept keys g groups.count groups.numbers parts numbered c.in_ok-parts.ensures.count c.in_ok-parts.ensures.rows in
    let whole = group-columns keys g groups.count groups.numbers parts numbered c.in_ok-parts.ensures.count c.in_ok-parts.ensures.rows aggs in
    let columns : List ℕ → List Cell → List (List ℕ) → List Column = λ (rows : List ℕ) (cells : List Cell) (parts : List (List ℕ)).
    with_columns (with_columns [] (columns_in rows c.args.keys.now cells)) (map (group_column parts g) aggs) in
    let shown : columns_shown c.in_ok-with_aggregates.field-0 ≡ columns rows (key_cells keys g) parts =
    c.in_ok-with_aggregates.ensures.shown
    ∙ ap (λ (cs : List Column). with_columns cs (map (group_column c.as_slice-parts.result.now g) aggs)) c.in_ok-columns.ensures.shown
    ∙ ap₂ (λ (rows : List ℕ) (cells : List Cell). columns rows cells c.as_slice-parts.result.now) c.as_slice-firsts.ensures.value (ap cells_of c.as_slice-2.ensures ∙ c.in_ok-values.ensures)
    ∙ ap (columns rows (key_cells keys g)) c.as_slice-parts.ensures.value
    in
    let frame : frame_of (record { height = length c.as_slice-firsts.result.now; columns = c.in_ok-with_aggregates.field-0 }) ≡ record { height = length rows; columns = columns rows (key_cells keys g) parts } =
    ap₂ (λ (h : ℕ) (cs : List Column). record { height = h; columns = cs }) (ap (λ (l : List ℕ). length l) c.as_slice-firsts.ensures.value) shown
    in
    let firsts : record { height = length rows; columns = columns rows (key_cells keys g) parts } ≡ record { height = length (kept First parts); columns = with_columns (with_columns [] (map (key_column (kept First parts) g) keys)) (map (group_column parts g) aggs) } =
    ap (λ (rows : List ℕ). record { height = length rows; columns = columns rows (key_cells keys g) parts }) first
    ∙ ap (λ (cs : List Column). record { height = length (kept First parts); columns = with_columns (with_columns [] cs) (map (group_column parts g) aggs) }) (columns-in ex (kept First parts) g c.args.keys.now)
    in
    record {
      step = (kept First parts, good, frame ∙ firsts ∙ whole);
      types =
          c.in_ok-with_aggregates.ensures.types
          ∙ ap (λ (cs : Columns). with_types cs (map (stored_column stored) c.args.aggs.now)) c.in_ok-columns.ensures.types
          ∙ groups-typed ex c.args.keys.now c.args.aggs.now stored (schema_of c.args.table.now) c.requires.valid;
    }
