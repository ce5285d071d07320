use Rattle.std.proofs.Common.{◌≡◌, ◌∙◌, [], None, Some, slice_get, ap, sym, subst, rules}
use Rattle.std.specs.Option.{option_copied, option_map, unwrap_or}
use Rattle.std.proofs.lemmas.Option.{slice_get-get_or}
use Rattle.plan_core.specs.Columns.{Columns, type_of, place_of}
use Rattle.plan_file_scan.specs.FileFrames.{hive_value}
use Rattle.plan_scan.specs.Stats.{Stats, columns_of}
use Rattle.plan_scan.specs.declared.stats.ColumnStats.{ColumnStats}
use Rattle.plan_value.specs.Shown.{value_of}
use Rattle.plan_file_tables.proofs.PartLemmas.{hive-none, hive-there}
use Rattle.plan_file_tables.proofs.parts.hive_value.Goals as goal

pub returns-in_err-place : goal.returns-in_err-place
returns-in_err-place c =
    let ss : Stats = c.in_ok-part.field-0.now in
    let part : unwrap_or (option_copied c.args.part.now.hive) [] ≡ ss = search rules in
    let columns : c.schema.result.now ≡ columns_of ss = c.schema.ensures ∙ ap columns_of c.get_statistics-stats.ensures in
    let absent : type_of (columns_of ss) c.args.name.now ≡ None = subst (λ (cs : Columns). type_of cs c.args.name.now ≡ None) columns c.in_err-place.ensures.absent in
    let none : option_map value_of (option_copied c.from_residual-in_err-place.result) ≡ None = search rules in
    none ∙ hive-none ss c.args.name.now absent ∙ ap (λ (l : Stats). hive_value l c.args.name.now) (sym part)

pub returns-in-Some : goal.returns-in-Some
returns-in-Some c =
    let ss : Stats = c.in_ok-part.field-0.now in
    let part : unwrap_or (option_copied c.args.part.now.hive) [] ≡ ss = search rules in
    let columns : c.schema.result.now ≡ columns_of ss = c.schema.ensures ∙ ap columns_of c.get_statistics-stats.ensures in
    let place : Some c.in_ok-place.place ≡ place_of (columns_of ss) c.args.name.now = subst (λ (cs : Columns). Some c.in_ok-place.place ≡ place_of cs c.args.name.now) columns c.in_ok-place.ensures.place in
    let stats = c.column_stats.result.now in
    let found = c.in-Some.ensures.lookup.3 in
    let stat : Some c.in-Some.stat.now ≡ slice_get ss c.in_ok-place.place =
    ap (λ (s : ColumnStats). Some s) (found.1 c.in-Some.stat.now)
    ∙ sym (slice_get-get_or stats c.in_ok-place.place c.in-Some.stat.now found.0)
    ∙ ap (λ (l : Stats). slice_get l c.in_ok-place.place) (c.column_stats.ensures.value ∙ c.get_statistics-stats.ensures)
    in
    hive-there ss c.args.name.now c.in_ok-place.place c.in-Some.stat.now place stat ∙ ap (λ (l : Stats). hive_value l c.args.name.now) (sym part)
