use Rattle.std.proofs.Common.{◌∙◌, [], ◌∷◌, Option, ap, sym}
use Rattle.plan_core.specs.Columns.{Columns}
use Rattle.plan_files.specs.FileColumns.{file_columns, hive_columns}
use Rattle.plan_frame.specs.Beside.{side_by_side}
use Rattle.plan_meaning.specs.Typing.{columns_or, scan_columns}
use Rattle.plan_function_tables.proofs.ScanLemmas.{all-kept}
use Rattle.plan_function_tables.proofs.file_scan.all_columns.Goals as goal

pub returns-in_ok-file_columns-in-Some : goal.returns-in_ok-file_columns-in-Some
returns-in_ok-file_columns-in-Some c =
    let all : Option Columns → Columns = λ (o : Option Columns). file_columns (columns_or o []) (hive_columns c.args.hive.now) c.args.options.now in
    c.in_ok-file_columns-in-Some.ensures.columns
    ∙ ap (λ (o : Option Columns). side_by_side (all o ∷ [])) (sym c.in-Some.is)
    ∙ all-kept (scan_columns c.args.info.now c.args.hive.now c.args.options.now) c.requires

pub returns-in_ok-file_columns-in-None : goal.returns-in_ok-file_columns-in-None
returns-in_ok-file_columns-in-None c =
    let all : Option Columns → Columns = λ (o : Option Columns). file_columns (columns_or o []) (hive_columns c.args.hive.now) c.args.options.now in
    let none : Columns → Columns = λ (cs : Columns). side_by_side (file_columns cs (hive_columns c.args.hive.now) c.args.options.now ∷ []) in
    c.in_ok-file_columns-in-None.ensures.columns
    ∙ ap none c.new.ensures
    ∙ ap (λ (o : Option Columns). side_by_side (all o ∷ [])) (sym c.in-None.is)
    ∙ all-kept (scan_columns c.args.info.now c.args.hive.now c.args.options.now) c.requires
