use Rattle.std.proofs.Common.{arith}
use Rattle.std.proofs.lemmas.Grind.{common_steps}
use Rattle.plan_core.specs.Columns.{Columns}
use Rattle.plan_files.specs.FileColumns.{file_columns, hive_columns, row_columns}
use Rattle.plan_check.proofs.ScanLemmas.{columns_fault}
use Rattle.plan_check.proofs.scan_columns.check_scan_columns.Goals as goal

pub returns-in_err-check_names : goal.returns-in_err-check_names
returns-in_err-check_names c =
    let files : Columns = file_columns c.args.reader.now (hive_columns c.args.hive.now) c.args.options.now in
    grind (arith, common_steps, columns_fault c.in_ok-file.file.schema files c.in_ok-file.ensures.columns c.args.node c.args.output.now c.args.options.now.with_columns c.args.hive.now c.args.stored.now (row_columns c.args.options.now.row_index) c.args.reader.now)

pub returns-in_err-check_types : goal.returns-in_err-check_types
returns-in_err-check_types c =
    let files : Columns = file_columns c.args.reader.now (hive_columns c.args.hive.now) c.args.options.now in
    grind (arith, common_steps, columns_fault c.in_ok-file.file.schema files c.in_ok-file.ensures.columns c.args.node c.args.output.now c.args.options.now.with_columns c.args.hive.now c.args.stored.now (row_columns c.args.options.now.row_index) c.args.reader.now)

pub returns-in_err-check_differ : goal.returns-in_err-check_differ
returns-in_err-check_differ c =
    let files : Columns = file_columns c.args.reader.now (hive_columns c.args.hive.now) c.args.options.now in
    grind (arith, common_steps, c.check_differ.ensures files c.in_ok-file.ensures.differ, columns_fault c.in_ok-file.file.schema files c.in_ok-file.ensures.columns c.args.node c.args.output.now c.args.options.now.with_columns c.args.hive.now c.args.stored.now (row_columns c.args.options.now.row_index) c.args.reader.now)

pub returns-in_err-check_names_new : goal.returns-in_err-check_names_new
returns-in_err-check_names_new c =
    let files : Columns = file_columns c.args.reader.now (hive_columns c.args.hive.now) c.args.options.now in
    grind (arith, common_steps, c.check_differ.ensures files c.in_ok-file.ensures.differ, columns_fault c.in_ok-file.file.schema files c.in_ok-file.ensures.columns c.args.node c.args.output.now c.args.options.now.with_columns c.args.hive.now c.args.stored.now (row_columns c.args.options.now.row_index) c.args.reader.now)

pub returns : goal.returns
returns c =
    let files : Columns = file_columns c.args.reader.now (hive_columns c.args.hive.now) c.args.options.now in
    grind (arith, common_steps, c.check_differ.ensures files c.in_ok-file.ensures.differ, c.check_files.ensures files c.in_ok-file.ensures.columns c.in_ok-file.ensures.differ, columns_fault c.in_ok-file.file.schema files c.in_ok-file.ensures.columns c.args.node c.args.output.now c.args.options.now.with_columns c.args.hive.now c.args.stored.now (row_columns c.args.options.now.row_index) c.args.reader.now)
