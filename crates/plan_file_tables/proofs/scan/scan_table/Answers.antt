use Rattle.std.proofs.Common.{◌∙◌, List, ap}
use Rattle.plan_core.specs.Columns.{names_of}
use Rattle.plan_file_scan.specs.FileFrames.{scan_frame}
use Rattle.plan_file_tables.specs.Parts.{parts_shown}
use Rattle.plan_file_tables.specs.declared.parts.Part.{Part as Lent}
use Rattle.plan_file_tables.proofs.SameLemmas.{frames-same}
use Rattle.plan_file_tables.proofs.scan.scan_table.Goals as goal

pub returns-clause-frame : goal.returns-clause-frame
returns-clause-frame c =
    let names = names_of c.args.columns.now in
    let options = c.args.options.now in
    c.in_ok-put_out.ensures.frame
    ∙ ap (λ (l : List Lent). scan_frame names options (parts_shown l)) c.as_slice-2.ensures
    ∙ frames-same names options (parts_shown c.in_ok-full.full) (parts_shown c.as_slice.result.now) c.in_ok-full.ensures
    ∙ ap (λ (l : List Lent). scan_frame names options (parts_shown l)) c.as_slice.ensures
    ∙ ap (scan_frame names options) c.in_ok-parts.ensures
