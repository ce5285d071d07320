use Rattle.std.proofs.Common.{◌≡◌, ◌∙◌, List, true, ap, sym, subst}
use Rattle.plan_core.specs.Columns.{names_of}
use Rattle.plan_expr.specs.Leaves.{Name}
use Rattle.plan_frame.specs.Frames.{Column}
use Rattle.plan_meaning.specs.Functions.{names_now, stay_apart}
use Rattle.plan_frame.specs.Reshaped.{renamed_columns, with_renamed}
use Rattle.plan_table.specs.Tables.{types_of}
use Rattle.plan_value.specs.Shown.{columns_shown, frame_of, schema_of}
use Rattle.plan_function_tables.proofs.FunctionLemmas.{pairs-rename, shown-under, types-under}
use Rattle.plan_function_tables.proofs.function.renamed.Goals as goal

pub all_renamed-requires : goal.all_renamed-requires
all_renamed-requires c =
    let now = pairs-rename c.in_ok-names.names c.args.existing.now c.args.new.now c.in_ok-names.ensures in
    subst (λ (by : Name → Name). stay_apart by (names_of (schema_of c.args.table)) ≡ true) (sym now) c.requires

pub returns-clause-frame : goal.returns-clause-frame
returns-clause-frame c =
    let t = c.args.table in
    let now = pairs-rename c.in_ok-names.names c.args.existing.now c.args.new.now c.in_ok-names.ensures in
    ap (λ (cs : List Column). record { height = t.height; columns = cs }) (ap columns_shown c.in_ok-all_renamed.ensures ∙ shown-under (names_now c.in_ok-names.names) t.columns)
    ∙ ap (λ (by : Name → Name). with_renamed by (frame_of t)) now

pub returns-clause-types : goal.returns-clause-types
returns-clause-types c =
    let t = c.args.table in
    let now = pairs-rename c.in_ok-names.names c.args.existing.now c.args.new.now c.in_ok-names.ensures in
    ap types_of c.in_ok-all_renamed.ensures
    ∙ types-under (names_now c.in_ok-names.names) t.columns
    ∙ ap (λ (by : Name → Name). renamed_columns by (schema_of t)) now
