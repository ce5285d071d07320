use Rattle.std.proofs.Common.{◌≡◌, true, false, Option, Some, is_some, unwrap_or, sym, ap, ◌∙◌, subst}
use Rattle.std.proofs.Math.Path.{fun_ext}
use Rattle.std.specs.Prelude.{IfSome}
use Rattle.plan_core.specs.Columns.{Columns, names_of}
use Rattle.plan_core.specs.declared.error.At.{At}
use Rattle.plan_core.specs.declared.error.PolarsError.TheVariants.{Duplicate}
use Rattle.plan_expr.specs.Leaves.{Name}
use Rattle.plan_meaning.specs.Functions.{names_now, renamed, stay_apart}
use Rattle.plan_frame.specs.Reshaped.{renamed_columns}
use Rattle.plan_schema.proofs.RenameLemmas.{rename-faults}
use Rattle.plan_schema.proofs.function.rename_schema.Goals as goal

pub returns-in-Some : goal.returns-in-Some
returns-in-Some c swapping =
    let now : names_now c.in_ok-new.field-0 ≡ renamed c.args.existing.now c.args.new.now = fun_ext (λ (a : Name). ap (λ (o : Option Name). unwrap_or o a) (c.in_ok-new.ensures a)) in
    let apart : stay_apart (renamed c.args.existing.now c.args.new.now) (names_of c.args.schema.now) ≡ true = ap (λ (by : Name → Name). stay_apart by (names_of c.args.schema.now)) (sym now) ∙ sym c.in_ok-renamed.ensures.some ∙ ap (λ (o : Option Columns). is_some o) c.in-Some.is in (
      rename-faults c.args.node c.args.existing.now c.args.new.now c.args.schema.now true c.if-existing-new.false c.in_ok-check_names_new.ensures c.in_ok-check_names_new-2.ensures apart,
      ap (λ (by : Name → Name). renamed_columns by c.args.schema.now) (sym now) ∙ sym (subst (λ (o : Option Columns). IfSome o (λ (t : Columns). t ≡ renamed_columns (names_now c.in_ok-new.field-0) c.args.schema.now)) c.in-Some.is c.in_ok-renamed.ensures.columns),
    )

pub returns : goal.returns
returns c swapping =
    let now : names_now c.in_ok-new.field-0 ≡ renamed c.args.existing.now c.args.new.now = fun_ext (λ (a : Name). ap (λ (o : Option Name). unwrap_or o a) (c.in_ok-new.ensures a)) in
    let apart : stay_apart (renamed c.args.existing.now c.args.new.now) (names_of c.args.schema.now) ≡ false = ap (λ (by : Name → Name). stay_apart by (names_of c.args.schema.now)) (sym now) ∙ sym c.in_ok-renamed.ensures.some ∙ ap (λ (o : Option Columns). is_some o) c.in-None.is in
    rename-faults c.args.node c.args.existing.now c.args.new.now c.args.schema.now false c.if-existing-new.false c.in_ok-check_names_new.ensures c.in_ok-check_names_new-2.ensures apart ∙ ap (λ (a : At). Some (Duplicate a)) (sym c.at-in-None.ensures)
