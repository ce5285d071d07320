use Rattle.std.proofs.Common.{◌∙◌, ap, ap₂, sym, List}
use Rattle.std.specs.List.{filter_map}
use Rattle.std.proofs.lemmas.Option.{IfSome_then}
use Rattle.std.proofs.lemmas.Result.{IfOk-weaker}
use Rattle.plan_core.specs.Columns.{names_of}
use Rattle.plan_expr.specs.Leaves.{Name}
use Rattle.plan_ir.specs.declared.functions.FunctionIR.{FunctionIR}
use Rattle.plan_meaning.specs.Asked.{function_names}
use Rattle.plan_meaning.specs.Functions.{former, renamed}
use Rattle.plan_prune_names.proofs.renaming.told_by_names.Goals as goal

pub returns-in-Rename : goal.returns-in-Rename
returns-in-Rename c = IfOk-weaker c.told_by_places.result _ _ (λ told is. IfSome_then told is (λ names same. λ s shows.
    same s shows
    ∙ ap₂ (λ (x y : List Name). filter_map (former (renamed x y) (names_of s)) c.args.asked.now) c.as_slice.ensures c.as_slice-in-Rename.ensures
    ∙ ap (λ (f : FunctionIR). function_names f c.args.asked.now s) (sym c.in-Rename.is))) c.told_by_places.ensures
