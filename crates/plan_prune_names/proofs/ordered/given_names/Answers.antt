use Rattle.std.proofs.Common.{◌∙◌, ap, ap₂, sym, map, List}
use Rattle.std.proofs.lemmas.Result.{IfOk-weaker}
use Rattle.plan_core.specs.Columns.{names_of}
use Rattle.plan_expr.specs.Leaves.{Name}
use Rattle.plan_frame.proofs.ReshapedLemmas.{names-exploded}
use Rattle.plan_ir.specs.declared.functions.FunctionIR.{FunctionIR}
use Rattle.plan_meaning.specs.Functions.{function_schema, renamed}
use Rattle.plan_schema.proofs.RenameLemmas.{names-renamed}
use Rattle.plan_prune_names.specs.ByName.{keeps_columns}
use Rattle.plan_prune_names.proofs.ReplaceLemmas.{names-unpivoted}
use Rattle.plan_prune_names.proofs.ordered.given_names.Goals as goal

pub returns-in-Rename : goal.returns-in-Rename
returns-in-Rename c = IfOk-weaker c.renamed.result _ _ (λ now is. λ s h.
    let existing = c.in-Rename.existing in
    let new = c.in-Rename.new in
    is
    ∙ ap₂ (λ (x y : List Name). map (renamed x y) c.as_slice-in-Rename-3.result.now) c.as_slice-in-Rename.ensures c.as_slice-in-Rename-2.ensures
    ∙ ap (map (renamed existing new)) (c.as_slice-in-Rename-3.ensures ∙ sym (h (ap keeps_columns c.in-Rename.is)))
    ∙ sym (names-renamed (renamed existing new) s)
    ∙ ap (λ (f : FunctionIR). names_of (function_schema f s)) (sym c.in-Rename.is)) c.renamed.ensures

pub returns-in-Unpivot : goal.returns-in-Unpivot
returns-in-Unpivot c = IfOk-weaker c.unpivoted.result _ _ (λ names is. λ s h.
    is ∙ sym (names-unpivoted c.in-Unpivot.args s)
    ∙ ap (λ (f : FunctionIR). names_of (function_schema f s)) (sym c.in-Unpivot.is)) c.unpivoted.ensures

pub returns-in-Explode : goal.returns-in-Explode
returns-in-Explode c = λ s h.
    sym (h (ap keeps_columns c.in-Explode.is))
    ∙ sym (names-exploded c.in-Explode.columns s)
    ∙ ap (λ (f : FunctionIR). names_of (function_schema f s)) (sym c.in-Explode.is)
