use Rattle.std.proofs.Common.{List, [], ◌++◌, not, sym, ap, ◌∙◌, append-nil}
use Rattle.std.specs.List.{filter as only_where}
use Rattle.plan_core.specs.Columns.{Columns, names_of}
use Rattle.plan_core.specs.Names.{has, with_names}
use Rattle.plan_expr.specs.Leaves.{Name}
use Rattle.plan_schema.proofs.UnpivotColumns.{rest-once, value_names-rest}
use Rattle.plan_schema.proofs.unpivot_names.value_names.Goals as goal

pub returns : goal.returns
returns c =
    let rest : List Name → List Name = λ names. only_where (λ (a : Name). not (has c.in_ok-index.index a)) names in
    sym (append-nil c.loop-name.names)
    ∙ ap (λ (left : Columns). c.loop-name.names ++ rest (names_of left)) (sym c.in-None.ensures.steps.0)
    ∙ c.loop-name.invariant
    ∙ ap (λ (index : List Name). only_where (λ (a : Name). not (has index a)) (names_of c.args.schema.now)) (c.in_ok-index.ensures ∙ ap (with_names []) c.as_slice.ensures)
    ∙ rest-once c.args.args.now.index (names_of c.args.schema.now)
    ∙ sym (value_names-rest c.args.args.now (names_of c.args.schema.now) (sym c.len.ensures ∙ c.if-len-ne0.false))
