use Rattle.std.proofs.Common.{◌≡◌, ◌∙◌, List, [], ap, sym}
use Rattle.std.specs.List.{flat_map}
use Rattle.std.proofs.lemmas.List.{nil_from_length}
use Rattle.plan_expr.specs.Leaves.{Name}
use Rattle.plan_frame.specs.Values.{Value}
use Rattle.plan_value.specs.Shown.{values_of}
use Rattle.plan_function_tables.proofs.UnpivotLemmas.{nothing-down}
use Rattle.plan_function_tables.proofs.unpivot.repeated.Goals as goal

pub returns-then-len-eq0 : goal.returns-then-len-eq0
returns-then-len-eq0 c =
    let none : c.in_ok-own.own ≡ [] = nil_from_length c.in_ok-own.own (sym c.len.ensures ∙ c.if-len-eq0.true) in
    ap values_of none
    ∙ sym (nothing-down c.args.names.now)
    ∙ ap (λ (vs : List Value). flat_map (λ (a : Name). vs) c.args.names.now) (sym (ap values_of none) ∙ c.in_ok-own.ensures)
