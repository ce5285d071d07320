use Rattle.std.proofs.Common.{◌≡◌, ◌∙◌, ◌∷◌, ◌++◌, [], true, false, fold, map, sym, ap}
use Rattle.plan_core.specs.declared.data_type.DataType.{DataType}
use Rattle.plan_core.specs.Columns.{Columns, names_of, with_type}
use Rattle.plan_core.specs.Names.{has}
use Rattle.plan_expr.specs.Leaves.{Name}
use Rattle.plan_frame.specs.Beside.{with_new}
use Rattle.plan_join.specs.Naming.{right_name}
use Rattle.plan_join.proofs.ColumnLemmas.{has-typed, with_type-absent}
use Rattle.plan_prune_parts.proofs.ListSteps.{first-behind, first-last, first-there, looked_up}
use Rattle.plan_prune_parts.proofs.pruned.first_columns.Goals as goal

pub loop-name-preserved-in_ok-with_column : goal.loop-name-preserved-in_ok-with_column
loop-name-preserved-in_ok-with_column c =
    let now : Name × DataType → Name × DataType = λ x. (right_name c.args.suffix.now (names_of c.args.left.now) x.0, x.1) in
    let column : Name × DataType = (c.in-Some.name.now, c.in-Some.dtype.now) in
    let called = c.as_str.ensures ∙ c.in_ok-name.ensures in
    let absent : has (names_of c.loop-name.made) (now column).0 ≡ false =
    ap (has (names_of c.loop-name.made)) (sym called) ∙ looked_up c.loop-name.made c.as_str.result.now c.get.result c.is_none.result true c.get.ensures c.is_none.ensures c.if-is_none.true in
    let is : c.with_column.new.self ≡ c.loop-name.made ++ now column ∷ [] =
    c.in_ok-with_column.ensures.after ∙ ap (λ (a : Name). with_type c.loop-name.made a c.in-Some.dtype.now) c.in_ok-name.ensures ∙ with_type-absent c.loop-name.made (now column).0 c.in-Some.dtype.now (has-typed c.loop-name.made (now column).0 ∙ absent) in
    ap (λ (s : Columns). fold with_new s (map now c.next.new.self)) is
    ∙ first-last c.loop-name.made (map now c.next.new.self) (map now c.loop-name.name-iterator) (now column) (fold with_new c.args.left.now (map now c.into_iter-name-iterator.result)) (ap (map now) c.in-Some.ensures.steps) absent c.loop-name.invariant

pub loop-name-preserved : goal.loop-name-preserved
loop-name-preserved c =
    let now : Name × DataType → Name × DataType = λ x. (right_name c.args.suffix.now (names_of c.args.left.now) x.0, x.1) in
    let column : Name × DataType = (c.in-Some.name.now, c.in-Some.dtype.now) in
    let called = c.as_str.ensures ∙ c.in_ok-name.ensures in
    let there : has (names_of c.loop-name.made) (now column).0 ≡ true =
    ap (has (names_of c.loop-name.made)) (sym called) ∙ looked_up c.loop-name.made c.as_str.result.now c.get.result c.is_none.result false c.get.ensures c.is_none.ensures c.if-is_none.false in
    first-there c.loop-name.made (map now c.next.new.self) (map now c.loop-name.name-iterator) (now column) (fold with_new c.args.left.now (map now c.into_iter-name-iterator.result)) (ap (map now) c.in-Some.ensures.steps) there c.loop-name.invariant

pub returns : goal.returns
returns c =
    let now : Name × DataType → Name × DataType = λ x. (right_name c.args.suffix.now (names_of c.args.left.now) x.0, x.1) in
    ap (λ (l : Columns). fold with_new c.loop-name.made (map now l)) (sym c.in-None.ensures.steps.0)
    ∙ c.loop-name.invariant
    ∙ ap (λ (l : Columns). fold with_new c.args.left.now (map now l)) (c.into_iter-name-iterator.ensures.into_iter_gives ∙ c.iter-name-items.ensures.rest)
    ∙ first-behind c.args.left.now (map now c.args.right.now) c.are_first.ensures
