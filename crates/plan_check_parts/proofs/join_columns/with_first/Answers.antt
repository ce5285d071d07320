use Rattle.std.proofs.Common.{◌≡◌, ◌∙◌, true, false, is_some, sym, ap, subst, rules}
use Rattle.plan_core.specs.Columns.{Columns, names_of, type_of, with_type}
use Rattle.plan_expr.specs.Leaves.{Name}
use Rattle.plan_join.specs.Naming.{right_name, with_right}
use Rattle.plan_check_parts.proofs.FirstColumns.{first-again, first-differ, first-next, first-start, first-types, first-whole, looked_up, FirstTo}
use Rattle.plan_check_parts.proofs.join_columns.with_first.Goals as goal

pub loop-name-init : goal.loop-name-init
loop-name-init c =
    let now : Name → Name = right_name c.args.suffix.now (names_of c.args.left.now) in
    let all : Columns = with_right c.args.suffix.now c.args.left.now c.args.right.now in
    first-start now c.in_ok-columns.columns c.into_iter-name-iterator.result all (record { all-is = search rules; distinct = search rules })

pub loop-name-preserved-in_ok-with_column : goal.loop-name-preserved-in_ok-with_column
loop-name-preserved-in_ok-with_column c =
    let now : Name → Name = right_name c.args.suffix.now (names_of c.args.left.now) in
    let all : Columns = with_right c.args.suffix.now c.args.left.now c.args.right.now in
    let named = subst (λ (left : Columns). FirstTo now c.loop-name.columns c.loop-name.differ left all) c.in-Some.ensures.steps c.loop-name.invariant in
    let absent : is_some (type_of c.loop-name.columns (now c.in-Some.name.now)) ≡ false =
    ap (λ (a : Name). is_some (type_of c.loop-name.columns a)) (sym (c.as_str.ensures ∙ c.in_ok-called.ensures)) ∙ looked_up c.loop-name.columns c.as_str.result.now c.get.result c.is_none.result true c.get.ensures c.is_none.ensures c.if-is_none.true in
    let is : c.with_column.new.self ≡ with_type c.loop-name.columns (now c.in-Some.name.now) c.in-Some.dtype.now = c.in_ok-with_column.ensures.after ∙ ap (λ (a : Name). with_type c.loop-name.columns a c.in-Some.dtype.now) c.in_ok-called.ensures in
    subst (λ (made : Columns). FirstTo now made c.loop-name.differ c.next.new.self all) (sym is) (first-next now c.loop-name.columns all c.loop-name.differ c.in-Some.name.now c.in-Some.dtype.now c.next.new.self named absent)

pub loop-name-preserved : goal.loop-name-preserved
loop-name-preserved c =
    let now : Name → Name = right_name c.args.suffix.now (names_of c.args.left.now) in
    let all : Columns = with_right c.args.suffix.now c.args.left.now c.args.right.now in
    let named = subst (λ (left : Columns). FirstTo now c.loop-name.columns c.loop-name.differ left all) c.in-Some.ensures.steps c.loop-name.invariant in
    let there : is_some (type_of c.loop-name.columns (now c.in-Some.name.now)) ≡ true =
    ap (λ (a : Name). is_some (type_of c.loop-name.columns a)) (sym (c.as_str.ensures ∙ c.in_ok-called.ensures)) ∙ looked_up c.loop-name.columns c.as_str.result.now c.get.result c.is_none.result false c.get.ensures c.is_none.ensures c.if-is_none.false in
    first-again now c.loop-name.columns all c.loop-name.differ c.in-Some.name.now c.in-Some.dtype.now c.next.new.self named there

pub returns-clause-types : goal.returns-clause-types
returns-clause-types c =
    let now : Name → Name = right_name c.args.suffix.now (names_of c.args.left.now) in
    let all : Columns = with_right c.args.suffix.now c.args.left.now c.args.right.now in
    first-types now c.loop-name.columns all c.loop-name.differ (subst (λ (left : Columns). FirstTo now c.loop-name.columns c.loop-name.differ left all) c.in-None.ensures.steps.0 c.loop-name.invariant)

pub returns-clause-whole : goal.returns-clause-whole
returns-clause-whole c =
    let now : Name → Name = right_name c.args.suffix.now (names_of c.args.left.now) in
    let all : Columns = with_right c.args.suffix.now c.args.left.now c.args.right.now in
    first-whole now c.loop-name.columns all c.loop-name.differ (subst (λ (left : Columns). FirstTo now c.loop-name.columns c.loop-name.differ left all) c.in-None.ensures.steps.0 c.loop-name.invariant)

pub returns-clause-differ : goal.returns-clause-differ
returns-clause-differ c =
    let now : Name → Name = right_name c.args.suffix.now (names_of c.args.left.now) in
    let all : Columns = with_right c.args.suffix.now c.args.left.now c.args.right.now in
    first-differ now c.loop-name.columns all c.loop-name.differ (subst (λ (left : Columns). FirstTo now c.loop-name.columns c.loop-name.differ left all) c.in-None.ensures.steps.0 c.loop-name.invariant)
