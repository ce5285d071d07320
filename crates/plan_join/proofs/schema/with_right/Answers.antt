use Rattle.std.proofs.Common.{◌≡◌, ◌∙◌, true, false, Option, is_some, sym, ap, subst}
use Rattle.plan_core.specs.declared.data_type.DataType.{DataType}
use Rattle.plan_core.specs.Columns.{Columns, names_of, type_of, with_type}
use Rattle.plan_expr.specs.Leaves.{Name}
use Rattle.plan_join.specs.Naming.{right_name, with_right}
use Rattle.plan_join.proofs.ColumnLemmas.{Named, named-next, named-twice}
use Rattle.plan_join.proofs.schema.with_right.Goals as goal

pub returns-then-is_some-clause-twice : goal.returns-then-is_some-clause-twice
returns-then-is_some-clause-twice c =
    let now : Name → Name = right_name c.args.suffix.now (names_of c.args.left.now) in
    let all : Columns = with_right c.args.suffix.now c.args.left.now c.args.right.now in
    let named = subst (λ (left : Columns). Named now c.loop-name.made left all) c.in-Some.ensures.steps c.loop-name.invariant in
    let there : is_some (type_of c.loop-name.made (now c.in-Some.name.now)) ≡ true =
    ap (λ (a : Name). is_some (type_of c.loop-name.made a)) (sym c.in_ok-name.ensures) ∙ ap (λ (o : Option DataType). is_some o) (sym c.in_ok-with_column.ensures.given) ∙ sym c.is_some.ensures ∙ c.if-is_some.true in
    λ distinct. named-twice now c.loop-name.made all c.in-Some.name.now c.in-Some.dtype.now c.next.new.self named there distinct

pub loop-name-preserved : goal.loop-name-preserved
loop-name-preserved c =
    let now : Name → Name = right_name c.args.suffix.now (names_of c.args.left.now) in
    let all : Columns = with_right c.args.suffix.now c.args.left.now c.args.right.now in
    let named = subst (λ (left : Columns). Named now c.loop-name.made left all) c.in-Some.ensures.steps c.loop-name.invariant in
    let absent : is_some (type_of c.loop-name.made (now c.in-Some.name.now)) ≡ false =
    ap (λ (a : Name). is_some (type_of c.loop-name.made a)) (sym c.in_ok-name.ensures) ∙ ap (λ (o : Option DataType). is_some o) (sym c.in_ok-with_column.ensures.given) ∙ sym c.is_some.ensures ∙ c.if-is_some.false in
    let is : c.with_column.new.self ≡ with_type c.loop-name.made (now c.in-Some.name.now) c.in-Some.dtype.now = c.in_ok-with_column.ensures.after ∙ ap (λ (a : Name). with_type c.loop-name.made a c.in-Some.dtype.now) c.in_ok-name.ensures in
    subst (λ (made : Columns). Named now made c.next.new.self all) (sym is) (named-next now c.loop-name.made all c.in-Some.name.now c.in-Some.dtype.now c.next.new.self named absent)
