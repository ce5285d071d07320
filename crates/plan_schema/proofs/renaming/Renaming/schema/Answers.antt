use Rattle.std.proofs.Common.{◌≡◌, true, None, Option, is_some, sym, ap, ◌∙◌, subst}
use Rattle.plan_core.specs.declared.data_type.DataType.{DataType}
use Rattle.plan_core.specs.Columns.{Columns, type_of, with_type}
use Rattle.plan_expr.specs.Leaves.{Name}
use Rattle.plan_meaning.specs.Functions.{names_now}
use Rattle.plan_schema.proofs.RenameLemmas.{SoFar, so_far-next, so_far-bad, none_there}
use Rattle.plan_schema.proofs.renaming.Renaming.schema.Goals as goal

pub returns-then-is_some-clause-some : goal.returns-then-is_some-clause-some
returns-then-is_some-clause-some c =
    let now : Name → Name = names_now c.args.self.now in
    let so_far = subst (λ (left : Columns). SoFar now c.loop-name.made left c.args.schema.now) c.in-Some.ensures.steps c.loop-name.invariant in
    let old : is_some (type_of c.loop-name.made (now c.in-Some.name.now)) ≡ true =
    ap (λ (a : Name). is_some (type_of c.loop-name.made a)) (sym (c.in_ok-now.ensures ∙ c.now.ensures)) ∙ ap (λ (o : Option DataType). is_some o) (sym c.in_ok-with_column.ensures.given) ∙ sym c.if-is_some.ensures in
    sym (so_far-bad now c.loop-name.made c.args.schema.now c.in-Some.name.now c.in-Some.dtype.now c.next.new.self so_far c.iter-name-items.ensures.distinct old)

pub loop-name-preserved : goal.loop-name-preserved
loop-name-preserved c =
    let now : Name → Name = names_now c.args.self.now in
    let so_far = subst (λ (left : Columns). SoFar now c.loop-name.made left c.args.schema.now) c.in-Some.ensures.steps c.loop-name.invariant in
    let named : c.in_ok-now.now ≡ now c.in-Some.name.now = c.in_ok-now.ensures ∙ c.now.ensures in
    let new : type_of c.loop-name.made (now c.in-Some.name.now) ≡ None =
    ap (type_of c.loop-name.made) (sym named) ∙ sym c.in_ok-with_column.ensures.given ∙ none_there c.in_ok-with_column.field-0 (sym c.if-is_some.ensures) in
    let is : c.with_column.new.self ≡ with_type c.loop-name.made (now c.in-Some.name.now) c.in-Some.dtype.now = c.in_ok-with_column.ensures.after ∙ ap (λ (a : Name). with_type c.loop-name.made a c.in-Some.dtype.now) named in
    subst (λ (made : Columns). SoFar now made c.next.new.self c.args.schema.now) (sym is) (so_far-next now c.loop-name.made c.args.schema.now c.in-Some.name.now c.in-Some.dtype.now c.next.new.self so_far new)
