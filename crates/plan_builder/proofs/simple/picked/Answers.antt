use Rattle.std.proofs.Common.{◌≡◌, ◌∙◌, ◌+◌, ap, sym, is_some, true, false, subst, Some, None, option_copied}
use Rattle.plan_core.specs.declared.error.At.{At}
use Rattle.plan_core.specs.declared.error.PolarsError.TheVariants.{Duplicate, SchemaFieldNotFound}
use Rattle.plan_core.specs.Columns.{Columns, type_of, with_type}
use Rattle.plan_expr.specs.Leaves.{Name}
use Rattle.plan_meaning.specs.Checks.{is_known}
use Rattle.plan_frame.proofs.ScalarExprs.{item_here}
use Rattle.plan_builder.proofs.Faults.{each-holds}
use Rattle.plan_builder.proofs.PickLemmas.{Picking, picking-bad, picking-next}
use Rattle.plan_builder.proofs.simple.picked.Goals.{in-Some+in_ok-new+in_ok-before+else-is_some, in_default}
use Rattle.plan_builder.proofs.simple.picked.Goals as goal

pub returns-then-is_some-clause-fault : goal.returns-then-is_some-clause-fault
returns-then-is_some-clause-fault c =
    let item = item_here c.args.names.now c.loop-i.i c.index-names-i.result c.loop-i-test.true c.index-names-i.is in
    let name : c.in_ok-new.field-0 ≡ c.index-names-i.result = c.in_ok-new.ensures ∙ c.as_str-in-Some.ensures in
    let old : is_some (type_of c.loop-i.columns c.index-names-i.result) ≡ true =
    ap (λ (a : Name). is_some (type_of c.loop-i.columns a)) (sym name) ∙ ap is_some (sym c.in_ok-before.ensures.given) ∙ sym c.is_some.ensures ∙ c.if-is_some.true
    in
    picking-bad c.args.schema.now c.args.names.now c.loop-i.columns c.loop-i.i c.index-names-i.result c.loop-i.invariant item old
    ∙ ap (λ (a : At). Some (Duplicate a)) (sym c.item.ensures)

pub loop-i-preserved : goal.loop-i-preserved
loop-i-preserved c =
    let item = item_here c.args.names.now c.loop-i.i c.index-names-i.result c.loop-i-test.true c.index-names-i.is in
    elim c.match-get.branch [
      | in-Some+in_ok-new+in_ok-before+else-is_some w ↦
          (let name : w.in_ok-new.field-0 ≡ c.index-names-i.result = w.in_ok-new.ensures ∙ w.as_str-in-Some.ensures in
          let new : is_some (type_of c.loop-i.columns c.index-names-i.result) ≡ false =
          ap (λ (a : Name). is_some (type_of c.loop-i.columns a)) (sym name) ∙ ap is_some (sym w.in_ok-before.ensures.given) ∙ sym w.is_some.ensures ∙ w.if-is_some.false
          in
          let known : type_of c.args.schema.now c.index-names-i.result ≡ Some w.in-Some.dtype.now = ap (type_of c.args.schema.now) (sym c.as_str.ensures) ∙ sym w.in-Some.ensures in
          let is : c.match-get.columns ≡ with_type c.loop-i.columns c.index-names-i.result w.in-Some.dtype.now =
          w.columns-is ∙ w.in_ok-before.ensures.after ∙ ap (λ (a : Name). with_type c.loop-i.columns a w.in-Some.dtype.now) name
          in
          subst (λ (l : Columns). Picking c.args.schema.now c.args.names.now l (c.loop-i.i + 1)) (sym is)
          (picking-next c.args.schema.now c.args.names.now c.loop-i.columns c.loop-i.i c.index-names-i.result w.in-Some.dtype.now c.loop-i.invariant item known new))
      | in_default w ↦
          (let known : is_some (type_of c.args.schema.now c.index-names-i.result) ≡ true = each-holds SchemaFieldNotFound 0 (is_known c.args.schema.now) c.args.names.now c.loop-i.i c.index-names-i.result c.requires item in
          let none : type_of c.args.schema.now c.index-names-i.result ≡ None = ap (type_of c.args.schema.now) (sym c.as_str.ensures) ∙ sym c.get.ensures ∙ ap option_copied w.in_default.is in
          let bad : false ≡ true = ap is_some (sym none) ∙ known in
          cc)
    ]
