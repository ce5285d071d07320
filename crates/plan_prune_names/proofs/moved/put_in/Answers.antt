use Rattle.std.proofs.Common.{◌≡◌, ◌<◌, ◌∙◌, ap, subst, sym, [], None, Some, Option, length, get_or, arith}
use Rattle.std.specs.List.{slice_get}
use Rattle.std.proofs.lemmas.Option.{slice_get-get_or}
use Rattle.plan_core.specs.declared.data_type.DataType.{DataType}
use Rattle.plan_expr.specs.Leaves.{Name}
use Rattle.plan_frame.proofs.ScalarExprs.{item_here}
use Rattle.plan_prune_names.specs.Known.{IsOver, type_in}
use Rattle.plan_prune_names.proofs.FunctionLemmas.{none_there}
use Rattle.plan_prune_names.proofs.KnownLemmas.{over-then}
use Rattle.plan_prune_names.proofs.MoveLemmas.{fresh-at, fresh-next, fresh-none, put-next, put-none}
use Rattle.plan_prune_names.proofs.moved.put_in.Goals.{in-Some+in_ok-before+else-is_some, in_default}
use Rattle.plan_prune_names.proofs.moved.put_in.Goals as goal

pub loop-i-preserved : goal.loop-i-preserved
loop-i-preserved c =
    let i = c.loop-i.i in
    let types : Name → Option DataType = type_in c.args.columns.now in
    let lower : i < length c.args.names.now = omega (arith, c.loop-i-test.true) in
    let within : i < length c.args.types.now = omega (arith, lower, c.requires.same) in
    elim c.match-types-i.branch [
      | in-Some+in_ok-before+else-is_some w ↦
          (let name : Name = w.as_str.result.now in
          let here : slice_get c.args.names.now i ≡ Some name = item_here c.args.names.now i w.index-names-i.result lower w.index-names-i.is ∙ ap (λ (a : Name). Some a) (sym w.as_str.ensures) in
          let own : slice_get c.args.types.now i ≡ Some (Some w.in-Some.dtype) = slice_get-get_or c.args.types.now i None within ∙ ap (λ (d : Option DataType). Some d) w.in-Some.is in
          let fresh = fresh-at c.args.names.now i name c.requires.distinct here in
          let gone = none_there w.in_ok-before.before (sym w.if-is_some.ensures) in (
            subst (IsOver c.args.columns.now) (sym w.columns-is) (over-then c.args.columns.now c.loop-i.columns w.set.new.self c.loop-i.invariant.0 w.in_ok-before.ensures.over),
            λ a. ap (λ (o : _). type_in o a) w.columns-is ∙ put-next c.args.names.now c.args.types.now types (type_in c.loop-i.columns) i name here fresh c.loop-i.invariant.1 (type_in w.set.new.self) w.in-Some.dtype own w.in_ok-before.ensures.after a,
            fresh-next c.args.names.now c.args.types.now types (type_in c.loop-i.columns) i name here fresh c.loop-i.invariant.1 w.in-Some.dtype own (sym w.in_ok-before.ensures.given ∙ gone) c.loop-i.invariant.2,
          ))
      | in_default w ↦
          (let name : Name = get_or c.args.names.now i [] in
          let here : slice_get c.args.names.now i ≡ Some name = slice_get-get_or c.args.names.now i [] lower in
          let own : slice_get c.args.types.now i ≡ Some None = slice_get-get_or c.args.types.now i None within ∙ ap (λ (d : Option DataType). Some d) w.in_default.is in
          let fresh = fresh-at c.args.names.now i name c.requires.distinct here in (
            subst (IsOver c.args.columns.now) (sym w.columns-is) c.loop-i.invariant.0,
            λ a. ap (λ (o : _). type_in o a) w.columns-is ∙ put-none c.args.names.now c.args.types.now types (type_in c.loop-i.columns) i name here fresh c.loop-i.invariant.1 own a,
            fresh-none c.args.names.now c.args.types.now types (type_in c.loop-i.columns) i name here fresh c.loop-i.invariant.1 own c.loop-i.invariant.2,
          ))
    ]
