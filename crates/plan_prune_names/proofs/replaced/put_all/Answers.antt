use Rattle.std.proofs.Common.{◌≡◌, ◌∙◌, ap, cond, false, subst, sym, arith, List, Option, Some, take}
use Rattle.std.specs.Str.{bytes_eq}
use Rattle.std.proofs.lemmas.List.{take-map}
use Rattle.plan_core.specs.declared.data_type.DataType.{DataType}
use Rattle.plan_core.specs.Columns.{names_of}
use Rattle.plan_core.specs.Names.{has}
use Rattle.plan_expr.specs.Leaves.{Name}
use Rattle.plan_pruned.proofs.ListSteps.{name_at, not_past}
use Rattle.plan_prune_names.specs.Known.{IsOver, type_in}
use Rattle.plan_prune_names.proofs.KnownLemmas.{over-same, over-then}
use Rattle.plan_prune_names.proofs.MoveLemmas.{fresh-at}
use Rattle.plan_prune_names.proofs.TypeLemmas.{type-next}
use Rattle.plan_prune_names.proofs.replaced.put_all.Goals.{in-Some+in_ok-set, in_default}
use Rattle.plan_prune_names.proofs.replaced.put_all.Goals as goal

pub loop-i-init : goal.loop-i-init
loop-i-init c = (over-same c.args.columns.now, λ a. c.requires a)

pub loop-i-preserved : goal.loop-i-preserved
loop-i-preserved c =
    let s = c.args.made.now in
    let i = c.loop-i.i in
    elim c.match-get_at_index.branch [
      | in-Some+in_ok-set w ↦
          (let n : Name = w.in-Some.name.now in
          let fresh : has (names_of (take i s)) n ≡ false = ap (λ (ns : List Name). has ns n) (sym (take-map (λ (c : Name × DataType). c.0) i s)) ∙ fresh-at (names_of s) i n c.len-i-end.ensures.distinct (name_at s i n w.in-Some.dtype.now w.in-Some.ensures.found) in (
            subst (IsOver c.args.columns.now) (sym w.columns-is) (over-then c.args.columns.now c.loop-i.columns w.set.new.self c.loop-i.invariant.0 w.in_ok-set.ensures.over),
            λ a.
                ap (λ (k : _). type_in k a) w.columns-is
                ∙ w.in_ok-set.ensures.after a
                ∙ ap (λ (o : Option DataType). cond (bytes_eq a n) (Some w.in-Some.dtype.now) o) (c.loop-i.invariant.1 a)
                ∙ sym (type-next s i n w.in-Some.dtype.now w.in-Some.ensures.found fresh a),
          ))
      | in_default w ↦ absurd (not_past s i w.in_default.ensures.none (omega (arith, c.loop-i-test.true, c.len-i-end.ensures.value)))
    ]
