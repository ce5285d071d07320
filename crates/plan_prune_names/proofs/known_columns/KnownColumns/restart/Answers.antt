use Rattle.std.proofs.Common.{◌≡◌, ◌∙◌, ap, cond, false, sym, arith, List, Option, Some, take}
use Rattle.std.specs.Str.{bytes_eq}
use Rattle.plan_core.specs.declared.data_type.DataType.{DataType}
use Rattle.plan_core.specs.Columns.{Columns, names_of, type_of}
use Rattle.plan_core.specs.Names.{has}
use Rattle.plan_expr.specs.Leaves.{Name}
use Rattle.std.proofs.lemmas.List.{take-map}
use Rattle.plan_pruned.proofs.ListSteps.{name_at, not_past}
use Rattle.plan_prune_names.specs.Known.{type_in}
use Rattle.plan_prune_names.proofs.MoveLemmas.{fresh-at}
use Rattle.plan_prune_names.proofs.TypeLemmas.{type-next}
use Rattle.plan_prune_names.proofs.known_columns.KnownColumns.restart.Goals.{in-Some+in_ok-owned+in_ok-set, in_default}
use Rattle.plan_prune_names.proofs.known_columns.KnownColumns.restart.Goals as goal

pub loop-i-init : goal.loop-i-init
loop-i-init c = (λ a. ap (λ (s : Columns). type_of s a) c.new.ensures.none.0, c.new.ensures.none.1, c.new.ensures.none.2)

pub loop-i-preserved : goal.loop-i-preserved
loop-i-preserved c =
    let s = c.args.stored.now in
    let i = c.loop-i.i in
    elim c.match-get_at_index.branch [
      | in-Some+in_ok-owned+in_ok-set w ↦
          (let n : Name = w.in-Some.name.now in
          let fresh : has (names_of (take i s)) n ≡ false = ap (λ (ns : List Name). has ns n) (sym (take-map (λ (c : Name × DataType). c.0) i s)) ∙ fresh-at (names_of s) i n c.len-i-end.ensures.distinct (name_at s i n w.in-Some.dtype.now w.in-Some.ensures.found) in (
            λ a.
                ap (λ (k : _). type_in k a) w.self-is
                ∙ w.in_ok-set.ensures.after a
                ∙ ap (λ (b : Name). cond (bytes_eq a b) (Some w.in-Some.dtype.now) (type_in c.loop-i.self a)) w.in_ok-owned.ensures.ok
                ∙ ap (λ (o : Option DataType). cond (bytes_eq a n) (Some w.in-Some.dtype.now) o) (c.loop-i.invariant.0 a)
                ∙ sym (type-next s i n w.in-Some.dtype.now w.in-Some.ensures.found fresh a),
            ap (λ (k : _). k.changes.items) w.self-is ∙ c.loop-i.invariant.1,
            ap (λ (k : _). k.marks.items) w.self-is ∙ c.loop-i.invariant.2,
          ))
      | in_default w ↦ absurd (not_past s i w.in_default.ensures.none (omega (arith, c.loop-i-test.true, c.len-i-end.ensures.value)))
    ]
