use Rattle.std.proofs.Common.{◌≡◌, ◌∙◌, ◌++◌, ◌∷◌, [], List, ℕ, Some, map, take, refl, sym, ap, ap₂, add-one}
use Rattle.std.specs.List.{slice_get}
use Rattle.std.proofs.lemmas.List.{map-append}
use Rattle.std.proofs.lemmas.Option.{slice_get_read}
use Rattle.plan_core.specs.declared.error.PolarsError.TheVariants.{ComputeError}
use Rattle.plan_scan.specs.Stats.{Stats}
use Rattle.plan_hive.specs.Hive.{is_read, partition_of, values_fault}
use Rattle.plan_hive.proofs.ColumnLemmas.{take-more}
use Rattle.plan_hive.proofs.FaultLemmas.{found-from, next-from, read, test-none, test-some, unread}
use Rattle.plan_hive.proofs.hive.read_partitions.Goals as goal

pub loop-i-preserved : goal.loop-i-preserved
loop-i-preserved c =
    let all = c.args.all.now in
    let i = c.loop-i.i in
    let parts = c.index-all-i.result in
    let columns = c.args.columns.now in
    let here : slice_get all i ≡ Some parts = slice_get_read all _ i parts refl c.loop-i-test.true c.index-all-i.is in
    let whole = test-some (is_read columns parts) (partition_of columns parts) c.in-Some.part (sym c.in-Some.is ∙ c.in_ok-part.ensures) in (
      c.in_ok-push.ensures.pushed
          ∙ ap₂ (λ (x : List Stats) (y : Stats). x ++ y ∷ []) c.loop-i.invariant.0 whole.1
          ∙ sym (ap (λ (n : ℕ). map (partition_of columns) (take n all)) (add-one i) ∙ ap (map (partition_of columns)) (take-more all i parts here) ∙ map-append (partition_of columns) (take i all) (parts ∷ [])),
      next-from (values_fault columns) i all parts here c.loop-i.invariant.1 (read columns i parts whole.0),
    )

pub returns-in_default-clause-fault : goal.returns-in_default-clause-fault
returns-in_default-clause-fault c =
    let all = c.args.all.now in
    let i = c.loop-i.i in
    let parts = c.index-all-i.result in
    let columns = c.args.columns.now in
    let here : slice_get all i ≡ Some parts = slice_get_read all _ i parts refl c.loop-i-test.true c.index-all-i.is in
    let none = test-none (is_read columns parts) (partition_of columns parts) (sym c.in_default.is ∙ c.in_ok-part.ensures) in
    found-from (values_fault columns) i all parts (ComputeError c.place.result) here c.loop-i.invariant.1 (unread columns i parts none ∙ ap (λ at. Some (ComputeError at)) (sym c.place.ensures))
