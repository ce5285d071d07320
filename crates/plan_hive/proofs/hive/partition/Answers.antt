use Rattle.std.proofs.Common.{◌≡◌, ◌∙◌, ◌++◌, [], Some, true, sym, ap}
use Rattle.std.proofs.lemmas.List.{append-nil}
use Rattle.plan_core.specs.Columns.{Columns}
use Rattle.plan_core.specs.declared.data_type.DataType.{DataType}
use Rattle.plan_hive.specs.Parts.{Text}
use Rattle.plan_hive.specs.Hive.{is_read, partition_of, value_in}
use Rattle.plan_hive.proofs.PartitionLemmas.{partition-next, read-next, partition-formed, value-there}
use Rattle.plan_hive.proofs.hive.partition.Goals as goal

pub loop-name-preserved : goal.loop-name-preserved
loop-name-preserved c =
    let parts = c.args.values.now in
    let column : Text × DataType = (c.in-Some.name.now, c.in-Some.dtype.now) in
    let value : value_in parts column ≡ Some c.in-Some-2.value = value-there parts c.in-Some.name.now c.in-Some.dtype.now c.in-Some-get.text.now c.in-Some-2.value (sym c.in-Some-get.ensures) (sym (sym c.in-Some-2.is ∙ c.in_ok-value.ensures)) in (
      partition-next parts c.loop-name.name-iterator c.next.new.self c.loop-name.column_stats (partition_of c.args.columns.now parts) c.in-Some.name.now c.in_ok-new.field-0 c.in-Some.dtype.now c.in-Some-2.value c.push.new.self c.in-Some.ensures.steps value c.in_ok-new.ensures c.in_ok-push.ensures.pushed c.loop-name.invariant.0,
      read-next parts c.loop-name.name-iterator c.next.new.self (is_read c.args.columns.now parts) column c.in-Some-2.value c.in-Some.ensures.steps value c.loop-name.invariant.1,
    )

pub of-requires : goal.of-requires
of-requires c =
    let parts = c.args.values.now in
    let cs = c.args.columns.now in
    let empty : c.loop-name.name-iterator ≡ [] = c.in-None.ensures.steps.0 in
    let whole : is_read cs parts ≡ true = sym c.loop-name.invariant.1 ∙ ap (λ (x : Columns). is_read x parts) empty in
    let all : c.loop-name.column_stats ≡ partition_of cs parts = sym (append-nil c.loop-name.column_stats) ∙ ap (λ (x : Columns). c.loop-name.column_stats ++ partition_of x parts) (sym empty) ∙ c.loop-name.invariant.0 in
    rw (c.in_ok-try_clone.ensures, all) (partition-formed cs parts whole)
