use Rattle.std.proofs.Common.{◌≡◌, ◌∙◌, ◌++◌, ◌∷◌, [], List, ℕ, Option, Some, take, true, false, not, sym, ap, ap₂, refl, add-one}
use Rattle.std.specs.List.{slice_get}
use Rattle.std.specs.Option.{option_copied}
use Rattle.std.proofs.lemmas.Option.{slice_get_read}
use borrow.Author.Tests.{not-true, not-false}
use Rattle.plan_core.specs.declared.error.PolarsError.TheVariants.{SchemaFieldNotFound, Duplicate}
use Rattle.plan_core.specs.Names.{has}
use Rattle.plan_hive.specs.Parts.{Text, HivePart, part_names}
use Rattle.plan_hive.specs.Hive.{is_known, name_fault, place}
use Rattle.plan_hive.proofs.ColumnLemmas.{take-more}
use Rattle.plan_hive.proofs.FaultLemmas.{faultless, found-from, name-first, next-from, twice, unknown}
use Rattle.plan_hive.proofs.PartNames.{name-at, names-take}
use Rattle.plan_hive.proofs.hive.values_of.Goals as goal

pub loop-name-preserved : goal.loop-name-preserved
loop-name-preserved c =
    let parts = c.args.parts.now in
    let names = part_names parts in
    let schema = option_copied c.args.schema in
    let firsts = c.args.firsts.now in
    let i = c.loop-name.name-index in
    let item = c.loop-name-item.result in
    let here : slice_get parts i ≡ Some item = slice_get_read parts _ i item refl c.loop-name-test.true c.loop-name-item.is in
    let known : is_known schema firsts item.0 ≡ true = ap (is_known schema firsts) (sym c.as_str.ensures) ∙ sym c.is_known.ensures ∙ c.if-not-is_known.false in
    let old : part_names c.loop-name.values ≡ take i names = ap part_names c.loop-name.invariant.0 ∙ names-take parts i in
    let added : true ≡ not (has (part_names c.loop-name.values) c.as_str-in-loop-name.result.now) = sym c.if-not-branch.false ∙ c.in_ok-add.ensures.added in
    let new : has (take i names) item.0 ≡ false = ap (λ (ns : List Text). has ns item.0) (sym old) ∙ ap (has (part_names c.loop-name.values)) (sym c.as_str-in-loop-name.ensures) ∙ not-true (has (part_names c.loop-name.values) c.as_str-in-loop-name.result.now) (sym added) in
    let after : c.add.new.self ≡ c.loop-name.values ++ (c.as_str-in-loop-name.result.now, c.in_ok-try_clone.field-0) ∷ [] = rw c.if-not-branch.false at c.in_ok-add.ensures.after in (
      after ∙ ap (λ (x : List HivePart). x ++ (c.as_str-in-loop-name.result.now, c.in_ok-try_clone.field-0) ∷ []) c.loop-name.invariant.0
          ∙ ap₂ (λ (a : Text) (v : Option Text). take i parts ++ (a, v) ∷ []) c.as_str-in-loop-name.ensures c.in_ok-try_clone.ensures
          ∙ sym (ap (λ (n : ℕ). take n parts) (add-one i) ∙ take-more parts i item here),
      next-from (λ k name. name_fault (place c.args.at) schema firsts (take k names) name) i names item.0 (name-at parts i item here) c.loop-name.invariant.1 (faultless (place c.args.at) schema firsts (take i names) item.0 known new),
    )

pub returns-then-not-is_known-clause-fault : goal.returns-then-not-is_known-clause-fault
returns-then-not-is_known-clause-fault c =
    let parts = c.args.parts.now in
    let names = part_names parts in
    let schema = option_copied c.args.schema in
    let firsts = c.args.firsts.now in
    let i = c.loop-name.name-index in
    let item = c.loop-name-item.result in
    let here : slice_get parts i ≡ Some item = slice_get_read parts _ i item refl c.loop-name-test.true c.loop-name-item.is in
    let strange : is_known schema firsts item.0 ≡ false = ap (is_known schema firsts) (sym c.as_str.ensures) ∙ sym c.is_known.ensures ∙ c.if-not-is_known.true in
    name-first schema firsts c.args.at parts (SchemaFieldNotFound c.place.result)
    (found-from (λ k name. name_fault (place c.args.at) schema firsts (take k names) name) i names item.0 (SchemaFieldNotFound c.place.result) (name-at parts i item here) c.loop-name.invariant.1
    (unknown (place c.args.at) schema firsts (take i names) item.0 strange ∙ ap (λ at. Some (SchemaFieldNotFound at)) (sym c.place.ensures)))

pub returns-then-not-branch-clause-fault : goal.returns-then-not-branch-clause-fault
returns-then-not-branch-clause-fault c =
    let parts = c.args.parts.now in
    let names = part_names parts in
    let schema = option_copied c.args.schema in
    let firsts = c.args.firsts.now in
    let i = c.loop-name.name-index in
    let item = c.loop-name-item.result in
    let here : slice_get parts i ≡ Some item = slice_get_read parts _ i item refl c.loop-name-test.true c.loop-name-item.is in
    let known : is_known schema firsts item.0 ≡ true = ap (is_known schema firsts) (sym c.as_str.ensures) ∙ sym c.is_known.ensures ∙ c.if-not-is_known.false in
    let old : part_names c.loop-name.values ≡ take i names = ap part_names c.loop-name.invariant.0 ∙ names-take parts i in
    let added : false ≡ not (has (part_names c.loop-name.values) c.as_str-in-loop-name.result.now) = sym c.if-not-branch.true ∙ c.in_ok-add.ensures.added in
    let before : has (take i names) item.0 ≡ true = ap (λ (ns : List Text). has ns item.0) (sym old) ∙ ap (has (part_names c.loop-name.values)) (sym c.as_str-in-loop-name.ensures) ∙ not-false (has (part_names c.loop-name.values) c.as_str-in-loop-name.result.now) (sym added) in
    name-first schema firsts c.args.at parts (Duplicate c.place-then-not-branch.result)
    (found-from (λ k name. name_fault (place c.args.at) schema firsts (take k names) name) i names item.0 (Duplicate c.place-then-not-branch.result) (name-at parts i item here) c.loop-name.invariant.1
    (twice (place c.args.at) schema firsts (take i names) item.0 known before ∙ ap (λ at. Some (Duplicate at)) (sym c.place-then-not-branch.ensures)))
