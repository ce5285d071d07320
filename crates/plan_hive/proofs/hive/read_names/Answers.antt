use Rattle.std.proofs.Common.{◌≡◌, ◌∙◌, ◌++◌, ◌∷◌, [], List, ℕ, Option, None, Some, Err, map, take, true, false, refl, sym, ap, ap₂, subst, add-one}
use Rattle.std.specs.List.{slice_get}
use Rattle.std.specs.Option.{option_copied}
use Rattle.std.proofs.lemmas.List.{map-append}
use Rattle.std.proofs.lemmas.Option.{slice_get_read}
use Rattle.plan_core.specs.declared.error.PolarsError.{PolarsError}
use Rattle.plan_core.specs.declared.error.PolarsError.TheVariants.{ComputeError}
use Rattle.plan_hive.specs.Parts.{HivePart, hive_parts, may_cut}
use Rattle.plan_hive.specs.Hive.{parts_fault, path_fault, Says}
use Rattle.plan_hive.proofs.ColumnLemmas.{take-more}
use Rattle.plan_hive.proofs.FaultLemmas.{cut-nowhere, cut-there, found-from, next-from, says-found, test-none, test-some}
use Rattle.plan_hive.proofs.hive.read_names.Goals as goal

pub loop-i-preserved : goal.loop-i-preserved
loop-i-preserved c =
    let paths = c.args.paths.now in
    let i = c.loop-i.i in
    let path = c.index-paths-i.result in
    let schema = option_copied c.args.schema in
    let here : slice_get paths i ≡ Some path = slice_get_read paths _ i path refl c.loop-i-test.true c.index-paths-i.is in
    let text = c.as_str.result.now in
    let cut = test-some (may_cut c.args.start text) (hive_parts c.args.start text) c.in-Some.parts (sym c.in-Some.is ∙ c.in_ok-parts.ensures) in
    let spelled : c.as_slice.result.now ≡ hive_parts c.args.start path = c.as_slice.ensures ∙ cut.1 ∙ ap (hive_parts c.args.start) c.as_str.ensures in
    let there : may_cut c.args.start path ≡ true = ap (may_cut c.args.start) (sym c.as_str.ensures) ∙ cut.0 in
    let clean : path_fault c.args.start schema c.args.firsts.now i path ≡ None = cut-there c.args.start schema c.args.firsts.now i path there ∙ ap (parts_fault schema c.args.firsts.now i) (sym spelled) ∙ c.in-Ok.ensures.fault in (
      c.in_ok-push-in-Ok.ensures.pushed
          ∙ ap₂ (λ (x : List (List HivePart)) (y : List HivePart). x ++ y ∷ []) c.loop-i.invariant.0 (c.in-Ok.ensures.values ∙ spelled)
          ∙ sym (ap (λ (n : ℕ). map (hive_parts c.args.start) (take n paths)) (add-one i) ∙ ap (map (hive_parts c.args.start)) (take-more paths i path here) ∙ map-append (hive_parts c.args.start) (take i paths) (path ∷ [])),
      next-from (path_fault c.args.start schema c.args.firsts.now) i paths path here c.loop-i.invariant.1 clean,
    )

pub returns-in_default-clause-fault : goal.returns-in_default-clause-fault
returns-in_default-clause-fault c =
    let paths = c.args.paths.now in
    let i = c.loop-i.i in
    let path = c.index-paths-i.result in
    let schema = option_copied c.args.schema in
    let here : slice_get paths i ≡ Some path = slice_get_read paths _ i path refl c.loop-i-test.true c.index-paths-i.is in
    let cut : may_cut c.args.start path ≡ false = ap (may_cut c.args.start) (sym c.as_str.ensures) ∙ test-none (may_cut c.args.start c.as_str.result.now) (hive_parts c.args.start c.as_str.result.now) (sym c.in_default.is ∙ c.in_ok-parts.ensures) in
    found-from (path_fault c.args.start schema c.args.firsts.now) i paths path (ComputeError c.place.result) here c.loop-i.invariant.1
    (cut-nowhere c.args.start schema c.args.firsts.now i path cut ∙ ap (λ at. Some (ComputeError at)) (sym c.place.ensures))

pub returns-in-Err-clause-fault : goal.returns-in-Err-clause-fault
returns-in-Err-clause-fault c =
    let paths = c.args.paths.now in
    let i = c.loop-i.i in
    let path = c.index-paths-i.result in
    let schema = option_copied c.args.schema in
    let here : slice_get paths i ≡ Some path = slice_get_read paths _ i path refl c.loop-i-test.true c.index-paths-i.is in
    let text = c.as_str.result.now in
    let cut = test-some (may_cut c.args.start text) (hive_parts c.args.start text) c.in-Some.parts (sym c.in-Some.is ∙ c.in_ok-parts.ensures) in
    let spelled : c.as_slice.result.now ≡ hive_parts c.args.start path = c.as_slice.ensures ∙ cut.1 ∙ ap (hive_parts c.args.start) c.as_str.ensures in
    let there : may_cut c.args.start path ≡ true = ap (may_cut c.args.start) (sym c.as_str.ensures) ∙ cut.0 in
    let same : parts_fault schema c.args.firsts.now i c.as_slice.result.now ≡ path_fault c.args.start schema c.args.firsts.now i path = ap (parts_fault schema c.args.firsts.now i) spelled ∙ sym (cut-there c.args.start schema c.args.firsts.now i path there) in
    says-found (List (List HivePart)) (List (List HivePart)) (path_fault c.args.start schema c.args.firsts.now) i paths path c.in-Err.fault here c.loop-i.invariant.1
    (subst (λ (o : Option PolarsError). Says {A = List (List HivePart)} (Err c.in-Err.fault) o) same c.in-Err.ensures.fault)
