use Rattle.std.proofs.Common.{◌≡◌, ◌∙◌, ◌<◌, ◌==◌, ◌++◌, List, length, lit<, sym, ap, None, Some, Bool, cond, true, is_some}
use Rattle.std.proofs.lemmas.List.{append-nil}
use Rattle.std.specs.List.{before_first, after_first, filter_map}
use Rattle.std.proofs.lemmas.Str.Pattern.{split_once_first}
use Rattle.plan_hive.specs.Parts.{Text, HivePart, folders, hive_part, hive_parts, may_cut}
use Rattle.plan_hive.proofs.PartLemmas.{before, folders-end, folder-kept, folder-passed, may_cut-there, text-behind}
use Rattle.plan_hive.proofs.hive_parts.hive_parts.Goals as goal

pub loop-folder-preserved-in_ok-push : goal.loop-folder-preserved-in_ok-push
loop-folder-preserved-in_ok-push c =
    let rest = c.loop-folder.rest.now in
    let cut : (before 47 rest < length rest) × (c.in-Some-split_once.folder.now ≡ before_first (λ b. b == 47) rest) × (c.in-Some-split_once.more.now ≡ after_first (λ b. b == 47) rest) =
    let f = split_once_first 47 rest (Some (c.in-Some-split_once.folder, c.in-Some-split_once.more)) c.in-Some-split_once.ensures.cases (lit< tt) in f in
    let whole = hive_parts c.args.start c.args.path.now in (
      ap (λ (x : List HivePart). x ++ filter_map hive_part (folders c.in-Some-split_once.more.now)) c.in_ok-push.ensures.pushed
          ∙ folder-kept c.loop-folder.parts whole rest c.in-Some-split_once.folder.now c.in-Some-split_once.more.now cut.0 cut.1 cut.2 c.loop-folder.invariant.0 c.in-Some-2.part (sym c.in-Some-2.is ∙ c.in_ok-part.ensures),
      text-behind rest c.in-Some-split_once.more.now c.loop-folder.invariant.1 cut.0 cut.2,
    )

pub loop-folder-preserved : goal.loop-folder-preserved
loop-folder-preserved c =
    let rest = c.loop-folder.rest.now in
    let cut : (before 47 rest < length rest) × (c.in-Some-split_once.folder.now ≡ before_first (λ b. b == 47) rest) × (c.in-Some-split_once.more.now ≡ after_first (λ b. b == 47) rest) =
    let f = split_once_first 47 rest (Some (c.in-Some-split_once.folder, c.in-Some-split_once.more)) c.in-Some-split_once.ensures.cases (lit< tt) in f in
    let whole = hive_parts c.args.start c.args.path.now in (
      folder-passed c.loop-folder.parts whole rest c.in-Some-split_once.folder.now c.in-Some-split_once.more.now cut.0 cut.1 cut.2 c.loop-folder.invariant.0 (sym c.in_default-2.is ∙ c.in_ok-part.ensures),
      text-behind rest c.in-Some-split_once.more.now c.loop-folder.invariant.1 cut.0 cut.2,
    )

pub returns : goal.returns
returns c =
    let rest = c.loop-folder.rest.now in
    let end : before 47 rest ≡ length rest = let f = split_once_first 47 rest None c.in_default-split_once.ensures.cases (lit< tt) in f in
    let whole = hive_parts c.args.start c.args.path.now in
    let all : c.loop-folder.parts ≡ whole =
    sym (append-nil c.loop-folder.parts) ∙ ap (λ (x : List Text). c.loop-folder.parts ++ filter_map hive_part x) (sym (folders-end rest end)) ∙ c.loop-folder.invariant.0 in
    let there : may_cut c.args.start c.args.path.now ≡ true = may_cut-there c.args.path.now c.args.start (c.split_at_checked.ensures.variant.0 (ap is_some c.in-Some.is)) in
    ap Some all ∙ ap (λ (t : Bool). cond t (Some whole) None) (sym there)
