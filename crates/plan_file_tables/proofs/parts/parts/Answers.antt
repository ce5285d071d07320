use Rattle.std.proofs.Common.{◌≡◌, ◌∙◌, ◌++◌, List, [], Option, Some, length, refl, ap, sym}
use Rattle.std.specs.Borrow.{Bor}
use Rattle.std.specs.List.{slice_get}
use Rattle.std.specs.Option.{option_copied, unwrap_or}
use Rattle.std.proofs.lemmas.Option.{slice_get-get_or}
use Rattle.plan_scan.specs.Source.{Source}
use Rattle.plan_scan.specs.Sources.{source_of}
use Rattle.plan_table.specs.declared.table.Table.{Table}
use Rattle.plan_file_tables.specs.Parts.{frames_found, hive_at, parts_shown}
use Rattle.plan_file_tables.specs.declared.parts.Part.{Part as Lent}
use Rattle.plan_file_tables.proofs.PartLemmas.{parts-next, parts_from}
use Rattle.plan_file_tables.proofs.parts.parts.Goals as goal

pub loop-source-preserved : goal.loop-source-preserved
loop-source-preserved c =
    let ts : List (Option (Bor Table)) = c.args.tables.now in
    let made : List Lent = c.loop-source.parts in
    let p : Lent = record { source = c.in-Some.source; hive = c.hive_part.result; table = c.in-Some-get.table.now } in
    let own : unwrap_or (option_copied p.hive) [] ≡ hive_at c.args.hive.now (length made) = c.hive_part.ensures ∙ ap (hive_at c.args.hive.now) c.len-place.ensures in
    let found : slice_get ts (length made) ≡ Some p.table =
    ap (slice_get ts) (sym c.len-place.ensures)
    ∙ slice_get-get_or ts c.len-place.result p.table c.in-Some-get.ensures.lookup.3.0
    ∙ ap (λ (t : Option (Bor Table)). Some t) (sym c.in-Some-get.ensures.lookup.1)
    in
    rw c.in_ok-push.ensures.pushed (
    parts-next c.args.hive.now ts made p (source_of p.source) c.next.new.self refl own found
    ∙ ap (λ (l : List Source). parts_shown made ++ parts_from c.args.hive.now (frames_found ts) (length made) l) (sym c.in-Some.ensures.steps)
    ∙ c.loop-source.invariant
    )
