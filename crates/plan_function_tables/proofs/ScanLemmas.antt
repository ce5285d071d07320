-- The tables of sources, and the columns of files.
use Rattle.std.proofs.Common.{◌≡◌, ◌++◌, ◌∙◌, true, List, [], ◌∷◌, map, Option, option_map, ap, sym, append_assoc, append-nil}
use Rattle.std.specs.Borrow.{Bor}
use Rattle.std.specs.Option.{option_copied, unwrap_or}
use Rattle.std.proofs.lemmas.List.{map-append}
use Rattle.plan_core.specs.Columns.{Columns, names_of}
use Rattle.plan_file_tables.specs.Parts.{frame_found, frames_found}
use Rattle.plan_fit.proofs.FitLemmas.{frame-shown}
use Rattle.plan_fit.specs.Sources.{contents_of, key_of, source_of}
use Rattle.plan_frame.proofs.BesideLemmas.{beside-distinct}
use Rattle.plan_frame.specs.Beside.{side_by_side}
use Rattle.plan_frame.specs.Frames.{Frame}
use Rattle.plan_meaning.proofs.JoinLemmas.{differ_distinct}
use Rattle.plan_file_scan.specs.FileFrames.{no_frame}
use Rattle.plan_meaning.specs.Contents.{frame_or, place_of}
use Rattle.plan_meaning.specs.Functions.{all_differ}
use Rattle.plan_scan.specs.Source.{Source, file, buffer}
use Rattle.plan_table.specs.Tables.{table_at}
use Rattle.plan_table.specs.declared.source_key.SourceKey.{SourceKey}
use Rattle.plan_table.specs.declared.source_key.SourceKey.TheVariants as keys
use Rattle.plan_table.specs.declared.table.Table.{Table}
use Rattle.plan_value.specs.Shown.{frame_of}

-- Tables

-- the frame of a source is that of its table, if it has one
pub found-at : (ts : List (SourceKey × Table)) (key : SourceKey) (t : Option (Bor Table)) → option_copied t ≡ table_at ts key → frame_found t ≡ frame_or (contents_of ts) (source_of key)
found-at ts key t e =
    ap (λ (o : Option Table). unwrap_or (option_map frame_of o) no_frame) e
    ∙ ap (λ (o : Option Frame). unwrap_or o no_frame) (sym (frame-shown ts key))

own-found : (ts : List (SourceKey × Table)) (s : Source) (t : Option (Bor Table)) → option_copied t ≡ table_at ts (key_of s) → frame_found t ≡ frame_or (contents_of ts) (place_of s)
own-found ts (file a) t e = found-at ts (keys.Path a) t e
own-found ts (buffer i) t e = found-at ts (keys.Buffer i) t e

-- the frames of sources, in order
abbrev pub own_frames : List (SourceKey × Table) → List Source → List Frame
own_frames ts ss = map (frame_or (contents_of ts)) (map place_of ss)

-- with the table of one source more
pub found-next : (ts : List (SourceKey × Table)) (found : List (Option (Bor Table))) (t : Option (Bor Table)) (s : Source) (rest : List Source) → option_copied t ≡ table_at ts (key_of s) → frames_found (found ++ t ∷ []) ++ own_frames ts rest ≡ frames_found found ++ own_frames ts (s ∷ rest)
found-next ts found t s rest e =
    ap (λ (fs : List Frame). fs ++ own_frames ts rest) (map-append frame_found found (t ∷ []))
    ∙ append_assoc (frames_found found) (frame_found t ∷ []) (own_frames ts rest)
    ∙ ap (λ (f : Frame). frames_found found ++ f ∷ own_frames ts rest) (own-found ts s t e)

-- Columns

-- columns that differ in their names are all kept beside one another
pub all-kept : (cs : Columns) → all_differ (names_of cs) ≡ true → side_by_side (cs ∷ []) ≡ cs
all-kept cs h = beside-distinct (cs ∷ []) (rw (append-nil cs) (differ_distinct (names_of cs) h)) ∙ append-nil cs
