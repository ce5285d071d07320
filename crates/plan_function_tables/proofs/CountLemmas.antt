-- How many rows the tables of sources have together.
use Rattle.std.proofs.Common.{◌≡◌, ◌<◌, ◌+◌, ◌%◌, ◌^◌, ◌++◌, ℕ, List, [], ◌∷◌, length, take, sym, ap, ◌∙◌, arith, slice_index_or}
use Rattle.std.specs.Borrow.{Bor}
use Rattle.std.specs.Prelude.{Option}
use Rattle.std.proofs.Math.Nat.{mod-add-mod}
use Rattle.std.proofs.lemmas.List.{map-append, take_more}
use Rattle.plan_frame.specs.Frames.{Frame}
use Rattle.plan_meaning.specs.Mapped.{rows_together}
use Rattle.plan_file_tables.specs.Parts.{frame_found, frames_found}
use Rattle.plan_table.specs.declared.table.Table.{Table}

-- with the rows of one frame more
rows-more : (fs : List Frame) (f : Frame) → rows_together (fs ++ f ∷ []) ≡ rows_together fs + f.height
rows-more [] f = omega arith
rows-more (g ∷ fs) f = let r = rows-more fs f in omega (arith, r)

-- and of the next table
pub rows-next : (ts : List (Option (Bor Table))) (i : ℕ) (t : Option (Bor Table)) → i < length ts → t ≡ slice_index_or ts i t → rows_together (frames_found (take (i + 1) ts)) ≡ rows_together (frames_found (take i ts)) + (frame_found t).height
rows-next ts i t lt is =
    ap (λ (l : List (Option (Bor Table))). rows_together (frames_found l)) (take_more ts i t lt)
    ∙ ap rows_together (map-append frame_found (take i ts) (slice_index_or ts i t ∷ []))
    ∙ rows-more (frames_found (take i ts)) (frame_found (slice_index_or ts i t))
    ∙ ap (λ (x : Option (Bor Table)). rows_together (frames_found (take i ts)) + (frame_found x).height) (sym is)

-- the number of rows, cut to 64 bits
pub cut-next : (ts : List (Option (Bor Table))) (i m h : ℕ) (t : Option (Bor Table)) → i < length ts → t ≡ slice_index_or ts i t → (frame_found t).height ≡ h → m ≡ rows_together (frames_found (take i ts)) % 2 ^ 64 → (m + h) % 2 ^ 64 ≡ rows_together (frames_found (take (i + 1) ts)) % 2 ^ 64
cut-next ts i m h t lt is e before =
    ap (λ (n : ℕ). (n + h) % 2 ^ 64) before
    ∙ mod-add-mod (rows_together (frames_found (take i ts))) (2 ^ 64) h
    ∙ ap (λ (n : ℕ). (rows_together (frames_found (take i ts)) + n) % 2 ^ 64) (sym e)
    ∙ ap (λ (n : ℕ). n % 2 ^ 64) (sym (rows-next ts i t lt is))

-- and of a source without a table
pub cut-same : (m n : ℕ) → m ≡ n % 2 ^ 64 → m ≡ (m + 0) % 2 ^ 64
cut-same m n e = omega (arith, e)
