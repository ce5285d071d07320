-- Frames one after another.
use Rattle.std.proofs.Common.{◌≡◌, ◌++◌, ◌+◌, ◌<◌, length, take, get_or, map, fold, ℕ, List, [], ◌∷◌, refl, ap, ap₂, sym, ◌∙◌, arith, append_assoc, append-nil}
use Rattle.std.specs.Borrow.{Bor}
use Rattle.std.proofs.lemmas.List.{map-append, take_more}
use Rattle.plan_table.specs.declared.table.Table.{Table}
use Rattle.plan_expr.specs.Leaves.{Name}
use Rattle.plan_frame.specs.Values.{Value}
use Rattle.plan_frame.specs.Frames.{Frame, Column, column_or, cut, table_columns, stack, stacked, total_height}
use Rattle.plan_value.specs.Shown.{frame_of}
use Rattle.plan_eval.specs.Stacks.{lengthened, shown_tables, with_below}

pub height-push : (fs : List Frame) (f : Frame) → total_height (fs ++ f ∷ []) ≡ total_height fs + f.height
height-push [] f = omega arith
height-push (g ∷ fs) f = let q = height-push fs f in omega (arith, q)

pub stacked-push : (fs : List Frame) (f : Frame) (a : Name) → stacked (fs ++ f ∷ []) a ≡ stacked fs a ++ column_or f a
stacked-push [] f a = append-nil (column_or f a)
stacked-push (g ∷ fs) f a = ap (λ (vs : List Value). column_or g a ++ vs) (stacked-push fs f a) ∙ sym (append_assoc (column_or g a) (stacked fs a) (column_or f a))

same-columns : (names : List Name) (v w : Name → List Value) → ((a : Name) → v a ≡ w a) → table_columns names v ≡ table_columns names w
same-columns [] v w h = refl
same-columns (a ∷ names) v w h = ap₂ (λ (vs : List Value) (cs : List Column). record { name = a; values = vs } ∷ cs) (h a) (same-columns names v w h)

-- one frame alone is cut
pub stack-one : (names : List Name) (f : Frame) → stack names (f ∷ []) ≡ cut names f
stack-one names f =
    let q : f.height + 0 ≡ f.height = omega arith in
    ap₂ (λ (n : ℕ) (cs : List Column). record { height = n; columns = cs }) q (same-columns names (stacked (f ∷ [])) (column_or f) (λ a. append-nil (column_or f a)))

-- the tables before the next place, with the one at this place
tables-next : (ts : List (Bor Table)) (i : ℕ) (t : Bor Table) → i < length ts → t ≡ get_or ts i t → shown_tables (take (i + 1) ts) ≡ shown_tables (take i ts) ++ frame_of t.now ∷ []
tables-next ts i t lt is =
    ap shown_tables (take_more ts i t lt) ∙ map-append (λ (u : Bor Table). frame_of u.now) (take i ts) (get_or ts i t ∷ []) ∙ ap (λ (u : Bor Table). shown_tables (take i ts) ++ frame_of u.now ∷ []) (sym is)

pub height-next : (ts : List (Bor Table)) (i : ℕ) (t : Bor Table) → i < length ts → t ≡ get_or ts i t → total_height (shown_tables (take (i + 1) ts)) ≡ total_height (shown_tables (take i ts)) + t.now.height
height-next ts i t lt is = ap total_height (tables-next ts i t lt is) ∙ height-push (shown_tables (take i ts)) (frame_of t.now)

pub stacked-next : (ts : List (Bor Table)) (i : ℕ) (t : Bor Table) (a : Name) → i < length ts → t ≡ get_or ts i t → stacked (shown_tables (take (i + 1) ts)) a ≡ stacked (shown_tables (take i ts)) a ++ column_or (frame_of t.now) a
stacked-next ts i t a lt is = ap (λ (fs : List Frame). stacked fs a) (tables-next ts i t lt is) ∙ stacked-push (shown_tables (take i ts)) (frame_of t.now) a

lengthened-table : (names : List Name) (v : Name → List Value) (g : Frame) → map (lengthened g) (table_columns names v) ≡ table_columns names (λ (a : Name). v a ++ column_or g a)
lengthened-table [] v g = refl
lengthened-table (a ∷ names) v g = ap (λ (cs : List Column). record { name = a; values = v a ++ column_or g a } ∷ cs) (lengthened-table names v g)

-- rows below stacked ones are stacked with them
below-stacked : (names : List Name) (fs : List Frame) (g : Frame) → with_below (stack names fs) g ≡ stack names (fs ++ g ∷ [])
below-stacked names fs g =
    ap₂ (λ (n : ℕ) (cs : List Column). record { height = n; columns = cs }) (sym (height-push fs g))
    (lengthened-table names (stacked fs) g ∙ same-columns names (λ (a : Name). stacked fs a ++ column_or g a) (stacked (fs ++ g ∷ [])) (λ a. sym (stacked-push fs g a)))

pub fold-stacks : (names : List Name) (fs gs : List Frame) → fold with_below (stack names fs) gs ≡ stack names (fs ++ gs)
fold-stacks names fs [] = ap (stack names) (sym (append-nil fs))
fold-stacks names fs (g ∷ gs) =
    ap (λ (f : Frame). fold with_below f gs) (below-stacked names fs g)
    ∙ fold-stacks names (fs ++ g ∷ []) gs
    ∙ ap (stack names) (append_assoc fs (g ∷ []) gs)
