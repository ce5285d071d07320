-- The rows of frames in turn: the frames stacked, where all have the same columns.
use Rattle.std.proofs.Common.{◌≡◌, ◌∙◌, ◌++◌, ◌+◌, ℕ, zero, suc, Bool, false, cond, List, [], ◌∷◌, map, fold, length, ◌<◌, ◌⊎◌, inl, inr, Some, unwrap_or, replicate, refl, sym, ap, ap₂, subst, arith}
use Rattle.std.specs.List.{AllByRecursion, IsDistinct, range_with_len}
use Rattle.std.specs.Str.{bytes_eq}
use Rattle.std.proofs.lemmas.List.FromFn.{length-range_with_len}
use Rattle.plan_core.specs.Columns.{Columns, HasDistinctNames, names_of}
use Rattle.plan_core.proofs.ColumnLemmas.{flip_false}
use Rattle.plan_options.specs.declared.union.UnionOptions.{UnionOptions}
use Rattle.plan_expr.specs.Leaves.{Name}
use Rattle.plan_ir.specs.Plans.{union}
use Rattle.plan_frame.specs.Frames.{stack, stacked, total_height, Column, Frame, HasSchema, HaveTypes, appended, appended_columns, column_or, found, in_turn, picked_columns, row, rows_at, table_columns}
use Rattle.plan_meaning.specs.Typing.{AllHold, checks}
use Rattle.plan_frame.specs.Values.{Value, null}
use Rattle.plan_frame.proofs.NameSets.{same_named}
use Rattle.plan_frame.proofs.TurnLemmas.{AllAre, HaveSchemas, appended_has}
use Rattle.plan_meaning.proofs.UnionLemmas.{never_built, union_inputs}
use Rattle.plan_table.specs.declared.source_key.SourceKey.{SourceKey}
use Rattle.plan_table.specs.declared.table.Table.{Table}
use Rattle.plan_table.specs.Tables.{HasRows}
use Rattle.plan_value.specs.Shown.{frame_of, schema_of}
use Rattle.plan_function_tables.specs.Given.{Gives}
use Rattle.plan_fit.proofs.FormedLemmas.{columns-have, have-columns}
use Rattle.plan_eval.specs.Stacks.{with_below}
use Rattle.plan_eval.proofs.StackLemmas.{fold-stacks, stack-one}

-- Columns by their names

same-on : (names : List Name) (v w : Name → List Value) → AllByRecursion (λ (a : Name). v a ≡ w a) names → table_columns names v ≡ table_columns names w
same-on [] v w h = refl
same-on (a ∷ names) v w h = ap₂ (λ (vs : List Value) (cs : List Column). record { name = a; values = vs } ∷ cs) h.0 (same-on names v w h.1)

later : (a : Name) (vs : List Value) (cs : List Column) (nulls : List Value) (names : List Name) → AllByRecursion (λ (b : Name). bytes_eq a b ≡ false) names
    → AllByRecursion (λ (b : Name). unwrap_or (found cs b) nulls ≡ unwrap_or (cond (bytes_eq b a) (Some vs) (found cs b)) nulls) names
later a vs cs nulls [] h = tt
later a vs cs nulls (b ∷ names) h =
    (ap (λ (t : Bool). unwrap_or (cond t (Some vs) (found cs b)) nulls) (sym (flip_false a b h.0)), later a vs cs nulls names h.1)

found-own : (h : ℕ) (cs : List Column) (s : Columns) → HaveTypes h cs s → HasDistinctNames s → cs ≡ table_columns (names_of s) (λ (a : Name). unwrap_or (found cs a) (replicate h null))
unfolding IsDistinct
found-own h [] [] t d = refl
found-own h (c ∷ cs) (x ∷ s) t d =
    let nulls : List Value = replicate h null in
    let other : AllByRecursion (λ (b : Name). bytes_eq c.name b ≡ false) (names_of s) = subst (λ (a : Name). AllByRecursion (λ (b : Name). bytes_eq a b ≡ false) (names_of s)) (sym t.0) d.0 in
    let own : c.values ≡ unwrap_or (found (c ∷ cs) c.name) nulls = ap (λ (b : Bool). unwrap_or (cond b (Some c.values) (found cs c.name)) nulls) (sym (same_named c.name)) in
    let values : Name → List Value = λ (a : Name). unwrap_or (found (c ∷ cs) a) nulls in
    ap₂ (λ (vs : List Value) (l : List Column). record { name = c.name; values = vs } ∷ l) own
    (found-own h cs s t.3 d.1 ∙ same-on (names_of s) (λ (a : Name). unwrap_or (found cs a) nulls) values (later c.name c.values cs nulls (names_of s) other))
    ∙ ap (λ (a : Name). record { name = a; values = values a } ∷ table_columns (names_of s) values) t.0
found-own h [] (x ∷ s) t d = absurd t
found-own h (c ∷ cs) [] t d = absurd t

-- the columns of a frame are those of its names
own-columns : (f : Frame) (s : Columns) → HasSchema f s → HasDistinctNames s → f.columns ≡ table_columns (names_of s) (column_or f)
own-columns f s h d = found-own f.height f.columns s h d

appended-table : (names : List Name) (v w : Name → List Value) → appended_columns (table_columns names v) (table_columns names w) ≡ table_columns names (λ (a : Name). v a ++ w a)
appended-table [] v w = refl
appended-table (a ∷ names) v w = ap (λ (cs : List Column). record { name = a; values = v a ++ w a } ∷ cs) (appended-table names v w)

-- Frames with the same columns

abbrev AllHave : Columns → List Frame → Type 0
AllHave s fs = AllByRecursion (λ (f : Frame). HasSchema f s) fs

turn-has : (s : Columns) (f : Frame) (fs : List Frame) → AllHave s (f ∷ fs) → HasSchema (in_turn (f ∷ fs)) s
turn-has s f [] h = h.0
turn-has s f (g ∷ fs) h = appended_has f (in_turn (g ∷ fs)) s h.0 (turn-has s g fs h.1)

-- stacked by their names they stand in turn
stack-turn : (s : Columns) (f : Frame) (fs : List Frame) → HasDistinctNames s → AllHave s (f ∷ fs) → stack (names_of s) (f ∷ fs) ≡ in_turn (f ∷ fs)
stack-turn s f [] d h = stack-one (names_of s) f ∙ ap (λ (cs : List Column). record { height = f.height; columns = cs }) (sym (own-columns f s h.0 d))
stack-turn s f (g ∷ fs) d h =
    let names : List Name = names_of s in
    let rest : List Column = table_columns names (stacked (g ∷ fs)) in
    let high : List Column → Frame = λ (cs : List Column). record { height = f.height + total_height (g ∷ fs); columns = cs } in
    ap high (sym (appended-table names (column_or f) (stacked (g ∷ fs))))
    ∙ ap (λ (cs : List Column). high (appended_columns cs rest)) (sym (own-columns f s h.0 d))
    ∙ ap (appended f) (stack-turn s g fs d h.1)

-- All rows, in order

rows-up : (at : ℕ → Value) (a n : ℕ) → map at (range_with_len (suc a) n) ≡ map (λ (i : ℕ). at (suc i)) (range_with_len a n)
rows-up at a zero = refl
rows-up at a (suc n) =
    let same : suc a + 1 ≡ suc (a + 1) = omega arith in
    ap (λ (k : ℕ). at (suc a) ∷ map at (range_with_len k n)) same ∙ ap (λ (l : List Value). at (suc a) ∷ l) (rows-up at (a + 1) n)

pub each-row : (vs : List Value) → map (row vs) (range_with_len 0 (length vs)) ≡ vs
each-row [] = refl
each-row (v ∷ vs) = ap (λ (l : List Value). v ∷ l) (rows-up (row (v ∷ vs)) 0 (length vs) ∙ each-row vs)

all-columns : (h : ℕ) (cs : List Column) (s : Columns) → HaveTypes h cs s → picked_columns (range_with_len 0 h) cs ≡ cs
all-columns h [] s t = refl
all-columns h (c ∷ cs) (x ∷ s) t =
    ap₂ (λ (vs : List Value) (l : List Column). record { name = c.name; values = vs } ∷ l)
    (ap (λ (n : ℕ). map (row c.values) (range_with_len 0 n)) (sym t.1) ∙ each-row c.values)
    (all-columns h cs s t.3)
all-columns h (c ∷ cs) [] t = absurd t

-- all rows of a frame in order are the frame
pub all-rows : (f : Frame) (s : Columns) → HasSchema f s → rows_at (range_with_len 0 f.height) f ≡ f
all-rows f s t = ap₂ (λ (n : ℕ) (cs : List Column). record { height = n; columns = cs }) (length-range_with_len 0 f.height) (all-columns f.height f.columns s t)

-- Tables

-- tables whose frames have their columns have their rows
pub have-rows : (tables : List Table) → HaveSchemas (map frame_of tables) (map schema_of tables) → AllByRecursion HasRows tables
have-rows [] h = tt
have-rows (t ∷ tables) h = (have-columns t.height t.columns h.0, have-rows tables h.1)

same-schemas : (s : Columns) (tables : List Table) → AllAre s (map schema_of tables) → AllByRecursion HasRows tables → AllHave s (map frame_of tables)
same-schemas s [] a r = tt
same-schemas s (t ∷ tables) a r = (subst (HasSchema (frame_of t)) a.0 (columns-have t.height t.columns r.0), same-schemas s tables a.1 r.1)

-- a valid union has a table
pub some-united : (options : UnionOptions) (tables : List Table) → AllHold (checks (union options) (map schema_of tables)) → 0 < length tables
some-united options [] good = absurd (never_built options [] refl good.0)
some-united options (t ∷ tables) good = omega arith

-- tables with the columns of the first, stacked, are what a union of them gives
gives : (ts : List (SourceKey × Table)) (valid options : UnionOptions) (first : Table) (tables : List Table) (t : Table)
    → AllHold (checks (union valid) (map schema_of (first ∷ tables))) → AllByRecursion HasRows (first ∷ tables) → HasDistinctNames (schema_of first)
    → frame_of t ≡ stack (names_of (schema_of first)) (map frame_of (first ∷ tables)) → schema_of t ≡ schema_of first → Gives ts (union options) (first ∷ tables) t
gives ts valid options first tables t good rows d frame types =
    let s = schema_of first in
    let have = same-schemas s (first ∷ tables) (union_inputs valid (map schema_of (first ∷ tables)) good) rows in
    let whole = in_turn (map frame_of (first ∷ tables)) in
    record {
      step = frame ∙ stack-turn s (frame_of first) (map frame_of tables) d have ∙ sym (all-rows whole s (turn-has s (frame_of first) (map frame_of tables) have));
      types = types;
    }

-- tables with the rows of the others below those of the first are what a union of them gives
pub below-gives : (ts : List (SourceKey × Table)) (valid options : UnionOptions) (first : Table) (others : List Table) (t : Table)
    → AllHold (checks (union valid) (map schema_of (first ∷ others))) → AllByRecursion HasRows (first ∷ others) → (others ≡ []) ⊎ HasDistinctNames (schema_of first)
    → frame_of t ≡ fold with_below (frame_of first) (map frame_of others) → schema_of t ≡ schema_of first → Gives ts (union options) (first ∷ others) t
below-gives ts valid options first others t good rows (inl none) frame types =
    subst (λ (us : List Table). Gives ts (union options) (first ∷ us) t) (sym none) (record {
      step = frame ∙ ap (λ (us : List Table). fold with_below (frame_of first) (map frame_of us)) none ∙ sym (all-rows (frame_of first) (schema_of first) (columns-have first.height first.columns rows.0));
      types = types;
    })
below-gives ts valid options first others t good rows (inr d) frame types =
    let names : List Name = names_of (schema_of first) in
    let own : frame_of first ≡ stack names (frame_of first ∷ []) =
    ap (λ (cs : List Column). record { height = first.height; columns = cs }) (own-columns (frame_of first) (schema_of first) (columns-have first.height first.columns rows.0) d)
    ∙ sym (stack-one names (frame_of first)) in
    gives ts valid options first others t good rows d
    (frame ∙ ap (λ (f : Frame). fold with_below f (map frame_of others)) own ∙ fold-stacks names (frame_of first ∷ []) (map frame_of others))
    types
