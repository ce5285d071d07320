-- Frames in turn, of which the last has its rows in another order.
use Rattle.std.proofs.Common.{◌≡◌, ℕ, zero, suc, ◌+◌, List, [], ◌∷◌, ◌++◌, length, map, refl, sym, ap, ap₂, ◌∙◌, subst, arith, length-append}
use Rattle.std.specs.List.{range_with_len}
use Rattle.std.specs.List.Sorted.{IsPermutation}
use Rattle.std.proofs.lemmas.List.Sorted.{IsPermutation-append_right, IsPermutation-map}
use Rattle.std.proofs.lemmas.List.FromFn.{length-range_with_len}
use Rattle.plan_core.specs.Columns.{Columns}
use Rattle.plan_frame.specs.Values.{Value}
use Rattle.plan_frame.specs.Frames.{Column, Frame, HasSchema, HaveTypes, appended, appended_columns, in_turn, picked, picked_columns, row, rows_at}
use Rattle.plan_frame.proofs.FrameLemmas.{length-map}
use Rattle.plan_frame.proofs.TurnLemmas.{AllAre, HaveSchemas, in_turn_has}
use Rattle.plan_order_laws.specs.Reordering.{AllHave, LastLoose, Reordering}

picked_both : (is js : List ℕ) (vs : List Value) → picked (is ++ js) vs ≡ picked is vs ++ picked js vs
picked_both [] js vs = refl
picked_both (i ∷ is) js vs = ap (λ (l : List Value). row vs i ∷ l) (picked_both is js vs)

row_after : (us vs : List Value) (i : ℕ) → row (us ++ vs) (length us + i) ≡ row vs i
row_after [] vs i = ap (row vs) (omega arith)
row_after (u ∷ us) vs i = let e : length (u ∷ us) + i ≡ suc (length us + i) = omega arith in ap (row (u ∷ (us ++ vs))) e ∙ row_after us vs i

picked_after : (us vs : List Value) (ps : List ℕ) → picked (map (λ i. length us + i) ps) (us ++ vs) ≡ picked ps vs
picked_after us vs [] = refl
picked_after us vs (p ∷ ps) = ap₂ (λ (x : Value) (xs : List Value). x ∷ xs) (row_after us vs p) (picked_after us vs ps)

picked_shift : (u : Value) (us : List Value) (a n : ℕ) → picked (range_with_len (suc a) n) (u ∷ us) ≡ picked (range_with_len a n) us
picked_shift u us a zero = refl
picked_shift u us a (suc n) = let e : suc a + 1 ≡ suc (a + 1) = omega arith in ap (λ (m : ℕ). row us a ∷ picked (range_with_len m n) (u ∷ us)) e ∙ ap (λ (l : List Value). row us a ∷ l) (picked_shift u us (a + 1) n)

picked_front : (us vs : List Value) → picked (range_with_len 0 (length us)) (us ++ vs) ≡ us
picked_front [] vs = refl
picked_front (u ∷ us) vs = let e : 0 + 1 ≡ suc 0 = omega arith in ap (λ (m : ℕ). u ∷ picked (range_with_len m (length us)) (u ∷ (us ++ vs))) e ∙ ap (λ (l : List Value). u ∷ l) (picked_shift u (us ++ vs) 0 (length us) ∙ picked_front us vs)

-- the first rows in place, and then others behind them
abbrev pub behind : ℕ → List ℕ → List ℕ
behind h ps = range_with_len 0 h ++ map (λ i. h + i) ps

values_behind : (us vs : List Value) (h : ℕ) (ps : List ℕ) → length us ≡ h → us ++ picked ps vs ≡ picked (behind h ps) (us ++ vs)
values_behind us vs h ps e =
    ap₂ (λ (x y : List Value). x ++ y) (sym (picked_front us vs)) (sym (picked_after us vs ps))
    ∙ sym (picked_both (range_with_len 0 (length us)) (map (λ i. length us + i) ps) (us ++ vs))
    ∙ ap (λ (n : ℕ). picked (behind n ps) (us ++ vs)) e

columns_behind : (h i : ℕ) (cs ds : List Column) (s : Columns) (ps : List ℕ) → HaveTypes h cs s → HaveTypes i ds s → appended_columns cs (picked_columns ps ds) ≡ picked_columns (behind h ps) (appended_columns cs ds)
columns_behind h i [] [] [] ps k l = refl
columns_behind h i (c ∷ cs) (d ∷ ds) (x ∷ s) ps k l = ap₂ (λ (vs : List Value) (es : List Column). record { name = c.name; values = vs } ∷ es) (values_behind c.values d.values h ps k.1) (columns_behind h i cs ds s ps k.3 l.3)
columns_behind h i [] (d ∷ ds) [] ps k l = absurd l
columns_behind h i [] ds (x ∷ s) ps k l = absurd k
columns_behind h i (c ∷ cs) ds [] ps k l = absurd k
columns_behind h i (c ∷ cs) [] (x ∷ s) ps k l = absurd l

appended_rows : (f g : Frame) (s : Columns) (ps : List ℕ) → HasSchema f s → HasSchema g s → appended f (rows_at ps g) ≡ rows_at (behind f.height ps) (appended f g)
appended_rows f g s ps k l =
    let long : f.height + length ps ≡ length (behind f.height ps) = sym (length-append (range_with_len 0 f.height) (map (λ i. f.height + i) ps) ∙ ap₂ (λ (m n : ℕ). m + n) (length-range_with_len 0 f.height) (length-map (λ i. f.height + i) ps)) in
    ap₂ (λ (n : ℕ) (cs : List Column). record { height = n; columns = cs }) long (columns_behind f.height g.height f.columns g.columns s ps k l)

range_behind : (a h i : ℕ) → range_with_len a (h + i) ≡ range_with_len a h ++ map (λ k. h + k) (range_with_len a i)
range_behind a zero i = ap (range_with_len a) (omega arith) ∙ sym (same (range_with_len a i))
  where
    same : (ks : List ℕ) → map (λ k. 0 + k) ks ≡ ks
    same [] = refl
    same (k ∷ ks) = ap₂ (λ (x : ℕ) (xs : List ℕ). x ∷ xs) (omega arith) (same ks)
range_behind a (suc h) i =
    let e : suc h + i ≡ suc (h + i) = omega arith in
    ap (range_with_len a) e ∙ ap (λ (l : List ℕ). a ∷ l) (range_behind (a + 1) h i ∙ ap (λ (l : List ℕ). range_with_len (a + 1) h ++ l) (moved a i))
  where
    moved : (a i : ℕ) → map (λ k. h + k) (range_with_len (a + 1) i) ≡ map (λ k. suc h + k) (range_with_len a i)
    moved a zero = refl
    moved a (suc i) = ap₂ (λ (x : ℕ) (xs : List ℕ). x ∷ xs) (omega arith) (moved (a + 1) i)

behind_permutes : (h i : ℕ) (ps : List ℕ) → IsPermutation (range_with_len 0 i) ps → IsPermutation (range_with_len 0 (h + i)) (behind h ps)
behind_permutes h i ps p = subst (λ (l : List ℕ). IsPermutation l (behind h ps)) (sym (range_behind 0 h i)) (IsPermutation-append_right (range_with_len 0 h) (map (λ k. h + k) (range_with_len 0 i)) (map (λ k. h + k) ps) (IsPermutation-map (λ k. h + k) (range_with_len 0 i) ps p))

-- so have the frames in turn
pub turned_rows : (s t : Columns) (ss : List Columns) (fs gs : List Frame) → AllAre s (t ∷ ss) → HaveSchemas gs (t ∷ ss) → LastLoose fs gs → Reordering (in_turn fs) (in_turn gs)
turned_rows s t ss (f ∷ []) (g ∷ []) e h k = k
turned_rows s t (u ∷ ss) (f ∷ f' ∷ fs) (g ∷ g' ∷ gs) e h k =
    let r = turned_rows s u ss (f' ∷ fs) (g' ∷ gs) e.1 h.1 k.1 in
    let has : HasSchema g s = subst (HasSchema g) e.0 h.0 in
    let rest : HasSchema (in_turn (g' ∷ gs)) s = in_turn_has s u ss (g' ∷ gs) e.1 h.1 in
    record {
      rows = behind g.height r.rows;
      permutes = behind_permutes g.height (in_turn (g' ∷ gs)).height r.rows r.permutes;
      is = ap₂ appended k.0 r.is ∙ appended_rows g (in_turn (g' ∷ gs)) s r.rows has rest;
    }
turned_rows s t [] (f ∷ f' ∷ fs) (g ∷ g' ∷ gs) e h k = absurd h.1
turned_rows s t ss [] gs e h k = absurd k
turned_rows s t ss (f ∷ []) [] e h k = absurd k
turned_rows s t ss (f ∷ []) (g ∷ g' ∷ gs) e h k = absurd k
turned_rows s t ss (f ∷ f' ∷ fs) [] e h k = absurd k
turned_rows s t ss (f ∷ f' ∷ fs) (g ∷ []) e h k = absurd k

all_are : (s : Columns) (fs : List Frame) → AllAre s (map (λ (f : Frame). s) fs)
all_are s [] = tt
all_are s (f ∷ fs) = (refl, all_are s fs)

have_alike : (s : Columns) (fs : List Frame) → AllHave s fs → HaveSchemas fs (map (λ (f : Frame). s) fs)
have_alike s [] h = tt
have_alike s (f ∷ fs) h = (h.0, have_alike s fs h.1)

-- so of frames with the same columns
pub last_reordered : (s : Columns) (fs gs : List Frame) → AllHave s gs → LastLoose fs gs → Reordering (in_turn fs) (in_turn gs)
last_reordered s fs (g ∷ gs) h k = turned_rows s s (map (λ (f : Frame). s) gs) fs (g ∷ gs) (refl, all_are s gs) (h.0, have_alike s gs h.1) k
last_reordered s [] [] h k = absurd k
last_reordered s (f ∷ []) [] h k = absurd k
last_reordered s (f ∷ f' ∷ fs) [] h k = absurd k
