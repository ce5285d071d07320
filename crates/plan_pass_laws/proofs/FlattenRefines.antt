-- A union that takes up the inputs of unions refines the union.
use Rattle.std.proofs.Common.{◌≡◌, ℕ, ◌+◌, true, false, List, [], ◌∷◌, ◌++◌, append_assoc, refl, sym, ap, ap₂, ◌∙◌, subst, arith}
use Rattle.std.specs.List.{range_with_len}
use Rattle.std.proofs.lemmas.List.Sorted.{IsPermutation-refl}
use Rattle.plan_core.specs.Columns.{Columns}
use Rattle.plan_options.specs.declared.union.UnionOptions.{UnionOptions}
use Rattle.plan_tree.specs.Rose.{Roses, rose, no_roses, more, join as beside}
use Rattle.plan_ir.specs.Plans.{Op, union, Plan}
use Rattle.plan_frame.specs.Frames.{Column, Frame, HasSchema, appended, appended_columns, in_turn, rows_at}
use Rattle.plan_frame.specs.Values.{Value}
use Rattle.plan_frame.specs.Orders.{AreAll}
use Rattle.plan_frame.proofs.TurnLemmas.{AllAre}
use Rattle.plan_meaning.specs.Checks.{is_empty, is_none}
use Rattle.plan_meaning.specs.Contents.{Contents, Fits, FitsAll}
use Rattle.plan_meaning.specs.Relating.{Refines}
use Rattle.plan_meaning.specs.Steps.{IsValid, MayAll}
use Rattle.plan_meaning.specs.Typing.{AllHold, AllValid, checks, first_schema, schema_by, schemas}
use Rattle.plan_meaning.proofs.Runs.{may_have_all, valid_runs}
use Rattle.plan_meaning.proofs.UnionLemmas.{never_built, union_good, union_has, union_inputs, union_whole}
use Rattle.plan_pass_laws.specs.AnswerCases.{TakenUp}
use Rattle.plan_pass_laws.specs.Answers.{all_taken_up, taken_up}
use Rattle.plan_pass_laws.proofs.FilterRefines.{all_picked, range_long}

abbrev Plans : Type 0
Plans = Roses (Unit {0}) Op

-- Frames in turn

appended_again : (cs ds es : List Column) → appended_columns cs (appended_columns ds es) ≡ appended_columns (appended_columns cs ds) es
appended_again [] ds es = refl
appended_again (c ∷ cs) [] es = refl
appended_again (c ∷ cs) (d ∷ ds) [] = refl
appended_again (c ∷ cs) (d ∷ ds) (e ∷ es) = ap₂ (λ (vs : List Value) (xs : List Column). record { name = c.name; values = vs } ∷ xs) (sym (append_assoc c.values d.values e.values)) (appended_again cs ds es)

appended_turn : (f g h : Frame) → appended f (appended g h) ≡ appended (appended f g) h
appended_turn f g h = ap₂ (λ (n : ℕ) (cs : List Column). record { height = n; columns = cs }) (sums f.height g.height h.height) (appended_again f.columns g.columns h.columns)
  where
    sums : (a b c : ℕ) → a + (b + c) ≡ a + b + c
    sums a b c = omega arith

turn_join : (f : Frame) (fs : List Frame) (g : Frame) (gs : List Frame) → in_turn ((f ∷ fs) ++ (g ∷ gs)) ≡ appended (in_turn (f ∷ fs)) (in_turn (g ∷ gs))
turn_join f [] g gs = refl
turn_join f (f' ∷ fs) g gs = ap (appended f) (turn_join f' fs g gs) ∙ appended_turn f (in_turn (f' ∷ fs)) (in_turn (g ∷ gs))

no_more : (fs : List Frame) → fs ≡ fs ++ []
no_more [] = refl
no_more (f ∷ fs) = ap (λ (l : List Frame). f ∷ l) (no_more fs)

turn_step : (g : Frame) (gs xs ys : List Frame) → g ≡ in_turn xs → is_empty xs ≡ false → is_empty gs ≡ is_empty ys → in_turn gs ≡ in_turn ys → in_turn (g ∷ gs) ≡ in_turn (xs ++ ys)
turn_step g gs [] ys e some both same = cc
turn_step g [] (x ∷ xs) [] e some both same = e ∙ ap in_turn (no_more (x ∷ xs))
turn_step g [] (x ∷ xs) (y ∷ ys) e some both same = cc
turn_step g (g' ∷ gs) (x ∷ xs) [] e some both same = cc
turn_step g (g' ∷ gs) (x ∷ xs) (y ∷ ys) e some both same = ap₂ appended e same ∙ sym (turn_join x xs y ys)

-- Plans side by side

pub schemas_beside : (us rest : Plans) → schemas (beside us rest) ≡ schemas us ++ schemas rest
schemas_beside no_roses rest = refl
schemas_beside (more (rose n op ts) us) rest = ap (λ (ss : List Columns). schema_by op (schemas ts) ∷ ss) (schemas_beside us rest)

valid_beside : (us rest : Plans) → AllValid us → AllValid rest → AllValid (beside us rest)
valid_beside no_roses rest h k = k
valid_beside (more (rose n op ts) us) rest h k = (h.0, h.1, valid_beside us rest h.2 k)

fits_beside : (c : Contents) (us rest : Plans) → FitsAll c us → FitsAll c rest → FitsAll c (beside us rest)
fits_beside c no_roses rest h k = k
fits_beside c (more (rose n op ts) us) rest h k = (h.0, h.1, fits_beside c us rest h.2 k)

record Parted (c : Contents) (us rest : Plans) (fs : List Frame) : Type 0 where
  front : List Frame
  back : List Frame
  are : fs ≡ front ++ back
  may : MayAll c us front
  others : MayAll c rest back

parted : (c : Contents) (us rest : Plans) (fs : List Frame) → MayAll c (beside us rest) fs → Parted c us rest fs
parted c no_roses rest fs m = record { front = []; back = fs; are = refl; may = tt; others = m }
parted c (more (rose n op ts) us) rest [] m = absurd m
parted c (more (rose n op ts) us) rest (f ∷ fs) m =
    let p = parted c us rest fs m.1 in
    record { front = f ∷ p.front; back = p.back; are = ap (λ (l : List Frame). f ∷ l) p.are; may = (m.0, p.may); others = p.others }

-- Unions taken up

take_valid : (p : Plan) (rest : Plans) → IsValid p → AllValid rest → AllValid (taken_up p rest)
take_valid (rose n (union o) us) rest v w = valid_beside us rest v.1 w
take_valid (rose n op us) rest v w = (v.0, v.1, w)

all_valid : (ts : Plans) → AllValid ts → AllValid (all_taken_up ts)
all_valid no_roses v = tt
all_valid (more (rose n op us) rest) v = take_valid (rose n op us) (all_taken_up rest) (v.0, v.1) (all_valid rest v.2)

take_fits : (c : Contents) (p : Plan) (rest : Plans) → Fits c p → FitsAll c rest → FitsAll c (taken_up p rest)
take_fits c (rose n (union o) us) rest v w = fits_beside c us rest v.1 w
take_fits c (rose n op us) rest v w = (v.0, v.1, w)

all_fit : (c : Contents) (ts : Plans) → FitsAll c ts → FitsAll c (all_taken_up ts)
all_fit c no_roses v = tt
all_fit c (more (rose n op us) rest) v = take_fits c (rose n op us) (all_taken_up rest) (v.0, v.1) (all_fit c rest v.2)

are_append : (s : Columns) (xs ys : List Columns) → AllAre s xs → AllAre s ys → AllAre s (xs ++ ys)
are_append s [] ys h k = k
are_append s (x ∷ xs) ys h k = (h.0, are_append s xs ys h.1 k)

take_same : (s : Columns) (op : Op) (us rest : Plans) → IsValid (rose tt op us) → schema_by op (schemas us) ≡ s → AllAre s (schemas rest) → AllAre s (schemas (taken_up (rose tt op us) rest))
take_same s (union o) us rest v e h = subst (AllAre s) (sym (schemas_beside us rest)) (are_append s (schemas us) (schemas rest) (subst (λ (x : Columns). AllAre x (schemas us)) e (union_inputs o (schemas us) v.0)) h)
take_same s op us rest v e h = (e, h)

all_same : (s : Columns) (ts : Plans) → AllValid ts → AllAre s (schemas ts) → AllAre s (schemas (all_taken_up ts))
all_same s no_roses v h = tt
all_same s (more (rose n op us) rest) v h = take_same s op us (all_taken_up rest) (v.0, v.1) h.0 (all_same s rest v.2 h.1)

take_some : (op : Op) (us rest : Plans) → IsValid (rose tt op us) → is_empty (schemas (taken_up (rose tt op us) rest)) ≡ false
take_some (union o) no_roses rest v = absurd (never_built o [] refl v.0.0)
take_some (union o) (more (rose n op us) others) rest v = refl
take_some op us rest v = refl

-- A run of the plans with unions taken up gives one of the plans, with the same rows in turn

range_all : (g : Frame) (s : Columns) → HasSchema g s → g ≡ rows_at (range_with_len 0 g.height) g
range_all g s has = sym (ap₂ (λ (n : ℕ) (cs : List Column). record { height = n; columns = cs }) (range_long 0 g.height) (all_picked g.height g.columns s has))

some_frames : (c : Contents) (us : Plans) (fs : List Frame) → MayAll c us fs → is_empty (schemas us) ≡ false → is_empty fs ≡ false
some_frames c no_roses fs m e = cc
some_frames c (more (rose n op ts) us) [] m e = absurd m
some_frames c (more (rose n op ts) us) (f ∷ fs) m e = refl

some_inputs : (o : UnionOptions) (us : Plans) → IsValid (rose tt (union o) us) → is_empty (schemas us) ≡ false
some_inputs o no_roses v = absurd (never_built o [] refl v.0.0)
some_inputs o (more (rose n op ts) us) v = refl

some_join : (xs ys : List Frame) → is_empty xs ≡ false → false ≡ is_empty (xs ++ ys)
some_join [] ys e = cc
some_join (x ∷ xs) ys e = refl

add : (c : Contents) (p : Plan) (rest : Plans) → IsValid p → Fits c p → ((fs : List Frame) → MayAll c (all_taken_up rest) fs → TakenUp c rest fs) → (fs : List Frame) → MayAll c (taken_up p (all_taken_up rest)) fs → TakenUp c (more p rest) fs
add c (rose n (union o) us) rest v k by fs m =
    let p = parted c us (all_taken_up rest) fs m in
    let t = by p.back p.others in
    let g = in_turn p.front in
    let has = union_has o (schemas us) p.front v.0 (may_have_all c us p.front v.1 k.1 p.may) in
    let some = some_frames c us p.front p.may (some_inputs o us v) in
    record {
      frames = g ∷ t.frames;
      may = ((p.front, p.may, (range_with_len 0 g.height, record { permutes = IsPermutation-refl (range_with_len 0 g.height); in_order = λ e. refl }, range_all g (first_schema (schemas us)) has)), t.may);
      both = some_join p.front p.back some ∙ ap is_empty (sym p.are);
      same = turn_step g t.frames p.front p.back refl some t.both t.same ∙ ap in_turn (sym p.are);
    }
add c (rose n op us) rest v k by [] m = absurd m
add c (rose n op us) rest v k by (f ∷ fs) m =
    let t = by fs m.1 in
    record { frames = f ∷ t.frames; may = (m.0, t.may); both = refl; same = turn_step f t.frames (f ∷ []) fs refl refl t.both t.same }

pub turned : (c : Contents) (ts : Plans) → AllValid ts → FitsAll c ts → (fs : List Frame) → MayAll c (all_taken_up ts) fs → TakenUp c ts fs
turned c no_roses v k [] m = record { frames = []; may = tt; both = refl; same = refl }
turned c no_roses v k (f ∷ fs) m = absurd m
turned c (more (rose n op us) rest) v k fs m = add c (rose n op us) rest (v.0, v.1) (k.0, k.1) (λ gs x. turned c rest v.2 k.2 gs x) fs m

-- Refinement

first_of_same : (s : Columns) (l : List Columns) → is_empty l ≡ false → AllAre s l → first_schema l ≡ s
first_of_same s [] e h = cc
first_of_same s (x ∷ l) e h = h.0

good_of_same : (o : UnionOptions) (s : Columns) (l : List Columns) → is_none o.slice ≡ true → is_empty l ≡ false → AllAre s l → AllHold (checks (union o) l)
good_of_same o s [] whole e h = cc
good_of_same o s (x ∷ l) whole e h = union_good o x l whole (subst (λ (y : Columns). AllAre y (x ∷ l)) (sym h.0) h)

pub flattened_refines : (o : UnionOptions) (ts : Plans) → IsValid (rose tt (union o) ts) → Refines (rose tt (union (record o { flattened_by_opt = true })) (all_taken_up ts)) (rose tt (union o) ts)
flattened_refines o no_roses v = absurd (never_built o [] refl v.0.0)
flattened_refines o (more (rose n op us) rest) v =
    let ts = more (rose n op us) rest in
    let o' = record o { flattened_by_opt = true } in
    let s = schema_by op (schemas us) in
    let same = all_same s ts v.1 (union_inputs o (schemas ts) v.0) in
    let some = take_some op us (all_taken_up rest) (v.1.0, v.1.1) in
    let vq : IsValid (rose tt (union o') (all_taken_up ts)) = (good_of_same o' s (schemas (all_taken_up ts)) (union_whole o (schemas ts) v.0) some same, all_valid ts v.1) in
    record {
      valid = vq;
      schema = first_of_same s (schemas (all_taken_up ts)) some same;
      fits = λ c k. (tt, all_fit c ts k.1);
      run = λ c k. valid_runs c (rose tt (union o') (all_taken_up ts)) vq (tt, all_fit c ts k.1);
      may = λ c f k m.
          let t = turned c ts v.1 k.1 m.0 m.1 in
          (t.frames, t.may, subst (λ (g : Frame). (rows : List ℕ) × AreAll o.maintain_order g.height rows × (f ≡ rows_at rows g)) (sym t.same) m.2);
    }
