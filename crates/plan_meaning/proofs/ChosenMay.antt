-- The frame that a plan gives is one that it may give.
use Rattle.std.proofs.Common.{◌≡◌, ℕ, Bool, true, List, [], ◌∷◌, refl}
use Rattle.std.specs.List.{AllByRecursion, range_with_len}
use Rattle.std.specs.declared.cmp.Ordering.{Ordering}
use Rattle.std.proofs.lemmas.List.Sorted.{IsPermutation-refl}
use Rattle.plan_tree.specs.Rose.{Roses, rose, no_roses, more}
use Rattle.plan_options.specs.declared.distinct.UniqueKeepStrategy.{UniqueKeepStrategy}
use Rattle.plan_options.specs.declared.distinct.UniqueKeepStrategy.TheVariants as keeps
use Rattle.plan_frame.specs.Frames.{Frame, in_turn}
use Rattle.plan_frame.specs.Orders.{AreKept, AreSorted, may_be_kept}
use Rattle.plan_frame.proofs.OrderLemmas.{sorted_ties}
use Rattle.plan_ir.specs.Plans.{Op, Plan, sort, group_by, join, distinct, union}
use Rattle.plan_join.proofs.OwnJoins.{own_joins}
use Rattle.plan_meaning.specs.Contents.{Contents}
use Rattle.plan_meaning.specs.Steps.{May, MayAll, Step}
use Rattle.plan_meaning.specs.Choices.{AreRanked, ChooseAll, Chooses, Chosen, by_place, settled}
use Rattle.plan_meaning.proofs.FarApart.{near-sorted}

ranked-sorted : (stable : Bool) (cmp : ℕ → ℕ → Ordering) (h : ℕ) (rows : List ℕ) → AreRanked cmp h rows → AreSorted stable cmp h rows
ranked-sorted stable cmp h rows r =
    let sorted = near-sorted (by_place cmp) rows r.ranked in
    record { permutes = r.permutes; sorted = sorted_ties cmp rows sorted; ties = λ e. sorted }

any-kept : (same : ℕ → ℕ → Bool) (h : ℕ) (rows : List ℕ) → AllByRecursion (λ i. may_be_kept keeps.Any same h i ≡ true) rows
any-kept same h [] = tt
any-kept same h (i ∷ rows) = (refl, any-kept same h rows)

settled-kept : (stable : Bool) (keep : UniqueKeepStrategy) (same : ℕ → ℕ → Bool) (h : ℕ) (rows : List ℕ) → AreKept stable (settled keep) same h rows → AreKept stable keep same h rows
settled-kept stable keeps.First same h rows k = k
settled-kept stable keeps.Last same h rows k = k
settled-kept stable keeps.None same h rows k = k
settled-kept stable keeps.Any same h rows k = record { below = k.below; apart = k.apart; may = any-kept same h rows; must = k.must; in_order = k.in_order }

chosen-step : (c : Contents) (op : Op) (fs : List Frame) (f : Frame) → Chosen c op fs f → Step c op fs f
chosen-step c (sort keys part options) [] f h = h
chosen-step c (sort keys part options) (g ∷ []) f h = (h.0, ranked-sorted options.maintain_order _ g.height h.0 h.1, h.2)
chosen-step c (sort keys part options) (g ∷ k ∷ fs) f h = h
chosen-step c (group_by keys aggs schema ordered options) [] f h = h
chosen-step c (group_by keys aggs schema ordered options) (g ∷ []) f h =
    (h.0, record { below = h.1.below; apart = h.1.apart; may = h.1.may; must = h.1.must; in_order = λ e. h.1.in_order refl }, h.2)
chosen-step c (group_by keys aggs schema ordered options) (g ∷ k ∷ fs) f h = h
chosen-step c (join left_on right_on schema told) [] f h = h
chosen-step c (join left_on right_on schema told) (g ∷ []) f h = h
chosen-step c (join left_on right_on schema told) (g ∷ k ∷ []) f h = own_joins told left_on right_on g k f h
chosen-step c (join left_on right_on schema told) (g ∷ k ∷ l ∷ fs) f h = h
chosen-step c (distinct options) [] f h = h
chosen-step c (distinct options) (g ∷ []) f h = (h.0, settled-kept options.maintain_order options.keep_strategy _ g.height h.0 h.1.kept, h.2)
chosen-step c (distinct options) (g ∷ k ∷ fs) f h = h
chosen-step c (union options) fs f h =
    let all = range_with_len 0 (in_turn fs).height in
    (all, record { permutes = IsPermutation-refl all; in_order = λ e. refl }, h)
chosen-step c op fs f h = h

pub all-may : (c : Contents) (ts : Roses (Unit {0}) Op) (fs : List Frame) → ChooseAll c ts fs → MayAll c ts fs
all-may c no_roses [] h = tt
all-may c no_roses (f ∷ fs) h = h
all-may c (more (rose n op ts) rest) [] h = h
all-may c (more (rose n op ts) rest) (f ∷ fs) h = ((h.0.0, all-may c ts h.0.0 h.0.1, chosen-step c op h.0.0 f h.0.2), all-may c rest fs h.1)

pub chosen-may : (c : Contents) (p : Plan) (f : Frame) → Chooses c p f → May c p f
chosen-may c (rose n op ts) f h = (h.0, all-may c ts h.0 h.1, chosen-step c op h.0 f h.2)
