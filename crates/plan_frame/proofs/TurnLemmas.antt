-- Frames one after another have their columns in turn.
use Rattle.std.proofs.Common.{◌≡◌, ℕ, ◌+◌, List, [], ◌∷◌, ap₂, ◌∙◌, subst, length-append}
use Rattle.std.specs.List.{AllByRecursion}
use Rattle.plan_core.specs.Columns.{Columns}
use Rattle.plan_frame.specs.Frames.{Frame, Column, HaveTypes, HasSchema, appended_columns, appended, in_turn}
use Rattle.plan_frame.proofs.FrameLemmas.{all_append}

-- frames have these columns, one for one
abbrev pub HaveSchemas : List Frame → List Columns → Type 0
HaveSchemas [] [] = Unit {0}
HaveSchemas (f ∷ fs) (s ∷ ss) = HasSchema f s × HaveSchemas fs ss
HaveSchemas _ _ = ⊥

-- all of some columns are these
abbrev pub AllAre : Columns → List Columns → Type 0
AllAre s ss = AllByRecursion (λ (t : Columns). t ≡ s) ss

-- frames with the same columns have them in turn

appended_have : (h i : ℕ) (cs ds : List Column) (s : Columns) → HaveTypes h cs s → HaveTypes i ds s → HaveTypes (h + i) (appended_columns cs ds) s
appended_have h i [] [] [] p q = tt
appended_have h i (c ∷ cs) (d ∷ ds) (x ∷ s) p q =
    (p.0, length-append c.values d.values ∙ ap₂ (λ (m n : ℕ). m + n) p.1 q.1, all_append x.1 c.values d.values p.2 q.2, appended_have h i cs ds s p.3 q.3)
appended_have h i [] (d ∷ ds) [] p q = absurd q
appended_have h i [] ds (x ∷ s) p q = absurd p
appended_have h i (c ∷ cs) ds [] p q = absurd p
appended_have h i (c ∷ cs) [] (x ∷ s) p q = absurd q

pub appended_has : (f g : Frame) (s : Columns) → HasSchema f s → HasSchema g s → HasSchema (appended f g) s
appended_has f g s p q = appended_have f.height g.height f.columns g.columns s p q

pub in_turn_has : (s t : Columns) (ss : List Columns) (fs : List Frame) → AllAre s (t ∷ ss) → HaveSchemas fs (t ∷ ss) → HasSchema (in_turn fs) s
in_turn_has s t ss [] e h = absurd h
in_turn_has s t [] (f ∷ []) e h = subst (HasSchema f) e.0 h.0
in_turn_has s t (u ∷ ss) (f ∷ g ∷ fs) e h = appended_has f (in_turn (g ∷ fs)) s (subst (HasSchema f) e.0 h.0) (in_turn_has s u ss (g ∷ fs) e.1 h.1)
in_turn_has s t [] (f ∷ g ∷ fs) e h = absurd h.1
in_turn_has s t (u ∷ ss) (f ∷ []) e h = absurd h.1
