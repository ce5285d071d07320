-- The columns of a part whose names are asked.
use Rattle.std.proofs.Common.{◌≡◌, ◌∙◌, ◌++◌, ℕ, suc, Bool, true, false, List, [], ◌∷◌, length, Some, refl, sym, ap, append_assoc, if◌then◌else◌}
use Rattle.std.specs.List.{AllByRecursion, filter as only_where, slice_get}
use Rattle.std.proofs.lemmas.Bool.{both_ways}
use Rattle.plan_core.specs.Columns.{names_of}
use Rattle.plan_core.specs.Names.{has}
use Rattle.plan_scan.specs.declared.stats.ColumnStats.{ColumnStats}
use Rattle.plan_scan.specs.Stats.{Stats, columns_of, stats_at, places_among}
use Rattle.plan_expr.specs.Leaves.{Name}
use Rattle.plan_file_scan.specs.Left.{left_part}
use Rattle.plan_file_scan.proofs.NameLemmas.{has_where, where_has}
use Rattle.plan_frame.proofs.FrameLemmas.{weaker}
use Rattle.plan_frame.proofs.NameSets.{has_first, has_later}

after : (pre : Stats) (s : ColumnStats) (ss : Stats) → slice_get (pre ++ s ∷ ss) (length pre) ≡ Some s
after [] s ss = refl
after (p ∷ pre) s ss = after pre s ss

longer : (pre : Stats) (s : ColumnStats) → length (pre ++ s ∷ []) ≡ suc (length pre)
longer [] s = refl
longer (p ∷ pre) s = ap suc (longer pre s)

-- the columns at the places of those of some names are those of these names, also behind others
left_behind : (names : List Name) (pre ss : Stats) → stats_at (pre ++ ss) (places_among names (length pre) (columns_of ss)) ≡ left_part names ss
left_behind names pre [] = refl
left_behind names pre (s ∷ ss) = at (has names s.field.name) (
    ap (λ (whole : Stats). stats_at whole (places_among names (suc (length pre)) (columns_of ss))) (sym (append_assoc pre (s ∷ []) ss))
    ∙ ap (λ (i : ℕ). stats_at ((pre ++ s ∷ []) ++ ss) (places_among names i (columns_of ss))) (sym (longer pre s))
    ∙ left_behind names (pre ++ s ∷ []) ss
    )
  where
    at : (t : Bool) → stats_at (pre ++ s ∷ ss) (places_among names (suc (length pre)) (columns_of ss)) ≡ left_part names ss → stats_at (pre ++ s ∷ ss) (if t then length pre ∷ places_among names (suc (length pre)) (columns_of ss) else places_among names (suc (length pre)) (columns_of ss)) ≡ (if t then s ∷ left_part names ss else left_part names ss)
    at true rest = rw (after pre s ss) (ap (λ (left : Stats). s ∷ left) rest)
    at false rest = rest

part_left : (names : List Name) (ss : Stats) → stats_at ss (places_among names 0 (columns_of ss)) ≡ left_part names ss
part_left names ss = left_behind names [] ss

-- a name of some is asked where it is one of those of them that are asked
same_own : (asked names : List Name) (b : Name) → has names b ≡ true → has (only_where (has asked) names) b ≡ has asked b
same_own asked names b i = at (has asked b) (has (only_where (has asked) names) b) refl refl
  where
    at : (p q : Bool) → has asked b ≡ p → has (only_where (has asked) names) b ≡ q → q ≡ p
    at true q e f = sym f ∙ has_where (has asked) names b e i
    at false true e f = absurd (both_ways (has asked b) e (where_has (has asked) names b f).1)
    at false false e f = refl

own_in : (ss : Stats) → AllByRecursion (λ (s : ColumnStats). has (names_of (columns_of ss)) s.field.name ≡ true) ss
own_in [] = tt
own_in (s ∷ ss) = (
  has_first s.field.name (names_of (columns_of ss)),
  weaker (λ (t : ColumnStats). has (names_of (columns_of ss)) t.field.name ≡ true) (λ (t : ColumnStats). has (s.field.name ∷ names_of (columns_of ss)) t.field.name ≡ true) ss (λ t h. has_later s.field.name (names_of (columns_of ss)) t.field.name h) (own_in ss),
)

-- names that are alike for each column of a part keep the same columns
alike_kept : (p q : Name → Bool) (ss : Stats) → AllByRecursion (λ (s : ColumnStats). p s.field.name ≡ q s.field.name) ss → only_where (λ (s : ColumnStats). p s.field.name) ss ≡ only_where (λ (s : ColumnStats). q s.field.name) ss
alike_kept p q [] h = refl
alike_kept p q (s ∷ ss) h = at (p s.field.name) (q s.field.name) h.0 (alike_kept p q ss h.1)
  where
    at : (t u : Bool) → t ≡ u → only_where (λ (x : ColumnStats). p x.field.name) ss ≡ only_where (λ (x : ColumnStats). q x.field.name) ss → (if t then s ∷ only_where (λ (x : ColumnStats). p x.field.name) ss else only_where (λ (x : ColumnStats). p x.field.name) ss) ≡ (if u then s ∷ only_where (λ (x : ColumnStats). q x.field.name) ss else only_where (λ (x : ColumnStats). q x.field.name) ss)
    at true true e r = ap (λ (left : Stats). s ∷ left) r
    at true false e r = cc
    at false true e r = cc
    at false false e r = r

-- the columns at the places of those that are asked by name
pub part_kept : (asked : List Name) (ss : Stats) → stats_at ss (places_among (only_where (has asked) (names_of (columns_of ss))) 0 (columns_of ss)) ≡ left_part asked ss
part_kept asked ss =
    let names = names_of (columns_of ss) in
    part_left (only_where (has asked) names) ss
    ∙ alike_kept (has (only_where (has asked) names)) (has asked) ss
    (weaker (λ (s : ColumnStats). has names s.field.name ≡ true) (λ (s : ColumnStats). has (only_where (has asked) names) s.field.name ≡ has asked s.field.name) ss (λ s h. same_own asked names s.field.name h) (own_in ss))
