-- The laws of keeping scans.
use Rattle.std.proofs.Common.{◌≡◌, List, [], ◌∷◌, ◌++◌, map, refl, sym, ap₂, ◌∙◌, append_assoc}
use Rattle.std.proofs.lemmas.List.{map-append}
use Rattle.plan_tree.specs.Rose.{Roses, rose, no_roses, more}
use Rattle.plan_ir.specs.Plans.{Op, slice, filter, scan, frame_scan, simple_projection, select, hstack, sort, group_by, join, distinct, map_function, sink, union, hconcat, cache, invalid, Plan}
use Rattle.plan_meaning.specs.Typing.{schemas}
use Rattle.plan_meaning.specs.Relating.{Asked}
use Rattle.plan_meaning.specs.Counting.{stand_ins}
use Rattle.plan_meaning.specs.Asked.{asks, first_asked, rest_asked, Site, own_site, sites}
use Rattle.plan_meaning.specs.Scans.{own_scan, scans, scans_in, SameScan, KeepScans, Keeps}

-- each of these is a scan
abbrev AllScans : List Op → Type 0
AllScans [] = Unit {0}
AllScans (o ∷ os) = SameScan o o × AllScans os

all_join : (os ss : List Op) → AllScans os → AllScans ss → AllScans (os ++ ss)
all_join [] ss h k = k
all_join (o ∷ os) ss h k = (h.0, all_join os ss h.1 k)

own_scans : (op : Op) → AllScans (own_scan op)
own_scans (scan sources info hive predicate output kind options) = ((refl, refl), tt)
own_scans (frame_scan df schema output) = (refl, tt)
own_scans (slice offset len) = tt
own_scans (filter predicate) = tt
own_scans (simple_projection columns) = tt
own_scans (select es stored options) = tt
own_scans (hstack es stored options) = tt
own_scans (sort keys part options) = tt
own_scans (group_by keys aggs schema ordered options) = tt
own_scans (join left_on right_on schema told) = tt
own_scans (distinct options) = tt
own_scans (map_function function) = tt
own_scans (sink payload) = tt
own_scans (union options) = tt
own_scans (hconcat schema options) = tt
own_scans (cache id hits) = tt
own_scans invalid = tt

mutual
  are_scans : (p : Plan) → AllScans (scans p)
  are_scans (rose n op ts) = all_join (own_scan op) (scans_in ts) (own_scans op) (are_scans_in ts)

  are_scans_in : (ts : Roses (Unit {0}) Op) → AllScans (scans_in ts)
  are_scans_in no_roses = tt
  are_scans_in (more p rest) = all_join (scans p) (scans_in rest) (are_scans p) (are_scans_in rest)

keep_refl : (os : List Op) → AllScans os → KeepScans os os
keep_refl [] h = tt
keep_refl (o ∷ os) h = (h.0, (λ a i. i), keep_refl os h.1)

-- a plan keeps its own scans
pub keeps_refl : (p : Plan) → Keeps p p
keeps_refl p = keep_refl (scans p) (are_scans p)

pub same_trans : (o s r : Op) → SameScan o s → SameScan s r → SameScan o r
same_trans (scan a b c d e f g) (scan a' b' c' d' e' f' g') (scan a'' b'' c'' d'' e'' f'' g'') h k = (h.0 ∙ k.0, h.1 ∙ k.1)
same_trans (frame_scan a b c) (frame_scan a' b' c') (frame_scan a'' b'' c'') h k = h ∙ k
same_trans o s r h k = absurd (first_of (search k, search h))

pub keep_trans : (os ss rs : List Op) → KeepScans os ss → KeepScans ss rs → KeepScans os rs
keep_trans [] [] [] h k = tt
keep_trans (o ∷ os) (s ∷ ss) (r ∷ rs) h k = (same_trans o s r h.0 k.0, (λ a i. k.1 a (h.1 a i)), keep_trans os ss rs h.2 k.2)
keep_trans os ss rs h k = absurd (first_of (search k, search h))

-- what keeps the scans of a plan that keeps those of another keeps those of the other
pub keeps_trans : (r q p : Plan) → Keeps r q → Keeps q p → Keeps r p
keeps_trans r q p h k = keep_trans (scans r) (scans q) (scans p) h k

-- the sites of plans stand at their scans

own-site : (op : Op) (a : Asked) → map (λ (s : Site). s.at_scan) (own_site op a) ≡ own_scan op
own-site (scan sources info hive predicate output kind options) a = refl
own-site (frame_scan df schema output) a = refl
own-site (slice offset len) a = refl
own-site (filter predicate) a = refl
own-site (simple_projection columns) a = refl
own-site (select es stored options) a = refl
own-site (hstack es stored options) a = refl
own-site (sort keys part options) a = refl
own-site (group_by keys aggs schema ordered options) a = refl
own-site (join left_on right_on schema told) a = refl
own-site (distinct options) a = refl
own-site (map_function function) a = refl
own-site (sink payload) a = refl
own-site (union options) a = refl
own-site (hconcat schema options) a = refl
own-site (cache id hits) a = refl
own-site invalid a = refl

pub sites-scans : (ts : Roses (Unit {0}) Op) (asked : List Asked) → map (λ (s : Site). s.at_scan) (sites ts asked) ≡ scans_in ts
sites-scans no_roses asked = refl
sites-scans (more (rose n op ts) rest) asked =
    let own = own_site op (first_asked asked) in
    let below = sites ts (asks op (first_asked asked) (schemas ts) (stand_ins ts (schemas ts))) in
    let others = sites rest (rest_asked asked) in
    map-append (λ (s : Site). s.at_scan) own (below ++ others)
    ∙ ap₂ (λ (x y : List Op). x ++ y) (own-site op (first_asked asked)) (map-append (λ (s : Site). s.at_scan) below others ∙ ap₂ (λ (x y : List Op). x ++ y) (sites-scans ts (asks op (first_asked asked) (schemas ts) (stand_ins ts (schemas ts)))) (sites-scans rest (rest_asked asked)))
    ∙ sym (append_assoc (own_scan op) (scans_in ts) (scans_in rest))
