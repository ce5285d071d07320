-- Below a cache everything is asked as cached: all that is there is read and made.
use Rattle.std.proofs.Common.{◌≡◌, ◌≤◌, List, [], ◌∷◌, ◌++◌, length, map, refl, sym, ap, subst, arith, append_assoc}
use Rattle.plan_core.specs.Columns.{Columns}
use Rattle.plan_tree.specs.Rose.{Roses, rose, no_roses, more}
use Rattle.plan_ir.specs.Plans.{Op, slice, filter, scan, frame_scan, simple_projection, select, hstack, sort, group_by, join, distinct, map_function, sink, union, hconcat, cache, invalid}
use Rattle.plan_meaning.specs.Typing.{schemas, checks, AllHold, AllValid}
use Rattle.plan_meaning.specs.Relating.{Asked, cached}
use Rattle.plan_meaning.specs.Scans.{own_scan, scans_in}
use Rattle.plan_meaning.specs.Asked.{asks, asks_alike, asks_held, own_site, sites, Site}
use Rattle.plan_meaning.specs.Counting.{stand_ins}
use Rattle.plan_meaning.specs.Work.{reckoned_exprs, own_made, made_in, own_kept, kept_in}
use Rattle.plan_meaning.proofs.KeptExprs.{kept-all, selected-all}
use Rattle.plan_pruned.specs.Reads.{ReadWithin}

held_cached : (ss : List Columns) → map (asks_held cached) ss ≡ asks_alike cached ss
held_cached [] = refl
held_cached (s ∷ ss) = ap (λ (x : List Asked). cached ∷ x) (held_cached ss)

-- a valid node below a cache asks each of its inputs the same
pub asks-cached : (op : Op) (ts : Roses (Unit {0}) Op) → AllHold (checks op (schemas ts)) → asks op cached (schemas ts) (stand_ins ts (schemas ts)) ≡ asks_alike cached (schemas ts)
asks-cached (slice offset len) (more (rose n o us) no_roses) good = refl
asks-cached (filter p) (more (rose n o us) no_roses) good = refl
asks-cached (simple_projection cs) (more (rose n o us) no_roses) good = refl
asks-cached (select es stored options) (more (rose n o us) no_roses) good = refl
asks-cached (hstack es stored options) (more (rose n o us) no_roses) good = refl
asks-cached (sort keys part options) (more (rose n o us) no_roses) good = refl
asks-cached (group_by keys aggs schema ordered options) (more (rose n o us) no_roses) good = refl
asks-cached (join left_on right_on schema told) (more (rose n o us) (more (rose m q vs) no_roses)) good = refl
asks-cached (join left_on right_on schema told) (more (rose n o us) no_roses) good = cc
asks-cached (join left_on right_on schema told) (more (rose n o us) (more (rose m q vs) (more (rose k r ws) rest))) good = cc
asks-cached (distinct options) (more (rose n o us) no_roses) good = refl
asks-cached (map_function function) (more (rose n o us) no_roses) good = refl
asks-cached (sink payload) (more (rose n o us) no_roses) good = refl
asks-cached (cache id hits) (more (rose n o us) no_roses) good = refl
asks-cached (scan sources info hive predicate output kind options) no_roses good = refl
asks-cached (frame_scan df schema output) no_roses good = refl
asks-cached (union options) ts good = refl
asks-cached (hconcat schema options) ts good = held_cached (schemas ts)
asks-cached (scan sources info hive predicate output kind options) (more (rose n o us) rest) good = cc
asks-cached (frame_scan df schema output) (more (rose n o us) rest) good = cc
asks-cached invalid ts good = cc
asks-cached op no_roses good = absurd (cc)
asks-cached op (more (rose n o us) (more (rose m q vs) rest)) good = absurd (cc)

-- the reads

pub reads_append : (os us : List Op) (ss zs : List Site) → ReadWithin os ss → ReadWithin us zs → ReadWithin (os ++ us) (ss ++ zs)
reads_append [] us [] zs h k = k
reads_append (o ∷ os) us (s ∷ ss) zs h k = (h.0, h.1, reads_append os us ss zs h.2 k)
reads_append [] us (s ∷ ss) zs h k = absurd h
reads_append (o ∷ os) us [] zs h k = absurd h

own_reads : (op : Op) → ReadWithin (own_scan op) (own_site op cached)
own_reads (scan sources info hive predicate output kind options) = ((refl, refl), (λ a i. i), tt)
own_reads (frame_scan df schema output) = (refl, (λ a i. i), tt)
own_reads (slice offset len) = tt
own_reads (filter p) = tt
own_reads (simple_projection cs) = tt
own_reads (select es stored options) = tt
own_reads (hstack es stored options) = tt
own_reads (sort keys part options) = tt
own_reads (group_by keys aggs schema ordered options) = tt
own_reads (join left_on right_on schema told) = tt
own_reads (distinct options) = tt
own_reads (map_function function) = tt
own_reads (sink payload) = tt
own_reads (union options) = tt
own_reads (hconcat schema options) = tt
own_reads (cache id hits) = tt
own_reads invalid = tt

-- plans as they are read what they may below a cache
pub cached_reads : (ts : Roses (Unit {0}) Op) → AllValid ts → ReadWithin (scans_in ts) (sites ts (asks_alike cached (schemas ts)))
cached_reads no_roses v = tt
cached_reads (more (rose n op us) rest) v =
    let below = sites us (asks op cached (schemas us) (stand_ins us (schemas us))) in
    let others = sites rest (asks_alike cached (schemas rest)) in
    let under : ReadWithin (scans_in us) below = subst (λ (x : List Asked). ReadWithin (scans_in us) (sites us x)) (sym (asks-cached op us v.0)) (cached_reads us v.1) in
    subst (λ (x : List Site). ReadWithin ((own_scan op ++ scans_in us) ++ scans_in rest) x) (append_assoc (own_site op cached) below others)
    (reads_append (own_scan op ++ scans_in us) (scans_in rest) (own_site op cached ++ below) others (reads_append (own_scan op) (scans_in us) (own_site op cached) below (own_reads op) under) (cached_reads rest v.2))

-- what is made

own_makes : (op : Op) → own_made op ≤ own_kept op cached
own_makes (select es stored options) = let e = ap reckoned_exprs (selected-all es) in omega (arith, e)
own_makes (hstack es stored options) = let e = ap length (kept-all es) in omega (arith, e)
own_makes (scan sources info hive predicate output kind options) = omega arith
own_makes (frame_scan df schema output) = omega arith
own_makes (slice offset len) = omega arith
own_makes (filter p) = omega arith
own_makes (simple_projection cs) = omega arith
own_makes (sort keys part options) = omega arith
own_makes (group_by keys aggs schema ordered options) = let e = ap length (kept-all aggs) in omega (arith, e)
own_makes (join left_on right_on schema told) = omega arith
own_makes (distinct options) = omega arith
own_makes (map_function function) = omega arith
own_makes (sink payload) = omega arith
own_makes (union options) = omega arith
own_makes (hconcat schema options) = omega arith
own_makes (cache id hits) = omega arith
own_makes invalid = omega arith

-- plans as they are make what is kept below a cache
pub cached_made : (ts : Roses (Unit {0}) Op) → AllValid ts → made_in ts ≤ kept_in ts (asks_alike cached (schemas ts))
cached_made no_roses v = omega arith
cached_made (more (rose n op us) rest) v =
    let own = own_makes op in
    let under : made_in us ≤ kept_in us (asks op cached (schemas us) (stand_ins us (schemas us))) = subst (λ (x : List Asked). made_in us ≤ kept_in us x) (sym (asks-cached op us v.0)) (cached_made us v.1) in
    let others = cached_made rest v.2 in
    omega arith
