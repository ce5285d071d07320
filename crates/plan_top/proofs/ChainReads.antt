-- What a chain of passes with pruning reads: a bare count reads nothing, and the scans of any other plan what is asked of them.
use Rattle.std.proofs.Common.{◌≡◌, Bool, true, false, cond, not, ◌&&◌, ◌||◌, List, [], ◌∷◌, ◌++◌, refl, sym, ap, ◌∙◌, subst}
use Rattle.std.specs.List.{AllByRecursion}
use Rattle.plan_core.specs.declared.flags.OptFlags.{OptFlags}
use Rattle.plan_core.specs.Flags.{bits_of, has_bits}
use Rattle.plan_tree.specs.Rose.{Roses, rose, no_roses, more}
use Rattle.plan_core.specs.Columns.{Columns}
use Rattle.plan_core.specs.declared.options.ProjectionOptions.{ProjectionOptions}
use Rattle.plan_expr.specs.Exprs.{Named}
use Rattle.plan_frame.specs.ExprLists.{counts_rows}
use Rattle.plan_ir.specs.Plans.{Op, Plan, slice, filter, scan, frame_scan, select, hstack, simple_projection, sort, group_by, join, distinct, map_function, sink, union, hconcat, cache, invalid}
use Rattle.plan_meaning.specs.Asked.{Site, sites_of}
use Rattle.plan_meaning.specs.Counting.{meets_count}
use Rattle.plan_meaning.specs.Scans.{KeepScans, scans}
use Rattle.plan_meaning.specs.Steps.{IsValid}
use Rattle.plan_meaning.proofs.Keeping.{same_trans}
use Rattle.plan_pruned.specs.Pruned.{pruned}
use Rattle.plan_pruned.specs.Reads.{ReadWithin}
use Rattle.plan_order_laws.specs.Counted.{count_plan, countable, counted}
use Rattle.plan_order_laws.specs.Demands.{basis, drops_order, ordered, unsorted}
use Rattle.plan_order_laws.proofs.CountRefines.{counted_refines}
use Rattle.plan_order_laws.proofs.OrderScans.{counts_ordered}
use Rattle.plan_order_laws.proofs.OrderSites.{basis_given, sites_basis}
use Rattle.plan_order.specs.Members.{has_op, is_distinct, is_group_by, is_sort}
use Rattle.plan_top.specs.declared.trail.Pass.{Pass}
use Rattle.plan_top.specs.declared.trail.Pass.TheVariants as passes_of
use Rattle.plan_top.specs.Chains.{Boxes, Chain, IsPruned, Left, ReadsAsked, has_order, in_order, is_clustering, is_counting, is_ordering, is_pruning, only_if, passes}
use Rattle.plan_top.proofs.ChainLaws.{IsLate, all_late_keep, chain_count, chain_keeps}
use Rattle.plan_top.proofs.CountReads.{counted_is}
use Rattle.plan_top.proofs.UnsortedPlans.{no_sort_stays}

abbrev Plans : Type 0
Plans = Roses (Unit {0}) Op

reads_kept : (rs os : List Op) (ss : List Site) → KeepScans rs os → ReadWithin os ss → ReadWithin rs ss
reads_kept [] [] [] h k = tt
reads_kept (r ∷ rs) (o ∷ os) (s ∷ ss) h k = (same_trans r o s.at_scan h.0 k.0, (λ a i. k.1 a (h.1 a i)), reads_kept rs os ss h.2 k.2)
reads_kept [] [] (s ∷ ss) h k = absurd k
reads_kept [] (o ∷ os) ss h k = absurd h
reads_kept (r ∷ rs) [] ss h k = absurd h
reads_kept (r ∷ rs) (o ∷ os) [] h k = absurd k

-- ---- a pruned plan that can be counted was asked so

-- a selection that is counted counts rows
selects_count : (n : Unit {0}) (es : List Named) (schema : Columns) (options : ProjectionOptions) (ts : Plans) → countable (rose n (select es schema options) ts) ≡ true → counts_rows es ≡ true
selects_count n es schema options no_roses e = cc
selects_count n es schema options (more p (more q rest)) e = cc
selects_count n es schema options (more p no_roses) e = at (counts_rows es) refl e
  where
    at : (b : Bool) → counts_rows es ≡ b → countable (rose n (select es schema options) (more p no_roses)) ≡ true → counts_rows es ≡ true
    at true h e = h
    at false h e = let u = rw h at e in cc

or_true : (b c : Bool) → b ≡ true → b || c ≡ true
or_true true c h = refl
or_true false c h = cc

pub count_met : (p : Plan) → countable (pruned true [] p) ≡ true → meets_count p ≡ true
count_met (rose n (select es schema options) ts) e = or_true (counts_rows es) _ (selects_count tt es schema options _ e)
count_met (rose n (slice offset count) ts) e = cc
count_met (rose n (filter predicate) ts) e = cc
count_met (rose n (scan sources info hive predicate output kind options) ts) e = cc
count_met (rose n (frame_scan df schema output) ts) e = cc
count_met (rose n (hstack exprs schema options) ts) e = cc
count_met (rose n (simple_projection columns) ts) e = cc
count_met (rose n (sort keys part options) ts) e = cc
count_met (rose n (group_by keys aggs schema ordered options) ts) e = cc
count_met (rose n (join left_on right_on schema told) ts) e = cc
count_met (rose n (distinct options) ts) e = cc
count_met (rose n (map_function function) ts) e = cc
count_met (rose n (sink payload) ts) e = cc
count_met (rose n (union options) ts) e = cc
count_met (rose n (hconcat schema options) ts) e = cc
count_met (rose n (cache id hits) ts) e = cc
count_met (rose n invalid ts) e = cc

-- ---- after pruning

-- what is left of a pruned plan whose scans read within sites
record Ends (r q : Plan) (ss : List Site) : Type 0 where
  count : countable r ≡ true → q ≡ counted r
  within : countable r ≡ false → ReadWithin (scans q) ss

module _ (flags : OptFlags) (boxes : Boxes) where
  end_counted : (r q : Plan) (ks : List Pass) (steps : List Left) (ss : List Site) → AllByRecursion IsLate ks → IsValid r → ReadWithin (scans r) ss → Chain flags boxes r (passes_of.Count ∷ ks) steps q → Ends r q ss
  end_counted r q ks [] ss late v reads h = absurd h
  end_counted r q ks (b ∷ steps) ss late v reads h = record { count = count; within = within }
    where
      rest : Chain flags boxes (counted r) ks steps q
      rest = subst (λ (x : Plan). Chain flags boxes x ks steps q) h.1.0 h.2

      count : countable r ≡ true → q ≡ counted r
      count e =
          let k = (counted_is r).1 e in
          let valid : IsValid (count_plan k.0 k.1) = subst IsValid k.2 (counted_refines r v).valid in
          chain_count flags boxes k.0 k.1 ks steps q late valid (subst (λ (x : Plan). Chain flags boxes x ks steps q) k.2 rest) ∙ sym k.2

      within : countable r ≡ false → ReadWithin (scans q) ss
      within e =
          let same : counted r ≡ r = (counted_is r).0 e in
          reads_kept (scans q) (scans r) ss (chain_keeps flags boxes r ks steps q (all_late_keep ks late) v (subst (λ (x : Plan). Chain flags boxes x ks steps q) same rest)) reads

  end_uncounted : (r q : Plan) (ks : List Pass) (steps : List Left) (ss : List Site) → AllByRecursion IsLate ks → (countable r ≡ true → ⊥) → IsValid r → ReadWithin (scans r) ss → Chain flags boxes r ks steps q → Ends r q ss
  end_uncounted r q ks steps ss late never v reads h = record {
    count = λ e. absurd (never e);
    within = λ e. reads_kept (scans q) (scans r) ss (chain_keeps flags boxes r ks steps q (all_late_keep ks late) v h) reads;
  }

  -- from the plan that is pruned
  pruned_ends : (counting : Bool) (ks : List Pass) (m q : Plan) (steps : List Left) → AllByRecursion IsLate ks → (counting ≡ false → meets_count m ≡ false) → Chain flags boxes m (passes_of.Prune ∷ (only_if counting passes_of.Count ++ ks)) steps q → (r : Plan) × IsPruned m r × Ends r q (sites_of m)
  pruned_ends counting ks m q [] late none h = absurd h
  pruned_ends true ks m q (l ∷ steps) late none h = (l.plan, h.1.0, end_counted l.plan q ks steps (sites_of m) late h.1.0.refines.valid h.1.0.reads h.2)
  pruned_ends false ks m q (l ∷ steps) late none h =
      (l.plan, h.1.0, end_uncounted l.plan q ks steps (sites_of m) late (λ e. no_count (none refl) (count_met m (subst (λ (x : Plan). countable x ≡ true) h.1.0.exact e))) h.1.0.refines.valid h.1.0.reads h.2)
    where
      no_count : meets_count m ≡ false → meets_count m ≡ true → ⊥
      no_count f t = let u : true ≡ false = sym t ∙ f in cc

  -- the same of the first steps
  first_ends : (ordering counting : Bool) (ks : List Pass) (p q : Plan) (steps : List Left) → AllByRecursion IsLate ks → (counting ≡ false → meets_count (cond ordering (ordered true p) p) ≡ false) → Chain flags boxes p (passes_of.Given ∷ (only_if ordering passes_of.Order ++ (passes_of.Prune ∷ (only_if counting passes_of.Count ++ ks)))) steps q → (r : Plan) × IsPruned (cond ordering (ordered true p) p) r × Ends r q (sites_of (cond ordering (ordered true p) p))
  first_ends ordering counting ks p q [] late none h = absurd h
  first_ends false counting ks p q (a ∷ steps) late none h = pruned_ends counting ks p q steps late none (subst (λ (x : Plan). Chain flags boxes x (passes_of.Prune ∷ (only_if counting passes_of.Count ++ ks)) steps q) h.1.0 h.2)
  first_ends true counting ks p q (a ∷ []) late none h = absurd h.2
  first_ends true counting ks p q (a ∷ b ∷ steps) late none h =
      let first : a.plan ≡ p = h.1.0 in
      let moved : b.plan ≡ ordered true p = subst (λ (x : Plan). b.plan ≡ ordered true x) first h.2.1.0 in
      pruned_ends counting ks (ordered true p) q steps late none (subst (λ (x : Plan). Chain flags boxes x (passes_of.Prune ∷ (only_if counting passes_of.Count ++ ks)) steps q) moved h.2.2)

-- ---- what is asked of the plan that is pruned is what is asked of the given one, sorts aside that nothing observes

ordering_drops : (a e s h : Bool) → a && ((not e && s) && h) ≡ true → a && not e ≡ true
ordering_drops true true s h k = cc
ordering_drops true false s h k = refl
ordering_drops false e s h k = cc

nothing_ordered : (a e s p h : Bool) → a && ((not e && (s || p)) && h) ≡ false → p ≡ true → a && not e ≡ true → h ≡ false
nothing_ordered true true s p h k on d = cc
nothing_ordered false e s p h k on d = cc
nothing_ordered true false s false h k on d = cc
nothing_ordered true false true true h k on d = k
nothing_ordered true false false true h k on d = k

second_of : (a b c : Bool) → a || (b || c) ≡ false → b ≡ false
second_of true b c k = cc
second_of false true c k = cc
second_of false false c k = refl

given_sites : (flags : OptFlags) (p : Plan) → is_pruning flags ≡ true → is_ordering flags p ≡ false → sites_of p ≡ sites_of (basis flags p)
given_sites flags p on off = at (drops_order flags) refl
  where
    at : (b : Bool) → drops_order flags ≡ b → sites_of p ≡ sites_of (basis flags p)
    at false d = ap sites_of (sym (basis_given flags p d))
    at true d =
        let none : has_order p ≡ false = nothing_ordered (has_bits (bits_of flags) 65536) (has_bits (bits_of flags) 4096) (has_bits (bits_of flags) 512) (is_pruning flags) (has_order p) off on d in
        let sorts : has_op is_sort (more p no_roses) ≡ false = second_of (has_op is_group_by (more p no_roses)) (has_op is_sort (more p no_roses)) (has_op is_distinct (more p no_roses)) none in
        ap (λ (x : Plan). sites_of x) (sym (no_sort_stays true p sorts)) ∙ ap (λ (b : Bool). sites_of (cond b (unsorted true p) p)) (sym d)

basis_sites : (flags : OptFlags) (p : Plan) (ordering : Bool) → is_pruning flags ≡ true → is_ordering flags p ≡ ordering → sites_of (cond ordering (ordered true p) p) ≡ sites_of (basis flags p)
basis_sites flags p true on o = sites_basis flags p (ordering_drops (has_bits (bits_of flags) 65536) (has_bits (bits_of flags) 4096) (has_bits (bits_of flags) 512 || is_pruning flags) (has_order p) o)
basis_sites flags p false on o = given_sites flags p on o

same_counts : (p : Plan) (ordering : Bool) → IsValid p → meets_count (cond ordering (ordered true p) p) ≡ meets_count p
same_counts p true v = counts_ordered true p v
same_counts p false v = refl

and_false : (a b : Bool) → a ≡ true → a && b ≡ false → b ≡ false
and_false true b on k = k
and_false false b on k = cc

-- the passes after the bare count
abbrev late : (clustering : Bool) → List Pass
late clustering = only_if clustering passes_of.Cluster ++ passes_of.Rules ∷ []

all_late : (clustering : Bool) → AllByRecursion IsLate (late clustering)
all_late true = (tt, (tt, tt))
all_late false = (tt, tt)

-- with pruning a chain reads what is asked
pub chain_reads : (flags : OptFlags) (boxes : Boxes) (p q : Plan) (steps : List Left) → IsValid p → is_pruning flags ≡ true → Chain flags boxes p (passes flags p) steps q → ReadsAsked flags p q
chain_reads flags boxes p q steps v on h =
    let o = is_ordering flags p in
    let shaped : Chain flags boxes p (in_order o true (is_counting flags p) (is_clustering flags)) steps q = subst (λ (b : Bool). Chain flags boxes p (in_order o b (is_counting flags p) (is_clustering flags)) steps q) on h in
    let none : is_counting flags p ≡ false → meets_count (cond o (ordered true p) p) ≡ false = λ k. same_counts p o v ∙ and_false (is_pruning flags) (meets_count p) on k in
    let e = first_ends flags boxes o (is_counting flags p) (late (is_clustering flags)) p q steps (all_late (is_clustering flags)) none shaped in
    record {
      pruned = e.0;
      by = e.1;
      count = e.2.count;
      within = λ k. subst (ReadWithin (scans q)) (basis_sites flags p o on refl) (e.2.within k);
    }
