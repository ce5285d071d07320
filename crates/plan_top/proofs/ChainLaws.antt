-- A chain of passes refines, keeps scans without pruning, and keeps sharing; two chains are one after the other.
use Rattle.std.proofs.Common.{◌≡◌, ℕ, Bool, true, false, List, [], ◌∷◌, ◌++◌, Option, sym, subst}
use Rattle.std.specs.List.{AllByRecursion}
use Rattle.plan_core.specs.declared.flags.OptFlags.{OptFlags}
use Rattle.plan_scan.specs.declared.file_scan.FileScan.{FileScan}
use Rattle.plan_scan.specs.declared.sources.ScanSources.{ScanSources}
use Rattle.plan_expr.specs.Leaves.{Name}
use Rattle.plan_ir.specs.Plans.{Plan}
use Rattle.plan_meaning.specs.Caches.{AreShared}
use Rattle.plan_meaning.specs.Relating.{Refines}
use Rattle.plan_meaning.specs.Scans.{Keeps}
use Rattle.plan_meaning.specs.Steps.{IsValid}
use Rattle.plan_meaning.proofs.Keeping.{keeps_refl, keeps_trans}
use Rattle.plan_meaning.proofs.Refining.{refines_refl, refines_trans}
use Rattle.plan_order_laws.proofs.CountRefines.{counted_refines}
use Rattle.plan_order_laws.proofs.OrderedRefines.{ordered_refines}
use Rattle.plan_order_laws.proofs.OrderScans.{ordered_keeps}
use Rattle.plan_order_laws.proofs.SharedOrder.{shared_ordered}
use Rattle.plan_order_laws.specs.Counted.{count_plan}
use Rattle.plan_reshape.proofs.Rounds.{rounds_share}
use Rattle.plan_top.specs.declared.trail.Pass.{Pass}
use Rattle.plan_top.specs.declared.trail.Pass.TheVariants as passes_of
use Rattle.plan_top.specs.Chains.{Boxes, Chain, Follows, Left, in_order, kinds_for}
use Rattle.plan_top.proofs.CountEnds.{count_stays}
use Rattle.plan_top.proofs.CountReads.{counted_shares}

-- passes that keep scans: all but pruning and the bare count
abbrev pub KeepsScans : Pass → Type 0
KeepsScans passes_of.Given = Unit {0}
KeepsScans passes_of.Order = Unit {0}
KeepsScans passes_of.Prune = ⊥
KeepsScans passes_of.Count = ⊥
KeepsScans passes_of.Cluster = Unit {0}
KeepsScans passes_of.Rules = Unit {0}

-- passes that come after the bare count
abbrev pub IsLate : Pass → Type 0
IsLate passes_of.Given = ⊥
IsLate passes_of.Order = ⊥
IsLate passes_of.Prune = ⊥
IsLate passes_of.Count = ⊥
IsLate passes_of.Cluster = Unit {0}
IsLate passes_of.Rules = Unit {0}

late_keeps : (k : Pass) → IsLate k → KeepsScans k
late_keeps passes_of.Given a = absurd a
late_keeps passes_of.Order a = absurd a
late_keeps passes_of.Prune a = absurd a
late_keeps passes_of.Count a = absurd a
late_keeps passes_of.Cluster a = tt
late_keeps passes_of.Rules a = tt

pub all_late_keep : (ks : List Pass) → AllByRecursion IsLate ks → AllByRecursion KeepsScans ks
all_late_keep [] a = tt
all_late_keep (k ∷ ks) a = (late_keeps k a.0, all_late_keep ks a.1)

module _ (flags : OptFlags) (boxes : Boxes) where
  pub follows_refines : (k : Pass) (p q : Plan) (n : ℕ) → IsValid p → Follows flags boxes k p q n → Refines q p
  follows_refines passes_of.Given p q n v h = subst (λ (x : Plan). Refines x p) (sym h.0) (refines_refl p v)
  follows_refines passes_of.Order p q n v h = subst (λ (x : Plan). Refines x p) (sym h.0) (ordered_refines p v)
  follows_refines passes_of.Prune p q n v h = h.0.refines
  follows_refines passes_of.Count p q n v h = subst (λ (x : Plan). Refines x p) (sym h.0) (counted_refines p v)
  follows_refines passes_of.Cluster p q n v h = h.0.refines
  follows_refines passes_of.Rules p q n v h = h.settles.refines

  pub chain_refines : (p : Plan) (ks : List Pass) (steps : List Left) (q : Plan) → IsValid p → Chain flags boxes p ks steps q → Refines q p
  chain_refines p [] [] q v h = subst (λ (x : Plan). Refines x p) h (refines_refl p v)
  chain_refines p [] (l ∷ steps) q v h = absurd h
  chain_refines p (k ∷ ks) [] q v h = absurd h
  chain_refines p (k ∷ ks) (l ∷ steps) q v h =
      let f = follows_refines k p l.plan l.replaced v h.1 in
      refines_trans q l.plan p (chain_refines l.plan ks steps q f.valid h.2) f

  follows_shared : (k : Pass) (p q : Plan) (n : ℕ) → boxes.own ≡ true → Follows flags boxes k p q n → AreShared p → AreShared q
  follows_shared passes_of.Given p q n own h s = subst AreShared (sym h.0) s
  follows_shared passes_of.Order p q n own h s = subst AreShared (sym h.0) (shared_ordered true p s)
  follows_shared passes_of.Prune p q n own h s = h.0.shared s
  follows_shared passes_of.Count p q n own h s = subst AreShared (sym h.0) (counted_shares p s)
  follows_shared passes_of.Cluster p q n own h s = h.0.shared s
  follows_shared passes_of.Rules p q n own h s = rounds_share (kinds_for flags ++ boxes.kinds) p q (h.rounds own) s

  pub chain_shared : (p : Plan) (ks : List Pass) (steps : List Left) (q : Plan) → boxes.own ≡ true → Chain flags boxes p ks steps q → AreShared p → AreShared q
  chain_shared p [] [] q own h s = subst AreShared h s
  chain_shared p [] (l ∷ steps) q own h s = absurd h
  chain_shared p (k ∷ ks) [] q own h s = absurd h
  chain_shared p (k ∷ ks) (l ∷ steps) q own h s = chain_shared l.plan ks steps q own h.2 (follows_shared k p l.plan l.replaced own h.1 s)

  -- a chain after another
  pub chain_then : (p : Plan) (ks : List Pass) (steps : List Left) (q : Plan) (ls : List Pass) (more_steps : List Left) (r : Plan) → Chain flags boxes p ks steps q → Chain flags boxes q ls more_steps r → Chain flags boxes p (ks ++ ls) (steps ++ more_steps) r
  chain_then p [] [] q ls more_steps r h c = subst (λ (x : Plan). Chain flags boxes x ls more_steps r) (sym h) c
  chain_then p [] (m ∷ steps) q ls more_steps r h c = absurd h
  chain_then p (k ∷ ks) [] q ls more_steps r h c = absurd h
  chain_then p (k ∷ ks) (m ∷ steps) q ls more_steps r h c = (h.0, h.1, chain_then m.plan ks steps q ls more_steps r h.2 c)

  -- a pass that keeps scans keeps those of a valid plan
  follows_keeps : (k : Pass) (p q : Plan) (n : ℕ) → KeepsScans k → IsValid p → Follows flags boxes k p q n → Keeps q p
  follows_keeps passes_of.Given p q n a v h = subst (λ (x : Plan). Keeps x p) (sym h.0) (keeps_refl p)
  follows_keeps passes_of.Order p q n a v h = subst (λ (x : Plan). Keeps x p) (sym h.0) (ordered_keeps true p v)
  follows_keeps passes_of.Prune p q n a v h = absurd a
  follows_keeps passes_of.Count p q n a v h = absurd a
  follows_keeps passes_of.Cluster p q n a v h = h.0.keeps
  follows_keeps passes_of.Rules p q n a v h = h.settles.keeps

  pub chain_keeps : (p : Plan) (ks : List Pass) (steps : List Left) (q : Plan) → AllByRecursion KeepsScans ks → IsValid p → Chain flags boxes p ks steps q → Keeps q p
  chain_keeps p [] [] q a v h = subst (λ (x : Plan). Keeps x p) h (keeps_refl p)
  chain_keeps p [] (l ∷ steps) q a v h = absurd h
  chain_keeps p (k ∷ ks) [] q a v h = absurd h
  chain_keeps p (k ∷ ks) (l ∷ steps) q a v h =
      let f = follows_refines k p l.plan l.replaced v h.1 in
      keeps_trans q l.plan p (chain_keeps l.plan ks steps q a.1 f.valid h.2) (follows_keeps k p l.plan l.replaced a.0 v h.1)

  -- a pass that comes after the bare count leaves one as it is
  follows_count : (k : Pass) (x : ScanSources × FileScan) (alias : Option Name) (q : Plan) (n : ℕ) → IsLate k → IsValid (count_plan x alias) → Follows flags boxes k (count_plan x alias) q n → q ≡ count_plan x alias
  follows_count passes_of.Given x alias q n a v h = absurd a
  follows_count passes_of.Order x alias q n a v h = absurd a
  follows_count passes_of.Prune x alias q n a v h = absurd a
  follows_count passes_of.Count x alias q n a v h = absurd a
  follows_count passes_of.Cluster x alias q n a v h = h.0.exact
  follows_count passes_of.Rules x alias q n a v h = count_stays (kinds_for flags ++ boxes.kinds) x alias q n v h.settles

  pub chain_count : (x : ScanSources × FileScan) (alias : Option Name) (ks : List Pass) (steps : List Left) (q : Plan) → AllByRecursion IsLate ks → IsValid (count_plan x alias) → Chain flags boxes (count_plan x alias) ks steps q → q ≡ count_plan x alias
  chain_count x alias [] [] q a v h = sym h
  chain_count x alias [] (l ∷ steps) q a v h = absurd h
  chain_count x alias (k ∷ ks) [] q a v h = absurd h
  chain_count x alias (k ∷ ks) (l ∷ steps) q a v h =
      let same = follows_count k x alias l.plan l.replaced a.0 v h.1 in
      chain_count x alias ks steps q a.1 v (subst (λ (r : Plan). Chain flags boxes r ks steps q) same h.2)

  -- without pruning the scans are kept
  pub kept_unpruned : (ordering clustering : Bool) (p q : Plan) (steps : List Left) → IsValid p → Chain flags boxes p (in_order ordering false false clustering) steps q → Keeps q p
  kept_unpruned ordering clustering p q steps v h = chain_keeps p (in_order ordering false false clustering) steps q (all_keep ordering clustering) v h
    where
      all_keep : (ordering clustering : Bool) → AllByRecursion KeepsScans (in_order ordering false false clustering)
      all_keep true true = (tt, (tt, (tt, (tt, tt))))
      all_keep true false = (tt, (tt, (tt, tt)))
      all_keep false true = (tt, (tt, (tt, tt)))
      all_keep false false = (tt, (tt, tt))
