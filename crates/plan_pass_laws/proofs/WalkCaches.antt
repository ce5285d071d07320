-- A walk of rules leaves caches of one number over alike plans where they stood so: each is one that was there, over what the walk leaves of what was below it.
use Rattle.std.proofs.Common.{◌≡◌, inl, inr, true, false, List, [], ◌∷◌, ◌++◌, None, refl, sym, ap, ap₂, ◌∙◌, subst}
use Rattle.plan_tree.specs.Rose.{Roses, rose, no_roses, more}
use Rattle.plan_ir.specs.Plans.{Op, scan, union, cache, invalid, Plan}
use Rattle.plan_meaning.specs.Caches.{AreShared, CacheOf, IsCacheOf, caches, caches_in, own_cache}
use Rattle.plan_meaning.specs.Marks.{unmarked, unmarked_all, unmarked_op}
use Rattle.plan_meaning.specs.PlanAt.{one_plan}
use Rattle.plan_pass_laws.specs.CachesLeft.{CacheLeft}
use Rattle.plan_pass_laws.proofs.CachesLeft.{either_left, left_among}
use Rattle.plan_pass_laws.specs.declared.kind.RuleKind.{RuleKind}
use Rattle.plan_pass_laws.specs.declared.kind.RuleKind.TheVariants as kinds
use Rattle.plan_pass_laws.specs.Answers.{answer_of}
use Rattle.plan_pass_laws.proofs.AnswerLaws.{answer_caches}
use Rattle.plan_pass_laws.proofs.AnswerViews.{answered}
use Rattle.plan_pass_laws.specs.Walks.{AllWalk, Until, UntilAll, Walks, more_walks, no_walk, once_more, still, walks}
use Rattle.plan_pass_laws.proofs.WalksOne.{walks_one}

abbrev Plans : Type 0
Plans = Roses (Unit {0}) Op

until_caches : (k : RuleKind) (p q : Plan) → Until k p q → (c : CacheOf) → IsCacheOf c (caches q) → IsCacheOf c (caches p)
until_caches k p _ (still e) c h = h
until_caches k p q (once_more {r = r} e u) c h = answer_caches p r (answered k p r e) c (until_caches k r q u c h)

all_until_caches : (ks : List RuleKind) (p q : Plan) → UntilAll ks p q → (c : CacheOf) → IsCacheOf c (caches q) → IsCacheOf c (caches p)
all_until_caches [] p q u c h = subst (λ (x : Plan). IsCacheOf c (caches x)) (sym u) h
all_until_caches (k ∷ ks) p q u c h = until_caches k p u.0 u.1 c (all_until_caches ks u.0 q u.2 c h)

-- nothing is answered where there is no node
no_answer : (k : RuleKind) → answer_of k (rose tt invalid no_roses) ≡ None
no_answer (kinds.Collapse true) = refl
no_answer (kinds.Collapse false) = refl
no_answer kinds.Flatten = refl
no_answer kinds.Rechunk = refl
no_answer kinds.TrueFilter = refl
no_answer kinds.Other = refl

idle : (ks : List RuleKind) → UntilAll ks (rose tt invalid no_roses) (rose tt invalid no_roses)
idle [] = refl
idle (k ∷ ks) = (rose tt invalid no_roses, still (no_answer k), idle ks)

first_walks : (ks : List RuleKind) (ts us : Plans) → AllWalk ks ts us → Walks ks (one_plan ts) (one_plan us)
first_walks ks _ _ no_walk = walks (idle ks) no_walk
first_walks ks _ _ (more_walks w others) = w

own_from : (ks : List RuleKind) (op : Op) (ts us : Plans) (c : CacheOf) → AllWalk ks ts us → IsCacheOf c (own_cache op us) → CacheLeft (λ id. Walks ks) c (own_cache op ts)
own_from ks (cache id hits) ts us c w (inl e) = record { given = record { id = id; below = one_plan ts }; there = inl refl; id = ap (λ (x : CacheOf). x.id) e; below = subst (Walks ks (one_plan ts)) (sym (ap (λ (x : CacheOf). x.below) e)) (first_walks ks ts us w) }
own_from ks (cache id hits) ts us c w (inr h) = absurd h
own_from ks op ts us c w h = absurd h

mutual
  pub walks_from : (ks : List RuleKind) (p q : Plan) → Walks ks p q → (c : CacheOf) → IsCacheOf c (caches q) → CacheLeft (λ id. Walks ks) c (caches p)
  walks_from ks p _ (walks {op = o} {ts = ts} {us = us} u below) c h =
      left_among (λ id. Walks ks) c (own_cache o ts ++ caches_in ts) (caches p) (λ d i. all_until_caches ks p (rose tt o ts) u d i)
      (either_left (λ id. Walks ks) c (own_cache o us) (caches_in us) (own_cache o ts) (caches_in ts) (λ k. own_from ks o ts us c below k) (λ k. all_walks_from ks ts us below c k) h)

  all_walks_from : (ks : List RuleKind) (ts us : Plans) → AllWalk ks ts us → (c : CacheOf) → IsCacheOf c (caches_in us) → CacheLeft (λ id. Walks ks) c (caches_in ts)
  all_walks_from ks _ _ no_walk c h = absurd h
  all_walks_from ks _ _ (more_walks {p = p} {q = q} {ps = ps} {qs = qs} w others) c h =
      either_left (λ id. Walks ks) c (caches q) (caches_in qs) (caches p) (caches_in ps) (λ k. walks_from ks p q w c k) (λ k. all_walks_from ks ps qs others c k) h

-- Sharing

-- caches of one number stand over one plan
abbrev AreOne : Plan → Type 0
AreOne p = (c d : CacheOf) → IsCacheOf c (caches p) → IsCacheOf d (caches p) → c.id ≡ d.id → c.below ≡ d.below

walk_one : (ks : List RuleKind) (p q : Plan) → Walks ks p q → AreOne p → AreOne q
walk_one ks p q w h c d i j same =
    let f = walks_from ks p q w c i in
    let g = walks_from ks p q w d j in
    let e = h f.given g.given f.there g.there (sym f.id ∙ same ∙ g.id) in
    walks_one ks g.given.below c.below d.below (subst (λ (x : Plan). Walks ks x c.below) e f.below) g.below

abbrev bared : CacheOf → CacheOf
bared c = record { id = c.id; below = unmarked c.below }

abbrev all_bared : List CacheOf → List CacheOf
all_bared [] = []
all_bared (c ∷ cs) = bared c ∷ all_bared cs

bared_append : (xs ys : List CacheOf) → all_bared (xs ++ ys) ≡ all_bared xs ++ all_bared ys
bared_append [] ys = refl
bared_append (c ∷ xs) ys = ap (λ (l : List CacheOf). bared c ∷ l) (bared_append xs ys)

one_bared : (ts : Plans) → one_plan (unmarked_all ts) ≡ unmarked (one_plan ts)
one_bared no_roses = refl
one_bared (more (rose n op us) rest) = refl

own_bared : (op : Op) (ts : Plans) → own_cache (unmarked_op op) (unmarked_all ts) ≡ all_bared (own_cache op ts)
own_bared (cache id hits) ts = ap (λ (p : Plan). record { id = id; below = p } ∷ []) (one_bared ts)
own_bared (scan sources info hive predicate output kind options) ts = refl
own_bared (union options) ts = refl
own_bared op ts = refl

caches_bared : (ts : Plans) → caches_in (unmarked_all ts) ≡ all_bared (caches_in ts)
caches_bared no_roses = refl
caches_bared (more (rose n op ts) rest) =
    ap₂ (λ (x y : List CacheOf). x ++ y) (ap₂ (λ (x y : List CacheOf). x ++ y) (own_bared op ts) (caches_bared ts) ∙ sym (bared_append (own_cache op ts) (caches_in ts))) (caches_bared rest)
    ∙ sym (bared_append (own_cache op ts ++ caches_in ts) (caches_in rest))

plan_bared : (p : Plan) → caches (unmarked p) ≡ all_bared (caches p)
plan_bared (rose n op ts) = ap₂ (λ (x y : List CacheOf). x ++ y) (own_bared op ts) (caches_bared ts) ∙ sym (bared_append (own_cache op ts) (caches_in ts))

into_bared : (c : CacheOf) (cs : List CacheOf) → IsCacheOf c cs → IsCacheOf (bared c) (all_bared cs)
into_bared c [] h = absurd h
into_bared c (d ∷ cs) (inl e) = inl (ap bared e)
into_bared c (d ∷ cs) (inr h) = inr (into_bared c cs h)

from_bared : (c : CacheOf) (cs : List CacheOf) → IsCacheOf c (all_bared cs) → (d : CacheOf) × IsCacheOf d cs × (c ≡ bared d)
from_bared c [] h = absurd h
from_bared c (d ∷ cs) (inl e) = (d, inl refl, e)
from_bared c (d ∷ cs) (inr h) = let r = from_bared c cs h in (r.0, inr r.1, r.2)

to_one : (p : Plan) → AreShared p → AreOne (unmarked p)
to_one p h c d i j same =
    let x = from_bared c (caches p) (subst (IsCacheOf c) (plan_bared p) i) in
    let y = from_bared d (caches p) (subst (IsCacheOf d) (plan_bared p) j) in
    ap (λ (z : CacheOf). z.below) x.2 ∙ h x.0 y.0 x.1 y.1 (sym (ap (λ (z : CacheOf). z.id) x.2) ∙ same ∙ ap (λ (z : CacheOf). z.id) y.2) ∙ sym (ap (λ (z : CacheOf). z.below) y.2)

from_one : (p : Plan) → AreOne (unmarked p) → AreShared p
from_one p h c d i j same = h (bared c) (bared d) (subst (IsCacheOf (bared c)) (sym (plan_bared p)) (into_bared c (caches p) i)) (subst (IsCacheOf (bared d)) (sym (plan_bared p)) (into_bared d (caches p) j)) same

-- a walk of rules of these kinds leaves caches of one number over alike plans where they stood so
pub walk_shared : (ks : List RuleKind) (p q : Plan) → Walks ks (unmarked p) (unmarked q) → AreShared p → AreShared q
walk_shared ks p q w h = from_one q (walk_one ks (unmarked p) (unmarked q) w (to_one p h))
