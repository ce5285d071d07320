-- A plan whose caches of one number stand over alike plans has a run in which they carry one frame.
use Rattle.std.proofs.Common.{◌⊎◌, inl, inr, ap, sym, subst}
use Rattle.plan_tree.specs.Rose.{Roses, rose, no_roses, more}
use Rattle.plan_ir.specs.Plans.{Op, Plan, cache}
use Rattle.plan_meaning.specs.Caches.{AreShared, CacheOf, IsCacheOf, caches, caches_in, own_cache}
use Rattle.plan_meaning.specs.Contents.{Contents, Fits, FitsAll}
use Rattle.plan_meaning.specs.Relating.{Refines}
use Rattle.plan_meaning.specs.Steps.{IsValid}
use Rattle.plan_meaning.specs.Typing.{AllHold, AllValid, checks, schemas}
use Rattle.plan_meaning.proofs.CacheLists.{split_cache}
use Rattle.plan_meaning.specs.SharedRuns.{SharedRun}
use Rattle.plan_meaning.proofs.ChosenMay.{chosen-may}
use Rattle.plan_meaning.proofs.OneFrame.{choices-one}
use Rattle.plan_meaning.proofs.ValidChoose.{valid_plans_choose}

abbrev Plans : Type 0
Plans = Roses (Unit {0}) Op

-- what stands below a cache of a valid plan is valid, and contents that fit the plan fit it

abbrev GoodBelow : Contents → CacheOf → Type 0
GoodBelow c x = IsValid x.below × Fits c x.below

own_good : (c : Contents) (op : Op) (ts : Plans) (x : CacheOf) → AllHold (checks op (schemas ts)) → AllValid ts → FitsAll c ts → IsCacheOf x (own_cache op ts) → GoodBelow c x
own_good c (cache k hits) (more (rose n op us) no_roses) x good v f (inl e) = subst (λ (p : Plan). IsValid p × Fits c p) (sym (ap (λ (y : CacheOf). y.below) e)) ((v.0, v.1), (f.0, f.1))
own_good c (cache k hits) (more (rose n op us) no_roses) x good v f (inr h) = absurd h
own_good c (cache k hits) no_roses x good v f h = cc
own_good c (cache k hits) (more (rose n op us) (more (rose m o vs) rest)) x good v f h = cc
own_good c op ts x good v f h = absurd h

mutual
  good_below : (c : Contents) (p : Plan) (x : CacheOf) → IsValid p → Fits c p → IsCacheOf x (caches p) → GoodBelow c x
  good_below c (rose n op ts) x v f h = at (split_cache x (own_cache op ts) (caches_in ts) h) (λ k. good_below_in c ts x v.1 f.1 k)
    where
      at : IsCacheOf x (own_cache op ts) ⊎ IsCacheOf x (caches_in ts) → (IsCacheOf x (caches_in ts) → GoodBelow c x) → GoodBelow c x
      at (inl k) by = own_good c op ts x v.0 v.1 f.1 k
      at (inr k) by = by k

  good_below_in : (c : Contents) (ts : Plans) (x : CacheOf) → AllValid ts → FitsAll c ts → IsCacheOf x (caches_in ts) → GoodBelow c x
  good_below_in c no_roses x v f h = absurd h
  good_below_in c (more (rose n op us) rest) x v f h = at (split_cache x (caches (rose n op us)) (caches_in rest) h) (λ k. good_below c (rose n op us) x (v.0, v.1) (f.0, f.1) k) (λ k. good_below_in c rest x v.2 f.2 k)
    where
      at : IsCacheOf x (caches (rose n op us)) ⊎ IsCacheOf x (caches_in rest) → (IsCacheOf x (caches (rose n op us)) → GoodBelow c x) → (IsCacheOf x (caches_in rest) → GoodBelow c x) → GoodBelow c x
      at (inl k) g l = g k
      at (inr k) g l = l k

-- a plan that refines another has such a run, where its caches of one number stand over alike plans
pub shared_run : (c : Contents) (q p : Plan) → Refines q p → AreShared q → Fits c p → SharedRun c q p
shared_run c q p h s fit =
    let fits = h.fits c fit in
    let f = valid_plans_choose c q h.valid fits in
    record {
      frame = f.0;
      chosen = f.1;
      given = h.may c f.0 fit (chosen-may c q f.0 f.1);
      each = λ x i. let g = good_below c q x h.valid fits i in valid_plans_choose c x.below g.0 g.1;
      one = λ x y g k i j same a b. choices-one c x.below y.below g k (s x y i j same) a b;
    }
