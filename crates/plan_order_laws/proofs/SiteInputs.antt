-- The inputs of the sites of a valid plan: each is valid, and narrowed it has the names and reads that it should.
use Rattle.std.proofs.Common.{ℕ, ◌==◌, cond, Bool, true, false, List, [], ◌∷◌, ◌++◌, Option}
use Rattle.plan_tree.specs.Rose.{Roses, rose, no_roses, more}
use Rattle.plan_expr.specs.Leaves.{Name}
use Rattle.plan_ir.specs.Plans.{Op, cache, Plan}
use Rattle.plan_meaning.specs.Steps.{IsValid}
use Rattle.plan_meaning.specs.Typing.{AllHold, AllValid, checks, schemas}
use Rattle.plan_order_laws.specs.CacheSites.{AllNarrowed, CacheSite, IsNarrowed, cache_sites, conditions_below, names_below, own_site}
use Rattle.plan_order_laws.proofs.SiteReads.{renewed_names, renewed_reads}

abbrev Plans : Type 0
Plans = Roses (Unit {0}) Op

module _ (read : Option (List Name)) where
  narrowed : (p : Plan) → IsValid p → IsNarrowed read p
  narrowed p v = record { names = renewed_names read p v; reads = renewed_reads read p v }

  join : (xs ys : List CacheSite) → AllNarrowed read xs → AllNarrowed read ys → AllNarrowed read (xs ++ ys)
  join [] ys h k = k
  join (x ∷ xs) ys h k = (h.0, join xs ys h.1 k)

  own : (id : ℕ) (above : List Op) (op : Op) (ts : Plans) → AllHold (checks op (schemas ts)) → AllValid ts → AllNarrowed read (own_site id above op ts)
  own id [] op ts good v = tt
  own id (o ∷ above) (cache k hits) (more (rose n op us) no_roses) good v = at (k == id)
    where
      at : (b : Bool) → AllNarrowed read (cond {A = List CacheSite} b (record { names = names_below (o ∷ above); conditions = conditions_below (o ∷ above); input = rose n op us } ∷ []) [])
      at true = (narrowed (rose n op us) (v.0, v.1), tt)
      at false = tt
  own id (o ∷ above) (cache k hits) no_roses good v = cc
  own id (o ∷ above) (cache k hits) (more (rose n op us) (more (rose m q vs) rest)) good v = cc
  own id (o ∷ above) op ts good v = tt

  sites : (id : ℕ) (above : List Op) (ts : Plans) → AllValid ts → AllNarrowed read (cache_sites id above ts)
  sites id above no_roses v = tt
  sites id above (more (rose n op us) rest) v =
      join (own_site id above op us) (cache_sites id (op ∷ above) us ++ cache_sites id above rest) (own id above op us v.0 v.1)
      (join (cache_sites id (op ∷ above) us) (cache_sites id above rest) (sites id (op ∷ above) us v.1) (sites id above rest v.2))

  pub sites_narrowed : (id : ℕ) (p : Plan) → IsValid p → AllNarrowed read (cache_sites id [] (more p no_roses))
  sites_narrowed id (rose n op ts) v = sites id [] (more (rose n op ts) no_roses) (v.0, v.1, tt)
