-- What is asked of scans, and whether rows are counted, hangs on no order mark.
use Rattle.std.proofs.Common.{◌≡◌, Bool, true, false, cond, List, [], ◌∷◌, ◌++◌, Option, refl, sym, ap, ap₂, ◌∙◌}
use Rattle.plan_core.specs.Columns.{Columns}
use Rattle.plan_tree.specs.Rose.{Roses, rose, no_roses, more}
use Rattle.plan_expr.specs.Leaves.{Name}
use Rattle.plan_core.specs.declared.flags.OptFlags.{OptFlags}
use Rattle.plan_ir.specs.Plans.{Op, distinct, sort, union, Plan}
use Rattle.plan_meaning.specs.Asked.{Site, asks, first_asked, own_site, rest_asked, sites, sites_of}
use Rattle.plan_meaning.specs.Counting.{is_closed, is_count, stand_in, stand_ins}
use Rattle.plan_meaning.specs.PlanAt.{one_plan}
use Rattle.plan_meaning.specs.Relating.{Asked, all}
use Rattle.plan_meaning.specs.Typing.{first_schema, rest_schemas, schema_by, schemas}
use Rattle.plan_order_laws.specs.Demands.{basis, demands, drops_order, ordered, ordered_in, unsorted, unsorted_in, with_order, without_idle}

abbrev Plans : Type 0
Plans = Roses (Unit {0}) Op

-- nodes and plans without their order marks
abbrev free_op : Op → Op
free_op (distinct options) = distinct (record options { maintain_order = false })
free_op (union options) = union (record options { maintain_order = false })
free_op op = op

abbrev mutual
  free : Plan → Plan
  free (rose n op ts) = rose tt (free_op op) (free_all ts)

  free_all : Plans → Plans
  free_all no_roses = no_roses
  free_all (more p rest) = more (free p) (free_all rest)

schema_free : (op : Op) (ss : List Columns) → schema_by (free_op op) ss ≡ schema_by op ss
schema_free (distinct options) ss = refl
schema_free (union options) ss = refl
schema_free op ss = refl

stand_free : (op : Op) (s : Columns) → stand_in (free_op op) s ≡ stand_in op s
stand_free (distinct options) s = refl
stand_free (union options) s = refl
stand_free op s = refl

asks_free : (op : Op) (a : Asked) (ss : List Columns) (os : List (Option Name)) → asks (free_op op) a ss os ≡ asks op a ss os
asks_free (distinct options) a ss os = refl
asks_free (union options) a ss os = refl
asks_free op a ss os = refl

site_free : (op : Op) (a : Asked) → own_site (free_op op) a ≡ own_site op a
site_free (distinct options) a = refl
site_free (union options) a = refl
site_free op a = refl

count_free : (op : Op) → is_count (free_op op) ≡ is_count op
count_free (distinct options) = refl
count_free (union options) = refl
count_free op = refl

closed_free : (op : Op) → is_closed (free_op op) ≡ is_closed op
closed_free (distinct options) = refl
closed_free (union options) = refl
closed_free op = refl

schemas_free : (ts : Plans) → schemas (free_all ts) ≡ schemas ts
schemas_free no_roses = refl
schemas_free (more (rose n op us) rest) = ap₂ (λ (c : Columns) (cs : List Columns). c ∷ cs) (ap (schema_by (free_op op)) (schemas_free us) ∙ schema_free op (schemas us)) (schemas_free rest)

stands_free : (ts : Plans) (ss : List Columns) → stand_ins (free_all ts) ss ≡ stand_ins ts ss
stands_free no_roses ss = refl
stands_free (more (rose n op us) rest) ss = ap₂ (λ (o : Option Name) (os : List (Option Name)). o ∷ os) (stand_free op (first_schema ss)) (stands_free rest (rest_schemas ss))

sites_free : (ts : Plans) (asked : List Asked) → sites (free_all ts) asked ≡ sites ts asked
sites_free no_roses asked = refl
sites_free (more (rose n op us) rest) asked =
    let a = first_asked asked in
    let below : asks (free_op op) a (schemas (free_all us)) (stand_ins (free_all us) (schemas (free_all us))) ≡ asks op a (schemas us) (stand_ins us (schemas us)) =
    asks_free op a (schemas (free_all us)) (stand_ins (free_all us) (schemas (free_all us)))
    ∙ ap₂ (asks op a) (schemas_free us) (stands_free us (schemas (free_all us)) ∙ ap (stand_ins us) (schemas_free us)) in
    ap₂ (λ (x y : List Site). x ++ y) (site_free op a)
    (ap₂ (λ (x y : List Site). x ++ y) (ap (sites (free_all us)) below ∙ sites_free us (asks op a (schemas us) (stand_ins us (schemas us)))) (sites_free rest (rest_asked asked)))

with_free : (d : Bool) (op : Op) (ts us : Plans) → free_all ts ≡ free_all us → free (with_order d op ts) ≡ free (without_idle d op us)
with_free true (sort keys part options) ts us e = ap (λ (x : Plans). rose tt (sort keys part options) x) e
with_free false (sort keys part options) ts us e = one_free ts us e
  where
    first : Plans → Plan
    first no_roses = one_plan no_roses
    first (more p rest) = p

    is_first : (xs : Plans) → free (one_plan xs) ≡ one_plan (free_all xs)
    is_first no_roses = refl
    is_first (more p rest) = refl

    one_free : (ts us : Plans) → free_all ts ≡ free_all us → free (one_plan ts) ≡ free (one_plan us)
    one_free ts us e = is_first ts ∙ ap one_plan e ∙ sym (is_first us)
with_free d (distinct options) ts us e = ap (λ (x : Plans). rose tt (distinct (record options { maintain_order = false })) x) e
with_free d (union options) ts us e = ap (λ (x : Plans). rose tt (union (record options { maintain_order = false })) x) e
with_free d op ts us e = ap (λ (x : Plans). rose tt (free_op op) x) e

mutual
  marks_free : (d : Bool) (p : Plan) → free (ordered d p) ≡ free (unsorted d p)
  marks_free d (rose n op ts) = with_free d op (ordered_in (demands d op) ts) (unsorted_in (demands d op) ts) (all_free (demands d op) ts)

  all_free : (d : Bool) (ts : Plans) → free_all (ordered_in d ts) ≡ free_all (unsorted_in d ts)
  all_free d no_roses = refl
  all_free d (more p no_roses) = ap (λ (x : Plan). more x no_roses) (marks_free d p)
  all_free d (more p (more q rest)) = ap₂ (λ (x : Plan) (xs : Plans). more x xs) (marks_free true p) (all_free d (more q rest))

-- scans are asked the same with the marks that demands give and with those that were there
pub sites_ordered : (d : Bool) (p : Plan) → sites_of (ordered d p) ≡ sites_of (unsorted d p)
sites_ordered d p =
    sym (sites_free (more (ordered d p) no_roses) (all ∷ []))
    ∙ ap (λ (x : Plan). sites (more x no_roses) (all ∷ [])) (marks_free d p)
    ∙ sites_free (more (unsorted d p) no_roses) (all ∷ [])

-- where flags ask that orders are dropped, the basis asks what the plan does once its order demands are set; else it is the plan
pub sites_basis : (flags : OptFlags) (p : Plan) → drops_order flags ≡ true → sites_of (ordered true p) ≡ sites_of (basis flags p)
sites_basis flags p e = sites_ordered true p ∙ ap (λ (b : Bool). sites_of (cond b (unsorted true p) p)) (sym e)

pub basis_given : (flags : OptFlags) (p : Plan) → drops_order flags ≡ false → basis flags p ≡ p
basis_given flags p e = ap (λ (b : Bool). cond b (unsorted true p) p) e
