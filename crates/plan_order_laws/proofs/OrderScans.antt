-- Order demands keep the scans of a valid plan, and whether rows are counted in it.
use Rattle.std.proofs.Common.{◌≡◌, ◌&&◌, ◌||◌, Bool, true, false, not, List, [], ◌++◌, refl, sym, ap, ap₂, ◌∙◌, subst, append-nil}
use Rattle.plan_tree.specs.Rose.{Roses, rose, no_roses, more}
use Rattle.plan_ir.specs.Plans.{Op, distinct, sort, union, Plan}
use Rattle.plan_meaning.specs.Counting.{is_closed, is_count, meet_count, meets_count}
use Rattle.plan_meaning.specs.Scans.{KeepScans, Keeps, own_scan, scans, scans_in}
use Rattle.plan_meaning.specs.Steps.{IsValid}
use Rattle.plan_meaning.specs.Typing.{AllValid}
use Rattle.plan_meaning.proofs.Keeping.{keeps_refl}
use Rattle.plan_order_laws.specs.Demands.{demands, ordered, ordered_in, told_order, with_order}

abbrev Plans : Type 0
Plans = Roses (Unit {0}) Op

-- Scans

told_scan : (d : Bool) (op : Op) → own_scan (told_order d op) ≡ own_scan op
told_scan d (distinct options) = refl
told_scan d (union options) = refl
told_scan d op = refl

with_scans : (d : Bool) (op : Op) (us ts : Plans) (n : Unit {0}) → IsValid (rose n op ts) → us ≡ ordered_in (demands d op) ts → scans_in us ≡ scans_in ts → scans (with_order d op us) ≡ own_scan op ++ scans_in ts
with_scans true (sort keys part options) us ts n v is e = e
with_scans false (sort keys part options) (more q no_roses) ts n v is e = sym (append-nil (scans q)) ∙ e
with_scans false (sort keys part options) no_roses ts n v is e = e
with_scans false (sort keys part options) (more q (more r us)) no_roses n v is e = cc
with_scans false (sort keys part options) (more q (more r us)) (more t no_roses) n v is e = cc
with_scans false (sort keys part options) (more q (more r us)) (more (rose m o vs) (more (rose k p ws) ts)) n v is e = cc
with_scans d op us ts n v is e = ap₂ (λ (x y : List Op). x ++ y) (told_scan d op) e

mutual
  pub scans_ordered : (d : Bool) (p : Plan) → IsValid p → scans (ordered d p) ≡ scans p
  scans_ordered d (rose n op ts) v = with_scans d op (ordered_in (demands d op) ts) ts n v refl (scans_ordered_in (demands d op) ts v.1)

  scans_ordered_in : (d : Bool) (ts : Plans) → AllValid ts → scans_in (ordered_in d ts) ≡ scans_in ts
  scans_ordered_in d no_roses v = refl
  scans_ordered_in d (more (rose n op us) no_roses) v = ap (λ (x : List Op). x ++ []) (scans_ordered d (rose n op us) (v.0, v.1))
  scans_ordered_in d (more (rose n op us) (more q rest)) v = ap₂ (λ (x y : List Op). x ++ y) (scans_ordered true (rose n op us) (v.0, v.1)) (scans_ordered_in d (more q rest) v.2)

pub ordered_keeps : (d : Bool) (p : Plan) → IsValid p → Keeps (ordered d p) p
ordered_keeps d p v = subst (λ (l : List Op). KeepScans l (scans p)) (sym (scans_ordered d p v)) (keeps_refl p)

-- Counts

told_count : (d : Bool) (op : Op) → is_count (told_order d op) ≡ is_count op
told_count d (distinct options) = refl
told_count d (union options) = refl
told_count d op = refl

told_closed : (d : Bool) (op : Op) → is_closed (told_order d op) ≡ is_closed op
told_closed d (distinct options) = refl
told_closed d (union options) = refl
told_closed d op = refl

or_no : (b : Bool) → (b || false) ≡ b
or_no true = refl
or_no false = refl

meet_more : (p : Plan) (rest : Plans) → meet_count (more p rest) ≡ (meets_count p || meet_count rest)
meet_more (rose n op ts) rest = at (is_count op) (not (is_closed op) && meet_count ts)
  where
    at : (a b : Bool) → (a || (b || meet_count rest)) ≡ ((a || (b || false)) || meet_count rest)
    at true b = refl
    at false true = refl
    at false false = refl

with_counts : (d : Bool) (op : Op) (us ts : Plans) (n : Unit {0}) → IsValid (rose n op ts) → us ≡ ordered_in (demands d op) ts → meet_count us ≡ meet_count ts → meets_count (with_order d op us) ≡ meets_count (rose n op ts)
with_counts true (sort keys part options) us ts n v is e = ap (λ (b : Bool). b || false) e
with_counts false (sort keys part options) (more q no_roses) ts n v is e = e ∙ sym (or_no (meet_count ts))
with_counts false (sort keys part options) no_roses ts n v is e = e ∙ sym (or_no (meet_count ts))
with_counts false (sort keys part options) (more q (more r us)) no_roses n v is e = cc
with_counts false (sort keys part options) (more q (more r us)) (more t no_roses) n v is e = cc
with_counts false (sort keys part options) (more q (more r us)) (more (rose m o vs) (more (rose k p ws) ts)) n v is e = cc
with_counts d op us ts n v is e = ap₂ (λ (a b : Bool). a || b) (told_count d op) (ap₂ (λ (a b : Bool). (not a && b) || false) (told_closed d op) e)

mutual
  pub counts_ordered : (d : Bool) (p : Plan) → IsValid p → meets_count (ordered d p) ≡ meets_count p
  counts_ordered d (rose n op ts) v = with_counts d op (ordered_in (demands d op) ts) ts n v refl (counts_ordered_in (demands d op) ts v.1)

  counts_ordered_in : (d : Bool) (ts : Plans) → AllValid ts → meet_count (ordered_in d ts) ≡ meet_count ts
  counts_ordered_in d no_roses v = refl
  counts_ordered_in d (more (rose n op us) no_roses) v = meet_more (ordered d (rose n op us)) no_roses ∙ ap (λ (b : Bool). b || false) (counts_ordered d (rose n op us) (v.0, v.1)) ∙ sym (meet_more (rose n op us) no_roses)
  counts_ordered_in d (more (rose n op us) (more q rest)) v =
      meet_more (ordered true (rose n op us)) (ordered_in d (more q rest))
      ∙ ap₂ (λ (a b : Bool). a || b) (counts_ordered true (rose n op us) (v.0, v.1)) (counts_ordered_in d (more q rest) v.2)
      ∙ sym (meet_more (rose n op us) (more q rest))
