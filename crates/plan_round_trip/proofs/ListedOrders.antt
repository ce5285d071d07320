-- A plan whose orders were looked at, and a bare count, are read again of what is written for them, but for their columns.
use Rattle.std.proofs.Common.{◌≡◌, ℕ, Bool, true, false, cond, List, [], ◌∷◌, ◌++◌, Option, None, Some, refl, sym, ap, subst}
use Rattle.std.specs.List.{AllByRecursion}
use Rattle.plan_options.specs.declared.union.UnionOptions.{UnionOptions}
use Rattle.plan_scan.specs.declared.file_scan.FileScan.{FileScan}
use Rattle.plan_scan.specs.declared.sources.ScanSources.{ScanSources}
use Rattle.plan_scan.specs.declared.sources.ScanSources.TheVariants.{Paths, Buffers}
use Rattle.plan_tree.specs.Rose.{Roses, rose, no_roses, more}
use Rattle.plan_expr.specs.Leaves.{Name}
use Rattle.plan_frame.specs.ExprLists.{counts_rows}
use Rattle.plan_ir.specs.Plans.{Op, Plan, scan, select, simple_projection, union}
use Rattle.plan_meaning.specs.PlanAt.{one_plan}
use Rattle.plan_doc_parts.specs.Parts.{columns_of, entries_of, number_of, numbers_of}
use Rattle.plan_doc_scans.specs.Scans.{buffers_of}
use Rattle.plan_doc_parts.specs.Members.{at, object_of}
use Rattle.plan_text_pieces.specs.Values.{list_data, number_data}
use Rattle.plan_order_laws.specs.Counted.{Scans, as_one, both_scans, count_alias, count_of, count_or, count_plan, counted, counted_each, counted_scans, in_one, same_kind, together, with_scan}
use Rattle.plan_order_laws.specs.Demands.{demands, is_idle, ordered, ordered_in, told_order}
use Rattle.plan_round_trip.proofs.Functions.{count_read}
use Rattle.plan_round_trip.proofs.ListedParts.{RestTold}
use Rattle.plan_round_trip.proofs.ListedTrees.{AreTold, IsTold, first_told, one_more, one_told, rest_told}
use Rattle.plan_round_trip.proofs.Lists.{list_parts, list_read}
use Rattle.plan_round_trip.proofs.Scans.{SourcesAgain, buffers_read, paths_read}
use Rattle.plan_round_trip.proofs.Steps.{Again}
use Rattle.plan_round_trip.proofs.Told.{ToldColumns, ToldNumber}
use Rattle.plan_round_trip.proofs.Trees.{all_append}

-- ---- orders

order_mark_told : (d : Bool) (op : Op) → RestTold op → RestTold (told_order d op)
order_mark_told d (union options) t = (t.0, ap (λ (o : UnionOptions). record o { maintain_order = d }) t.1)
order_mark_told d op t = t

over_told : (idle d : Bool) (op : Op) (us : Roses (Unit {0}) Op) → RestTold op → AreTold us → IsTold (cond idle (one_plan us) (rose tt (told_order d op) us))
over_told true d op us t a = one_told us a
over_told false d op us t a = (order_mark_told d op t, a)

mutual
  pub ordered_told : (d : Bool) (p : Plan) → IsTold p → IsTold (ordered d p)
  ordered_told d (rose n op ts) t = over_told (is_idle d op) d op (ordered_in (demands d op) ts) t.0 (all_ordered_told (demands d op) ts t.1)

  all_ordered_told : (d : Bool) (ts : Roses (Unit {0}) Op) → AreTold ts → AreTold (ordered_in d ts)
  all_ordered_told d no_roses a = tt
  all_ordered_told d (more p no_roses) a = one_more (ordered d p) no_roses (ordered_told d p (first_told p no_roses a)) tt
  all_ordered_told d (more p (more q rest)) a = one_more (ordered true p) (ordered_in d (more q rest)) (ordered_told true p (first_told p (more q rest) a)) (all_ordered_told d (more q rest) (rest_told p (more q rest) a))

-- ---- sources of scans together

-- the numbers of buffers
numbers_in : (ms : List ℕ) → SourcesAgain (Buffers ms) → Again numbers_of (list_data number_data) ms
unfolding buffers_of object_of at
numbers_in ms e = found (numbers_of (list_data number_data ms)) refl
  where
    found : (o : Option (List ℕ)) → numbers_of (list_data number_data ms) ≡ o → numbers_of (list_data number_data ms) ≡ Some ms
    found None h = let u = rw h at e in cc
    found (Some ns) h = let u = rw h at e in cc

buffers_in : (ms : List ℕ) → SourcesAgain (Buffers ms) → AllByRecursion ToldNumber ms
unfolding numbers_of
buffers_in ms e = list_parts number_of number_data ms (numbers_in ms e)

both_buffers : (ms ns : List ℕ) → AllByRecursion ToldNumber ms → AllByRecursion ToldNumber ns → SourcesAgain (Buffers (ms ++ ns))
unfolding numbers_of
both_buffers ms ns a b = buffers_read (ms ++ ns) (list_read number_of number_data (ms ++ ns) (all_append ToldNumber ms ns a b))

one_list_told : (s t z : ScanSources) → in_one s t ≡ Some z → SourcesAgain s → SourcesAgain t → SourcesAgain z
one_list_told (Paths ps) (Paths qs) z e a b =
    let is : z ≡ Paths (ps ++ qs) = cc in
    subst SourcesAgain (sym is) (paths_read (ps ++ qs))
one_list_told (Buffers ms) (Buffers ns) z e a b =
    let is : z ≡ Buffers (ms ++ ns) = cc in
    subst SourcesAgain (sym is) (both_buffers ms ns (buffers_in ms a) (buffers_in ns b))
one_list_told (Paths ps) (Buffers ns) z e a b = cc
one_list_told (Buffers ms) (Paths qs) z e a b = cc

abbrev ScansTold : Scans → Type 0
ScansTold xs = AllByRecursion (λ (x : ScanSources × FileScan). SourcesAgain x.0) xs

with_told : (x : ScanSources × FileScan) (o : Option (ScanSources × FileScan)) (z : ScanSources × FileScan) → with_scan x o ≡ Some z → SourcesAgain x.0 → ((y : ScanSources × FileScan) → o ≡ Some y → SourcesAgain y.0) → SourcesAgain z.0
with_told x None z e a b = cc
with_told x (Some y) z e a b = at (same_kind x.1 y.1) refl (in_one x.0 y.0) refl
  where
    at : (k : Bool) → same_kind x.1 y.1 ≡ k → (o : Option ScanSources) → in_one x.0 y.0 ≡ o → SourcesAgain z.0
    at false f o g = cc
    at true f None g = cc
    at true f (Some s) g =
        let is : z ≡ (s, x.1) = cc in
        subst (λ (w : ScanSources × FileScan). SourcesAgain w.0) (sym is) (one_list_told x.0 y.0 s g a (b y refl))

together_told : (xs : Scans) (z : ScanSources × FileScan) → together xs ≡ Some z → ScansTold xs → SourcesAgain z.0
together_told [] z e a = cc
together_told (x ∷ []) z e a =
    let is : z ≡ x = cc in
    subst (λ (w : ScanSources × FileScan). SourcesAgain w.0) (sym is) a.0
together_told (x ∷ y ∷ xs) z e a = with_told x (together (y ∷ xs)) z e a.0 (λ w h. together_told (y ∷ xs) w h a.1)

both_told : (a b : Option Scans) (xs : Scans) → both_scans a b ≡ Some xs → ((ys : Scans) → a ≡ Some ys → ScansTold ys) → ((ys : Scans) → b ≡ Some ys → ScansTold ys) → ScansTold xs
both_told None b xs e f g = cc
both_told (Some ys) None xs e f g = cc
both_told (Some ys) (Some zs) xs e f g =
    let is : xs ≡ ys ++ zs = cc in
    subst ScansTold (sym is) (all_append (λ (x : ScanSources × FileScan). SourcesAgain x.0) ys zs (f ys refl) (g zs refl))

mutual
  scans_told : (p : Plan) (xs : Scans) → counted_scans p ≡ Some xs → IsTold p → ScansTold xs
  scans_told (rose n (scan from info hive predicate output kind options) ts) xs e t =
      let is : xs ≡ (from, kind) ∷ [] = cc in
      subst ScansTold (sym is) (t.0.0, tt)
  scans_told (rose n (union options) ts) xs e t = each_told ts xs e t.1
  scans_told (rose n op ts) xs e t = cc

  each_told : (ts : Roses (Unit {0}) Op) (xs : Scans) → counted_each ts ≡ Some xs → AreTold ts → ScansTold xs
  each_told no_roses xs e a = let is : xs ≡ [] = cc in subst ScansTold (sym is) tt
  each_told (more (rose n (simple_projection columns) (more q no_roses)) rest) xs e a =
      both_told (counted_scans q) (counted_each rest) xs e
      (λ ys h. scans_told q ys h (first_told q no_roses (first_told (rose n (simple_projection columns) (more q no_roses)) rest a).1))
      (λ ys h. each_told rest ys h (rest_told (rose n (simple_projection columns) (more q no_roses)) rest a))
  each_told (more p rest) xs e a =
      both_told (counted_scans p) (counted_each rest) xs e
      (λ ys h. scans_told p ys h (first_told p rest a))
      (λ ys h. each_told rest ys h (rest_told p rest a))

-- ---- counts

no_columns_told : ToldColumns []
unfolding columns_of entries_of list_data
no_columns_told = refl

count_told : (x : ScanSources × FileScan) (alias : Option Name) → SourcesAgain x.0 → IsTold (count_plan x alias)
count_told x alias s = (count_read x.0 x.1 alias s, ((refl, no_columns_told), tt))

or_told : (o : Option (ScanSources × FileScan)) (alias : Option Name) (p : Plan) → ((x : ScanSources × FileScan) → o ≡ Some x → SourcesAgain x.0) → IsTold p → IsTold (count_or o alias p)
or_told None alias p s t = t
or_told (Some x) alias p s t = count_told x alias (s x refl)

as_one_told : (o : Option Scans) (x : ScanSources × FileScan) → as_one o ≡ Some x → ((xs : Scans) → o ≡ Some xs → ScansTold xs) → SourcesAgain x.0
as_one_told None x e a = cc
as_one_told (Some xs) x e a = together_told xs x e (a xs refl)

one_counted : (counts : Bool) (o : Option (ScanSources × FileScan)) (x : ScanSources × FileScan) → cond counts o None ≡ Some x → o ≡ Some x
one_counted true o x e = e
one_counted false o x e = cc

count_of_told : (p : Plan) (x : ScanSources × FileScan) → count_of p ≡ Some x → IsTold p → SourcesAgain x.0
count_of_told (rose n (select exprs schema options) (more r no_roses)) x e t =
    as_one_told (counted_scans r) x (one_counted (counts_rows exprs) (as_one (counted_scans r)) x e) (λ xs h. scans_told r xs h (first_told r no_roses t.1))
count_of_told (rose n op ts) x e t = cc

pub counted_told : (p : Plan) → IsTold p → IsTold (counted p)
counted_told p t = or_told (count_of p) (count_alias p) p (λ x e. count_of_told p x e t) t
