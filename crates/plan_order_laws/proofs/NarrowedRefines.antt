-- A plan whose sites are narrowed to what is read of them refines the plan.
use Rattle.std.proofs.Common.{◌≡◌, ℕ, ◌==◌, ◌⊎◌, inl, inr, ◌&&◌, ◌||◌, Bool, true, false, not, List, [], ◌∷◌, ◌++◌, Option, None, Some, is_some, refl, sym, ap, ap₂, ◌∙◌, subst, ⊎_elim}
use Rattle.std.specs.List.{filter as only_where}
use Rattle.plan_core.specs.Columns.{Columns, names_of, type_of}
use Rattle.plan_core.specs.Names.{has, with_names}
use Rattle.plan_tree.specs.Rose.{Roses, rose, no_roses, more}
use Rattle.plan_expr.specs.Exprs.{Named}
use Rattle.plan_expr.specs.Leaves.{Name, leaves}
use Rattle.plan_ir.specs.Plans.{Op, slice, filter, scan, frame_scan, simple_projection, select, hstack, sort, group_by, join, distinct, map_function, sink, union, hconcat, cache, invalid, Plan}
use Rattle.plan_frame.specs.Frames.{Frame}
use Rattle.plan_frame.proofs.FrameLemmas.{agree_fewer}
use Rattle.plan_frame.proofs.NameSets.{from_names, has-once, has_cons, has_first, keeps_names, some-type_of}
use Rattle.plan_meaning.specs.Asked.{set_of}
use Rattle.plan_meaning.specs.Checks.{is_empty}
use Rattle.plan_meaning.specs.Relating.{AgreeOn, Asked, NarrowColumns, Narrows, Refines, all, names, EachRefines}
use Rattle.plan_meaning.specs.Steps.{IsValid}
use Rattle.plan_meaning.specs.Typing.{AllHold, AllValid, checks, schema, schema_by, schemas}
use Rattle.plan_meaning.proofs.Refining.{refines_node, relates_refines}
use Rattle.plan_meaning.proofs.Related.{relates_node, relates_to}
use Rattle.plan_pruned.proofs.NarrowLemmas.{holding_fewer, one_step}
use Rattle.plan_pruned.proofs.PrunedNarrows.{filter_narrows, projection_narrows}
use Rattle.plan_meaning.proofs.CheckParts.{projection_good}
use Rattle.plan_meaning.proofs.KeptExprs.{has_where}
use Rattle.plan_meaning.proofs.AskedSets.{column_passes, has_some}
use Rattle.plan_frame.specs.Exprs.{all_known}
use Rattle.std.proofs.lemmas.Bool.{and_parts}
use Rattle.plan_order_laws.specs.CacheSites.{cache_sites, names_below, names_read, own_site, renewed, AllRead, Reads, wanted}
use Rattle.plan_order_laws.specs.Handled.{is_cache, is_place, narrowed, narrowed_in, renewed_if}
use Rattle.plan_order_laws.proofs.SiteViews.{Through, back_of, both_of, front_of, is_cut, is_filter, leaves_read, place_reads, seen, seen_if, through, together, whole_below, whole_filter, whole_unplaced}

abbrev Plans : Type 0
Plans = Roses (Unit {0}) Op

-- Narrowing and refining, one after the other

pub narrows_same : (a : Asked) (r q p : Plan) → Narrows r q a → Refines q p → Narrows r p a
narrows_same a r q p h k = record {
  valid = h.valid;
  schema = subst (NarrowColumns a (schema r)) k.schema h.schema;
  fits = λ c f. h.fits c (k.fits c f);
  run = λ c f. h.run c (k.fits c f);
  may = λ c f x m. let y = h.may c f (k.fits c x) m in (y.0, k.may c y.0 x y.1, y.2);
}

pub refines_narrows : (a : Asked) (r q p : Plan) → Refines r q → Narrows q p a → Narrows r p a
refines_narrows a r q p h k = record {
  valid = h.valid;
  schema = subst (λ (s : Columns). NarrowColumns a s (schema p)) (sym h.schema) k.schema;
  fits = λ c f. h.fits c (k.fits c f);
  run = λ c f. h.run c (k.fits c f);
  may = λ c f x m. k.may c f x (h.may c f (k.fits c x) m);
}

pub whole : (r p : Plan) (a : Asked) → a ≡ all → Narrows r p a → Refines r p
whole r p a e h = relates_refines r p (subst (Narrows r p) e h)

pub seen_whole : (r p : Plan) (a : Asked) → a ≡ all → Refines r p → Narrows r p a
seen_whole r p a e h = subst (Narrows r p) (sym e) (record { valid = h.valid; schema = h.schema; fits = h.fits; run = h.run; may = λ c f k m. (f, h.may c f k m, refl) })

fewer : (l m : List Name) (r p : Plan) → ((a : Name) → has l a ≡ true → has m a ≡ true) → Narrows r p (names m) → Narrows r p (names l)
fewer l m r p sub h = relates_to (NarrowColumns (names m)) (NarrowColumns (names l)) (AgreeOn (names m)) (AgreeOn (names l)) r p (holding_fewer l m (schema r) (schema p) sub h.schema) (λ f g a. agree_fewer l m f g sub a) h

some_set : (l : List Name) (a : Name) → has l a ≡ true → set_of l ≡ names l
some_set [] a h = cc
some_set (b ∷ l) a h = refl

-- A projection over what is seen at names that its own are among

module _ (cs : Columns) (read : List Name) (among : (a : Name) → has (names_of cs) a ≡ true → has read a ≡ true) where
  sp_through : (r t : Plan) (s : Columns) → schemas (more t no_roses) ≡ s ∷ [] → IsValid (rose tt (simple_projection cs) (more t no_roses)) → Narrows r t (set_of (only_where (has read) (names_of s))) → Refines (rose tt (simple_projection cs) (more r no_roses)) (rose tt (simple_projection cs) (more t no_roses))
  sp_through r t s is v h =
      let good = projection_good cs s (subst (λ (ss : List Columns). AllHold (checks (simple_projection cs) ss)) is v.0) in
      let seen_names = only_where (has read) (names_of s) in
      let reads = with_names [] (names_of cs) in
      let known : (a : Name) → has (names_of cs) a ≡ true → has (names_of s) a ≡ true = λ a i. sym (some-type_of s a) ∙ column_passes (λ (b : Name). is_some (type_of s b) ≡ true) cs good.known a i in
      let some = has_some (names_of cs) (not_empty cs good.some) in
      let first = has_where (has read) (names_of s) some.0 (among some.0 some.1) (known some.0 some.1) in
      let at_names : Narrows r t (names seen_names) = subst (Narrows r t) (some_set seen_names some.0 first) h in
      let less : Narrows r t (names reads) = fewer reads seen_names r t (λ a i. let j = sym (has-once (names_of cs) a) ∙ i in has_where (has read) (names_of s) a (among a j) (known a j)) at_names in
      let asks : Narrows r t (set_of reads) = subst (Narrows r t) (sym (some_set reads some.0 (has-once (names_of cs) some.0 ∙ some.1))) less in
      relates_refines (rose tt (simple_projection cs) (more r no_roses)) (rose tt (simple_projection cs) (more t no_roses)) (projection_narrows cs [] (more r no_roses) t s is v tt (asks, tt))
    where
      not_empty : (xs : Columns) → not (is_empty xs) ≡ true → is_empty (names_of xs) ≡ false
      not_empty [] e = cc
      not_empty (x ∷ xs) e = refl

-- A filter on a site

filter_through : (e : Named) (read : List Name) → ((a : Name) → has (leaves e.expr) a ≡ true → has read a ≡ true) → (r t : Plan) (s : Columns) → schemas (more t no_roses) ≡ s ∷ [] → IsValid (rose tt (filter e) (more t no_roses)) → Narrows r t (set_of (only_where (has read) (names_of s))) → Narrows (rose tt (filter e) (more r no_roses)) (rose tt (filter e) (more t no_roses)) (set_of (only_where (has read) (names_of s)))
filter_through e read among r t s is v h = at (only_where (has read) (names_of s)) refl
  where
    good : AllHold (checks (filter e) (s ∷ []))
    good = subst (λ (ss : List Columns). AllHold (checks (filter e) ss)) is v.0

    in_set : (a : Name) → has (leaves e.expr) a ≡ true → has (only_where (has read) (names_of s)) a ≡ true
    in_set a i = has_where (has read) (names_of s) a (among a i) (sym (some-type_of s a) ∙ known_leaf (leaves e.expr) good.1.0 a i)
      where
        known_leaf : (l : List Name) → all_known l s ≡ true → (a : Name) → has l a ≡ true → is_some (type_of s a) ≡ true
        known_leaf [] k a i = cc
        known_leaf (b ∷ l) k a i =
            let q = and_parts (is_some (type_of s b)) (all_known l s) k in
            ⊎_elim (λ (f : a ≡ b). ap (λ (x : Name). is_some (type_of s x)) f ∙ q.0) (λ (f : has l a ≡ true). known_leaf l q.1 a f) (has_cons b l a i)

    at : (l : List Name) → only_where (has read) (names_of s) ≡ l → Narrows (rose tt (filter e) (more r no_roses)) (rose tt (filter e) (more t no_roses)) (set_of (only_where (has read) (names_of s)))
    at [] f = subst (λ (x : List Name). Narrows (rose tt (filter e) (more r no_roses)) (rose tt (filter e) (more t no_roses)) (set_of x)) (sym f) (filter_narrows e [] (more r no_roses) t s is v (subst (λ (x : List Name). Narrows r t (set_of x)) f h, tt))
    at (b ∷ l) f =
        let here : Narrows r t (names (b ∷ l)) = subst (λ (x : List Name). Narrows r t (set_of x)) f h in
        let more_names = with_names (b ∷ l) (leaves e.expr) in
        let less : Narrows r t (names more_names) = fewer more_names (b ∷ l) r t (λ a i. ⊎_elim (λ (q : has (b ∷ l) a ≡ true). q) (λ (q : has (leaves e.expr) a ≡ true). subst (λ (x : List Name). has x a ≡ true) f (in_set a q)) (from_names (b ∷ l) (leaves e.expr) a i)) here in
        let asks : Narrows r t (set_of more_names) = subst (Narrows r t) (sym (some_set more_names b (keeps_names (b ∷ l) (leaves e.expr) b (has_first b l)))) less in
        subst (λ (x : List Name). Narrows (rose tt (filter e) (more r no_roses)) (rose tt (filter e) (more t no_roses)) (set_of x)) (sym f) (filter_narrows e (b ∷ l) (more r no_roses) t s is v (asks, tt))

-- A cache over an input that narrows

cache_through : (id hits : ℕ) (a : Asked) (r t : Plan) → IsValid (rose tt (cache id hits) (more t no_roses)) → Narrows r t a → Narrows (rose tt (cache id hits) (more r no_roses)) (rose tt (cache id hits) (more t no_roses)) a
cache_through id hits a (rose m o us) (rose n op ts) v h =
    relates_node Asked NarrowColumns AgreeOn (cache id hits) (cache id hits) (a ∷ []) a (more (rose m o us) no_roses) (more (rose n op ts) no_roses) v (h, tt) (λ k. record {
      good = tt;
      schema = k.0;
      fits = λ c f. f;
      step = λ c fs gs f fit hr has ag st. one_step c (cache id hits) (cache id hits) a a (schema_by o (schemas us)) (schema_by op (schemas ts)) (λ f0 g0 f hr hs ag st. (g0, refl, subst (λ (x : Frame). AgreeOn a x g0) (sym st) ag)) fs gs f hr has ag st;
    })

-- Plans

module _ (renews : (read : Option (List Name)) (p : Plan) → IsValid p → Narrows (renewed read p) p (wanted read (schema p))) (id : ℕ) (read : Option (List Name)) where
  abbrev Left : Bool → Plan → Type 0
  Left under p = Narrows (narrowed id read under p) p (seen id read under p)

  one_is : {x y : Columns} → x ∷ [] ≡ y ∷ [] → x ≡ y
  one_is e = cc

  -- a node that is no site, over inputs that refine
  plain : (under : Bool) (op : Op) (ts : Plans) → IsValid (rose tt op ts) → is_cut id read under op ts ≡ false → (under && is_cache id op) ≡ false → EachRefines (narrowed_in id read ts) ts → Left under (rose tt op ts)
  plain under op ts v cut site h =
      subst (λ (b : Bool). Narrows (rose tt op (renewed_if b read (narrowed_in id read ts))) (rose tt op ts) (seen id read under (rose tt op ts))) (sym site)
      (seen_whole (rose tt op (renewed_if false read (narrowed_in id read ts))) (rose tt op ts) (seen id read under (rose tt op ts)) (ap (λ (b : Bool). seen_if id read b (schema_by op (schemas ts))) cut) (refines_node op (narrowed_in id read ts) ts v h))

  no_site : (under : Bool) (op : Op) → is_cache id op ≡ false → (under && is_cache id op) ≡ false
  no_site true op e = e
  no_site false op e = refl

  -- a filter over an input that is left so
  filter_node : (under : Bool) (above : List Op) (e : Named) (r t : Plan) → IsValid (rose tt (filter e) (more t no_roses)) → AllRead read (cache_sites id (filter e ∷ above) (more t no_roses)) → Narrows r t (seen id read true t) → Narrows (rose tt (filter e) (renewed_if (under && false) read (more r no_roses))) (rose tt (filter e) (more t no_roses)) (seen_if id read ((under && false) || is_place id (more t no_roses)) (schema_by (filter e) (schemas (more t no_roses))))
  filter_node under above e r (rose m o us) v here lt = subst (λ (b : Bool). Narrows (rose tt (filter e) (renewed_if b read (more r no_roses))) (rose tt (filter e) (more (rose m o us) no_roses)) (seen_if id read (b || is_place id (more (rose m o us) no_roses)) (schema_by o (schemas us)))) (sym (no_site under (filter e) refl)) (at (is_place id (more (rose m o us) no_roses)) refl)
    where
      refined : Refines r (rose m o us) → Refines (rose tt (filter e) (more r no_roses)) (rose tt (filter e) (more (rose m o us) no_roses))
      refined h = refines_node (filter e) (more r no_roses) (more (rose m o us) no_roses) v (h, tt)

      by : (ns : Option (List Name)) → read ≡ ns → Reads read (names_below (filter e ∷ above)) → seen id read true (rose m o us) ≡ wanted read (schema_by o (schemas us)) → Narrows (rose tt (filter e) (more r no_roses)) (rose tt (filter e) (more (rose m o us) no_roses)) (wanted read (schema_by o (schemas us)))
      by None f reads at_it =
          let is : wanted read (schema_by o (schemas us)) ≡ all = ap (λ (x : Option (List Name)). wanted x (schema_by o (schemas us))) f in
          seen_whole _ _ (wanted read (schema_by o (schemas us))) is (refined (whole r (rose m o us) (seen id read true (rose m o us)) (at_it ∙ is) lt))
      by (Some l) f reads at_it =
          let is : wanted read (schema_by o (schemas us)) ≡ wanted (Some l) (schema_by o (schemas us)) = ap (λ (x : Option (List Name)). wanted x (schema_by o (schemas us))) f in
          subst (λ (a : Asked). Narrows (rose tt (filter e) (more r no_roses)) (rose tt (filter e) (more (rose m o us) no_roses)) a) (sym is)
          (filter_through e l (leaves_read id read e above l (subst (λ (x : Option (List Name)). Reads x (names_below (filter e ∷ above))) f reads)) r (rose m o us) (schema_by o (schemas us)) refl v (subst (Narrows r (rose m o us)) (at_it ∙ is) lt))

      at : (b : Bool) → is_place id (more (rose m o us) no_roses) ≡ b → Narrows (rose tt (filter e) (more r no_roses)) (rose tt (filter e) (more (rose m o us) no_roses)) (seen_if id read b (schema_by o (schemas us)))
      at false f = seen_whole _ _ all refl (refined (whole r (rose m o us) (seen id read true (rose m o us)) (whole_unplaced id read e above (rose m o us) f here) lt))
      at true f = let q = place_reads id read e above (rose m o us) f here in by read refl q.0 q.1

  -- a projection over an input that is left so
  projection_node : (under : Bool) (above : List Op) (cs : Columns) (r t : Plan) (s : Columns) → schemas (more t no_roses) ≡ s ∷ [] → IsValid (rose tt (simple_projection cs) (more t no_roses)) → AllRead read (cache_sites id (simple_projection cs ∷ above) (more t no_roses)) → Narrows r t (seen id read true t) → Narrows (rose tt (simple_projection cs) (renewed_if (under && false) read (more r no_roses))) (rose tt (simple_projection cs) (more t no_roses)) (seen_if id read ((under && false) || false) cs)
  projection_node under above cs r t s is v here lt = subst (λ (b : Bool). Narrows (rose tt (simple_projection cs) (renewed_if b read (more r no_roses))) (rose tt (simple_projection cs) (more t no_roses)) (seen_if id read (b || false) cs)) (sym (no_site under (simple_projection cs) refl)) (seen_whole _ _ all refl (at (through id read cs above t s is here)))
    where
      at : (seen id read true t ≡ all) ⊎ Through id read cs t s → Refines (rose tt (simple_projection cs) (more r no_roses)) (rose tt (simple_projection cs) (more t no_roses))
      at (inl e) = refines_node (simple_projection cs) (more r no_roses) (more t no_roses) v (whole r t (seen id read true t) e lt, tt)
      at (inr x) = sp_through cs x.names x.among r t s is v (subst (Narrows r t) x.at lt)

  plain_node : (under : Bool) (op : Op) (ts : Plans) → IsValid (rose tt op ts) → is_cache id op ≡ false → is_filter op ≡ false → (is_filter op && is_place id ts) ≡ false → EachRefines (narrowed_in id read ts) ts → Left under (rose tt op ts)
  plain_node under op ts v other nf cut h = let site = no_site under op other in plain under op ts v (ap₂ (λ (a b : Bool). a || b) site cut) site h

  cache_node : (under : Bool) (k hits : ℕ) (t r : Plan) → Refines r t → IsValid (rose tt (cache k hits) (more t no_roses)) → (b : Bool) → (under && (k == id)) ≡ b → Narrows (rose tt (cache k hits) (renewed_if b read (more r no_roses))) (rose tt (cache k hits) (more t no_roses)) (seen_if id read (b || false) (schema_by (cache k hits) (schemas (more t no_roses))))
  cache_node under k hits t r ref v false e = seen_whole _ _ all refl (refines_node (cache k hits) (more r no_roses) (more t no_roses) v (ref, tt))
  cache_node under k hits (rose m op vs) r ref v true e =
      let t : Plan = rose m op vs in
      let fresh : Narrows (renewed read r) t (wanted read (schema t)) = narrows_same (wanted read (schema t)) (renewed read r) r t (subst (λ (s : Columns). Narrows (renewed read r) r (wanted read s)) ref.schema (renews read r ref.valid)) ref in
      cache_through k hits (wanted read (schema t)) (renewed read r) t v fresh

  mutual
    pub left : (above : List Op) (p : Plan) → IsValid p → AllRead read (cache_sites id above (more p no_roses)) → Left (not (is_empty above)) p
    left above (rose n (cache k hits) (more (rose m o us) no_roses)) v h =
        let ins = left_in (cache k hits) above refl (λ e. refl) (more (rose m o us) no_roses) v.1 (front_of read (cache_sites id (cache k hits ∷ above) (more (rose m o us) no_roses)) [] (back_of read (own_site id above (cache k hits) (more (rose m o us) no_roses)) _ h)) in
        cache_node (not (is_empty above)) k hits (rose m o us) (narrowed id read true (rose m o us)) ins.0 v (not (is_empty above) && (k == id)) refl
    left above (rose n (cache k hits) no_roses) v h = cc
    left above (rose n (cache k hits) (more (rose m o us) (more (rose m' o' us') rest))) v h = cc
    left above (rose n (filter e) (more (rose m o us) no_roses)) v h =
        let here = front_of read (cache_sites id (filter e ∷ above) (more (rose m o us) no_roses)) [] (back_of read (own_site id above (filter e) (more (rose m o us) no_roses)) _ h) in
        filter_node (not (is_empty above)) above e (narrowed id read true (rose m o us)) (rose m o us) v here (left (filter e ∷ above) (rose m o us) (v.1.0, v.1.1) here)
    left above (rose n (filter e) no_roses) v h = cc
    left above (rose n (filter e) (more (rose m o us) (more (rose m' o' us') rest))) v h = cc
    left above (rose n (simple_projection cs) (more (rose m o us) no_roses)) v h =
        let here = front_of read (cache_sites id (simple_projection cs ∷ above) (more (rose m o us) no_roses)) [] (back_of read (own_site id above (simple_projection cs) (more (rose m o us) no_roses)) _ h) in
        projection_node (not (is_empty above)) above cs (narrowed id read true (rose m o us)) (rose m o us) (schema_by o (schemas us)) refl v here (left (simple_projection cs ∷ above) (rose m o us) (v.1.0, v.1.1) here)
    left above (rose n (simple_projection cs) no_roses) v h = cc
    left above (rose n (simple_projection cs) (more (rose m o us) (more (rose m' o' us') rest))) v h = cc
    left above (rose n (slice offset len) ts) v h = plain_node (not (is_empty above)) (slice offset len) ts v refl refl refl (left_in (slice offset len) above refl (λ e. refl) ts v.1 (front_of read (cache_sites id (slice offset len ∷ above) ts) [] (back_of read (own_site id above (slice offset len) ts) _ h)))
    left above (rose n (scan sources info hive predicate output kind options) ts) v h = plain_node (not (is_empty above)) (scan sources info hive predicate output kind options) ts v refl refl refl (left_in (scan sources info hive predicate output kind options) above refl (λ e. refl) ts v.1 (front_of read (cache_sites id (scan sources info hive predicate output kind options ∷ above) ts) [] (back_of read (own_site id above (scan sources info hive predicate output kind options) ts) _ h)))
    left above (rose n (frame_scan df stored output) ts) v h = plain_node (not (is_empty above)) (frame_scan df stored output) ts v refl refl refl (left_in (frame_scan df stored output) above refl (λ e. refl) ts v.1 (front_of read (cache_sites id (frame_scan df stored output ∷ above) ts) [] (back_of read (own_site id above (frame_scan df stored output) ts) _ h)))
    left above (rose n (select es stored options) ts) v h = plain_node (not (is_empty above)) (select es stored options) ts v refl refl refl (left_in (select es stored options) above refl (λ e. refl) ts v.1 (front_of read (cache_sites id (select es stored options ∷ above) ts) [] (back_of read (own_site id above (select es stored options) ts) _ h)))
    left above (rose n (hstack es stored options) ts) v h = plain_node (not (is_empty above)) (hstack es stored options) ts v refl refl refl (left_in (hstack es stored options) above refl (λ e. refl) ts v.1 (front_of read (cache_sites id (hstack es stored options ∷ above) ts) [] (back_of read (own_site id above (hstack es stored options) ts) _ h)))
    left above (rose n (sort keys part options) ts) v h = plain_node (not (is_empty above)) (sort keys part options) ts v refl refl refl (left_in (sort keys part options) above refl (λ e. refl) ts v.1 (front_of read (cache_sites id (sort keys part options ∷ above) ts) [] (back_of read (own_site id above (sort keys part options) ts) _ h)))
    left above (rose n (group_by keys aggs stored ordered options) ts) v h = plain_node (not (is_empty above)) (group_by keys aggs stored ordered options) ts v refl refl refl (left_in (group_by keys aggs stored ordered options) above refl (λ e. refl) ts v.1 (front_of read (cache_sites id (group_by keys aggs stored ordered options ∷ above) ts) [] (back_of read (own_site id above (group_by keys aggs stored ordered options) ts) _ h)))
    left above (rose n (join ls rs stored told) ts) v h = plain_node (not (is_empty above)) (join ls rs stored told) ts v refl refl refl (left_in (join ls rs stored told) above refl (λ e. refl) ts v.1 (front_of read (cache_sites id (join ls rs stored told ∷ above) ts) [] (back_of read (own_site id above (join ls rs stored told) ts) _ h)))
    left above (rose n (distinct options) ts) v h = plain_node (not (is_empty above)) (distinct options) ts v refl refl refl (left_in (distinct options) above refl (λ e. refl) ts v.1 (front_of read (cache_sites id (distinct options ∷ above) ts) [] (back_of read (own_site id above (distinct options) ts) _ h)))
    left above (rose n (map_function f) ts) v h = plain_node (not (is_empty above)) (map_function f) ts v refl refl refl (left_in (map_function f) above refl (λ e. refl) ts v.1 (front_of read (cache_sites id (map_function f ∷ above) ts) [] (back_of read (own_site id above (map_function f) ts) _ h)))
    left above (rose n (sink payload) ts) v h = plain_node (not (is_empty above)) (sink payload) ts v refl refl refl (left_in (sink payload) above refl (λ e. refl) ts v.1 (front_of read (cache_sites id (sink payload ∷ above) ts) [] (back_of read (own_site id above (sink payload) ts) _ h)))
    left above (rose n (union options) ts) v h = plain_node (not (is_empty above)) (union options) ts v refl refl refl (left_in (union options) above refl (λ e. refl) ts v.1 (front_of read (cache_sites id (union options ∷ above) ts) [] (back_of read (own_site id above (union options) ts) _ h)))
    left above (rose n (hconcat stored options) ts) v h = plain_node (not (is_empty above)) (hconcat stored options) ts v refl refl refl (left_in (hconcat stored options) above refl (λ e. refl) ts v.1 (front_of read (cache_sites id (hconcat stored options ∷ above) ts) [] (back_of read (own_site id above (hconcat stored options) ts) _ h)))
    left above (rose n invalid ts) v h = cc

    -- inputs below a node that names nothing refine
    pub left_in : (op : Op) (above : List Op) → names_below (op ∷ above) ≡ None → ((e : Named) → names_below (filter e ∷ op ∷ above) ≡ None) → (ts : Plans) → AllValid ts → AllRead read (cache_sites id (op ∷ above) ts) → EachRefines (narrowed_in id read ts) ts
    left_in op above none each no_roses v h = tt
    left_in op above none each (more (rose n o us) rest) v h =
        let own = own_site id (op ∷ above) o us in
        let here : AllRead read (cache_sites id (op ∷ above) (more (rose n o us) no_roses)) = both_of read own (cache_sites id (o ∷ op ∷ above) us ++ []) (front_of read own _ h) (both_of read (cache_sites id (o ∷ op ∷ above) us) [] (front_of read (cache_sites id (o ∷ op ∷ above) us) _ (back_of read own _ h)) tt) in (
          whole (narrowed id read true (rose n o us)) (rose n o us) (seen id read true (rose n o us)) (whole_below id read op above none each (rose n o us) here) (left (op ∷ above) (rose n o us) (v.0, v.1) here),
          left_in op above none each rest v.2 (back_of read (cache_sites id (o ∷ op ∷ above) us) _ (back_of read own _ h)),
        )

  -- what is left of a plan refines it, where all that is read of its sites is read
  pub narrowed_left : (p : Plan) → IsValid p → AllRead read (cache_sites id [] (more p no_roses)) → Refines (narrowed id read false p) p
  narrowed_left (rose n op ts) v h = whole (narrowed id read false (rose n op ts)) (rose n op ts) (seen id read false (rose n op ts)) (top op ts h) (left [] (rose n op ts) v h)
    where
      top : (op : Op) (ts : Plans) → AllRead read (cache_sites id [] (more (rose n op ts) no_roses)) → seen id read false (rose n op ts) ≡ all
      top (filter e) ts h = whole_filter id read [] e ts (schema_by (filter e) (schemas ts)) refl (front_of read (cache_sites id (filter e ∷ []) ts) [] h)
      top op ts h = refl

-- narrowing the sites of a number to all that is read of them refines
pub narrowed_refines : ((read : Option (List Name)) (p : Plan) → IsValid p → Narrows (renewed read p) p (wanted read (schema p))) → (id : ℕ) (p : Plan) → IsValid p → Refines (narrowed id (names_read (cache_sites id [] (more p no_roses))) false p) p
narrowed_refines renews id p v = narrowed_left renews id (names_read (cache_sites id [] (more p no_roses))) p v (together (cache_sites id [] (more p no_roses)))
