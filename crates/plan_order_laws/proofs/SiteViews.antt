-- What is left of a site, and of a filter on it, is seen at the names that are read; all else is seen whole.
use Rattle.std.proofs.Common.{◌≡◌, ℕ, ◌==◌, ◌⊎◌, inl, inr, ◌&&◌, ◌||◌, Bool, true, false, cond, List, [], ◌∷◌, ◌++◌, Option, None, Some, refl, ap, ◌∙◌, subst}
use Rattle.std.specs.List.{filter as only_where}
use Rattle.plan_core.specs.Columns.{Columns, names_of}
use Rattle.plan_core.specs.Names.{has}
use Rattle.plan_tree.specs.Rose.{Roses, rose, no_roses, more}
use Rattle.plan_expr.specs.Exprs.{Named}
use Rattle.plan_expr.specs.Leaves.{Name, leaves}
use Rattle.plan_ir.specs.Plans.{Op, slice, filter, scan, frame_scan, simple_projection, select, hstack, sort, group_by, join, distinct, map_function, sink, union, hconcat, cache, invalid, Plan}
use Rattle.plan_meaning.specs.Asked.{set_of}
use Rattle.plan_meaning.specs.PlanAt.{one_plan}
use Rattle.plan_meaning.specs.Relating.{Asked, all}
use Rattle.plan_meaning.specs.Typing.{schema, schema_by, schemas}
use Rattle.plan_frame.proofs.NameSets.{has_back, has_front}
use Rattle.plan_order_laws.specs.CacheSites.{AllRead, CacheSite, Reads, both_names, cache_sites, conditions_below, names_below, names_read, own_site, wanted}
use Rattle.plan_order_laws.specs.Handled.{is_cache, is_place}

-- a node is a filter
abbrev pub is_filter : Op → Bool
is_filter (filter predicate) = true
is_filter op = false

reads_front : (ns ms l : Option (List Name)) → Reads ns l → Reads (both_names ns ms) l
reads_front None ms l h = tt
reads_front (Some n) None l h = tt
reads_front (Some n) (Some m) None h = absurd h
reads_front (Some n) (Some m) (Some l) h = λ a i. has_front n m a (h a i)

reads_back : (ns ms l : Option (List Name)) → Reads ms l → Reads (both_names ns ms) l
reads_back None ms l h = tt
reads_back (Some n) None l h = tt
reads_back (Some n) (Some m) None h = absurd h
reads_back (Some n) (Some m) (Some l) h = λ a i. has_back n m a (h a i)

reads_itself : (ns : Option (List Name)) → Reads ns ns
reads_itself None = tt
reads_itself (Some n) = λ a i. i

-- all sites read what is read of them together
pub together : (ss : List CacheSite) → AllRead (names_read ss) ss
together [] = tt
together (s ∷ ss) = (reads_front s.names (names_read ss) s.names (reads_itself s.names), each ss (names_read ss) (together ss))
  where
    each : (xs : List CacheSite) (ms : Option (List Name)) → AllRead ms xs → AllRead (both_names s.names ms) xs
    each [] ms h = tt
    each (x ∷ xs) ms h = (reads_back s.names ms x.names h.0, each xs ms h.1)

pub front_of : (read : Option (List Name)) (xs ys : List CacheSite) → AllRead read (xs ++ ys) → AllRead read xs
front_of read [] ys h = tt
front_of read (x ∷ xs) ys h = (h.0, front_of read xs ys h.1)

pub back_of : (read : Option (List Name)) (xs ys : List CacheSite) → AllRead read (xs ++ ys) → AllRead read ys
back_of read [] ys h = h
back_of read (x ∷ xs) ys h = back_of read xs ys h.1

pub both_of : (read : Option (List Name)) (xs ys : List CacheSite) → AllRead read xs → AllRead read ys → AllRead read (xs ++ ys)
both_of read [] ys h k = k
both_of read (x ∷ xs) ys h k = (h.0, both_of read xs ys h.1 k)

module _ (id : ℕ) (read : Option (List Name)) where
  -- whether a node is a site, or a filter on one
  abbrev pub is_cut : Bool → Op → Roses (Unit {0}) Op → Bool
  is_cut under op ts = (under && is_cache id op) || (is_filter op && is_place id ts)

  abbrev pub seen_if : Bool → Columns → Asked
  seen_if true s = wanted read s
  seen_if false s = all

  -- how a plan, under a parent or not, is seen once its sites are narrowed
  abbrev pub seen : Bool → Plan → Asked
  seen under (rose n op ts) = seen_if (is_cut under op ts) (schema_by op (schemas ts))

  -- a site that is read whole leaves nothing to see less of
  whole_site : (above : List Op) (vs : Roses (Unit {0}) Op) (k hits : ℕ) (o : Op) (s : Columns) (b : Bool) → (k == id) ≡ b → names_below (o ∷ above) ≡ None → AllRead read (own_site id (o ∷ above) (cache k hits) vs) → seen_if b s ≡ all
  whole_site above vs k hits o s false e none h = refl
  whole_site above vs k hits o s true e none h = at read (subst (Reads read) none (subst (λ (c : Bool). AllRead read (cond c (record { names = names_below (o ∷ above); conditions = conditions_below (o ∷ above); input = one_plan vs } ∷ []) [])) e h).0)
    where
      at : (r : Option (List Name)) → Reads r None → wanted r s ≡ all
      at None h = refl
      at (Some l) h = absurd h

  no_place : (us : Roses (Unit {0}) Op) → is_place id us ≡ false → (s : Columns) → seen_if (is_place id us) s ≡ all
  no_place us e s = ap (λ (b : Bool). seen_if b s) e

  -- a filter on a site that is read whole
  pub whole_filter : (above : List Op) (e : Named) (us : Roses (Unit {0}) Op) (s : Columns) → names_below (filter e ∷ above) ≡ None → AllRead read (cache_sites id (filter e ∷ above) us) → seen_if (is_place id us) s ≡ all
  whole_filter above e no_roses s none h = refl
  whole_filter above e (more (rose m (cache k hits) vs) no_roses) s none h = whole_site above vs k hits (filter e) s (k == id) refl none (front_of read (own_site id (filter e ∷ above) (cache k hits) vs) _ h)
  whole_filter above e (more (rose m (slice offset len) vs) no_roses) s none h = refl
  whole_filter above e (more (rose m (filter p) vs) no_roses) s none h = refl
  whole_filter above e (more (rose m (scan sources info hive predicate output kind options) vs) no_roses) s none h = refl
  whole_filter above e (more (rose m (frame_scan df schema output) vs) no_roses) s none h = refl
  whole_filter above e (more (rose m (simple_projection cs) vs) no_roses) s none h = refl
  whole_filter above e (more (rose m (select es schema options) vs) no_roses) s none h = refl
  whole_filter above e (more (rose m (hstack es schema options) vs) no_roses) s none h = refl
  whole_filter above e (more (rose m (sort keys part options) vs) no_roses) s none h = refl
  whole_filter above e (more (rose m (group_by keys aggs schema ordered options) vs) no_roses) s none h = refl
  whole_filter above e (more (rose m (join ls rs schema told) vs) no_roses) s none h = refl
  whole_filter above e (more (rose m (distinct options) vs) no_roses) s none h = refl
  whole_filter above e (more (rose m (map_function f) vs) no_roses) s none h = refl
  whole_filter above e (more (rose m (sink payload) vs) no_roses) s none h = refl
  whole_filter above e (more (rose m (union options) vs) no_roses) s none h = refl
  whole_filter above e (more (rose m (hconcat schema options) vs) no_roses) s none h = refl
  whole_filter above e (more (rose m invalid vs) no_roses) s none h = refl
  whole_filter above e (more (rose m o vs) (more q rest)) s none h = refl

  -- below a node that names nothing, a plan is seen whole
  pub whole_below : (op : Op) (above : List Op) → names_below (op ∷ above) ≡ None → ((e : Named) → names_below (filter e ∷ op ∷ above) ≡ None) → (t : Plan) → AllRead read (cache_sites id (op ∷ above) (more t no_roses)) → seen true t ≡ all
  whole_below op above none each (rose m (cache k hits) us) h = at (k == id) refl
    where
      at : (b : Bool) → (k == id) ≡ b → seen_if ((k == id) || false) (schema_by (cache k hits) (schemas us)) ≡ all
      at b e = ap (λ (c : Bool). seen_if c (schema_by (cache k hits) (schemas us))) (or_false (k == id)) ∙ whole_site above us k hits op (schema_by (cache k hits) (schemas us)) (k == id) refl none (front_of read (own_site id (op ∷ above) (cache k hits) us) _ h)
        where
          or_false : (b : Bool) → (b || false) ≡ b
          or_false true = refl
          or_false false = refl
  whole_below op above none each (rose m (filter e) us) h = whole_filter (op ∷ above) e us (schema_by (filter e) (schemas us)) (each e) (front_of read (cache_sites id (filter e ∷ op ∷ above) us) [] h)
  whole_below op above none each (rose m (slice offset len) us) h = refl
  whole_below op above none each (rose m (scan sources info hive predicate output kind options) us) h = refl
  whole_below op above none each (rose m (frame_scan df schema output) us) h = refl
  whole_below op above none each (rose m (simple_projection cs) us) h = refl
  whole_below op above none each (rose m (select es schema options) us) h = refl
  whole_below op above none each (rose m (hstack es schema options) us) h = refl
  whole_below op above none each (rose m (sort keys part options) us) h = refl
  whole_below op above none each (rose m (group_by keys aggs schema ordered options) us) h = refl
  whole_below op above none each (rose m (join ls rs schema told) us) h = refl
  whole_below op above none each (rose m (distinct options) us) h = refl
  whole_below op above none each (rose m (map_function f) us) h = refl
  whole_below op above none each (rose m (sink payload) us) h = refl
  whole_below op above none each (rose m (union options) us) h = refl
  whole_below op above none each (rose m (hconcat schema options) us) h = refl
  whole_below op above none each (rose m invalid us) h = refl

  -- below a projection, a plan is seen whole, or at names that the projection's are among
  pub record Through (cs : Columns) (t : Plan) (s : Columns) : Type 0 where
    pub names : List Name
    pub is : read ≡ Some names
    pub among : (a : Name) → has (names_of cs) a ≡ true → has names a ≡ true
    pub at : seen true t ≡ set_of (only_where (has names) (names_of s))

  through_if : (cs : Columns) (t : Plan) (s : Columns) (ns : List Name) → ((a : Name) → has (names_of cs) a ≡ true → has ns a ≡ true) → (b : Bool) → seen true t ≡ seen_if b s → (b ≡ true → Reads read (Some ns)) → (seen true t ≡ all) ⊎ Through cs t s
  through_if cs t s ns sub false e h = inl e
  through_if cs t s ns sub true e h = by read refl (h refl)
    where
      by : (r : Option (List Name)) → read ≡ r → Reads r (Some ns) → (seen true t ≡ all) ⊎ Through cs t s
      by None f h = inl (e ∙ ap (λ (r : Option (List Name)). wanted r s) f)
      by (Some l) f h = inr (record { names = l; is = f; among = λ a i. h a (sub a i); at = e ∙ ap (λ (r : Option (List Name)). wanted r s) f })

  own_reads : (above : List Op) (vs : Roses (Unit {0}) Op) (k hits : ℕ) (o : Op) (ns : List Name) → names_below (o ∷ above) ≡ Some ns → AllRead read (own_site id (o ∷ above) (cache k hits) vs) → (k == id) ≡ true → Reads read (Some ns)
  own_reads above vs k hits o ns named h e = subst (Reads read) named (subst (λ (c : Bool). AllRead read (cond c (record { names = names_below (o ∷ above); conditions = conditions_below (o ∷ above); input = one_plan vs } ∷ []) [])) e h).0

  or_false : (b : Bool) → (b || false) ≡ b
  or_false true = refl
  or_false false = refl

  through_filter : (cs : Columns) (above : List Op) (e : Named) (us : Roses (Unit {0}) Op) → AllRead read (cache_sites id (filter e ∷ simple_projection cs ∷ above) us) → (is_place id us ≡ true → Reads read (Some (leaves e.expr ++ names_of cs)))
  through_filter cs above e no_roses h f = cc
  through_filter cs above e (more (rose m (cache k hits) vs) no_roses) h f = own_reads (simple_projection cs ∷ above) vs k hits (filter e) (leaves e.expr ++ names_of cs) refl (front_of read (own_site id (filter e ∷ simple_projection cs ∷ above) (cache k hits) vs) _ h) f
  through_filter cs above e (more (rose m (slice offset len) vs) no_roses) h f = cc
  through_filter cs above e (more (rose m (filter p) vs) no_roses) h f = cc
  through_filter cs above e (more (rose m (scan sources info hive predicate output kind options) vs) no_roses) h f = cc
  through_filter cs above e (more (rose m (frame_scan df schema output) vs) no_roses) h f = cc
  through_filter cs above e (more (rose m (simple_projection ds) vs) no_roses) h f = cc
  through_filter cs above e (more (rose m (select es schema options) vs) no_roses) h f = cc
  through_filter cs above e (more (rose m (hstack es schema options) vs) no_roses) h f = cc
  through_filter cs above e (more (rose m (sort keys part options) vs) no_roses) h f = cc
  through_filter cs above e (more (rose m (group_by keys aggs schema ordered options) vs) no_roses) h f = cc
  through_filter cs above e (more (rose m (join ls rs schema told) vs) no_roses) h f = cc
  through_filter cs above e (more (rose m (distinct options) vs) no_roses) h f = cc
  through_filter cs above e (more (rose m (map_function g) vs) no_roses) h f = cc
  through_filter cs above e (more (rose m (sink payload) vs) no_roses) h f = cc
  through_filter cs above e (more (rose m (union options) vs) no_roses) h f = cc
  through_filter cs above e (more (rose m (hconcat schema options) vs) no_roses) h f = cc
  through_filter cs above e (more (rose m invalid vs) no_roses) h f = cc
  through_filter cs above e (more (rose m o vs) (more q rest)) h f = cc

  pub through : (cs : Columns) (above : List Op) (t : Plan) (s : Columns) → schemas (more t no_roses) ≡ s ∷ [] → AllRead read (cache_sites id (simple_projection cs ∷ above) (more t no_roses)) → (seen true t ≡ all) ⊎ Through cs t s
  through cs above (rose m (cache k hits) us) s is h =
      through_if cs (rose m (cache k hits) us) s (names_of cs) (λ a i. i) (k == id) (ap (λ (c : Bool). seen_if c (schema_by (cache k hits) (schemas us))) (or_false (k == id)) ∙ ap (seen_if (k == id)) (one_is is))
      (own_reads above us k hits (simple_projection cs) (names_of cs) refl (front_of read (own_site id (simple_projection cs ∷ above) (cache k hits) us) _ h))
    where
      one_is : {x y : Columns} → x ∷ [] ≡ y ∷ [] → x ≡ y
      one_is e = cc
  through cs above (rose m (filter e) us) s is h =
      through_if cs (rose m (filter e) us) s (leaves e.expr ++ names_of cs) (λ a i. has_back (leaves e.expr) (names_of cs) a i) (is_place id us) (ap (seen_if (is_place id us)) (one_is is))
      (through_filter cs above e us (front_of read (cache_sites id (filter e ∷ simple_projection cs ∷ above) us) [] h))
    where
      one_is : {x y : Columns} → x ∷ [] ≡ y ∷ [] → x ≡ y
      one_is e = cc
  through cs above (rose m (slice offset len) us) s is h = inl refl
  through cs above (rose m (scan sources info hive predicate output kind options) us) s is h = inl refl
  through cs above (rose m (frame_scan df schema output) us) s is h = inl refl
  through cs above (rose m (simple_projection ds) us) s is h = inl refl
  through cs above (rose m (select es schema options) us) s is h = inl refl
  through cs above (rose m (hstack es schema options) us) s is h = inl refl
  through cs above (rose m (sort keys part options) us) s is h = inl refl
  through cs above (rose m (group_by keys aggs schema ordered options) us) s is h = inl refl
  through cs above (rose m (join ls rs schema told) us) s is h = inl refl
  through cs above (rose m (distinct options) us) s is h = inl refl
  through cs above (rose m (map_function f) us) s is h = inl refl
  through cs above (rose m (sink payload) us) s is h = inl refl
  through cs above (rose m (union options) us) s is h = inl refl
  through cs above (rose m (hconcat schema options) us) s is h = inl refl
  through cs above (rose m invalid us) s is h = inl refl

  -- below a filter, what is no site is seen whole
  pub whole_unplaced : (e : Named) (above : List Op) (t : Plan) → is_place id (more t no_roses) ≡ false → AllRead read (cache_sites id (filter e ∷ above) (more t no_roses)) → seen true t ≡ all
  whole_unplaced e above (rose m (cache k hits) us) p h = ap (λ (c : Bool). seen_if (c || false) (schema_by (cache k hits) (schemas us))) p
  whole_unplaced e above (rose m (filter e') us) p h = whole_filter (filter e ∷ above) e' us (schema_by (filter e') (schemas us)) refl (front_of read (cache_sites id (filter e' ∷ filter e ∷ above) us) [] h)
  whole_unplaced e above (rose m op us) p h = refl

  -- a filter on a site stands below a projection, where the site isn't read whole
  pub leaves_read : (e : Named) (above : List Op) (names : List Name) → Reads (Some names) (names_below (filter e ∷ above)) → (a : Name) → has (leaves e.expr) a ≡ true → has names a ≡ true
  leaves_read e (simple_projection cs ∷ above) names h a i = h a (has_front (leaves e.expr) (names_of cs) a i)
  leaves_read e [] names h a i = absurd h
  leaves_read e (op ∷ above) names h a i = absurd h

  pub place_reads : (e : Named) (above : List Op) (t : Plan) → is_place id (more t no_roses) ≡ true → AllRead read (cache_sites id (filter e ∷ above) (more t no_roses)) → Reads read (names_below (filter e ∷ above)) × (seen true t ≡ wanted read (schema t))
  place_reads e above (rose m (cache k hits) us) p h = (
    (subst (λ (c : Bool). AllRead read (cond c (record { names = names_below (filter e ∷ above); conditions = conditions_below (filter e ∷ above); input = one_plan us } ∷ []) [])) p (front_of read (own_site id (filter e ∷ above) (cache k hits) us) _ h)).0,
    ap (λ (c : Bool). seen_if (c || false) (schema_by (cache k hits) (schemas us))) p,
  )
  place_reads e above (rose m op us) p h = cc
