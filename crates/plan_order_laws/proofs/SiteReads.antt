-- The input of a site, narrowed: its names, and what its scans read.
use Rattle.std.proofs.Common.{◌≡◌, Bool, true, false, cond, ◌||◌, List, [], ◌∷◌, ◌++◌, Option, None, Some, is_some, refl, sym, ap, ap₂, ◌∙◌, subst, append-nil, append_assoc}
use Rattle.std.specs.List.{AllByRecursion, IsDistinct, filter as only_where}
use Rattle.std.specs.Str.{bytes_eq}
use Rattle.plan_core.specs.Columns.{Columns, names_of, type_of}
use Rattle.plan_core.specs.Names.{AreDistinct, has, with_names}
use Rattle.plan_core.proofs.ColumnLemmas.{flip_false}
use Rattle.plan_tree.specs.Rose.{rose, no_roses, more}
use Rattle.plan_expr.specs.Leaves.{Name}
use Rattle.plan_frame.proofs.NameSets.{some-type_of}
use Rattle.plan_ir.specs.Plans.{simple_projection, Plan}
use Rattle.plan_meaning.specs.Asked.{kept, set_of, sites, sites_of}
use Rattle.plan_meaning.specs.Relating.{all, names as these}
use Rattle.plan_meaning.specs.Scans.{scans}
use Rattle.plan_meaning.specs.Steps.{IsValid}
use Rattle.plan_meaning.specs.Typing.{schema, schema_by, schemas}
use Rattle.plan_meaning.proofs.AskedSets.{column_passes}
use Rattle.plan_meaning.proofs.CheckParts.{pass_names, projection_good}
use Rattle.plan_meaning.proofs.KeptExprs.{where_has, has_where}
use Rattle.plan_pruned.specs.Pruned.{covered, typed_names}
use Rattle.plan_pruned.specs.Reads.{ReadWithin}
use Rattle.plan_pruned.proofs.CoverNarrows.{names-are}
use Rattle.plan_pruned.proofs.PrunedNarrows.{pruned_refines}
use Rattle.plan_pruned.proofs.PrunedReads.{pruned_reads}
use Rattle.plan_schema.specs.Stored.{stored_by, stored_all}
use Rattle.plan_order_laws.specs.CacheSites.{cut_to, names_left, names_or_own, read_of, renewed, under_projection}
use Rattle.plan_order_laws.proofs.RenewedNarrows.{fair_names, stored_is}
use Rattle.plan_order_laws.proofs.SiteCuts.{left_distinct, left_known, site_valid}

-- Names that are told once

none_more : (pre : List Name) (a b : Name) → has pre b ≡ false → bytes_eq b a ≡ false → has (pre ++ a ∷ []) b ≡ false
none_more [] a b h e = ap (λ (t : Bool). t || false) e
none_more (c ∷ pre) a b h e = at (bytes_eq b c) h (λ k. none_more pre a b k e)
  where
    at : (t : Bool) → (t || has pre b) ≡ false → (has pre b ≡ false → has (pre ++ a ∷ []) b ≡ false) → (t || has (pre ++ a ∷ []) b) ≡ false
    at true h by = cc
    at false h by = by h

-- names of which none is told yet are told after the others
once : (pre l : List Name) → AreDistinct l → AllByRecursion (λ (b : Name). has pre b ≡ false) l → with_names pre l ≡ pre ++ l
unfolding IsDistinct
once pre [] d h = sym (append-nil pre)
once pre (a ∷ l) d h =
    ap (λ (t : Bool). with_names (cond t pre (pre ++ a ∷ [])) l) h.0
    ∙ once (pre ++ a ∷ []) l d.1 (each l d.0 h.1)
    ∙ append_assoc pre (a ∷ []) l
  where
    each : (m : List Name) → AllByRecursion (λ (y : Name). bytes_eq a y ≡ false) m → AllByRecursion (λ (b : Name). has pre b ≡ false) m → AllByRecursion (λ (b : Name). has (pre ++ a ∷ []) b ≡ false) m
    each [] d h = tt
    each (b ∷ m) d h = (none_more pre a b h.0 (flip_false a b d.0), each m d.1 h.1)

none_told : (l : List Name) → AllByRecursion (λ (b : Name). has [] b ≡ false) l
none_told [] = tt
none_told (b ∷ l) = (refl, none_told l)

told_once : (l : List Name) → AreDistinct l → with_names [] l ≡ l
told_once l d = once [] l d (none_told l)

-- Columns that are kept

kept_all : (s : Columns) → kept all s ≡ s
kept_all [] = refl
kept_all (c ∷ s) = ap (λ (cs : Columns). c ∷ cs) (kept_all s)

kept_names : (l : List Name) (s : Columns) → names_of (kept (these l) s) ≡ only_where (has l) (names_of s)
kept_names l [] = refl
kept_names l (c ∷ s) = at (has l c.0) (kept_names l s)
  where
    at : (b : Bool) → names_of (kept (these l) s) ≡ only_where (has l) (names_of s) → names_of (cond b (c ∷ kept (these l) s) (kept (these l) s)) ≡ cond b (c.0 ∷ only_where (has l) (names_of s)) (only_where (has l) (names_of s))
    at true e = ap (λ (m : List Name). c.0 ∷ m) e
    at false e = e

where_same : (f g : Name → Bool) (l : List Name) → AllByRecursion (λ (b : Name). f b ≡ g b) l → only_where f l ≡ only_where g l
where_same f g [] h = refl
where_same f g (b ∷ l) h = ap₂ (λ (t : Bool) (m : List Name). cond t (b ∷ m) m) h.0 (where_same f g l h.1)

where_all : (l : List Name) → only_where (λ (b : Name). true) l ≡ l
where_all [] = refl
where_all (b ∷ l) = ap (λ (m : List Name). b ∷ m) (where_all l)

-- what is read of names is all that is read of them again
where_read : (read : Option (List Name)) (l : List Name) → only_where (has (read_of read l)) l ≡ read_of read l
where_read None l = where_same (has l) (λ (b : Name). true) l (pass_names (λ (b : Name). has l b ≡ true) l (λ b i. i)) ∙ where_all l
where_read (Some r) l = where_same (has (only_where (has r) l)) (has r) l (pass_names (λ (b : Name). has (only_where (has r) l) b ≡ has r b) l (λ b i. at b i (has r b) refl (has (only_where (has r) l) b) refl))
  where
    at : (b : Name) → has l b ≡ true → (t : Bool) → has r b ≡ t → (u : Bool) → has (only_where (has r) l) b ≡ u → u ≡ t
    at b i true e true f = refl
    at b i false e false f = refl
    at b i true e false f = sym f ∙ has_where (has r) l b e i
    at b i false e true f = sym (where_has (has r) l b f).1 ∙ e

-- What is asked below a projection

below_projection : (n : Unit {0}) (s : Columns) (p : Plan) (l : List Name) → names_of s ≡ l → AreDistinct l → sites_of (rose n (simple_projection s) (more p no_roses)) ≡ sites (more p no_roses) (set_of l ∷ [])
below_projection n s p l e d =
    append-nil (sites (more p no_roses) (set_of (with_names [] (names_of (kept all s))) ∷ []))
    ∙ ap (λ (m : List Name). sites (more p no_roses) (set_of m ∷ [])) (ap (λ (cs : Columns). with_names [] (names_of cs)) (kept_all s) ∙ ap (with_names []) e ∙ told_once l d)

through_projection : (n : Unit {0}) (s : Columns) (p : Plan) (a : Name) (l : List Name) → only_where (has (a ∷ l)) (names_of s) ≡ a ∷ l → AreDistinct (a ∷ l) → sites (more (rose n (simple_projection s) (more p no_roses)) no_roses) (these (a ∷ l) ∷ []) ≡ sites (more p no_roses) (these (a ∷ l) ∷ [])
through_projection n s p a l e d =
    append-nil (sites (more p no_roses) (set_of (with_names [] (names_of (kept (these (a ∷ l)) s))) ∷ []))
    ∙ ap (λ (m : List Name). sites (more p no_roses) (set_of m ∷ [])) (ap (with_names []) (kept_names (a ∷ l) s ∙ e) ∙ told_once (a ∷ l) d)

other : (l : List Name) (p : Plan) → under_projection p ≡ p → sites_of (cut_to l p) ≡ sites_of (covered l p)
other [] p e = refl
other (a ∷ l) p e = ap (λ (q : Plan). sites_of (covered (a ∷ l) q)) e

-- the plan that is pruned asks what a projection on the input asks
pub cut_sites : (read : Option (List Name)) (p : Plan) → IsValid p → sites_of (cut_to (names_left read p) p) ≡ sites_of (covered (names_left read p) p)
cut_sites read (rose n (simple_projection cs) (more (rose m o us) no_roses)) v = at (read_of read (names_of cs)) refl
  where
    p : Plan
    p = rose n (simple_projection cs) (more (rose m o us) no_roses)

    y : Plan
    y = rose m o us

    good_known : (b : Name) → has (names_of cs) b ≡ true → has (names_of (schema_by o (schemas us))) b ≡ true
    good_known b i = sym (some-type_of (schema_by o (schemas us)) b) ∙ column_passes (λ (x : Name). is_some (type_of (schema_by o (schemas us)) x) ≡ true) cs (projection_good cs (schema_by o (schemas us)) v.0).known b i

    at : (l : List Name) → read_of read (names_of cs) ≡ l → sites_of (cut_to l (rose n (simple_projection cs) (more (rose m o us) no_roses))) ≡ sites_of (covered l (rose n (simple_projection cs) (more (rose m o us) no_roses)))
    at [] e = refl
    at (a ∷ l) e =
        let d : AreDistinct (a ∷ l) = subst AreDistinct e (left_distinct read (rose n (simple_projection cs) (more (rose m o us) no_roses)) v) in
        let among : (b : Name) → has (a ∷ l) b ≡ true → has (names_of cs) b ≡ true = λ b i. left_known read (rose n (simple_projection cs) (more (rose m o us) no_roses)) v b (ap (λ (x : List Name). has x b) e ∙ i) in
        let low : names_of (typed_names (stored_by o (stored_all us)) (a ∷ l)) ≡ a ∷ l =
        subst (λ (s : Columns). names_of (typed_names s (a ∷ l)) ≡ a ∷ l) (sym (stored_is (rose m o us) (v.1.0, v.1.1)))
        (names-are (a ∷ l) (schema_by o (schemas us)) (fair_names a l (schema_by o (schemas us)) d (λ b i. good_known b (among b i)))) in
        let high : names_of (typed_names cs (a ∷ l)) ≡ a ∷ l = names-are (a ∷ l) cs (fair_names a l cs d among) in
        below_projection tt (typed_names (stored_by o (stored_all us)) (a ∷ l)) (rose m o us) (a ∷ l) low d
        ∙ sym (below_projection tt (typed_names cs (a ∷ l)) (rose n (simple_projection cs) (more (rose m o us) no_roses)) (a ∷ l) high d
        ∙ through_projection n cs (rose m o us) a l (subst (λ (x : List Name). only_where (has x) (names_of cs) ≡ x) e (where_read read (names_of cs))) d)
cut_sites read (rose n (simple_projection cs) no_roses) v = cc
cut_sites read (rose n (simple_projection cs) (more (rose m o us) (more (rose k q vs) rest))) v = cc
cut_sites read (rose n op ts) v = other (names_left read (rose n op ts)) (rose n op ts) refl

-- the scans of the input of a site, narrowed, read only what they may for what a projection to the names that are read asks of them
pub renewed_reads : (read : Option (List Name)) (p : Plan) → IsValid p → ReadWithin (scans (renewed read p)) (sites_of (covered (names_left read p) p))
renewed_reads read p v = subst (ReadWithin (scans (renewed read p))) (cut_sites read p v) (pruned_reads true (cut_to (names_left read p) p) (site_valid read p v))

-- The names of the input

under_valid : (p : Plan) → IsValid p → IsValid (under_projection p)
under_valid (rose n (simple_projection cs) (more (rose m o us) no_roses)) v = (v.1.0, v.1.1)
under_valid (rose n (simple_projection cs) no_roses) v = cc
under_valid (rose n (simple_projection cs) (more (rose m o us) (more (rose k q vs) rest))) v = cc
under_valid (rose n op ts) v = v

under_known : (p : Plan) → IsValid p → (b : Name) → has (names_of (schema p)) b ≡ true → has (names_of (schema (under_projection p))) b ≡ true
under_known (rose n (simple_projection cs) (more (rose m o us) no_roses)) v b i =
    let s = schema_by o (schemas us) in
    sym (some-type_of s b) ∙ column_passes (λ (x : Name). is_some (type_of s x) ≡ true) cs (projection_good cs s v.0).known b i
under_known (rose n (simple_projection cs) no_roses) v b i = cc
under_known (rose n (simple_projection cs) (more (rose m o us) (more (rose k q vs) rest))) v b i = cc
under_known (rose n op ts) v b i = i

cut_names : (l : List Name) (p : Plan) → IsValid p → AreDistinct l → ((b : Name) → has l b ≡ true → has (names_of (schema p)) b ≡ true) → names_of (schema (cut_to l p)) ≡ names_or_own l (names_of (schema p))
cut_names [] p v d known = refl
cut_names (a ∷ l) p v d known =
    let q = under_projection p in
    subst (λ (s : Columns). names_of (typed_names s (a ∷ l)) ≡ a ∷ l) (sym (stored_is q (under_valid p v)))
    (names-are (a ∷ l) (schema q) (fair_names a l (schema q) d (λ b i. under_known p v b (known b i))))

-- the input of a site, narrowed, has the names that are read of those that it had, in their order, or all where none is
pub renewed_names : (read : Option (List Name)) (p : Plan) → IsValid p → names_of (schema (renewed read p)) ≡ names_or_own (read_of read (names_of (schema p))) (names_of (schema p))
renewed_names read p v =
    let l = names_left read p in
    ap names_of (pruned_refines true (cut_to l p) (site_valid read p v)).schema
    ∙ cut_names l p v (left_distinct read p v) (left_known read p v)
    ∙ ap (λ (s : Columns). names_or_own (read_of read (names_of s)) (names_of (schema p))) (stored_is p v)
