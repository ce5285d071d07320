-- The input of a site, pruned anew to what is read, narrows at that.
use Rattle.std.proofs.Common.{◌≡◌, ◌||◌, Bool, true, false, cond, List, [], ◌∷◌, Option, None, Some, is_some, option_map, refl, sym, ap, ap₂, ◌∙◌, subst}
use Rattle.std.specs.List.{AllByRecursion, cons_option, filter as only_where}
use Rattle.std.specs.Str.{bytes_eq}
use Rattle.plan_core.specs.declared.data_type.DataType.{DataType}
use Rattle.plan_core.specs.Columns.{Columns, HasDistinctNames, names_of, type_of}
use Rattle.plan_core.specs.Names.{AreDistinct, has}
use Rattle.plan_tree.specs.Rose.{rose, no_roses, more}
use Rattle.plan_expr.specs.Leaves.{Name}
use Rattle.plan_ir.specs.Plans.{simple_projection, Plan}
use Rattle.plan_frame.specs.Frames.{Frame, cut}
use Rattle.plan_frame.proofs.FrameLemmas.{is_type_some, weaker}
use Rattle.plan_frame.proofs.NameSets.{has_first, named, some-type_of}
use Rattle.plan_meaning.specs.Asked.{Fair, set_of}
use Rattle.plan_meaning.specs.Checks.{is_column}
use Rattle.plan_meaning.specs.Relating.{AgreeOn, Asked, Holding, NarrowColumns, Narrows, Refines, Relates, all}
use Rattle.plan_meaning.specs.Relating as relating
use Rattle.plan_meaning.specs.Steps.{IsValid, May}
use Rattle.plan_meaning.specs.Typing.{AllHold, checks, first_schema, schema, schema_by, schemas}
use Rattle.plan_meaning.proofs.DistinctColumns.{valid_once}
use Rattle.plan_meaning.specs.Contents.{Contents, Fits}
use Rattle.plan_meaning.proofs.AskedSets.{column_passes, has_some, some_name}
use Rattle.plan_meaning.proofs.CheckParts.{ProjectionGood, projection_good}
use Rattle.plan_meaning.proofs.KeptExprs.{distinct_where, where_has}
use Rattle.plan_meaning.proofs.Refining.{refines_refl, refines_trans}
use Rattle.plan_meaning.proofs.Runs.{may_has, valid_runs}
use Rattle.plan_pass_laws.proofs.WholeCuts.{cut_whole, own_types}
use Rattle.plan_pruned.proofs.CoverNarrows.{covered_exact, covered_narrows, cut_agrees, names-are as names-are-wanted}
use Rattle.plan_pruned.proofs.ProjectionNarrows.{some_is}
use Rattle.plan_pruned.proofs.PrunedNarrows.{pruned_refines}
use Rattle.plan_pruned.specs.Pruned.{covered, pruned, typed_names}
use Rattle.plan_schema.specs.Stored.{stored_all}
use Rattle.plan_schema.proofs.StoredLemmas.{stored-schemas}
use Rattle.plan_order_laws.specs.CacheSites.{pruned_to, read_of, renewed, under_projection, wanted}
use Rattle.plan_order_laws.proofs.NarrowedRefines.{refines_narrows, seen_whole}

typed_same : (s t : Columns) → AllByRecursion (λ (c : Name × DataType). type_of s c.0 ≡ Some c.1) t → typed_names s (names_of t) ≡ t
typed_same s [] h = refl
typed_same s (c ∷ t) h = ap₂ (λ (o : Option DataType) (cs : Columns). cons_option (option_map (λ (d : DataType). (c.0, d)) o) cs) h.0 (typed_same s t h.1)

-- what can be asked of columns: some of their names

pub fair_names : (a : Name) (l : List Name) (s : Columns) → AreDistinct (a ∷ l) → ((b : Name) → has (a ∷ l) b ≡ true → has (names_of s) b ≡ true) → Fair (a ∷ l) s
fair_names a l s d known = record { some = refl; once = d; known = λ b i. some-type_of s b ∙ known b i }

own_narrows : (a : Name) (l : List Name) (p : Plan) → IsValid p → Fair (a ∷ l) (schema p) → Narrows p p (relating.names (a ∷ l))
own_narrows a l p v fair = record {
  valid = v;
  schema = record { held = λ b i. let t = some_is (type_of (schema p) b) (fair.known b i) in (t.0, t.1, t.1); within = λ b e. e };
  fits = λ c k. k;
  run = λ c k. valid_runs c p v k;
  may = λ c f k m. (f, m, record { height = refl; same = λ b i. refl });
}

-- A plan under a projection to all its names

pub whole_covered : (a : Name) (l : List Name) (p : Plan) → IsValid p → names_of (schema p) ≡ a ∷ l → Refines (covered (a ∷ l) p) p
whole_covered a l p v e =
    let s = schema p in
    let d = valid_once p v in
    let fair = fair_names a l s (subst AreDistinct e d) (λ b i. ap (λ (x : List Name). has x b) e ∙ i) in
    let h = covered_exact a l p v fair p (own_narrows a l p v fair) in
    record {
      valid = h.valid;
      schema = h.schema ∙ ap (typed_names s) (sym e) ∙ typed_same s s (own_types s d);
      fits = h.fits;
      run = h.run;
      may = λ c f k m. let x = h.may c f k m in subst (May c p) (sym (x.2 ∙ ap (λ (n : List Name). cut n x.0) (sym e) ∙ cut_whole x.0 s (may_has c p x.0 v k x.1) d)) x.1;
    }

-- and a plan in the place of whose own projection another stands

module _ (cs : Columns) (y : Plan) (n : Unit {0}) (v : IsValid (rose n (simple_projection cs) (more y no_roses))) (vy : IsValid y) (t : Columns) (is : schemas (more y no_roses) ≡ t ∷ []) (st : schema y ≡ t) where
  abbrev p : Plan
  p = rose n (simple_projection cs) (more y no_roses)

  good : ProjectionGood cs t
  good = projection_good cs t (subst (λ (ss : List Columns). AllHold (checks (simple_projection cs) ss)) is v.0)

  typed : AllByRecursion (λ (c : Name × DataType). type_of t c.0 ≡ Some c.1) cs
  typed = weaker (λ (c : Name × DataType). is_column t c ≡ true) (λ (c : Name × DataType). type_of t c.0 ≡ Some c.1) cs (λ c e. is_type_some (type_of t c.0) c.1 e) good.typed

  known : (b : Name) → has (names_of cs) b ≡ true → has (names_of t) b ≡ true
  known b i = sym (some-type_of t b) ∙ column_passes (λ (x : Name). is_some (type_of t x) ≡ true) cs good.known b i

  same_types : (xs : Columns) → AllByRecursion (λ (c : Name × DataType). type_of t c.0 ≡ Some c.1) xs → (b : Name) → has (names_of xs) b ≡ true → type_of xs b ≡ type_of t b
  same_types [] h b i = cc
  same_types (c ∷ xs) h b i = at (λ j. same_types xs h.1 b j) (bytes_eq b c.0) refl
    where
      at : (has (names_of xs) b ≡ true → type_of xs b ≡ type_of t b) → (x : Bool) → bytes_eq b c.0 ≡ x → cond (bytes_eq b c.0) (Some c.1) (type_of xs b) ≡ type_of t b
      at rest true e = ap (λ (x : Bool). cond x (Some c.1) (type_of xs b)) e ∙ sym h.0 ∙ ap (type_of t) (sym (named b c.0 e))
      at rest false e = ap (λ (x : Bool). cond x (Some c.1) (type_of xs b)) e ∙ rest (ap (λ (x : Bool). x || has (names_of xs) b) (sym e) ∙ i)

  fits_below : (c : Contents) → Fits c (rose n (simple_projection cs) (more y no_roses)) → Fits c y
  fits_below c k = at y k
    where
      at : (q : Plan) → Fits c (rose n (simple_projection cs) (more q no_roses)) → Fits c q
      at (rose m o us) k = (k.1.0, k.1.1)

  may_above : (c : Contents) (g : Frame) → May c y g → May c (rose n (simple_projection cs) (more y no_roses)) (cut (names_of cs) g)
  may_above c g m = at y m
    where
      at : (q : Plan) → May c q g → May c (rose n (simple_projection cs) (more q no_roses)) (cut (names_of cs) g)
      at (rose m' o us) m = (g ∷ [], (m, tt), refl)

  whole_again : (a : Name) (l : List Name) → names_of cs ≡ a ∷ l → HasDistinctNames cs → Refines (covered (a ∷ l) y) (rose n (simple_projection cs) (more y no_roses))
  whole_again a l e d =
      let fair = fair_names a l (schema y) (subst AreDistinct e d) (λ b i. ap (λ (x : Columns). has (names_of x) b) st ∙ known b (ap (λ (x : List Name). has x b) e ∙ i)) in
      let h = covered_exact a l y vy fair y (own_narrows a l y vy fair) in
      record {
        valid = h.valid;
        schema = h.schema ∙ ap₂ typed_names st (sym e) ∙ typed_same t cs typed;
        fits = λ c k. h.fits c (fits_below c k);
        run = λ c k. h.run c (fits_below c k);
        may = λ c f k m. let x = h.may c f (fits_below c k) m in subst (May c p) (sym (x.2 ∙ ap (λ (z : List Name). cut z x.0) (sym e))) (may_above c x.0 x.1);
      }

  some_again : (a : Name) (l : List Name) → AreDistinct (a ∷ l) → HasDistinctNames cs → ((b : Name) → has (a ∷ l) b ≡ true → has (names_of cs) b ≡ true) → Narrows (covered (a ∷ l) y) (rose n (simple_projection cs) (more y no_roses)) (relating.names (a ∷ l))
  some_again a l d dc sub =
      let in_y : (b : Name) → has (a ∷ l) b ≡ true → has (names_of (schema y)) b ≡ true = λ b i. ap (λ (x : Columns). has (names_of x) b) st ∙ known b (sub b i) in
      let fair = fair_names a l (schema y) d in_y in
      let h = covered_narrows a l y vy fair in
      let exact = covered_exact a l y vy fair y (own_narrows a l y vy fair) in
      let some = has_some (names_of cs) (some_name (names_of cs) a (sub a (has_first a l))) in
      let fair_cs : Fair (names_of cs) (schema y) = record { some = some_name (names_of cs) a (sub a (has_first a l)); once = dc; known = λ b i. some-type_of (schema y) b ∙ ap (λ (x : Columns). has (names_of x) b) st ∙ known b i } in
      record {
        valid = h.valid;
        schema = record {
          held = λ b i. let x = h.schema.held b i in (x.0, x.1, same_types cs typed b (sub b i) ∙ ap (λ (z : Columns). type_of z b) (sym st) ∙ x.2);
          within = λ b i. some-type_of cs b ∙ sub b (ap (λ (z : List Name). has z b) (sym (ap names_of exact.schema ∙ names-are-wanted (a ∷ l) (schema y) fair)) ∙ sym (some-type_of (schema (covered (a ∷ l) y)) b) ∙ i);
        };
        fits = λ c k. h.fits c (fits_below c k);
        run = λ c k. h.run c (fits_below c k);
        may = λ c f k m.
            let x = h.may c f (fits_below c k) m in
            let cut_is = cut_agrees (names_of cs) (schema y) fair_cs x.0 (may_has c y x.0 vy (fits_below c k) x.1) in
            (cut (names_of cs) x.0, may_above c x.0 x.1, record { height = x.2.height; same = λ b i. x.2.same b i ∙ sym (cut_is.same b (sub b i)) });
      }

-- The input of a site

pub stored_is : (r : Plan) → IsValid r → first_schema (stored_all (more r no_roses)) ≡ schema r
stored_is (rose m o us) v = ap first_schema (stored-schemas (more (rose m o us) no_roses) (v.0, v.1, tt))

fresh_all : (q p : Plan) → Refines q p → Narrows (pruned true [] q) p all
fresh_all q p h = seen_whole (pruned true [] q) p all refl (refines_trans (pruned true [] q) q p (pruned_refines true q h.valid) h)

pub to_names : (a : Name) (l : List Name) (p : Plan) → IsValid p → AreDistinct (a ∷ l) → ((b : Name) → has (a ∷ l) b ≡ true → has (names_of (schema p)) b ≡ true) → Narrows (covered (a ∷ l) (under_projection p)) p (relating.names (a ∷ l))
to_names a l (rose n (simple_projection cs) (more (rose m o us) no_roses)) v d sub = some_again cs (rose m o us) n v (v.1.0, v.1.1) (schema_by o (schemas us)) refl refl a l d (valid_once (rose n (simple_projection cs) (more (rose m o us) no_roses)) v) sub
to_names a l (rose n (simple_projection cs) no_roses) v d sub = cc
to_names a l (rose n (simple_projection cs) (more (rose m o us) (more (rose m' o' us') rest))) v d sub = cc
to_names a l (rose n op ts) v d sub = covered_narrows a l (rose n op ts) v (fair_names a l (schema_by op (schemas ts)) d sub)

pub to_whole : (a : Name) (l : List Name) (p : Plan) → IsValid p → names_of (schema p) ≡ a ∷ l → Refines (covered (a ∷ l) (under_projection p)) p
to_whole a l (rose n (simple_projection cs) (more (rose m o us) no_roses)) v e = whole_again cs (rose m o us) n v (v.1.0, v.1.1) (schema_by o (schemas us)) refl refl a l e (valid_once (rose n (simple_projection cs) (more (rose m o us) no_roses)) v)
to_whole a l (rose n (simple_projection cs) no_roses) v e = cc
to_whole a l (rose n (simple_projection cs) (more (rose m o us) (more (rose m' o' us') rest))) v e = cc
to_whole a l (rose n op ts) v e = whole_covered a l (rose n op ts) v e

pub renews : (read : Option (List Name)) (p : Plan) → IsValid p → Narrows (renewed read p) p (wanted read (schema p))
renews read p v = subst (λ (s : Columns). Narrows (pruned_to (read_of read (names_of s)) p) p (wanted read (schema p))) (sym (stored_is p v)) (at read)
  where
    all_names : (ns : List Name) → names_of (schema p) ≡ ns → Narrows (pruned_to ns p) p all
    all_names [] e = fresh_all p p (refines_refl p v)
    all_names (a ∷ l) e = fresh_all (covered (a ∷ l) (under_projection p)) p (to_whole a l p v e)

    some_names : (names ns : List Name) → only_where (has names) (names_of (schema p)) ≡ ns → Narrows (pruned_to ns p) p (set_of ns)
    some_names names [] e = fresh_all p p (refines_refl p v)
    some_names names (a ∷ l) e =
        let d = subst AreDistinct e (distinct_where (has names) (names_of (schema p)) (valid_once p v)) in
        let h = to_names a l p v d (λ b i. (where_has (has names) (names_of (schema p)) b (ap (λ (x : List Name). has x b) e ∙ i)).0) in
        refines_narrows (relating.names (a ∷ l)) (pruned true [] (covered (a ∷ l) (under_projection p))) (covered (a ∷ l) (under_projection p)) p (pruned_refines true (covered (a ∷ l) (under_projection p)) h.valid) h

    at : (r : Option (List Name)) → Narrows (pruned_to (read_of r (names_of (schema p))) p) p (wanted r (schema p))
    at None = all_names (names_of (schema p)) refl
    at (Some names) = some_names names (only_where (has names) (names_of (schema p))) refl
