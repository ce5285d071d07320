-- A grouping that keeps its keys and what is asked of its aggregates narrows.
use Rattle.std.proofs.Common.{◌≡◌, ℕ, Bool, true, false, List, [], ◌∷◌, ◌++◌, map, refl, sym, ap, ap₂, ◌∙◌, subst, ⊎_elim}
use Rattle.std.specs.List.{AllByRecursion, IsDistinct, filter as only_where}
use Rattle.std.specs.Str.{bytes_eq}
use Rattle.std.proofs.lemmas.List.{map-append}
use Rattle.std.proofs.lemmas.List.Sums.{fold-append}
use Rattle.plan_core.specs.Columns.{Columns, names_of, type_of, with_types}
use Rattle.plan_core.specs.Names.{has, AreDistinct}
use Rattle.plan_expr.specs.Exprs.{Named}
use Rattle.plan_expr.specs.Leaves.{Name}
use Rattle.plan_ir.specs.Plans.{group_by}
use Rattle.plan_options.specs.declared.distinct.UniqueKeepStrategy.TheVariants.{First}
use Rattle.plan_options.specs.declared.group.GroupbyOptions.{GroupbyOptions}
use Rattle.plan_frame.specs.Grouping.{gathered, group_exprs, over_keys, row_exprs}
use Rattle.plan_frame.specs.Made.{made_column, made_schema, made, made_columns, grouped}
use Rattle.plan_frame.specs.ExprLists.{out_names, all_leaves}
use Rattle.plan_meaning.specs.Typing.{checks, AllHold}
use Rattle.plan_frame.specs.Frames.{Frame, Column, found, with_column, with_columns, rows_at, Agree}
use Rattle.plan_frame.specs.Meaning.{Cell, are_alike}
use Rattle.plan_frame.specs.Orders.{AreKept, key_cells}
use Rattle.plan_meaning.specs.Relating.{Asked, all, names, Holding, NarrowColumns}
use Rattle.plan_meaning.specs.Asked.{is_asked, set_of, kept_exprs, grouping_names, Fair}
use Rattle.plan_frame.proofs.NameSets.{has_front, has_back, has_either, adds_names}
use Rattle.plan_frame.proofs.FrameLemmas.{agree_fewer, agree_rows}
use Rattle.plan_meaning.proofs.CheckParts.{MadeGood, made_good, good_made}
use Rattle.plan_meaning.proofs.KeptColumns.{types_kept, columns_kept}
use Rattle.plan_frame.proofs.MadeColumns.{some-made}
use Rattle.plan_meaning.proofs.KeptExprs.{all_append, all_where, all_kept_exprs, kept-all, kept_named, distinct_where, names-join, names-kept, kept-named}
use Rattle.plan_frame.proofs.GroupLemmas.{all_front, all_back, gathered-names, group_reads, row_reads, leaves-join}
use Rattle.plan_pruned.specs.Pruned.{typed_names}
use Rattle.plan_pruned.proofs.NarrowLemmas.{Local, one_step}
use Rattle.plan_pruned.proofs.OrderNarrows.{same_keys}
use Rattle.plan_pruned.proofs.ProjectionNarrows.{some_is}
use Rattle.plan_schema.proofs.StoredLemmas.{same_is}
use Rattle.plan_pruned.proofs.MadeNarrows.{SameLeaves, same_made, same_values, set_types, set_frames, once_names, left_stored, left_made}

-- names that differ still do where some of the last are left out
distinct_left : (test : Name → Bool) (xs ys : List Name) → AreDistinct (xs ++ ys) → AreDistinct (xs ++ only_where test ys)
unfolding IsDistinct
distinct_left test [] ys d = distinct_where test ys d
distinct_left test (x ∷ xs) ys d =
    let P : Name → Type 0 = λ y. bytes_eq x y ≡ false in
    (all_append P xs (only_where test ys) (all_front P xs ys d.0) (all_where P test ys (all_back P xs ys d.0)), distinct_left test xs ys d.1)

-- the names of a grouping's expressions
group-names : (keys aggs : List Named) → out_names (group_exprs keys aggs) ≡ out_names keys ++ out_names aggs
group-names keys aggs = names-join keys (map gathered aggs) ∙ ap (λ (l : List Name). out_names keys ++ l) (gathered-names aggs)

module _ (keys aggs : List Named) (schema : Columns) (ordered : Bool) (options : GroupbyOptions) (s : Columns) (good : AllHold (checks (group_by keys aggs schema ordered options) (s ∷ []))) where
  parts : MadeGood [] (group_exprs keys aggs) schema s
  parts = made_good [] (group_exprs keys aggs) schema s good.1

  -- what is kept, over an input with the same types at what that reads
  module _ (a : Asked) (r : Columns) (same : SameLeaves (kept_exprs a aggs ++ keys) r s) where
    abbrev kept : List Named
    kept = kept_exprs a aggs

    abbrev ks : List Named
    ks = group_exprs keys (kept_exprs a aggs)

    sub : (P : Named → Type 0) → AllByRecursion P (group_exprs keys aggs) → AllByRecursion P (group_exprs keys (kept_exprs a aggs))
    sub P h =
        all_append P keys (map gathered kept) (all_front P keys (map gathered aggs) h)
        (subst (AllByRecursion P) (kept-named gathered (λ e. refl) a aggs) (all_kept_exprs P a (map gathered aggs) (all_back P keys (map gathered aggs) h)))

    same_group : SameLeaves (group_exprs keys (kept_exprs a aggs)) r s
    same_group b i = same b (group_reads keys kept b i)

    once : AreDistinct (out_names (group_exprs keys (kept_exprs a aggs)))
    once =
        subst AreDistinct (ap (λ (l : List Name). out_names keys ++ l) (sym (names-kept a aggs)) ∙ sym (group-names keys kept))
        (distinct_left (is_asked a) (out_names keys) (out_names aggs) (subst AreDistinct (group-names keys aggs) (once_names [] (group_exprs keys aggs) schema s parts)))

    -- the checks on it hold with the columns that it makes
    left_good : (stored : Columns) → stored ≡ made_schema [] (group_exprs keys (kept_exprs a aggs)) r → AllHold (checks (group_by keys (kept_exprs a aggs) stored ordered options) (r ∷ []))
    left_good stored is = (good.0, good_made [] ks stored r (left_made [] (group_exprs keys aggs) schema s parts ks sub r same_group [] stored once is))

    -- and these are what is stored of them
    stored-left : with_types [] (typed_names schema (out_names (keys ++ kept_exprs a aggs))) ≡ made_schema [] (group_exprs keys (kept_exprs a aggs)) r
    stored-left =
        ap (λ (l : List Name). with_types [] (typed_names schema l)) (names-join keys kept ∙ sym (group-names keys kept))
        ∙ ap (with_types []) (left_stored [] (group_exprs keys aggs) schema s parts ks sub r same_group)

    -- over frames that agree on what is read rows are in one group where they are in one of the other
    kept_rows : (f g : Frame) (rows : List ℕ) → Agree (all_leaves (kept_exprs a aggs ++ keys)) f g → AreKept ordered First (are_alike (key_cells keys f)) f.height rows → AreKept ordered First (are_alike (key_cells keys g)) g.height rows
    kept_rows f g rows ag h =
        let cells = same_keys keys f g (agree_fewer (all_leaves keys) (all_leaves (kept ++ keys)) f g (λ b i. subst (λ (l : List Name). has l b ≡ true) (sym (leaves-join kept keys)) (has_back (all_leaves kept) (all_leaves keys) b i)) ag) in
        subst (λ (cs : List Cell). AreKept ordered First (are_alike cs) g.height rows) cells (subst (λ (n : ℕ). AreKept ordered First (are_alike (key_cells keys f)) n rows) ag.height h)

    abbrev by_rows : List Named → Frame → List Column
    by_rows es g = with_columns [] (made_columns g.height g es)

    -- its columns in each row are the same
    same_rows : (f g : Frame) → Agree (all_leaves (kept_exprs a aggs ++ keys)) f g → with_columns [] (made_columns f.height f (row_exprs keys (kept_exprs a aggs))) ≡ with_columns [] (made_columns g.height g (row_exprs keys (kept_exprs a aggs)))
    same_rows f g ag =
        let es = row_exprs keys kept in
        ap (with_columns []) (same_values f.height es f g (agree_fewer (all_leaves es) (all_leaves (kept ++ keys)) f g (λ b i. row_reads keys kept b i) ag) ∙ ap (λ (n : ℕ). made_columns n g es) ag.height)

    -- columns of keys, and then of aggregates in each row
    rows-join : (h : ℕ) (g : Frame) (es : List Named) → with_columns [] (made_columns h g (keys ++ es)) ≡ with_columns (with_columns [] (made_columns h g keys)) (made_columns h g es)
    rows-join h g es = ap (with_columns []) (map-append _ keys es) ∙ fold-append with_column [] (made_columns h g keys) (made_columns h g es)

    found-kept : (g : Frame) (b : Name) → is_asked a b ≡ true → found (with_columns [] (made_columns g.height g (row_exprs keys (kept_exprs a aggs)))) b ≡ found (with_columns [] (made_columns g.height g (row_exprs keys aggs))) b
    found-kept g b q =
        let base = with_columns [] (made_columns g.height g keys) in
        let over = map (over_keys keys) aggs in
        ap (λ (cs : List Column). found cs b) (rows-join g.height g (map (over_keys keys) kept))
        ∙ ap (λ (es : List Named). found (with_columns base (made_columns g.height g es)) b) (sym (kept-named (over_keys keys) (λ e. refl) a aggs))
        ∙ columns_kept g.height g a base over b q
        ∙ ap (λ (cs : List Column). found cs b) (sym (rows-join g.height g over))

    type-kept : (b : Name) → is_asked a b ≡ true → type_of (made_schema [] (group_exprs keys (kept_exprs a aggs)) r) b ≡ type_of (made_schema [] (group_exprs keys aggs) s) b
    type-kept b q =
        let base = made_schema [] keys s in
        ap (λ (cs : Columns). type_of (with_types [] cs) b) (same_made ks r s same_group)
        ∙ ap (λ (cs : Columns). type_of cs b) (types-join (map gathered kept))
        ∙ ap (λ (es : List Named). type_of (made_schema base es s) b) (sym (kept-named gathered (λ e. refl) a aggs))
        ∙ types_kept s a base (map gathered aggs) b q
        ∙ ap (λ (cs : Columns). type_of cs b) (sym (types-join (map gathered aggs)))
      where
        types-join : (es : List Named) → made_schema [] (keys ++ es) s ≡ made_schema (made_schema [] keys s) es s
        types-join es = ap (with_types []) (map-append (made_column s) keys es) ∙ fold-append _ [] (map (made_column s) keys) (map (made_column s) es)

  -- asked some names

  module _ (wanted : List Name) (fair : Fair wanted (made_schema [] (group_exprs keys aggs) s)) (r : Columns) (h : NarrowColumns (set_of (grouping_names keys (kept_exprs (names wanted) aggs) wanted s)) r s) where
    abbrev read : List Name
    read = grouping_names keys (kept_exprs (names wanted) aggs) wanted s

    abbrev left : List Named
    left = kept_exprs (names wanted) aggs

    reads : (b : Name) → has (all_leaves (kept_exprs (names wanted) aggs ++ keys)) b ≡ true → has (grouping_names keys (kept_exprs (names wanted) aggs) wanted s) b ≡ true
    reads b i = adds_names (only_where (has (names_of s)) wanted) (all_leaves (left ++ keys)) b i

    same_read : SameLeaves (kept_exprs (names wanted) aggs ++ keys) r s
    same_read b i = set_types read r s h b (reads b i)

    within_names : (b : Name) → has (out_names (group_exprs keys (kept_exprs (names wanted) aggs))) b ≡ true → has (out_names (group_exprs keys aggs)) b ≡ true
    within_names b i =
        subst (λ (l : List Name). has l b ≡ true) (sym (group-names keys aggs))
        (⊎_elim
        (λ (j : has (out_names keys) b ≡ true). has_front (out_names keys) (out_names aggs) b j)
        (λ (j : has (out_names left) b ≡ true). has_back (out_names keys) (out_names aggs) b (kept_named (names wanted) aggs b j).0)
        (has_either (out_names keys) (out_names left) b (subst (λ (l : List Name). has l b ≡ true) (group-names keys left) i)))

    holds : Holding wanted (made_schema [] (group_exprs keys (kept_exprs (names wanted) aggs)) r) (made_schema [] (group_exprs keys aggs) s)
    holds = record {
      held = λ b i. let t = some_is (type_of (made_schema [] (group_exprs keys aggs) s) b) (fair.known b i) in (t.0, type-kept (names wanted) r same_read b i ∙ t.1, t.1);
      within = λ b e. some-made s [] (group_exprs keys aggs) b ∙ within_names b (sym (some-made r [] (group_exprs keys left) b) ∙ e);
    }

    agrees : (f g : Frame) (rows : List ℕ) → Agree (all_leaves (kept_exprs (names wanted) aggs ++ keys)) f g → Agree wanted (grouped keys (kept_exprs (names wanted) aggs) rows f) (grouped keys aggs rows g)
    agrees f g rows ag =
        agree_rows (λ b. b) wanted rows (made f.height [] (row_exprs keys left) f) (made g.height [] (row_exprs keys aggs) g) (record {
          height = ag.height;
          same = λ b i. ap (λ (cs : List Column). found cs b) (same_rows (names wanted) r same_read f g ag) ∙ found-kept (names wanted) r same_read g b i;
        })

    -- a grouping that keeps its keys and what is asked, over an input that narrows at what it asks
    pub local_grouped : Local (group_by keys (kept_exprs (names wanted) aggs) (with_types [] (typed_names schema (out_names (keys ++ kept_exprs (names wanted) aggs)))) ordered options) (group_by keys aggs schema ordered options) (set_of (grouping_names keys (kept_exprs (names wanted) aggs) wanted s) ∷ []) (names wanted) (r ∷ []) (s ∷ [])
    local_grouped =
        let stored = with_types [] (typed_names schema (out_names (keys ++ left))) in
        let op = group_by keys aggs schema ordered options in
        record {
          good = left_good (names wanted) r same_read stored (stored-left (names wanted) r same_read);
          schema = holds;
          fits = λ c k. k;
          step = λ c fs gs f k hr has ag st. one_step c (group_by keys left stored ordered options) op (set_of read) (names wanted) r s
              (λ f0 g0 f hr hs ag st.
              let on = agree_fewer (all_leaves (left ++ keys)) read f0 g0 reads (set_frames read f0 g0 ag) in
              (grouped keys aggs st.0 g0, (st.0, kept_rows (names wanted) r same_read f0 g0 st.0 on st.1, refl), subst (λ (x : Frame). Agree wanted x (grouped keys aggs st.0 g0)) (sym st.2) (agrees f0 g0 st.0 on))) fs gs f hr has ag st;
        }

  -- asked everything

  module _ (r : Columns) (h : NarrowColumns (set_of (grouping_names keys (kept_exprs all aggs) [] s)) r s) where
    abbrev whole : List Name
    whole = grouping_names keys (kept_exprs all aggs) [] s

    all_reads : (b : Name) → has (all_leaves (kept_exprs all aggs ++ keys)) b ≡ true → has (grouping_names keys (kept_exprs all aggs) [] s) b ≡ true
    all_reads b i = adds_names [] (all_leaves (kept_exprs all aggs ++ keys)) b i

    same_all : SameLeaves (kept_exprs all aggs ++ keys) r s
    same_all b i = set_types whole r s h b (all_reads b i)

    same-schema : made_schema [] (group_exprs keys (kept_exprs all aggs)) r ≡ made_schema [] (group_exprs keys aggs) s
    same-schema =
        ap (with_types []) (same_made (group_exprs keys (kept_exprs all aggs)) r s (same_group all r same_all))
        ∙ ap (λ (es : List Named). made_schema [] (group_exprs keys es) s) (kept-all aggs)

    -- a grouping of which everything is asked, over an input that narrows at what it asks
    pub whole_grouped : Local (group_by keys aggs schema ordered options) (group_by keys aggs schema ordered options) (set_of (grouping_names keys (kept_exprs all aggs) [] s) ∷ []) all (r ∷ []) (s ∷ [])
    whole_grouped =
        let op = group_by keys aggs schema ordered options in
        let is : schema ≡ made_schema [] (group_exprs keys (kept_exprs all aggs)) r = same_is schema (made_schema [] (group_exprs keys aggs) s) parts.same ∙ sym same-schema in
        record {
          good = subst (λ (es : List Named). AllHold (checks (group_by keys es schema ordered options) (r ∷ []))) (kept-all aggs) (left_good all r same_all schema is);
          schema = ap (λ (es : List Named). made_schema [] (group_exprs keys es) r) (sym (kept-all aggs)) ∙ same-schema;
          fits = λ c k. k;
          step = λ c fs gs f k hr has ag st. one_step c op op (set_of whole) all r s
              (λ f0 g0 f hr hs ag st.
              let on = agree_fewer (all_leaves (kept_exprs all aggs ++ keys)) whole f0 g0 all_reads (set_frames whole f0 g0 ag) in
              (grouped keys aggs st.0 g0, (st.0, kept_rows all r same_all f0 g0 st.0 on st.1, refl), st.2 ∙ alike f0 g0 st.0 on)) fs gs f hr has ag st;
        }
      where
        alike : (f g : Frame) (rows : List ℕ) → Agree (all_leaves (kept_exprs all aggs ++ keys)) f g → grouped keys aggs rows f ≡ grouped keys aggs rows g
        alike f g rows ag =
            ap₂ (λ (n : ℕ) (cs : List Column). rows_at rows (record { height = n; columns = cs })) ag.height
            (subst (λ (es : List Named). with_columns [] (made_columns f.height f (row_exprs keys es)) ≡ with_columns [] (made_columns g.height g (row_exprs keys es))) (kept-all aggs) (same_rows all r same_all f g ag))
