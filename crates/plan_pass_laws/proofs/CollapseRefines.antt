-- What collapse puts in the place of a plan refines it.
use Rattle.std.proofs.Common.{◌≡◌, ℕ, suc, ◌&&◌, Bool, true, false, not, cond, List, [], ◌∷◌, ◌++◌, map, replicate, append_assoc, Option, Some, None, is_some, unwrap_or, refl, sym, ap, ap₂, ◌∙◌, subst}
use Rattle.std.specs.Prelude.{option_and_then}
use Rattle.std.specs.List.{AllByRecursion}
use Rattle.std.specs.Str.{bytes_eq}
use Rattle.std.proofs.lemmas.Bool.{and_parts, cond-false, not-true, or_parts}
use Rattle.plan_core.specs.declared.data_type.DataType.{DataType}
use Rattle.plan_core.specs.declared.data_type.DataType.TheVariants as types
use Rattle.plan_core.specs.declared.options.ProjectionOptions.{ProjectionOptions}
use Rattle.plan_core.specs.Columns.{Columns, names_of, same_columns, type_of}
use Rattle.plan_core.specs.Names.{AreDistinct, has}
use Rattle.plan_tree.specs.Rose.{Roses, rose, no_roses, more}
use Rattle.plan_expr.specs.declared.expr_ir.OutputName.{OutputName}
use Rattle.plan_expr.specs.declared.expr_ir.OutputName.TheVariants as names
use Rattle.plan_expr.specs.Exprs.{column, Expr, Named}
use Rattle.plan_expr.specs.Leaves.{Name}
use Rattle.plan_expr.specs.Naming.{may_be_named, name_of, naming as naming_of}
use Rattle.plan_expr.specs.Scalars.{is_scalar}
use Rattle.plan_expr.specs.Types.{all_of}
use Rattle.plan_ir.specs.Plans.{Op, simple_projection, select, cache, Plan}
use Rattle.plan_frame.specs.Exprs.{expr_type, expr_types, is_type, op_type}
use Rattle.plan_frame.specs.ExprLists.{all_scalar, out_names}
use Rattle.plan_frame.specs.Frames.{Column, Frame, column_names, column_or, cut, table_columns, with_column, with_columns}
use Rattle.plan_frame.specs.Made.{made_column, made_columns, made_schema, selected}
use Rattle.plan_frame.specs.Meaning.{filled, many}
use Rattle.plan_frame.specs.Values.{Value, null}
use Rattle.plan_frame.proofs.FrameLemmas.{found-table, is_type_some, some_type_is, weaker}
use Rattle.plan_frame.proofs.MadeColumns.{names-made}
use Rattle.plan_frame.proofs.NameSets.{named, some-type_of}
use Rattle.plan_meaning.specs.Checks.{each_new, is_column, is_empty, is_known}
use Rattle.plan_meaning.specs.Contents.{Contents}
use Rattle.plan_meaning.specs.Relating.{Refines}
use Rattle.plan_meaning.specs.Steps.{IsValid, May, MayAll, Step}
use Rattle.plan_meaning.specs.Typing.{AllHold, checks, schema, schema_by, schemas}
use Rattle.plan_meaning.specs.Work.{is_plain}
use Rattle.plan_meaning.proofs.AskedSets.{columns_good}
use Rattle.plan_meaning.proofs.CheckParts.{MadeGood, made_good, projection_good}
use Rattle.plan_meaning.proofs.DistinctColumns.{valid_once}
use Rattle.plan_meaning.proofs.KeptColumns.{types_new}
use Rattle.plan_meaning.proofs.KeptExprs.{new_distinct}
use Rattle.plan_meaning.proofs.Runs.{may_has, valid_runs}
use Rattle.plan_core.proofs.SameLemmas.{same_columns-Decides}
use Rattle.plan_pass_laws.proofs.WholeCuts.{cut_whole}
use Rattle.plan_pass_laws.specs.AnswerCases.{IsOwn}
use Rattle.plan_pass_laws.specs.Answers.{are_own_columns, hits_of, is_alias, is_own_column}

abbrev Plans : Type 0
Plans = Roses (Unit {0}) Op

-- A column under its own name

column_types : (a : Name) (s : Columns) (o : Option (List DataType)) → is_some (option_and_then (op_type (column a) s) o) ≡ true → option_and_then (op_type (column a) s) o ≡ type_of s a
column_types a s None h = cc
column_types a s (Some ts) h = refl

own_column : (e : Named) (s : Columns) → is_own_column e ≡ true → may_be_named e.name (naming_of e.expr) ≡ true → is_some (expr_type e.expr s) ≡ true → IsOwn e s
own_column e s own may some =
    let p = and_parts (is_plain e.expr) (not (is_alias e.name)) own in
    at e.name e.expr p.0 (not-true (is_alias e.name) p.1) may some
  where
    at : (n : OutputName) (x : Expr) → is_plain x ≡ true → is_alias n ≡ false → may_be_named n (naming_of x) ≡ true → is_some (expr_type x s) ≡ true → IsOwn (record { name = n; expr = x }) s
    at (names.ColumnLhs b) (rose m (column a) es) p q may some =
        let same = named b a may in
        record { value = λ g. ap (λ (c : Name). many (column_or g c)) (sym same); typed = column_types a s (all_of (expr_types es s)) some ∙ ap (type_of s) (sym same); many_rows = refl }
    at (names.LiteralLhs b) (rose m (column a) es) p q may some = cc
    at (names.Alias b) (rose m (column a) es) p q may some = cc
    at names.None (rose m (column a) es) p q may some = cc
    at n (rose m op es) p q may some = cc

own_columns : (es : List Named) (s : Columns) → are_own_columns es ≡ true → AllByRecursion (λ (e : Named). may_be_named e.name (naming_of e.expr) ≡ true) es → AllByRecursion (λ (e : Named). is_some (expr_type e.expr s) ≡ true) es → AllByRecursion (λ (e : Named). IsOwn e s) es
own_columns [] s own may some = tt
own_columns (e ∷ es) s own may some =
    let p = and_parts (is_own_column e) (are_own_columns es) own in
    (own_column e s p.0 may.0 some.0, own_columns es s p.1 may.1 some.1)

-- Selected columns are those of a projection

-- columns whose names are new go last, in their order
last_column : (cs : List Column) (c : Column) → has (column_names cs) c.name ≡ false → with_column cs c ≡ cs ++ c ∷ []
last_column [] c n = refl
last_column (d ∷ cs) c n =
    let p = or_parts (bytes_eq c.name d.name) (has (column_names cs) c.name) n in
    cond-false (bytes_eq c.name d.name) (c ∷ cs) (d ∷ with_column cs c) p.0 ∙ ap (λ (x : List Column). d ∷ x) (last_column cs c p.1)

shown_push : (cs : List Column) (c : Column) → column_names (cs ++ c ∷ []) ≡ column_names cs ++ c.name ∷ []
shown_push [] c = refl
shown_push (d ∷ cs) c = ap (λ (x : List Name). d.name ∷ x) (shown_push cs c)

columns_new : (k : ℕ) (base cs : List Column) → AllHold (each_new k (column_names base) (column_names cs)) → with_columns base cs ≡ base ++ cs
columns_new k base [] h = nothing base
  where
    nothing : (s : List Column) → s ≡ s ++ []
    nothing [] = refl
    nothing (c ∷ s) = ap (λ (x : List Column). c ∷ x) (nothing s)
columns_new k base (c ∷ cs) h =
    ap (λ (x : List Column). with_columns x cs) (last_column base c (not-true (has (column_names base) c.name) h.0))
    ∙ columns_new (suc k) (base ++ c ∷ []) cs (subst (λ (x : List Name). AllHold (each_new (suc k) x (column_names cs))) (sym (shown_push base c)) h.1)
    ∙ append_assoc base (c ∷ []) cs

made_shown : (h : ℕ) (g : Frame) (es : List Named) → column_names (made_columns h g es) ≡ out_names es
made_shown h g [] = refl
made_shown h g (e ∷ es) = ap (λ (x : List Name). name_of e.name ∷ x) (made_shown h g es)

made_table : (g : Frame) (s : Columns) (es : List Named) → AllByRecursion (λ (e : Named). IsOwn e s) es → made_columns g.height g es ≡ table_columns (out_names es) (column_or g)
made_table g s [] h = refl
made_table g s (e ∷ es) h = ap₂ (λ (vs : List Value) (cs : List Column). record { name = name_of e.name; values = vs } ∷ cs) (ap (filled g.height) (h.0.value g)) (made_table g s es h.1)

-- what a selection of columns gives is what a projection to their names does
pub selected_cut : (g : Frame) (s : Columns) (e : Named) (es : List Named) → AllByRecursion (λ (x : Named). IsOwn x s) (e ∷ es) → AllHold (each_new 1 [] (out_names (e ∷ es))) → selected (e ∷ es) g ≡ cut (out_names (e ∷ es)) g
selected_cut g s e es own once =
    let high : cond (is_scalar e.expr && all_scalar es) 1 g.height ≡ g.height = ap (λ (b : Bool). cond (b && all_scalar es) 1 g.height) own.0.many_rows in
    ap (λ (h : ℕ). record { height = h; columns = with_columns [] (made_columns h g (e ∷ es)) }) high
    ∙ ap (λ (cs : List Column). record { height = g.height; columns = cs }) (
    columns_new 1 [] (made_columns g.height g (e ∷ es)) (subst (λ (x : List Name). AllHold (each_new 1 [] x)) (sym (made_shown g.height g (e ∷ es))) once)
    ∙ made_table g s (e ∷ es) own)

own_typed : (s : Columns) (es : List Named) → AllByRecursion (λ (e : Named). IsOwn e s) es → AllByRecursion (λ (e : Named). is_some (expr_type e.expr s) ≡ true) es → AllByRecursion (λ (c : Name × DataType). is_column s c ≡ true) (map (made_column s) es)
own_typed s [] own some = tt
own_typed s (e ∷ es) own some = (at (expr_type e.expr s) some.0 (sym own.0.typed), own_typed s es own.1 some.1)
  where
    at : (o : Option DataType) → is_some o ≡ true → type_of s (name_of e.name) ≡ o → is_type (type_of s (name_of e.name)) (unwrap_or o types.Int64) ≡ true
    at None h t = cc
    at (Some d) h t = ap (λ (x : Option DataType). is_type x d) t ∙ some_type_is d

module _ (es : List Named) (stored : Columns) (options : ProjectionOptions) where
  -- the columns that are stored are those that the expressions make, in order
  stored_made : (s : Columns) → MadeGood [] es stored s → stored ≡ map (made_column s) es
  stored_made s good = (same_columns-Decides stored (made_schema [] es s) (same_columns stored (made_schema [] es s)) refl).0 good.same ∙ types_new 1 [] (map (made_column s) es) (subst (λ (x : List Name). AllHold (each_new 1 [] x)) (sym (names-made s es)) good.once)

  selects_good : (s : Columns) → are_own_columns es ≡ true → AllHold (checks (select es stored options) (s ∷ [])) → AllHold (checks (simple_projection stored) (s ∷ []))
  selects_good s own good =
      let made = made_good [] es stored s good.1 in
      let st = stored_made s made in
      subst (λ (x : Columns). AllHold (checks (simple_projection x) (s ∷ []))) (sym st) (
      columns_good s (map (made_column s) es) (some es good.0) (subst AreDistinct (sym (names-made s es)) (new_distinct 1 [] (out_names es) made.once)) (own_typed s es (own_columns es s own made.named made.typed) made.typed))
    where
      some : (xs : List Named) → not (is_empty xs) ≡ true → is_empty (map (made_column s) xs) ≡ false
      some [] h = cc
      some (x ∷ xs) h = refl

  selects_step : (c : Contents) (s : Columns) (g f : Frame) → are_own_columns es ≡ true → AllHold (checks (select es stored options) (s ∷ [])) → f ≡ cut (names_of stored) g → f ≡ selected es g
  selects_step c s g f own good e =
      let made = made_good [] es stored s good.1 in
      e ∙ ap (λ (x : Columns). cut (names_of x) g) (stored_made s made) ∙ ap (λ (x : List Name). cut x g) (names-made s es) ∙ sym (whole es good.0 (own_columns es s own made.named made.typed) made.once)
    where
      whole : (xs : List Named) → not (is_empty xs) ≡ true → AllByRecursion (λ (x : Named). IsOwn x s) xs → AllHold (each_new 1 [] (out_names xs)) → selected xs g ≡ cut (out_names xs) g
      whole [] h own once = cc
      whole (x ∷ xs) h own once = selected_cut g s x xs own once

  pub projected_refines : (ts : Plans) → are_own_columns es ≡ true → IsValid (rose tt (select es stored options) ts) → Refines (rose tt (simple_projection stored) ts) (rose tt (select es stored options) ts)
  projected_refines no_roses own v = cc
  projected_refines (more (rose m o vs) (more (rose m' o' vs') rest)) own v = cc
  projected_refines (more (rose n op us) no_roses) own v =
      let ts = more (rose n op us) no_roses in
      let s = schema_by op (schemas us) in
      let made = made_good [] es stored s v.0.1 in
      let vq : IsValid (rose tt (simple_projection stored) ts) = (selects_good s own v.0, v.1) in
      record {
        valid = vq;
        schema = (same_columns-Decides stored (made_schema [] es s) (same_columns stored (made_schema [] es s)) refl).0 made.same;
        fits = λ c k. k;
        run = λ c k. valid_runs c (rose tt (simple_projection stored) ts) vq k;
        may = λ c f k m. step c f m.0 m.1 m.2;
      }
    where
      step : (c : Contents) (f : Frame) (fs : List Frame) → MayAll c (more (rose n op us) no_roses) fs → Step c (simple_projection stored) fs f → May c (rose tt (select es stored options) (more (rose n op us) no_roses)) f
      step c f [] m st = absurd m
      step c f (g ∷ g' ∷ fs) m st = absurd st
      step c f (g ∷ []) m st = (g ∷ [], m, selects_step c (schema_by op (schemas us)) g f own v.0 st)

-- A projection on a projection

table_alike : (v w : Name → List Value) (cs : Columns) → AllByRecursion (λ (c : Name × DataType). v c.0 ≡ w c.0) cs → table_columns (names_of cs) v ≡ table_columns (names_of cs) w
table_alike v w [] h = refl
table_alike v w (c ∷ cs) h = ap₂ (λ (vs : List Value) (ds : List Column). record { name = c.0; values = vs } ∷ ds) h.0 (table_alike v w cs h.1)

pub cut_twice : (cs ds : Columns) (g : Frame) → AllByRecursion (λ (c : Name × DataType). is_known ds c.0 ≡ true) cs → cut (names_of cs) (cut (names_of ds) g) ≡ cut (names_of cs) g
cut_twice cs ds g known =
    ap (λ (x : List Column). record { height = g.height; columns = x }) (table_alike (column_or (cut (names_of ds) g)) (column_or g) cs (
    weaker (λ (c : Name × DataType). is_known ds c.0 ≡ true) (λ (c : Name × DataType). column_or (cut (names_of ds) g) c.0 ≡ column_or g c.0) cs (λ c h.
    ap (λ (o : Option (List Value)). unwrap_or o (replicate g.height null)) (found-table (column_or g) (names_of ds) c.0 (sym (some-type_of ds c.0) ∙ h))) known))

typed_below : (s ds : Columns) (a : Name) (t : DataType) → AllByRecursion (λ (d : Name × DataType). is_column s d ≡ true) ds → type_of ds a ≡ Some t → type_of s a ≡ Some t
typed_below s [] a t h e = cc
typed_below s (d ∷ ds) a t h e = at (λ i. typed_below s ds a t h.1 i) (bytes_eq a d.0) refl e
  where
    at : (type_of ds a ≡ Some t → type_of s a ≡ Some t) → (b : Bool) → bytes_eq a d.0 ≡ b → cond b (Some d.1) (type_of ds a) ≡ Some t → type_of s a ≡ Some t
    at rest true q e = ap (type_of s) (named a d.0 q) ∙ is_type_some (type_of s d.0) d.1 h.0 ∙ e
    at rest false q e = rest e

pub on_projection_refines : (cs ds : Columns) (us : Plans) → IsValid (rose tt (simple_projection cs) (more (rose tt (simple_projection ds) us) no_roses)) → Refines (rose tt (simple_projection cs) us) (rose tt (simple_projection cs) (more (rose tt (simple_projection ds) us) no_roses))
on_projection_refines cs ds no_roses v = cc
on_projection_refines cs ds (more (rose m o vs) (more (rose m' o' vs') rest)) v = cc
on_projection_refines cs ds (more (rose n op us) no_roses) v =
    let s = schema_by op (schemas us) in
    let upper = projection_good cs ds v.0 in
    let lower = projection_good ds s v.1.0 in
    let typed = weaker (λ (c : Name × DataType). is_column ds c ≡ true) (λ (c : Name × DataType). is_column s c ≡ true) cs (λ c h.
    ap (λ (x : Option DataType). is_type x c.1) (typed_below s ds c.0 c.1 lower.typed (is_type_some (type_of ds c.0) c.1 h)) ∙ some_type_is c.1) upper.typed in
    let vq : IsValid (rose tt (simple_projection cs) (more (rose n op us) no_roses)) = (columns_good s cs (not-true (is_empty cs) upper.some) (valid_once (rose tt (simple_projection cs) (more (rose tt (simple_projection ds) (more (rose n op us) no_roses)) no_roses)) v) typed, v.1.1) in
    record {
      valid = vq;
      schema = refl;
      fits = λ c k. (tt, k.1.1);
      run = λ c k. valid_runs c (rose tt (simple_projection cs) (more (rose n op us) no_roses)) vq (tt, k.1.1);
      may = λ c f k m. step upper.known c f m.0 m.1 m.2;
    }
  where
    step : AllByRecursion (λ (c : Name × DataType). is_known ds c.0 ≡ true) cs → (c : Contents) (f : Frame) (fs : List Frame) → MayAll c (more (rose n op us) no_roses) fs → Step c (simple_projection cs) fs f → May c (rose tt (simple_projection cs) (more (rose tt (simple_projection ds) (more (rose n op us) no_roses)) no_roses)) f
    step known c f [] m st = absurd m
    step known c f (g ∷ g' ∷ fs) m st = absurd st
    step known c f (g ∷ []) m st = (cut (names_of ds) g ∷ [], ((g ∷ [], m, refl), tt), st ∙ sym (cut_twice cs ds g known))

-- A projection to all that its input has

pub left_out_refines : (cs : Columns) (p : Plan) → same_columns cs (schema p) ≡ true → IsValid (rose tt (simple_projection cs) (more p no_roses)) → Refines p (rose tt (simple_projection cs) (more p no_roses))
left_out_refines cs (rose n op us) same v =
    let p : Plan = rose n op us in
    let e = (same_columns-Decides cs (schema p) (same_columns cs (schema p)) refl).0 same in
    let vp : IsValid p = (v.1.0, v.1.1) in
    record {
      valid = vp;
      schema = sym e;
      fits = λ c k. (k.1.0, k.1.1);
      run = λ c k. valid_runs c p vp (k.1.0, k.1.1);
      may = λ c f k m. (f ∷ [], (m, tt), sym (ap (λ (x : Columns). cut (names_of x) f) e ∙ cut_whole f (schema p) (may_has c p f vp (k.1.0, k.1.1) m) (valid_once p vp)));
    }

-- A cache on a cache

pub on_cache_refines : (i h j k : ℕ) (us : Plans) → IsValid (rose tt (cache i h) (more (rose tt (cache j k) us) no_roses)) → Refines (rose tt (cache j (hits_of h k)) us) (rose tt (cache i h) (more (rose tt (cache j k) us) no_roses))
on_cache_refines i h j k no_roses v = cc
on_cache_refines i h j k (more (rose m o vs) (more (rose m' o' vs') rest)) v = cc
on_cache_refines i h j k (more (rose n op us) no_roses) v =
    let vq : IsValid (rose tt (cache j (hits_of h k)) (more (rose n op us) no_roses)) = (tt, v.1.1) in
    record {
      valid = vq;
      schema = refl;
      fits = λ c x. (tt, x.1.1);
      run = λ c x. valid_runs c (rose tt (cache j (hits_of h k)) (more (rose n op us) no_roses)) vq (tt, x.1.1);
      may = λ c f x m. step c f m.0 m.1 m.2;
    }
  where
    step : (c : Contents) (f : Frame) (fs : List Frame) → MayAll c (more (rose n op us) no_roses) fs → Step c (cache j (hits_of h k)) fs f → May c (rose tt (cache i h) (more (rose tt (cache j k) (more (rose n op us) no_roses)) no_roses)) f
    step c f [] m st = absurd m
    step c f (g ∷ g' ∷ fs) m st = absurd st
    step c f (g ∷ []) m st = (f ∷ [], ((g ∷ [], m, st), tt), refl)
