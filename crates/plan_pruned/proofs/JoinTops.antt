-- What goes on top of a plan that has the asked columns under some names: nothing, a projection, or a selection of columns.
use Rattle.std.proofs.Common.{◌≡◌, ℕ, Bool, true, false, not, ◌&&◌, ◌||◌, cond, List, [], ◌∷◌, ◌++◌, map, Option, Some, unwrap_or, replicate, refl, sym, ap, ap₂, ◌∙◌, subst, is_some, ◌⊎◌, inl, inr, ⊎_elim, append-nil, append_assoc}
use Rattle.std.specs.List.{AllByRecursion, list_all}
use Rattle.std.specs.Str.{bytes_eq}
use Rattle.std.proofs.lemmas.Bool.{and_parts, both_ways, false_from_ne_true}
use Rattle.std.proofs.lemmas.List.{map-append}
use Rattle.plan_core.specs.declared.data_type.DataType.{DataType}
use Rattle.plan_core.specs.declared.data_type.DataType.TheVariants.{Int64}
use Rattle.plan_core.specs.Columns.{Columns, names_of, type_of}
use Rattle.plan_core.specs.Names.{has, AreDistinct}
use Rattle.plan_core.specs.Options.{default_projection}
use Rattle.plan_tree.specs.Rose.{rose, no_roses, more}
use Rattle.plan_expr.specs.declared.expr_ir.OutputName.TheVariants as output
use Rattle.plan_expr.specs.Exprs.{Named}
use Rattle.plan_expr.specs.Forms.{has_form}
use Rattle.plan_expr.specs.Leaves.{Name, leaves}
use Rattle.plan_expr.specs.Naming.{name_of, naming, may_be_named}
use Rattle.plan_ir.specs.Plans.{select, simple_projection, Plan}
use Rattle.plan_frame.specs.Exprs.{all_known, expr_type, is_type}
use Rattle.plan_frame.specs.ExprLists.{all_scalar, out_names}
use Rattle.plan_frame.specs.Frames.{Column, Frame, HasSchema, Agree, AgreeBy, column, column_names, column_or, cut, table, table_columns, with_column, with_columns}
use Rattle.plan_frame.specs.Made.{made_column, made_columns, made_schema, selected}
use Rattle.plan_frame.specs.Values.{Value, null}
use Rattle.plan_frame.proofs.FrameLemmas.{found-table, schema_holds, some_type_is}
use Rattle.plan_frame.proofs.MadeColumns.{names-made}
use Rattle.plan_frame.proofs.NameSets.{named, same_named, has-append, has_cons, has_first, has_later, some-type_of, distinct_cons}
use Rattle.plan_meaning.specs.Asked.{Fair}
use Rattle.plan_meaning.specs.Checks.{each_new, is_empty, is_column}
use Rattle.plan_meaning.specs.Relating.{Asked, names, Holding, Relates, NarrowColumns, AgreeOn, Narrows}
use Rattle.plan_meaning.specs.Steps.{IsValid}
use Rattle.plan_meaning.specs.Typing.{schema, AllHold}
use Rattle.plan_meaning.proofs.CheckParts.{good_made, is_same}
use Rattle.plan_meaning.proofs.KeptColumns.{types_new}
use Rattle.plan_meaning.proofs.Related.{relates_to, relates_top}
use Rattle.plan_pruned.specs.JoinPruned.{are_called_alike, named_now, renaming, topped}
use Rattle.plan_pruned.proofs.SideLemmas.{new_from}
use Rattle.plan_meaning.proofs.AskedSets.{columns_good}

-- the asked columns have one type in both, under the names that they have now in the first
pub record Renamed (now : Name → Name) (asked : List Name) (r s : Columns) : Type 0 where
  pub held : (a : Name) → has asked a ≡ true → (t : DataType) × (type_of r (now a) ≡ Some t) × (type_of s a ≡ Some t)

-- what a plan may be seen to have: what is asked, or some columns under other names
pub data View : Type 0 where
  seen : Asked → View
  renamed : (Name → Name) → List Name → View

abbrev pub SeeColumns : View → Columns → Columns → Type 0
SeeColumns (seen a) r s = NarrowColumns a r s
SeeColumns (renamed now asked) r s = Renamed now asked r s

abbrev pub SeeFrames : View → Frame → Frame → Type 0
SeeFrames (seen a) f g = AgreeOn a f g
SeeFrames (renamed now asked) f g = AgreeBy now asked f g

-- a plan has the asked columns of another, under other names
abbrev pub IsRenamed : (Name → Name) → List Name → Plan → Plan → Type 0
IsRenamed now asked q p = Relates (Renamed now asked) (AgreeBy now asked) q p

-- fewer names
pub renamed_fewer : (now : Name → Name) (wanted asked : List Name) (q p : Plan) → ((a : Name) → has asked a ≡ true → has wanted a ≡ true) → IsRenamed now wanted q p → IsRenamed now asked q p
renamed_fewer now wanted asked q p sub h = relates_to _ _ _ _ q p (record { held = λ a i. h.schema.held a (sub a i) }) (λ f g k. record { height = k.height; same = λ a i. k.same a (sub a i) }) h

-- columns with new names go last, in their order

last_column : (cs : List Column) (c : Column) → has (column_names cs) c.name ≡ false → with_column cs c ≡ cs ++ c ∷ []
last_column [] c n = refl
last_column (d ∷ cs) c n = at (bytes_eq c.name d.name) n (λ m. last_column cs c m)
  where
    at : (t : Bool) → (t || has (column_names cs) c.name) ≡ false → (has (column_names cs) c.name ≡ false → with_column cs c ≡ cs ++ c ∷ []) → cond t (c ∷ cs) (d ∷ with_column cs c) ≡ d ∷ (cs ++ c ∷ [])
    at true n r = cc
    at false n r = ap (λ (x : List Column). d ∷ x) (r n)

columns_new : (base : List Column) (l : List Name) (w : Name → List Value) → ((a : Name) → has l a ≡ true → has (column_names base) a ≡ false) → AreDistinct l → with_columns base (table_columns l w) ≡ base ++ table_columns l w
columns_new base [] w apart d = sym (append-nil base)
columns_new base (a ∷ l) w apart d =
    let c : Column = record { name = a; values = w a } in
    let rest = distinct_cons a l d in
    ap (λ (x : List Column). with_columns x (table_columns l w)) (last_column base c (apart a (has_first a l)))
    ∙ columns_new (base ++ c ∷ []) l w (λ b i.
    ap (λ (x : List Name). has x b) (map-append (λ (x : Column). x.name) base (c ∷ []))
    ∙ has-append (column_names base) (a ∷ []) b
    ∙ ap₂ (λ (x y : Bool). x || (y || false)) (apart b (has_later a l b i)) (false_from_ne_true (bytes_eq b a) (λ e. both_ways (has l a) rest.0 (subst (λ (x : Name). has l x ≡ true) (named b a e) i)))) rest.1
    ∙ append_assoc base (c ∷ []) (table_columns l w)

-- all in a list

all_named : (test : Name → Bool) (l : List Name) (a : Name) → list_all test l ≡ true → has l a ≡ true → test a ≡ true
all_named test [] a e i = cc
all_named test (b ∷ l) a e i =
    let p = and_parts (test b) (list_all test l) e in
    ⊎_elim (λ (q : a ≡ b). ap test q ∙ p.0) (λ (j : has l a ≡ true). all_named test l a p.1 j) (has_cons b l a i)

-- the columns under the names

module _ (now : Name → Name) (columns : Columns) where
  pub names-now : (l : List Name) → names_of (named_now now columns l) ≡ l
  names-now [] = refl
  names-now (a ∷ l) = ap (λ (x : List Name). a ∷ x) (names-now l)

  type-now : (l : List Name) (a : Name) → has l a ≡ true → type_of (named_now now columns l) a ≡ Some (unwrap_or (type_of columns (now a)) Int64)
  type-now [] a i = cc
  type-now (b ∷ l) a i = at (bytes_eq a b) refl (λ j. type-now l a j) (has_cons b l a i)
    where
      at : (t : Bool) → bytes_eq a b ≡ t → (has l a ≡ true → type_of (named_now now columns l) a ≡ Some (unwrap_or (type_of columns (now a)) Int64)) → (a ≡ b) ⊎ (has l a ≡ true) → cond t (Some (unwrap_or (type_of columns (now b)) Int64)) (type_of (named_now now columns l) a) ≡ Some (unwrap_or (type_of columns (now a)) Int64)
      at true e r i = ap (λ (x : Name). Some (unwrap_or (type_of columns (now x)) Int64)) (sym (named a b e))
      at false e r (inl p) = absurd (both_ways (bytes_eq a b) e (subst (λ (x : Name). bytes_eq a x ≡ true) p (same_named a)))
      at false e r (inr j) = r j

  each_now : (P : Name × DataType → Type 0) (l : List Name) → ((a : Name) → has l a ≡ true → P (a, unwrap_or (type_of columns (now a)) Int64)) → AllByRecursion P (named_now now columns l)
  each_now P [] h = tt
  each_now P (a ∷ l) h = (h a (has_first a l), each_now P l (λ b i. h b (has_later a l b i)))

some_or : (o : Option DataType) (t : DataType) → o ≡ Some t → Some (unwrap_or o Int64) ≡ Some t
some_or o t e = ap (λ (x : Option DataType). Some (unwrap_or x Int64)) e

module _ (now : Name → Name) (asked : List Name) (q p : Plan) (v : IsValid p) (fair : Fair asked (schema p)) (h : IsRenamed now asked q p) where
  abbrev r : Columns
  r = schema q

  abbrev s : Columns
  s = schema p

  abbrev columns : Columns
  columns = named_now now r asked

  -- the named columns are those of the plan
  holds : Holding asked columns s
  holds = record {
    held = λ a i. let k = h.schema.held a i in (k.0, type-now now r asked a i ∙ some_or (type_of r (now a)) k.0 k.1, k.2);
    within = λ a e. fair.known a (ap (λ (l : List Name). has l a) (sym (names-now now r asked)) ∙ sym (some-type_of columns a) ∙ e);
  }

  -- values under the asked names
  agrees : (w : Name → List Value) (f g : Frame) → HasSchema g s → AgreeBy now asked f g → ((a : Name) → has asked a ≡ true → w a ≡ column_or f (now a)) → Agree asked (table f.height asked w) g
  agrees w f g has' ag same = record {
    height = ag.height;
    same = λ a i.
        let k = h.schema.held a i in
        let held = schema_holds g s a k.0 has' k.2 in
        let here : column_or f (now a) ≡ held.0 = ap (λ (o : Option (List Value)). unwrap_or o (replicate f.height null)) (ag.same a i ∙ held.1) in
        found-table w asked a i ∙ ap (λ (x : List Value). Some x) (same a i ∙ here) ∙ sym held.1;
  }

  -- nothing on top
  pub bare_top : ((a : Name) → has asked a ≡ true → now a ≡ a) → ((a : Name) → is_some (type_of r a) ≡ true → is_some (type_of s a) ≡ true) → Narrows q p (names asked)
  bare_top same within = relates_to _ _ _ _ q p
      (record { held = λ a i. let k = h.schema.held a i in (k.0, ap (type_of r) (sym (same a i)) ∙ k.1, k.2); within = within })
      (λ f g k. record { height = k.height; same = λ a i. ap (column f) (sym (same a i)) ∙ k.same a i }) h

  -- a projection
  project_top : ((a : Name) → has asked a ≡ true → now a ≡ a) → Narrows (rose tt (simple_projection columns) (more q no_roses)) p (names asked)
  project_top same =
      let typed : (a : Name) → has asked a ≡ true → type_of r a ≡ Some (unwrap_or (type_of r (now a)) Int64) = λ a i.
      let k = h.schema.held a i in ap (type_of r) (sym (same a i)) ∙ k.1 ∙ sym (some_or (type_of r (now a)) k.0 k.1) in
      relates_top View SeeColumns SeeFrames (simple_projection columns) (renamed now asked) (seen (names asked)) q p
      (columns_good r columns (not_empty asked fair.some) (subst AreDistinct (sym (names-now now r asked)) fair.once)
      (each_now now r (λ (c : Name × DataType). is_column r c ≡ true) asked (λ a i. ap (λ (o : Option DataType). is_type o (unwrap_or (type_of r (now a)) Int64)) (typed a i) ∙ some_type_is (unwrap_or (type_of r (now a)) Int64))))
      holds (λ c. tt)
      (λ c f g x has' ag st. subst (λ (y : Frame). Agree asked y g) (sym (st ∙ ap (λ (l : List Name). cut l f) (names-now now r asked))) (agrees (column_or f) f g has'.0 ag (λ a i. ap (column_or f) (sym (same a i)))))
      v h
    where
      not_empty : (l : List Name) → is_empty l ≡ false → is_empty (named_now now r l) ≡ false
      not_empty [] e = cc
      not_empty (a ∷ l) e = refl

  -- the columns under the asked names, as expressions

  named-renaming : (a : Name) → name_of (renaming now a).name ≡ a
  named-renaming a = at (bytes_eq (now a) a)
    where
      at : (t : Bool) → name_of (cond t (output.ColumnLhs a) (output.Alias a)) ≡ a
      at true = refl
      at false = refl

  names-renamings : (l : List Name) → out_names (map (renaming now) l) ≡ l
  names-renamings [] = refl
  names-renamings (a ∷ l) = ap₂ (λ (x : Name) (xs : List Name). x ∷ xs) (named-renaming a) (names-renamings l)

  may_rename : (a : Name) → may_be_named (renaming now a).name (naming (renaming now a).expr) ≡ true
  may_rename a = at (bytes_eq (now a) a) refl
    where
      at : (t : Bool) → bytes_eq (now a) a ≡ t → may_be_named (cond t (output.ColumnLhs a) (output.Alias a)) (naming (renaming now a).expr) ≡ true
      at true e = subst (λ (x : Name). bytes_eq a x ≡ true) (sym (named (now a) a e)) (same_named a)
      at false e = refl

  each_renaming : (P : Named → Type 0) (l : List Name) → ((a : Name) → has l a ≡ true → P (renaming now a)) → AllByRecursion P (map (renaming now) l)
  each_renaming P [] h = tt
  each_renaming P (a ∷ l) h = (h a (has_first a l), each_renaming P l (λ b i. h b (has_later a l b i)))

  made-renamings : (t : Columns) (l : List Name) → map (made_column t) (map (renaming now) l) ≡ named_now now t l
  made-renamings t [] = refl
  made-renamings t (a ∷ l) = ap₂ (λ (x : Name) (xs : Columns). (x, unwrap_or (type_of t (now a)) Int64) ∷ xs) (named-renaming a) (made-renamings t l)

  values-renamings : (k : ℕ) (f : Frame) (l : List Name) → made_columns k f (map (renaming now) l) ≡ table_columns l (λ a. column_or f (now a))
  values-renamings k f [] = refl
  values-renamings k f (a ∷ l) = ap₂ (λ (x : Name) (xs : List Column). record { name = x; values = column_or f (now a) } ∷ xs) (named-renaming a) (values-renamings k f l)

  some_known : (a : Name) → has asked a ≡ true → is_some (type_of r (now a)) ≡ true
  some_known a i = ap is_some (h.schema.held a i).1

  abbrev exprs : List Named
  exprs = map (renaming now) asked

  made-are : made_schema [] exprs r ≡ columns
  made-are = types_new 1 [] (map (made_column r) exprs) (subst (λ (l : List Name). AllHold (each_new 1 [] l)) (sym (names-made r exprs ∙ names-renamings asked)) (new_from 1 [] asked (λ a i. refl) fair.once)) ∙ made-renamings r asked

  many_made : (l : List Name) → is_empty l ≡ false → (not (is_empty (map (renaming now) l)) ≡ true) × (all_scalar (map (renaming now) l) ≡ false)
  many_made [] e = cc
  many_made (a ∷ l) e = (refl, refl)

  selected-is : (f : Frame) → selected exprs f ≡ table f.height asked (λ a. column_or f (now a))
  selected-is f =
      ap₂ (λ (n : ℕ) (cs : List Column). let x : Frame = record { height = n; columns = with_columns [] cs } in x)
      (ap (λ (b : Bool). cond b 1 f.height) (many_made asked fair.some).1)
      (values-renamings (cond (all_scalar exprs) 1 f.height) f asked)
      ∙ ap (λ (cs : List Column). let x : Frame = record { height = f.height; columns = cs } in x) (columns_new [] asked (λ a. column_or f (now a)) (λ a i. refl) fair.once)

  select_top : Narrows (rose tt (select exprs columns default_projection) (more q no_roses)) p (names asked)
  select_top =
      relates_top View SeeColumns SeeFrames (select exprs columns default_projection) (renamed now asked) (seen (names asked)) q p (
        (many_made asked fair.some).0,
        good_made [] exprs columns r (record {
          formed = each_renaming (λ (e : Named). has_form e.expr ≡ true) asked (λ a i. refl);
          known = each_renaming (λ (e : Named). all_known (leaves e.expr) r ≡ true) asked (λ a i. ap (λ (b : Bool). b && true) (some_known a i));
          typed = each_renaming (λ (e : Named). is_some (expr_type e.expr r) ≡ true) asked some_known;
          once = subst (λ (l : List Name). AllHold (each_new 1 [] l)) (sym (names-renamings asked)) (new_from 1 [] asked (λ a i. refl) fair.once);
          same = is_same columns (made_schema [] exprs r) (sym made-are);
          named = each_renaming (λ (e : Named). may_be_named e.name (naming e.expr) ≡ true) asked (λ a i. may_rename a);
        }),
      )
      (subst (λ (t : Columns). Holding asked t s) (sym made-are) holds)
      (λ c. tt)
      (λ c f g x has' ag st. subst (λ (y : Frame). Agree asked y g) (sym (st ∙ selected-is f)) (agrees (λ a. column_or f (now a)) f g has'.0 ag (λ a i. refl)))
      v h

  -- what goes on top of a plan that has the asked columns narrows at them
  pub topped_narrows : Narrows (topped now asked r q) p (names asked)
  topped_narrows = at (are_called_alike now asked) (list_all (has asked) (names_of r)) refl refl
    where
      same : are_called_alike now asked ≡ true → (a : Name) → has asked a ≡ true → now a ≡ a
      same e a i = named (now a) a (all_named (λ (x : Name). bytes_eq (now x) x) asked a e i)

      at : (t u : Bool) → are_called_alike now asked ≡ t → list_all (has asked) (names_of r) ≡ u → Narrows (cond t (cond u q (rose tt (simple_projection columns) (more q no_roses))) (rose tt (select exprs columns default_projection) (more q no_roses))) p (names asked)
      at true true e k = bare_top (same e) (λ a x. fair.known a (all_named (has asked) (names_of r) a k (sym (some-type_of r a) ∙ x)))
      at true false e k = project_top (same e)
      at false u e k = select_top
