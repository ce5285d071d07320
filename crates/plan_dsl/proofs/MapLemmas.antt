-- Mappings, one after another.
use Rattle.std.proofs.Common.{◌≡◌, ◌≤◌, List, [], ◌∷◌, ◌++◌, length, max, inl, inr, refl, ap, sym, ◌∙◌, append_assoc, append-nil, arith, subst}
use denote.Param.Weighed.{most, most-append}
use Rattle.plan_core.specs.declared.error.PolarsError.{PolarsError}
use Rattle.plan_dsl.specs.declared.expr.Expr.{Expr, size-Expr}
use Rattle.plan_dsl.specs.declared.expr.Expr.TheVariants as exprs
use Rattle.plan_dsl.specs.Maps.{Maps, none, next, MapsSome, no_more, some_below, one_more, MapsUntil, here, below, later, StopsAt}
use Rattle.plan_dsl.specs.Parts.{children, head_of, Takes}

-- an expression is made of as many as its kind takes
pub takes_children : (e : Expr) → Takes (head_of e) (length (children e))
takes_children (exprs.Alias' p e name) = refl
takes_children (exprs.Column name) = refl
takes_children (exprs.Columns names) = refl
takes_children (exprs.DtypeColumn types) = refl
takes_children (exprs.IndexColumn places) = refl
takes_children (exprs.Literal value) = refl
takes_children (exprs.BinaryExpr' p left op q right) = refl
takes_children (exprs.Cast' p e dtype) = refl
takes_children (exprs.Sort' p e descending nulls_last) = refl
takes_children (exprs.Gather' p e q idx returns_scalar) = refl
takes_children (exprs.SortBy' p e s by) = omega arith
takes_children (exprs.Agg agg) = refl
takes_children (exprs.Ternary' p predicate q truthy r falsy) = refl
takes_children (exprs.Function' s input function options) = tt
takes_children (exprs.Explode' p e) = refl
takes_children (exprs.Filter' p input q by) = refl
takes_children (exprs.Window' p function s partition_by) = omega arith
takes_children exprs.Wildcard = refl
takes_children (exprs.Slice' p input q offset r len) = refl
takes_children (exprs.Exclude' p e names) = refl
takes_children (exprs.KeepName' p e) = refl
takes_children (exprs.RenameAlias' p e) = refl
takes_children exprs.Len = refl
takes_children (exprs.Nth place) = refl

module _ {F : Type 0} (Answers : F → Expr → Expr → F → Type 0) where
  -- some expressions, and then others
  pub maps_join : (f g h : F) (es more rs others : List Expr) → Maps Answers f es rs g → Maps Answers g more others h → Maps Answers f (es ++ more) (rs ++ others) h
  maps_join f g h [] more [] others none b = b
  maps_join f g h (e ∷ es) more (r ∷ rs) others (next a i s rest) b = next a i s (maps_join _ _ _ _ _ _ _ rest b)
  maps_join _ _ h [] more (r ∷ rs) others x10 b = elim x10 [ ]
  maps_join _ _ h (e ∷ es) more [] others x10 b = elim x10 [ ]

  -- as many answers as expressions
  pub length-maps : (f g : F) (es rs : List Expr) → Maps Answers f es rs g → length rs ≡ length es
  length-maps f g [] [] none = refl
  length-maps f g (e ∷ es) (r ∷ rs) (next a i s rest) = omega (arith, length-maps _ _ _ _ rest)
  length-maps _ _ [] (r ∷ rs) x = elim x [ ]
  length-maps _ _ (e ∷ es) [] x = elim x [ ]

  -- all of some, and then some of others
  maps_some : (f g h : F) (es more rs : List Expr) → Maps Answers f es rs g → MapsSome Answers g more h → MapsSome Answers f (es ++ more) h
  maps_some f g h [] more [] none b = b
  maps_some f g h (e ∷ es) more (r ∷ rs) (next a i s rest) b = one_more (next a i s none) (maps_some _ _ _ _ _ _ rest b)
  maps_some _ _ h [] more (r ∷ rs) x b = elim x [ ]
  maps_some _ _ h (e ∷ es) more [] x b = elim x [ ]

  -- some of a list are some of a longer one
  some_longer : (f g : F) (es more : List Expr) → MapsSome Answers f es g → MapsSome Answers f (es ++ more) g
  some_longer f g es more no_more = no_more
  some_longer f g es more (some_below a) = some_below a
  some_longer f g es more (one_more a b) = one_more a (some_longer _ _ _ more b)

  -- an expression of which all those that it is made of are mapped
  pub some_children : (f g : F) (e : Expr) (rs : List Expr) → Maps Answers f (children e) rs g → MapsSome Answers f (e ∷ []) g
  some_children f g e rs maps = some_below (subst (λ (es : List Expr). MapsSome Answers f es g) (append-nil (children e)) (maps_some f g g (children e) [] rs maps no_more))

  -- a front of all is mapped
  pub record MapsFront (f : F) (all left rs : List Expr) (g : F) : Type 0 where
    pub gone : List Expr
    pub whole : gone ++ left ≡ all
    pub maps : Maps Answers f gone rs g

  -- nothing yet
  pub front_none : (f : F) (all left rs : List Expr) → left ≡ all → rs ≡ [] → MapsFront f all left rs f
  front_none f all left rs e is = record { gone = []; whole = e; maps = subst (λ (xs : List Expr). Maps Answers f [] xs f) (sym is) none }

  -- one expression more
  pub front_next : (f g h : F) (all left rest rs answers : List Expr) (e r : Expr) → MapsFront f all left rs g → left ≡ e ∷ rest → Maps Answers g (e ∷ []) (r ∷ []) h → answers ≡ rs ++ r ∷ [] → MapsFront f all rest answers h
  front_next f g h all left rest rs answers e r m is more new = record {
    gone = m.gone ++ e ∷ [];
    whole = append_assoc m.gone (e ∷ []) rest ∙ ap (λ (es : List Expr). m.gone ++ es) (sym is) ∙ m.whole;
    maps = subst (λ (xs : List Expr). Maps Answers f (m.gone ++ e ∷ []) xs h) (sym new) (maps_join f g h m.gone (e ∷ []) rs (r ∷ []) m.maps more);
  }

  -- all of them
  pub front_all : (f g : F) (all left rs : List Expr) → MapsFront f all left rs g → left ≡ [] → Maps Answers f all rs g
  front_all f g all left rs m is =
      let whole : m.gone ≡ all = sym (append-nil m.gone) ∙ ap (λ (es : List Expr). m.gone ++ es) (sym is) ∙ m.whole in
      subst (λ (es : List Expr). Maps Answers f es rs g) whole m.maps

  -- what is left is no deeper than all
  pub front_below : (f g : F) (all left rest rs : List Expr) (e : Expr) → MapsFront f all left rs g → left ≡ e ∷ rest → size-Expr e ≤ most size-Expr all
  front_below f g all left rest rs e m is =
      let all_is : most size-Expr all ≡ most size-Expr (m.gone ++ left) = ap (most size-Expr) (sym m.whole) in
      let apart : most size-Expr (m.gone ++ left) ≡ max (most size-Expr m.gone) (most size-Expr left) = most-append size-Expr m.gone left in
      let here_is : most size-Expr left ≡ max (size-Expr e) (most size-Expr rest) = ap (most size-Expr) is in
      omega arith

  -- those of the front are some of all
  pub front_some : (f g : F) (all left rs : List Expr) → MapsFront f all left rs g → MapsSome Answers f all g
  front_some f g all left rs m = subst (λ (es : List Expr). MapsSome Answers f es g) m.whole (maps_some f g g m.gone left rs m.maps no_more)

module _ {F : Type 0} (Answers : F → Expr → Expr → F → Type 0) (Refuses : F → Expr → PolarsError → F → Type 0) where
  -- some expressions, and then a refusal
  pub maps_until : (f g h : F) (es more rs : List Expr) (x : PolarsError) → Maps Answers f es rs g → MapsUntil Answers Refuses g more x h → MapsUntil Answers Refuses f (es ++ more) x h
  maps_until f g h [] more [] x none b = b
  maps_until f g h (e ∷ es) more (r ∷ rs) x (next a i s rest) b = later (next a i s none) (maps_until _ _ _ _ _ _ _ rest b)
  maps_until _ _ h [] more (r ∷ rs) x x18 b = elim x18 [ ]
  maps_until _ _ h (e ∷ es) more [] x x18 b = elim x18 [ ]

  -- a refusal, and then others that aren't reached
  until_more : (f g : F) (es more : List Expr) (x : PolarsError) → MapsUntil Answers Refuses f es x g → MapsUntil Answers Refuses f (es ++ more) x g
  until_more f g (e ∷ es) more x (here a i s) = here a i s
  until_more f g (e ∷ es) more x (below a) = below a
  until_more f g (e ∷ es) more x (later a b) = later a (until_more _ _ _ more x b)
  until_more f g [] more x u = elim u [ ]

  -- the next one stops it
  pub front_stop : (f g h : F) (all left rest rs : List Expr) (e : Expr) (x : PolarsError) → MapsFront Answers f all left rs g → left ≡ e ∷ rest → StopsAt Answers Refuses g (e ∷ []) x h → StopsAt Answers Refuses f all x h
  front_stop f g h all left rest rs e x m is (inl short) =
      let whole : m.gone ++ e ∷ rest ≡ all = ap (λ (es : List Expr). m.gone ++ es) (sym is) ∙ m.whole in
      inl (short.0, subst (λ (es : List Expr). MapsSome Answers f es h) whole (maps_some Answers f g h m.gone (e ∷ rest) rs m.maps (some_longer Answers g h (e ∷ []) rest short.1)))
  front_stop f g h all left rest rs e x m is (inr until) =
      let whole : m.gone ++ e ∷ rest ≡ all = ap (λ (es : List Expr). m.gone ++ es) (sym is) ∙ m.whole in
      inr (subst (λ (es : List Expr). MapsUntil Answers Refuses f es x h) whole (maps_until f g h m.gone (e ∷ rest) rs x m.maps (until_more g h (e ∷ []) rest x until)))

  -- it stops below an expression
  pub stop_below : (f g : F) (e : Expr) (x : PolarsError) → StopsAt Answers Refuses f (children e) x g → StopsAt Answers Refuses f (e ∷ []) x g
  stop_below f g e x (inl short) = inl (short.0, some_below short.1)
  stop_below f g e x (inr until) = inr (below until)
