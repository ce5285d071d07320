-- The columns of an addition over another keep their order where no expression moves from behind one that stays; a projection restores it else.
use Rattle.std.proofs.Common.{◌≡◌, ◌∙◌, ◌++◌, ℕ, Bool, true, false, not, ◌||◌, cond, List, [], ◌∷◌, Some, replicate, unwrap_or, refl, sym, ap, ap₂, subst}
use Rattle.std.specs.List.{AllByRecursion, filter as only_where}
use Rattle.std.specs.Str.{bytes_eq}
use Rattle.std.proofs.lemmas.Bool.{both_ways, false_from_ne_true}
use Rattle.plan_core.specs.Names.{has, with_name, with_names, AreDistinct}
use Rattle.plan_expr.specs.Exprs.{Named}
use Rattle.plan_expr.specs.Leaves.{Name}
use Rattle.plan_frame.specs.ExprLists.{out_names}
use Rattle.plan_frame.specs.Values.{Value, null}
use Rattle.plan_frame.specs.Frames.{Column, Frame, column_names, cut, found, table_columns, with_column, with_columns}
use Rattle.plan_frame.specs.Meaning.{filled, val}
use Rattle.plan_frame.specs.Made.{made_columns}
use Rattle.plan_frame.proofs.FrameLemmas.{cut_same}
use Rattle.plan_frame.proofs.NameSets.{named, same_named, has_first, has_later, distinct_cons, keeps_name}
use Rattle.plan_collapse_laws.specs.Staying.{out}

-- names

pub with-there : (names : List Name) (a : Name) → has names a ≡ true → with_name names a ≡ names
with-there names a i = ap (λ (b : Bool). cond b names (names ++ a ∷ [])) i

pub names-joined : (names xs ys : List Name) → with_names names (xs ++ ys) ≡ with_names (with_names names xs) ys
names-joined names [] ys = refl
names-joined names (x ∷ xs) ys = names-joined (with_name names x) xs ys

-- names that are there add nothing
pub with-known : (p : Named → Bool) (es : List Named) (names : List Name) → AllByRecursion (λ (e : Named). p e ≡ false → has names (out e) ≡ true) es → with_names names (out_names es) ≡ with_names names (out_names (only_where p es))
with-known p [] names h = refl
with-known p (e ∷ es) names h = at (p e) refl (with-known p es (with_name names (out e)) (more es h.1)) (λ k. with-known p es names h.1)
  where
    more : (xs : List Named) → AllByRecursion (λ (x : Named). p x ≡ false → has names (out x) ≡ true) xs → AllByRecursion (λ (x : Named). p x ≡ false → has (with_name names (out e)) (out x) ≡ true) xs
    more [] k = tt
    more (x ∷ xs) k = (λ q. keeps_name names (out e) (out x) (k.0 q), more xs k.1)

    at : (t : Bool) → p e ≡ t → with_names (with_name names (out e)) (out_names es) ≡ with_names (with_name names (out e)) (out_names (only_where p es)) → (p e ≡ false → with_names names (out_names es) ≡ with_names names (out_names (only_where p es))) → with_names (with_name names (out e)) (out_names es) ≡ with_names names (out_names (cond t (e ∷ only_where p es) (only_where p es)))
    at true q rest other = rest
    at false q rest other = ap (λ (ns : List Name). with_names ns (out_names es)) (with-there names (out e) (h.0 q)) ∙ other q

-- the columns that expressions make beside others have their names, each new one last

one-name : (cs : List Column) (c : Column) → column_names (with_column cs c) ≡ with_name (column_names cs) c.name
one-name [] c = refl
one-name (d ∷ cs) c = at (bytes_eq c.name d.name) refl (one-name cs c)
  where
    later : (t : Bool) → d.name ∷ cond t (column_names cs) (column_names cs ++ c.name ∷ []) ≡ cond t (d.name ∷ column_names cs) ((d.name ∷ column_names cs) ++ c.name ∷ [])
    later true = refl
    later false = refl

    at : (t : Bool) → bytes_eq c.name d.name ≡ t → column_names (with_column cs c) ≡ with_name (column_names cs) c.name → column_names (cond t (c ∷ cs) (d ∷ with_column cs c)) ≡ cond (t || has (column_names cs) c.name) (d.name ∷ column_names cs) ((d.name ∷ column_names cs) ++ c.name ∷ [])
    at true q rest = ap (λ (a : Name). a ∷ column_names cs) (named c.name d.name q)
    at false q rest = ap (λ (ns : List Name). d.name ∷ ns) rest ∙ later (has (column_names cs) c.name)

pub names-made : (h : ℕ) (g : Frame) (cs : List Column) (es : List Named) → column_names (with_columns cs (made_columns h g es)) ≡ with_names (column_names cs) (out_names es)
names-made h g cs [] = refl
names-made h g cs (e ∷ es) =
    let c : Column = record { name = out e; values = filled h (val e.expr g) } in
    names-made h g (with_column cs c) es ∙ ap (λ (ns : List Name). with_names ns (out_names es)) (one-name cs c)

-- a frame is what it is cut to at its own names, where none stands twice

pub cut-own : (f : Frame) → AreDistinct (column_names f.columns) → cut (column_names f.columns) f ≡ f
cut-own f once = ap (λ (cs : List Column). record { height = f.height; columns = cs }) (go f.columns once)
  where
    go : (cs : List Column) → AreDistinct (column_names cs) → table_columns (column_names cs) (λ (a : Name). unwrap_or (found cs a) (replicate f.height null)) ≡ cs
    go [] d = refl
    go (c ∷ cs) d = ap₂ (λ (vs : List Value) (ds : List Column). record { name = c.name; values = vs } ∷ ds) (ap (λ (b : Bool). unwrap_or (cond b (Some c.values) (found cs c.name)) (replicate f.height null)) (same_named c.name)) (below (column_names cs) (distinct_cons c.name (column_names cs) d).0 ∙ go cs (distinct_cons c.name (column_names cs) d).1)
      where
        below : (ns : List Name) → has ns c.name ≡ false → table_columns ns (λ (a : Name). unwrap_or (found (c ∷ cs) a) (replicate f.height null)) ≡ table_columns ns (λ (a : Name). unwrap_or (found cs a) (replicate f.height null))
        below [] n = refl
        below (a ∷ ns) n = ap₂ (λ (vs : List Value) (ds : List Column). record { name = a; values = vs } ∷ ds) (ap (λ (b : Bool). unwrap_or (cond b (Some c.values) (found cs a)) (replicate f.height null)) (apart a n)) (below ns (rest a ns n))
          where
            apart : (a : Name) → (bytes_eq c.name a || has ns c.name) ≡ false → bytes_eq a c.name ≡ false
            apart a n = false_from_ne_true (bytes_eq a c.name) (λ q. both_ways (has (a ∷ ns) c.name) n (ap (λ (x : Name). has (a ∷ ns) x) (sym (named a c.name q)) ∙ has_first a ns))

            rest : (a : Name) (ns : List Name) → (bytes_eq c.name a || has ns c.name) ≡ false → has ns c.name ≡ false
            rest a ns n = false_from_ne_true (has ns c.name) (λ q. both_ways (has (a ∷ ns) c.name) n (has_later a ns c.name q))

-- frames of one height with the same columns of the same names are one, under a projection to these names
pub restored : (f g : Frame) → AreDistinct (column_names g.columns) → f.height ≡ g.height → ((b : Name) → found f.columns b ≡ found g.columns b) → cut (column_names g.columns) f ≡ g
restored f g once high same = cut_same (column_names g.columns) f g (record { height = high; same = λ a i. same a }) ∙ cut-own g once

-- and without one, where the names stand in one order
pub same-frame : (f g : Frame) → AreDistinct (column_names g.columns) → column_names f.columns ≡ column_names g.columns → f.height ≡ g.height → ((b : Name) → found f.columns b ≡ found g.columns b) → f ≡ g
same-frame f g once names high same = sym (cut-own f (subst AreDistinct (sym names) once)) ∙ ap (λ (ns : List Name). cut ns f) names ∙ restored f g once high same

-- the order of names then is kept: of the names of the lower frame with those that take a place among them, moving ones, and staying ones
pub order-kept : (base lower : List Name) (takes : Named → Bool) (es moved stayed : List Named) → AllByRecursion (λ (e : Named). not (takes e) ≡ false → has (with_names base lower) (out e) ≡ true) es → only_where (λ (e : Named). not (takes e)) es ≡ moved ++ stayed → with_names (with_names base (lower ++ out_names moved)) (out_names stayed) ≡ with_names (with_names base lower) (out_names es)
order-kept base lower takes es moved stayed known split =
    ap (λ (ns : List Name). with_names ns (out_names stayed)) (names-joined base lower (out_names moved))
    ∙ sym (names-joined (with_names base lower) (out_names moved) (out_names stayed))
    ∙ ap (with_names (with_names base lower)) (sym (out-append moved stayed))
    ∙ ap (λ (xs : List Named). with_names (with_names base lower) (out_names xs)) (sym split)
    ∙ sym (with-known (λ (e : Named). not (takes e)) es (with_names base lower) known)
  where
    out-append : (xs ys : List Named) → out_names (xs ++ ys) ≡ out_names xs ++ out_names ys
    out-append [] ys = refl
    out-append (x ∷ xs) ys = ap (λ (ns : List Name). out x ∷ ns) (out-append xs ys)
