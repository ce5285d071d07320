-- Functions of whole frames: what they give has its columns, and what they ask can be asked of their input.
use Rattle.std.proofs.Common.{◌≡◌, ℕ, Bool, true, false, cond, ◌||◌, List, [], ◌∷◌, Option, Some, None, unwrap_or, refl, sym, ap, ◌∙◌, subst, ⊎_elim, pos}
use Rattle.std.specs.List.{AllByRecursion, IsDistinct, filter as only_where, filter_map, cons_option, range_with_len}
use Rattle.std.specs.Int.{w64, int_wrap}
use Rattle.std.specs.Str.{bytes_eq}
use Rattle.std.proofs.lemmas.List.FromFn.{length-map-range_with_len}
use Rattle.plan_core.specs.Columns.{Columns, names_of}
use Rattle.plan_core.specs.Names.{has, with_names, AreDistinct}
use Rattle.plan_ir.specs.declared.functions.FunctionIR.{FunctionIR}
use Rattle.plan_ir.specs.declared.functions.FunctionIR.TheVariants.{Rename, RowIndex, Unpivot, Explode, FastCount}
use Rattle.plan_expr.specs.Leaves.{Name}
use Rattle.plan_meaning.specs.Functions.{renamed, former, function_schema}
use Rattle.plan_frame.specs.Reshaped.{exploded_columns}
use Rattle.plan_meaning.specs.Typing.{function_checks, AllHold}
use Rattle.plan_frame.specs.Values.{whole}
use Rattle.plan_frame.specs.Frames.{Frame, HasSchema}
use Rattle.plan_meaning.specs.Contents.{Contents}
use Rattle.plan_meaning.specs.Mapped.{mapped}
use Rattle.plan_meaning.specs.Relating.{Asked, all, names as these, cached}
use Rattle.plan_meaning.specs.Asked.{set_of, unpivot_names, asks_function, IsFair}
use Rattle.plan_frame.proofs.NameSets.{named, has_cons, has_first, has_later, some-type_of, distinct_cons, distinct_names}
use Rattle.plan_meaning.proofs.KeptExprs.{where_has, distinct_where}
use Rattle.plan_frame.proofs.ReshapedLemmas.{exploded_has, names-exploded, renamed_have, whole_numbers}
use Rattle.plan_meaning.proofs.ExplodeLemmas.{explode_known}
use Rattle.plan_meaning.proofs.UnpivotLemmas.{unpivoted_has, unpivot_apart, unpivot_known}

-- what a function makes of a frame has its columns
pub mapped_has : (c : Contents) (f : FunctionIR) (s : Columns) (g : Frame) → AllHold (function_checks f s) → HasSchema g s → HasSchema (mapped c f g) (function_schema f s)
mapped_has c (Rename existing new swapping) s g good h = renamed_have (renamed existing new) g.height g.columns s h
mapped_has c (RowIndex name offset) s g good h =
    let first : ℕ = unwrap_or offset 0 in
    (refl, length-map-range_with_len (λ (i : ℕ). whole (int_wrap w64 (pos i))) first g.height, whole_numbers (range_with_len first g.height), h)
mapped_has c (Unpivot args) s g good h = unpivoted_has args s g good h
mapped_has c (Explode columns) s g good h = exploded_has columns s g h
mapped_has c (FastCount sources scan_type alias) s g good h = (refl, refl, (tt, tt), tt)

-- the names that become others

former_at : (now : Name → Name) (names : List Name) (c a b : Name) (t : Bool) → bytes_eq a (now c) ≡ t → (former now names a ≡ Some b → (has names b ≡ true) × (a ≡ now b)) → cond t (Some c) (former now names a) ≡ Some b → (has (c ∷ names) b ≡ true) × (a ≡ now b)
former_at now names c a b true e r q =
    let is : c ≡ b = ap (λ (o : Option Name). unwrap_or o c) q in
    (subst (λ (x : Name). has (c ∷ names) x ≡ true) is (has_first c names), named a (now c) e ∙ ap now is)
former_at now names c a b false e r q = (has_later c names b (r q).0, (r q).1)

-- the name that becomes one is among the names, and becomes it
pub former_is : (now : Name → Name) (names : List Name) (a b : Name) → former now names a ≡ Some b → (has names b ≡ true) × (a ≡ now b)
former_is now [] a b e = cc
former_is now (c ∷ names) a b e = former_at now names c a b (bytes_eq a (now c)) refl (λ q. former_is now names a b q) e

formers_at : (now : Name → Name) (names wanted : List Name) (a b : Name) (o : Option Name) → former now names a ≡ o → (has (filter_map (former now names) wanted) b ≡ true → (has names b ≡ true) × (has wanted (now b) ≡ true)) → has (cons_option o (filter_map (former now names) wanted)) b ≡ true → (has names b ≡ true) × (has (a ∷ wanted) (now b) ≡ true)
formers_at now names wanted a b None e r i = ((r i).0, has_later a wanted (now b) (r i).1)
formers_at now names wanted a b (Some c) e r i = ⊎_elim
    (λ (q : b ≡ c).
    let is = former_is now names a c e in
    (ap (has names) q ∙ is.0, subst (λ (x : Name). has (a ∷ wanted) x ≡ true) (is.1 ∙ ap now (sym q)) (has_first a wanted)))
    (λ (k : has (filter_map (former now names) wanted) b ≡ true). ((r k).0, has_later a wanted (now b) (r k).1))
    (has_cons c (filter_map (former now names) wanted) b i)

-- one of the names that become others is among the names, and becomes one of the others
pub formers_are : (now : Name → Name) (names wanted : List Name) (b : Name) → has (filter_map (former now names) wanted) b ≡ true → (has names b ≡ true) × (has wanted (now b) ≡ true)
formers_are now names [] b i = cc
formers_are now names (a ∷ wanted) b i = formers_at now names wanted a b (former now names a) refl (λ k. formers_are now names wanted b k) i

none_is : (x : Name) (ys : List Name) → has ys x ≡ false → AllByRecursion (λ (y : Name). bytes_eq x y ≡ false) ys
none_is x [] e = tt
none_is x (y ∷ ys) e = (left (bytes_eq x y) (has ys x) e, none_is x ys (right (bytes_eq x y) (has ys x) e))
  where
    left : (a b : Bool) → (a || b) ≡ false → a ≡ false
    left true b q = q
    left false b q = refl

    right : (a b : Bool) → (a || b) ≡ false → b ≡ false
    right true b q = cc
    right false b q = q

pub formers_apart : (now : Name → Name) (names wanted : List Name) → AreDistinct wanted → AreDistinct (filter_map (former now names) wanted)
unfolding IsDistinct
formers_apart now names [] d = tt
formers_apart now names (a ∷ wanted) d = at (former now names a) refl (formers_apart now names wanted d.1)
  where
    at : (o : Option Name) → former now names a ≡ o → AreDistinct (filter_map (former now names) wanted) → AreDistinct (cons_option o (filter_map (former now names) wanted))
    at None e r = r
    at (Some b) e r = (none_is b (filter_map (former now names) wanted) (absent (has (filter_map (former now names) wanted) b) refl), r)
      where
        absent : (t : Bool) → has (filter_map (former now names) wanted) b ≡ t → t ≡ false
        absent false q = refl
        absent true q =
            let there : has wanted a ≡ true = ap (has wanted) (former_is now names a b e).1 ∙ (formers_are now names wanted b q).1 in
            let none : has wanted a ≡ false = (distinct_cons a wanted d).0 in
            cc

-- what a function asks of its input can be asked of it
fair_names : (wanted : List Name) (s : Columns) → AreDistinct wanted → ((a : Name) → has wanted a ≡ true → has (names_of s) a ≡ true) → IsFair (set_of wanted) s
fair_names [] s once known = tt
fair_names (a ∷ wanted) s once known = record { some = refl; once = once; known = λ b i. some-type_of s b ∙ known b i }

pub fair_function : (f : FunctionIR) (a : Asked) (s : Columns) → AllHold (function_checks f s) → IsFair a (function_schema f s) → IsFair (asks_function f a s) s
fair_function f all s good h = tt
fair_function f cached s good h = tt
fair_function (Rename existing new swapping) (these wanted) s good h =
    let now : Name → Name = renamed existing new in
    fair_names (filter_map (former now (names_of s)) wanted) s (formers_apart now (names_of s) wanted h.once) (λ b i. (formers_are now (names_of s) wanted b i).0)
fair_function (RowIndex name offset) (these wanted) s good h =
    fair_names (only_where (has (names_of s)) wanted) s (distinct_where (has (names_of s)) wanted h.once) (λ b i. (where_has (has (names_of s)) wanted b i).1)
fair_function (Unpivot args) (these wanted) s good h =
    fair_names (unpivot_names args) s (unpivot_apart args) (λ b i. unpivot_known args s good b i)
fair_function (Explode columns) (these wanted) s good h =
    fair_names (with_names wanted columns) s (distinct_names wanted columns h.once)
    (explode_known columns wanted s good (λ a i. ap (λ (l : List Name). has l a) (sym (names-exploded columns s)) ∙ sym (some-type_of (exploded_columns columns s) a) ∙ h.known a i))
fair_function (FastCount sources scan_type alias) (these wanted) s good h = tt
