-- Expressions of an addition by their names.
use Rattle.std.proofs.Common.{◌≡◌, ◌∙◌, ◌++◌, Bool, true, false, ◌||◌, cond, List, [], ◌∷◌, Option, Some, None, is_some, unwrap_or, refl, sym, ap, ap₂, subst}
use Rattle.std.specs.List.{AllByRecursion, filter as only_where, list_any}
use Rattle.std.specs.Str.{bytes_eq}
use Rattle.plan_core.specs.Names.{has, AreDistinct}
use Rattle.plan_expr.specs.Exprs.{Named}
use Rattle.plan_expr.specs.Leaves.{Name}
use Rattle.plan_frame.specs.ExprLists.{out_names}
use Rattle.plan_frame.proofs.NameSets.{named, distinct_cons}
use Rattle.plan_collapse_laws.specs.Staying.{out}
use Rattle.plan_collapse_laws.specs.Meeting.{named_in, replaced}

-- what an expression found by name satisfies
pub all_named : (P : Named → Type 0) (es : List Named) (b : Name) (e : Named) → AllByRecursion P es → named_in es b ≡ Some e → P e
all_named P [] b e h q = cc
all_named P (d ∷ es) b e h q = at (bytes_eq b (out d)) q (λ r. all_named P es b e h.1 r)
  where
    at : (t : Bool) → cond t (Some d) (named_in es b) ≡ Some e → (named_in es b ≡ Some e → P e) → P e
    at true r rest = let s : d ≡ e = cc in subst P s h.0
    at false r rest = rest r

pub named_is : (es : List Named) (b : Name) (e : Named) → named_in es b ≡ Some e → out e ≡ b
named_is [] b e q = cc
named_is (d ∷ es) b e q = at (bytes_eq b (out d)) refl q (λ r. named_is es b e r)
  where
    at : (t : Bool) → bytes_eq b (out d) ≡ t → cond t (Some d) (named_in es b) ≡ Some e → (named_in es b ≡ Some e → out e ≡ b) → out e ≡ b
    at true k r rest = let s : d ≡ e = cc in ap out (sym s) ∙ sym (named b (out d) k)
    at false k r rest = rest r

pub some-named : (es : List Named) (b : Name) → is_some (named_in es b) ≡ has (out_names es) b
some-named [] b = refl
some-named (e ∷ es) b = at (bytes_eq b (out e)) (some-named es b)
  where
    at : (t : Bool) → is_some (named_in es b) ≡ has (out_names es) b → is_some (cond t (Some e) (named_in es b)) ≡ (t || has (out_names es) b)
    at true r = refl
    at false r = r

pub none_named : (es : List Named) (b : Name) → has (out_names es) b ≡ false → named_in es b ≡ None
none_named es b n = at (named_in es b) (some-named es b ∙ n)
  where
    at : (o : Option Named) → is_some o ≡ false → o ≡ None
    at None e = refl
    at (Some x) e = cc

abbrev pub kept : (Named → Bool) → Option Named → Option Named
kept p None = None
kept p (Some e) = cond (p e) (Some e) None

-- of distinct names those that pass are found as they were
pub named-where : (p : Named → Bool) (es : List Named) (b : Name) → AreDistinct (out_names es) → named_in (only_where p es) b ≡ kept p (named_in es b)
named-where p [] b d = refl
named-where p (e ∷ es) b d = at (p e) refl (bytes_eq b (out e)) refl (named-where p es b (distinct_cons (out e) (out_names es) d).1)
  where
    at : (t : Bool) → p e ≡ t → (u : Bool) → bytes_eq b (out e) ≡ u → named_in (only_where p es) b ≡ kept p (named_in es b) → named_in (cond t (e ∷ only_where p es) (only_where p es)) b ≡ kept p (cond u (Some e) (named_in es b))
    at true k true q r = ap (λ (x : Bool). cond x (Some e) (named_in (only_where p es) b)) q ∙ sym (ap (λ (x : Bool). cond x (Some e) None) k)
    at true k false q r = ap (λ (x : Bool). cond x (Some e) (named_in (only_where p es) b)) q ∙ r
    at false k true q r =
        r ∙ ap (kept p) (none_named es b (ap (has (out_names es)) (named b (out e) q) ∙ (distinct_cons (out e) (out_names es) d).0))
        ∙ sym (ap (λ (x : Bool). cond x (Some e) None) k)
    at false k false q r = r

abbrev pub or_named : Option Named → Option Named → Option Named
or_named None o = o
or_named (Some e) o = Some e

pub named-append : (xs ys : List Named) (b : Name) → named_in (xs ++ ys) b ≡ or_named (named_in xs b) (named_in ys b)
named-append [] ys b = refl
named-append (x ∷ xs) ys b = at (bytes_eq b (out x)) (named-append xs ys b)
  where
    at : (t : Bool) → named_in (xs ++ ys) b ≡ or_named (named_in xs b) (named_in ys b) → cond t (Some x) (named_in (xs ++ ys) b) ≡ or_named (cond t (Some x) (named_in xs b)) (named_in ys b)
    at true r = refl
    at false r = r

abbrev pub in_place : Option Named → Option Named → Option Named
in_place o None = None
in_place o (Some l) = Some (unwrap_or o l)

replaced_out : (upper : List Named) (l : Named) → out (unwrap_or (named_in upper (out l)) l) ≡ out l
replaced_out upper l = at (named_in upper (out l)) refl
  where
    at : (o : Option Named) → named_in upper (out l) ≡ o → out (unwrap_or o l) ≡ out l
    at None e = refl
    at (Some x) e = named_is upper (out l) x e

pub names-replaced : (upper lower : List Named) → out_names (replaced upper lower) ≡ out_names lower
names-replaced upper [] = refl
names-replaced upper (l ∷ lower) = ap₂ (λ (a : Name) (names : List Name). a ∷ names) (replaced_out upper l) (names-replaced upper lower)

pub named-replaced : (upper lower : List Named) (b : Name) → named_in (replaced upper lower) b ≡ in_place (named_in upper b) (named_in lower b)
named-replaced upper [] b = refl
named-replaced upper (l ∷ lower) b = ap (λ (a : Name). cond (bytes_eq b a) (Some (unwrap_or (named_in upper (out l)) l)) (named_in (replaced upper lower) b)) (replaced_out upper l) ∙ at (bytes_eq b (out l)) refl (named-replaced upper lower b)
  where
    at : (t : Bool) → bytes_eq b (out l) ≡ t → named_in (replaced upper lower) b ≡ in_place (named_in upper b) (named_in lower b) → cond t (Some (unwrap_or (named_in upper (out l)) l)) (named_in (replaced upper lower) b) ≡ in_place (named_in upper b) (cond t (Some l) (named_in lower b))
    at true q r = ap (λ (a : Name). Some (unwrap_or (named_in upper a) l)) (sym (named b (out l) q))
    at false q r = r

-- an expression that reads none of some names
pub unread : (names : List Name) (ls : List Name) (a : Name) → list_any (has names) ls ≡ false → has ls a ≡ true → has names a ≡ false
unread names [] a n i = cc
unread names (x ∷ ls) a n i = at (bytes_eq a x) refl (has names x) refl n i (λ m j. unread names ls a m j)
  where
    at : (t : Bool) → bytes_eq a x ≡ t → (u : Bool) → has names x ≡ u → (u || list_any (has names) ls) ≡ false → (t || has ls a) ≡ true → (list_any (has names) ls ≡ false → has ls a ≡ true → has names a ≡ false) → has names a ≡ false
    at true q true k m j rest = cc
    at true q false k m j rest = ap (has names) (named a x q) ∙ k
    at false q true k m j rest = cc
    at false q false k m j rest = rest m j
