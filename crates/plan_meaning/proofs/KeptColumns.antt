-- What stands at an asked name in columns that expressions make, of which some are kept.
use Rattle.std.proofs.Common.{◌≡◌, ℕ, Bool, true, false, cond, List, [], ◌∷◌, ◌++◌, map, Option, refl, sym, ap, ◌∙◌, subst, suc, append_assoc}
use Rattle.std.specs.Prelude.{fold}
use Rattle.std.specs.Str.{bytes_eq}
use Rattle.std.proofs.lemmas.Bool.{both_ways, and_parts, or_from, not-true, false_from_ne_true}
use Rattle.plan_core.specs.Columns.{Columns, names_of, type_of, with_types}
use Rattle.plan_core.specs.Names.{has}
use Rattle.plan_expr.specs.Exprs.{Named}
use Rattle.plan_expr.specs.Leaves.{Name}
use Rattle.plan_expr.specs.Naming.{name_of}
use Rattle.plan_expr.specs.Scalars.{is_scalar}
use Rattle.plan_meaning.specs.Checks.{each_new}
use Rattle.plan_meaning.specs.Typing.{AllHold}
use Rattle.plan_frame.specs.ExprLists.{out_names, all_scalar, first_many}
use Rattle.plan_frame.specs.Made.{made_column, made_schema, made_columns}
use Rattle.plan_frame.specs.Frames.{Frame, Column, found, with_column, with_columns}
use Rattle.plan_meaning.specs.Relating.{Asked}
use Rattle.plan_meaning.specs.Asked.{is_asked, kept_exprs, selected_exprs}
use Rattle.plan_frame.proofs.NameSets.{named}
use Rattle.plan_frame.proofs.MadeColumns.{all_same, all_miss, all_join, put_type, type_same, type_miss, column_same, made_values, column_miss, last_type, names-push}

-- a name that is asked isn't one that isn't
unasked : (a : Asked) (b c : Name) → is_asked a b ≡ true → is_asked a c ≡ false → bytes_eq b c ≡ false
unasked a b c q n = false_from_ne_true (bytes_eq b c) (λ e. both_ways (is_asked a c) n (ap (is_asked a) (sym (named b c e)) ∙ q))

-- where all that are kept are scalar, the first that isn't scalar isn't asked
pub first_apart : (a : Asked) (es : List Named) (b : Name) → all_scalar (kept_exprs a es) ≡ true → is_asked a b ≡ true → has (out_names (first_many es)) b ≡ false
first_apart a [] b k q = refl
first_apart a (e ∷ es) b k q = at (is_asked a (name_of e.name)) (is_scalar e.expr) refl refl (λ r. first_apart a es b r q) k
  where
    at : (u v : Bool) → is_asked a (name_of e.name) ≡ u → is_scalar e.expr ≡ v → (all_scalar (kept_exprs a es) ≡ true → has (out_names (first_many es)) b ≡ false) → all_scalar (cond u (e ∷ kept_exprs a es) (kept_exprs a es)) ≡ true → has (out_names (cond v (first_many es) (e ∷ []))) b ≡ false
    at true true p s r k = r (and_parts (is_scalar e.expr) (all_scalar (kept_exprs a es)) k).1
    at true false p s r k = absurd (both_ways (is_scalar e.expr) s (and_parts (is_scalar e.expr) (all_scalar (kept_exprs a es)) k).0)
    at false true p s r k = r k
    at false false p s r k = or_from (bytes_eq b (name_of e.name)) false (unasked a b (name_of e.name) q p) refl

-- look-ups in what is put in order over something
module _ {T C V : Type 0} (put : T → C → T) (get : T → Name → Option V) (make : Named → C) (same : (t u : T) (c : C) (b : Name) → get t b ≡ get u b → get (put t c) b ≡ get (put u c) b) (miss : (t : T) (e : Named) (b : Name) → bytes_eq b (name_of e.name) ≡ false → get (put t (make e)) b ≡ get t b) where
  all_kept : (a : Asked) (t : T) (es : List Named) (b : Name) → is_asked a b ≡ true → get (fold put t (map make (kept_exprs a es))) b ≡ get (fold put t (map make es)) b
  all_kept a t [] b q = refl
  all_kept a t (e ∷ es) b q = at (is_asked a (name_of e.name)) refl (λ u. all_kept a u es b q)
    where
      at : (v : Bool) → is_asked a (name_of e.name) ≡ v → ((u : T) → get (fold put u (map make (kept_exprs a es))) b ≡ get (fold put u (map make es)) b) → get (fold put t (map make (cond v (e ∷ kept_exprs a es) (kept_exprs a es)))) b ≡ get (fold put (put t (make e)) (map make es)) b
      at true p r = r (put t (make e))
      at false p r = r t ∙ all_same put get make same miss t (put t (make e)) (map make es) b (sym (miss t e b (unasked a b (name_of e.name) q p)))

  all_selected : (a : Asked) (t : T) (es : List Named) (b : Name) → is_asked a b ≡ true → get (fold put t (map make (selected_exprs a es))) b ≡ get (fold put t (map make es)) b
  all_selected a t es b q = at (all_scalar (kept_exprs a es)) refl
    where
      at : (v : Bool) → all_scalar (kept_exprs a es) ≡ v → get (fold put t (map make (cond v (kept_exprs a es ++ first_many es) (kept_exprs a es)))) b ≡ get (fold put t (map make es)) b
      at true p = ap (λ (x : T). get x b) (all_join put get make same miss t (kept_exprs a es) (first_many es)) ∙ all_miss put get make same miss (fold put t (map make (kept_exprs a es))) (first_many es) b (first_apart a es b p q) ∙ all_kept a t es b q
      at false p = all_kept a t es b q

-- types

module _ (s : Columns) where
  -- an asked name has its type among the columns of what is kept
  pub types_kept : (a : Asked) (t : Columns) (es : List Named) (b : Name) → is_asked a b ≡ true → type_of (made_schema t (kept_exprs a es) s) b ≡ type_of (made_schema t es s) b
  types_kept a t es b q = all_kept put_type type_of (made_column s) type_same (type_miss s) a t es b q

  pub types_selected : (a : Asked) (t : Columns) (es : List Named) (b : Name) → is_asked a b ≡ true → type_of (made_schema t (selected_exprs a es) s) b ≡ type_of (made_schema t es s) b
  types_selected a t es b q = all_selected put_type type_of (made_column s) type_same (type_miss s) a t es b q

-- values

module _ (h : ℕ) (g : Frame) where
  -- an asked name has its values among the columns of what is kept
  pub columns_kept : (a : Asked) (t : List Column) (es : List Named) (b : Name) → is_asked a b ≡ true → found (with_columns t (made_columns h g (kept_exprs a es))) b ≡ found (with_columns t (made_columns h g es)) b
  columns_kept a t es b q = all_kept with_column found (made_values h g) column_same (column_miss h g) a t es b q

  pub columns_selected : (a : Asked) (t : List Column) (es : List Named) (b : Name) → is_asked a b ≡ true → found (with_columns t (made_columns h g (selected_exprs a es))) b ≡ found (with_columns t (made_columns h g es)) b
  columns_selected a t es b q = all_selected with_column found (made_values h g) column_same (column_miss h g) a t es b q

-- columns whose names are new go last, in their order

pub types_new : (k : ℕ) (base cs : Columns) → AllHold (each_new k (names_of base) (names_of cs)) → with_types base cs ≡ base ++ cs
types_new k base [] h = nothing base
  where
    nothing : (s : Columns) → s ≡ s ++ []
    nothing [] = refl
    nothing (c ∷ s) = ap (λ (x : Columns). c ∷ x) (nothing s)
types_new k base (c ∷ cs) h =
    ap (λ (x : Columns). with_types x cs) (last_type base c.0 c.1 (not-true (has (names_of base) c.0) h.0))
    ∙ types_new (suc k) (base ++ c ∷ []) cs (subst (λ (x : List Name). AllHold (each_new (suc k) x (names_of cs))) (sym (names-push base c)) h.1)
    ∙ append_assoc base (c ∷ []) cs
