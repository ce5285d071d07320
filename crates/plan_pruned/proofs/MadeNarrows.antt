-- What expressions make over an input that narrows at what they read.
use Rattle.std.proofs.Common.{◌≡◌, ℕ, Bool, true, false, cond, List, [], ◌∷◌, ◌++◌, map, Option, Some, unwrap_or, option_map, refl, sym, ap, ap₂, ◌∙◌, subst, is_some}
use Rattle.std.specs.List.{AllByRecursion, cons_option}
use Rattle.plan_core.specs.declared.data_type.DataType.{DataType}
use Rattle.plan_core.specs.declared.data_type.DataType.TheVariants as types
use Rattle.plan_core.specs.Columns.{Columns, type_of}
use Rattle.plan_core.specs.Names.{has, with_names, AreDistinct}
use Rattle.plan_expr.specs.Forms.{has_form}
use Rattle.plan_tree.specs.Rose.{rose, no_roses, more}
use Rattle.plan_expr.specs.Exprs.{column, literal, alias, binary, ternary, aggregate, call, window, len as row_count, Expr, Named}
use Rattle.plan_expr.specs.Leaves.{Name, leaves}
use Rattle.plan_expr.specs.Naming.{name_of, naming, may_be_named}
use Rattle.plan_frame.specs.Exprs.{all_known, expr_type}
use Rattle.plan_frame.specs.ExprLists.{out_names, is_len, counts_rows, all_leaves}
use Rattle.plan_frame.specs.Made.{made_column, made_schema, made_columns}
use Rattle.plan_frame.specs.Frames.{Frame, Column, Agree}
use Rattle.plan_frame.specs.Meaning.{Cell, filled}
use Rattle.plan_meaning.specs.Relating.{Asked, NarrowColumns, AgreeOn}
use Rattle.plan_meaning.specs.Counting.{stand_in_names}
use Rattle.plan_meaning.specs.Asked.{set_of, selected_exprs, needed_names}
use Rattle.plan_frame.proofs.NameSets.{has_front, has_back, adds_names}
use Rattle.plan_frame.proofs.FrameLemmas.{agree_fewer}
use Rattle.plan_frame.proofs.Depends.{val_depends, type_within}
use Rattle.plan_meaning.proofs.CheckParts.{MadeGood}
use Rattle.plan_frame.proofs.MadeColumns.{types_made}
use Rattle.plan_meaning.proofs.KeptExprs.{all_selected, new_distinct}
use Rattle.plan_pruned.specs.Pruned.{typed_names}
use Rattle.plan_pruned.proofs.NarrowLemmas.{holding_same}
use Rattle.plan_pruned.proofs.TypedNames.{new_from}
use Rattle.plan_schema.proofs.StoredLemmas.{same_is, is_same}
pub use Rattle.plan_pruned.proofs.SideLemmas.{SameLeaves, front_leaves, back_leaves, same_known}

-- at names, or at everything where there are none

pub set_types : (w : List Name) (r s : Columns) → NarrowColumns (set_of w) r s → (b : Name) → has w b ≡ true → type_of r b ≡ type_of s b
set_types [] r s h b i = cc
set_types (a ∷ w) r s h b i = holding_same (a ∷ w) r s h b i

pub set_within : (w : List Name) (r s : Columns) → NarrowColumns (set_of w) r s → (b : Name) → is_some (type_of r b) ≡ true → is_some (type_of s b) ≡ true
set_within [] r s h b i = subst (λ (x : Columns). is_some (type_of x b) ≡ true) h i
set_within (a ∷ w) r s h b i = h.within b i

pub set_frames : (w : List Name) (f g : Frame) → AgreeOn (set_of w) f g → Agree w f g
set_frames [] f g e = record { height = ap (λ (x : Frame). x.height) e; same = λ a i. cc }
set_frames (a ∷ w) f g h = h

pub leaf_types : (es : List Named) (r s : Columns) → NarrowColumns (set_of (with_names [] (all_leaves es))) r s → (b : Name) → has (all_leaves es) b ≡ true → type_of r b ≡ type_of s b
leaf_types es r s h b i = set_types (with_names [] (all_leaves es)) r s h b (adds_names [] (all_leaves es) b i)

pub leaf_frames : (es : List Named) (f g : Frame) → AgreeOn (set_of (with_names [] (all_leaves es))) f g → Agree (all_leaves es) f g
leaf_frames es f g h =
    let w = with_names [] (all_leaves es) in
    agree_fewer (all_leaves es) w f g (λ b i. adds_names [] (all_leaves es) b i) (set_frames w f g h)

-- the number of rows reads no column

none_read : (es : List Named) → AllByRecursion (λ (e : Named). leaves e.expr ≡ []) es → all_leaves es ≡ []
none_read [] h = refl
none_read (e ∷ es) h = ap₂ (λ (x y : List Name). x ++ y) h.0 (none_read es h.1)

len_reads : (e : Expr) → is_len e ≡ true → leaves e ≡ []
len_reads (rose n row_count no_roses) h = refl
len_reads (rose n row_count (more e es)) h = cc
len_reads (rose n (column name) es) h = cc
len_reads (rose n (literal value) es) h = cc
len_reads (rose n (alias name) es) h = cc
len_reads (rose n (binary op) es) h = cc
len_reads (rose n ternary es) h = cc
len_reads (rose n (aggregate op) es) h = cc
len_reads (rose n (call function options) es) h = cc
len_reads (rose n window es) h = cc

counts_read : (es : List Named) → counts_rows es ≡ true → AllByRecursion (λ (e : Named). leaves e.expr ≡ []) es
counts_read (e ∷ []) h = (len_reads e.expr h, tt)
counts_read [] h = cc
counts_read (e ∷ d ∷ es) h = cc

pub none_selected : (es : List Named) (a : Asked) → counts_rows es ≡ true → all_leaves (selected_exprs a es) ≡ []
none_selected es a h = none_read (selected_exprs a es) (all_selected (λ (e : Named). leaves e.expr ≡ []) a es (counts_read es h))

no_leaf : (ks : List Named) → all_leaves ks ≡ [] → (b : Name) → has (all_leaves ks) b ≡ true → ⊥
no_leaf ks none b i = let k : false ≡ true = sym (ap (λ (l : List Name). has l b) none) ∙ i in cc

-- at what a selection needs that keeps some expressions

pub needed_types : (es ks : List Named) (o : Option Name) (r s : Columns) → (counts_rows es ≡ true → all_leaves ks ≡ []) → NarrowColumns (set_of (needed_names es o ks)) r s → SameLeaves ks r s
needed_types es ks o r s none h = at (counts_rows es) none h
  where
    at : (t : Bool) → (t ≡ true → all_leaves ks ≡ []) → NarrowColumns (set_of (cond t (stand_in_names o) (with_names [] (all_leaves ks)))) r s → SameLeaves ks r s
    at true n k = λ b i. absurd (no_leaf ks (n refl) b i)
    at false n k = leaf_types ks r s k

pub needed_frames : (es ks : List Named) (o : Option Name) (f g : Frame) → (counts_rows es ≡ true → all_leaves ks ≡ []) → AgreeOn (set_of (needed_names es o ks)) f g → Agree (all_leaves ks) f g
needed_frames es ks o f g none h = at (counts_rows es) none h
  where
    at : (t : Bool) → (t ≡ true → all_leaves ks ≡ []) → AgreeOn (set_of (cond t (stand_in_names o) (with_names [] (all_leaves ks)))) f g → Agree (all_leaves ks) f g
    at true n k = agree_fewer (all_leaves ks) (stand_in_names o) f g (λ b i. absurd (no_leaf ks (n refl) b i)) (set_frames (stand_in_names o) f g k)
    at false n k = leaf_frames ks f g k

-- over these the expressions make the same columns
pub same_made : (es : List Named) (r s : Columns) → SameLeaves es r s → map (made_column r) es ≡ map (made_column s) es
same_made [] r s h = refl
same_made (e ∷ es) r s h = ap₂ (λ (o : Option DataType) (cs : Columns). (name_of e.name, unwrap_or o types.Int64) ∷ cs) (type_within e.expr r s (front_leaves e es r s h)) (same_made es r s (back_leaves e es r s h))

same_typed : (es : List Named) (r s : Columns) → SameLeaves es r s → AllByRecursion (λ (e : Named). is_some (expr_type e.expr s) ≡ true) es → AllByRecursion (λ (e : Named). is_some (expr_type e.expr r) ≡ true) es
same_typed [] r s h k = tt
same_typed (e ∷ es) r s h k = (ap is_some (type_within e.expr r s (front_leaves e es r s h)) ∙ k.0, same_typed es r s (back_leaves e es r s h) k.1)

-- over frames that agree on what they read they make the same values
pub same_values : (h : ℕ) (es : List Named) (f g : Frame) → Agree (all_leaves es) f g → made_columns h f es ≡ made_columns h g es
same_values h [] f g a = refl
same_values h (e ∷ es) f g a =
    let here = agree_fewer (leaves e.expr) (all_leaves (e ∷ es)) f g (λ b i. has_front (leaves e.expr) (all_leaves es) b i) a in
    let rest = agree_fewer (all_leaves es) (all_leaves (e ∷ es)) f g (λ b i. has_back (leaves e.expr) (all_leaves es) b i) a in
    ap₂ (λ (c : Cell) (cs : List Column). record { name = name_of e.name; values = filled h c } ∷ cs) (val_depends e.expr f g here) (same_values h es f g rest)

-- the output names with their types among columns that have them
typed-made : (t s : Columns) (es : List Named) → AllByRecursion (λ (e : Named). type_of t (name_of e.name) ≡ Some (made_column s e).1) es → typed_names t (out_names es) ≡ map (made_column s) es
typed-made t s [] h = refl
typed-made t s (e ∷ es) h =
    ap (λ (o : Option DataType). cons_option (option_map (λ (d : DataType). (name_of e.name, d)) o) (typed_names t (out_names es))) h.0
    ∙ ap (λ (cs : Columns). made_column s e ∷ cs) (typed-made t s es h.1)

-- what is left of expressions, over other columns
module _ (base : Columns) (es : List Named) (stored s : Columns) (good : MadeGood base es stored s) where
  pub once_names : AreDistinct (out_names es)
  once_names = new_distinct 1 [] (out_names es) good.once

  typed_in : AllByRecursion (λ (e : Named). type_of stored (name_of e.name) ≡ Some (made_column s e).1) es
  typed_in =
      subst (λ (t : Columns). AllByRecursion (λ (e : Named). type_of t (name_of e.name) ≡ Some (made_column s e).1) es) (sym (same_is stored (made_schema base es s) good.same))
      (types_made s base es once_names)

  module _ (ks : List Named) (sub : (P : Named → Type 0) → AllByRecursion P es → AllByRecursion P ks) (r : Columns) (same : SameLeaves ks r s) where
    -- the stored columns of what is left are what it makes
    pub left_stored : typed_names stored (out_names ks) ≡ map (made_column r) ks
    left_stored = typed-made stored s ks (sub (λ (e : Named). type_of stored (name_of e.name) ≡ Some (made_column s e).1) typed_in) ∙ sym (same_made ks r s same)

    -- what the checks on it say
    pub left_made : (base' stored' : Columns) → AreDistinct (out_names ks) → stored' ≡ made_schema base' ks r → MadeGood base' ks stored' r
    left_made base' stored' once is = record {
      formed = sub (λ (e : Named). has_form e.expr ≡ true) good.formed;
      known = same_known ks r s same (sub (λ (e : Named). all_known (leaves e.expr) s ≡ true) good.known);
      typed = same_typed ks r s same (sub (λ (e : Named). is_some (expr_type e.expr s) ≡ true) good.typed);
      once = new_from 1 [] (out_names ks) (λ a i. refl) once;
      same = is_same stored' (made_schema base' ks r) is;
      named = sub (λ (e : Named). may_be_named e.name (naming e.expr) ≡ true) good.named;
    }
