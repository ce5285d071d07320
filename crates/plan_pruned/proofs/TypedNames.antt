-- Names with their types among columns, and names that are each new.
use Rattle.std.proofs.Common.{◌≡◌, Bool, true, false, cond, List, [], ◌∷◌, map, Option, Some, None, unwrap_or, option_map, refl, sym, ap, ◌∙◌, subst, is_some, ⊎_elim}
use Rattle.std.specs.List.{AllByRecursion, cons_option}
use Rattle.std.specs.Str.{bytes_eq}
use Rattle.plan_core.specs.declared.data_type.DataType.{DataType}
use Rattle.plan_core.specs.declared.data_type.DataType.TheVariants.{Int64}
use Rattle.plan_core.specs.Columns.{Columns, names_of, type_of}
use Rattle.plan_core.specs.Names.{has, AreDistinct}
use Rattle.plan_expr.specs.Leaves.{Name}
use Rattle.plan_frame.proofs.FrameLemmas.{is_type_some}
use Rattle.plan_frame.proofs.NameSets.{named, same_named, has_cons, has_first, has_later}
use Rattle.plan_meaning.specs.Checks.{is_column}
use Rattle.plan_file_scan.specs.Left.{AreNamed}
use Rattle.plan_pruned.specs.Pruned.{typed_names}
pub use Rattle.plan_pruned.proofs.SideLemmas.{new_from}

abbrev pub type_or : Columns → Name → DataType
type_or s a = unwrap_or (type_of s a) Int64

abbrev pub columns_at : List Name → Columns → Columns
columns_at wanted s = map (λ (a : Name). (a, type_or s a)) wanted

pub some_or : (o : Option DataType) → is_some o ≡ true → o ≡ Some (unwrap_or o Int64)
some_or None e = cc
some_or (Some t) e = refl

-- where all names are known, each gets its type
pub typed-known : (s : Columns) (wanted : List Name) → ((a : Name) → has wanted a ≡ true → is_some (type_of s a) ≡ true) → typed_names s wanted ≡ columns_at wanted s
typed-known s [] known = refl
typed-known s (a ∷ wanted) known = at (type_of s a) (known a (has_first a wanted)) (typed-known s wanted (λ b i. known b (has_later a wanted b i)))
  where
    at : (o : Option DataType) → is_some o ≡ true → typed_names s wanted ≡ columns_at wanted s → cons_option (option_map (λ (d : DataType). (a, d)) o) (typed_names s wanted) ≡ (a, unwrap_or o Int64) ∷ columns_at wanted s
    at None e r = cc
    at (Some t) e r = ap (λ (x : Columns). (a, t) ∷ x) r

pub names-columns_at : (wanted : List Name) (s : Columns) → names_of (columns_at wanted s) ≡ wanted
names-columns_at [] s = refl
names-columns_at (a ∷ wanted) s = ap (λ (x : List Name). a ∷ x) (names-columns_at wanted s)

type_at : (s : Columns) (a b : Name) (wanted : List Name) (t : Bool) → bytes_eq b a ≡ t → (has wanted b ≡ true → type_of (columns_at wanted s) b ≡ Some (type_or s b)) → has (a ∷ wanted) b ≡ true → cond t (Some (type_or s a)) (type_of (columns_at wanted s) b) ≡ Some (type_or s b)
type_at s a b wanted true e r i = ap (λ (x : Name). Some (type_or s x)) (sym (named b a e))
type_at s a b wanted false e r i = r (⊎_elim (λ q. other q) (λ q. q) (has_cons a wanted b i))
  where
    other : b ≡ a → has wanted b ≡ true
    other q = let x : bytes_eq b a ≡ true = ap (bytes_eq b) (sym q) ∙ same_named b in cc

pub type_of-columns_at : (s : Columns) (wanted : List Name) (b : Name) → has wanted b ≡ true → type_of (columns_at wanted s) b ≡ Some (type_or s b)
type_of-columns_at s [] b i = cc
type_of-columns_at s (a ∷ wanted) b i = type_at s a b wanted (bytes_eq b a) refl (type_of-columns_at s wanted b) i

-- the names with their types, each once
pub typed_named : (file : Columns) (wanted : List Name) → AreDistinct wanted → ((a : Name) → has wanted a ≡ true → is_some (type_of file a) ≡ true) → AreNamed wanted file (typed_names file wanted)
typed_named file wanted once known =
    let are : typed_names file wanted ≡ columns_at wanted file = typed-known file wanted known in
    let by_name : names_of (typed_names file wanted) ≡ wanted = ap names_of are ∙ names-columns_at wanted file in
    record {
      named = λ a. ap (λ (l : List Name). has l a) by_name;
      typed = λ a i. ap (λ (s : Columns). type_of s a) are ∙ type_of-columns_at file wanted a i ∙ sym (some_or (type_of file a) (known a i));
      once = subst AreDistinct (sym by_name) once;
    }

-- each of the names, as a column
pub each_column : (P : Name × DataType → Type 0) (s : Columns) (wanted : List Name) → ((a : Name) → has wanted a ≡ true → P (a, type_or s a)) → AllByRecursion P (columns_at wanted s)
each_column P s [] h = tt
each_column P s (a ∷ wanted) h = (h a (has_first a wanted), each_column P s wanted (λ b i. h b (has_later a wanted b i)))

-- columns that are others have their types
pub all_typed : (file cs : Columns) (a : Name) (t : DataType) → AllByRecursion (λ (c : Name × DataType). is_column file c ≡ true) cs → type_of cs a ≡ Some t → type_of file a ≡ Some t
all_typed file [] a t h e = cc
all_typed file (c ∷ cs) a t h e = at (bytes_eq a c.0) refl (λ q. all_typed file cs a t h.1 q) e
  where
    at : (u : Bool) → bytes_eq a c.0 ≡ u → (type_of cs a ≡ Some t → type_of file a ≡ Some t) → cond u (Some c.1) (type_of cs a) ≡ Some t → type_of file a ≡ Some t
    at true q r e = ap (type_of file) (named a c.0 q) ∙ is_type_some (type_of file c.0) c.1 h.0 ∙ e
    at false q r e = r e
