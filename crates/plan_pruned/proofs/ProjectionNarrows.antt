-- A projection that keeps what is asked narrows.
use Rattle.std.proofs.Common.{◌≡◌, Bool, true, false, cond, not, List, [], ◌∷◌, Option, Some, None, refl, sym, ap, ap₂, ◌∙◌, subst, is_some}
use Rattle.std.specs.List.{AllByRecursion, filter as only_where}
use Rattle.std.specs.Str.{bytes_eq}
use Rattle.std.proofs.lemmas.Bool.{both_ways}
use Rattle.plan_core.specs.declared.data_type.DataType.{DataType}
use Rattle.plan_core.specs.Columns.{Columns, names_of, type_of}
use Rattle.plan_core.specs.Names.{has, with_names, AreDistinct}
use Rattle.plan_ir.specs.Plans.{simple_projection}
use Rattle.plan_frame.specs.Exprs.{is_type}
use Rattle.plan_meaning.specs.Checks.{is_empty, is_column}
use Rattle.plan_meaning.specs.Typing.{checks, AllHold}
use Rattle.plan_frame.specs.Frames.{Frame, cut, column_or, Agree}
use Rattle.plan_meaning.specs.Relating.{Asked, all, names, cached, Holding, NarrowColumns, AgreeOn}
use Rattle.plan_meaning.specs.Asked.{is_asked, kept, IsFair}
use Rattle.plan_frame.proofs.NameSets.{named, has_first, has_later, some-type_of, adds_names}
use Rattle.plan_frame.proofs.FrameLemmas.{agree_tables, agree_fewer, or_same, cut_same}
use Rattle.plan_meaning.proofs.AskedSets.{columns_good, has_some, some_name}
use Rattle.plan_meaning.proofs.CheckParts.{projection_good}
use Rattle.plan_meaning.proofs.Fairness.{kept_asked}
use Rattle.plan_meaning.proofs.JoinLemmas.{differ_distinct}
use Rattle.plan_meaning.proofs.KeptExprs.{distinct_where}
use Rattle.plan_expr.specs.Leaves.{Name}
use Rattle.plan_pruned.proofs.AskedNames.{kept_all, kept_cached}
use Rattle.plan_pruned.proofs.NarrowLemmas.{Local, holding_same, one_step}

-- an asked name has its type among the kept columns
pub type_of-kept : (a : Asked) (cs : Columns) (b : Name) → is_asked a b ≡ true → type_of (kept a cs) b ≡ type_of cs b
type_of-kept a [] b q = refl
type_of-kept a (c ∷ cs) b q = at (is_asked a c.0) (bytes_eq b c.0) refl refl (type_of-kept a cs b q)
  where
    at : (t u : Bool) → is_asked a c.0 ≡ t → bytes_eq b c.0 ≡ u → type_of (kept a cs) b ≡ type_of cs b → type_of (cond t (c ∷ kept a cs) (kept a cs)) b ≡ cond u (Some c.1) (type_of cs b)
    at true u e f r = ap₂ (λ (x : Bool) (y : Option DataType). cond x (Some c.1) y) f r
    at false false e f r = r
    at false true e f r = absurd (both_ways (is_asked a b) (ap (is_asked a) (named b c.0 f) ∙ e) q)

-- what holds of each column holds of those that are kept
all_kept : (a : Asked) (P : Name × DataType → Type 0) (cs : Columns) → AllByRecursion P cs → AllByRecursion P (kept a cs)
all_kept a P [] h = tt
all_kept a P (c ∷ cs) h = at (is_asked a c.0) (all_kept a P cs h.1)
  where
    at : (t : Bool) → AllByRecursion P (kept a cs) → AllByRecursion P (cond t (c ∷ kept a cs) (kept a cs))
    at true r = (h.0, r)
    at false r = r

-- columns of one list of columns are columns of another that has their types
columns_same : (r s ks : Columns) → ((b : Name) → has (names_of ks) b ≡ true → type_of r b ≡ type_of s b) → AllByRecursion (λ (c : Name × DataType). is_column s c ≡ true) ks → AllByRecursion (λ (c : Name × DataType). is_column r c ≡ true) ks
columns_same r s [] same h = tt
columns_same r s (c ∷ ks) same h = (
  ap (λ (o : Option DataType). is_type o c.1) (same c.0 (has_first c.0 (names_of ks))) ∙ h.0,
  columns_same r s ks (λ b i. same b (has_later c.0 (names_of ks) b i)) h.1,
)

-- the names that are kept of columns
names-kept : (a : Asked) (cs : Columns) → names_of (kept a cs) ≡ only_where (is_asked a) (names_of cs)
names-kept a [] = refl
names-kept a (c ∷ cs) = at (is_asked a c.0) (names-kept a cs)
  where
    at : (t : Bool) → names_of (kept a cs) ≡ only_where (is_asked a) (names_of cs) → names_of (cond t (c ∷ kept a cs) (kept a cs)) ≡ cond t (c.0 ∷ only_where (is_asked a) (names_of cs)) (only_where (is_asked a) (names_of cs))
    at true r = ap (λ (l : List Name). c.0 ∷ l) r
    at false r = r

not_false : (b : Bool) → not b ≡ true → b ≡ false
not_false true e = cc
not_false false e = refl

some_columns : (cs : Columns) (b : Name) → has (names_of cs) b ≡ true → is_empty cs ≡ false
some_columns [] b i = cc
some_columns (c ∷ cs) b i = refl

kept_name : (a : Asked) (cs : Columns) (b : Name) → is_asked a b ≡ true → has (names_of cs) b ≡ true → has (names_of (kept a cs)) b ≡ true
kept_name a cs b q i = sym (some-type_of (kept a cs) b) ∙ ap is_some (type_of-kept a cs b q) ∙ some-type_of cs b ∙ i

-- something is kept
pub kept_some : (a : Asked) (cs : Columns) → is_empty cs ≡ false → IsFair a cs → is_empty (kept a cs) ≡ false
kept_some all cs some f = ap is_empty (kept_all cs) ∙ some
kept_some cached cs some f = ap is_empty (kept_cached cs) ∙ some
kept_some (names wanted) cs some f =
    let first = has_some wanted f.some in
    some_columns (kept (names wanted) cs) first.0 (kept_name (names wanted) cs first.0 first.1 (sym (some-type_of cs first.0) ∙ f.known first.0 first.1))

pub some_is : (o : Option DataType) → is_some o ≡ true → (t : DataType) × (o ≡ Some t)
some_is None e = cc
some_is (Some t) e = (t, refl)

kept_narrows : (a : Asked) (cs : Columns) → IsFair a cs → NarrowColumns a (kept a cs) cs
kept_narrows all cs f = kept_all cs
kept_narrows cached cs f = kept_cached cs
kept_narrows (names wanted) cs f = record {
  held = λ b i. let t = some_is (type_of cs b) (f.known b i) in (t.0, type_of-kept (names wanted) cs b i ∙ t.1, t.1);
  within = λ b e. some-type_of cs b ∙ (kept_asked (names wanted) cs b (sym (some-type_of (kept (names wanted) cs) b) ∙ e)).0;
}

kept_agree : (a : Asked) (cs : Columns) (f g : Frame) → IsFair a cs → Agree (names_of (kept a cs)) f g → AgreeOn a (cut (names_of (kept a cs)) f) (cut (names_of cs) g)
kept_agree all cs f g fair h = cut_same (names_of (kept all cs)) f g h ∙ ap (λ (x : Columns). cut (names_of x) g) (kept_all cs)
kept_agree cached cs f g fair h = cut_same (names_of (kept cached cs)) f g h ∙ ap (λ (x : Columns). cut (names_of x) g) (kept_cached cs)
kept_agree (names wanted) cs f g fair h =
    agree_tables wanted f.height g.height (names_of (kept (names wanted) cs)) (names_of cs) (column_or f) (column_or g) h.height (λ b i.
    let k : has (names_of cs) b ≡ true = sym (some-type_of cs b) ∙ fair.known b i in
    let n = kept_name (names wanted) cs b i k in
    (n, k, or_same f g b b h.height (h.same b n)))

-- a projection that keeps what is asked, over an input that narrows at the names that it keeps
pub local_columns : (cs : Columns) (a : Asked) (r s : Columns) → AllHold (checks (simple_projection cs) (s ∷ [])) → IsFair a cs → Holding (with_names [] (names_of (kept a cs))) r s → Local (simple_projection (kept a cs)) (simple_projection cs) (names (with_names [] (names_of (kept a cs))) ∷ []) a (r ∷ []) (s ∷ [])
local_columns cs a r s good fair h =
    let ks = kept a cs in
    let wanted = with_names [] (names_of ks) in
    let same : (b : Name) → has (names_of ks) b ≡ true → type_of r b ≡ type_of s b = λ b i. holding_same wanted r s h b (adds_names [] (names_of ks) b i) in
    record {
      good = columns_good r ks (kept_some a cs (not_false (is_empty cs) good.0) fair)
          (subst AreDistinct (sym (names-kept a cs)) (distinct_where (is_asked a) (names_of cs) (differ_distinct (names_of cs) (projection_good cs s good).differ)))
          (columns_same r s ks same (all_kept a (λ (c : Name × DataType). is_column s c ≡ true) cs (projection_good cs s good).typed));
      schema = kept_narrows a cs fair;
      fits = λ c k. k;
      step = λ c fs gs f k hr has ag st. one_step c (simple_projection ks) (simple_projection cs) (names wanted) a r s
          (λ f0 g0 f hr hs ag st. (cut (names_of cs) g0, refl, subst (λ (x : Frame). AgreeOn a x (cut (names_of cs) g0)) (sym st) (kept_agree a cs f0 g0 fair (agree_fewer (names_of ks) wanted f0 g0 (λ b i. adds_names [] (names_of ks) b i) ag))))
          fs gs f hr has ag st;
    }

-- the names that a projection keeps are some
pub asked_some : (cs : Columns) (a : Asked) (s : Columns) → AllHold (checks (simple_projection cs) (s ∷ [])) → IsFair a cs → is_empty (with_names [] (names_of (kept a cs))) ≡ false
asked_some cs a s good fair = at (kept a cs) (kept_some a cs (not_false (is_empty cs) good.0) fair)
  where
    at : (ks : Columns) → is_empty ks ≡ false → is_empty (with_names [] (names_of ks)) ≡ false
    at [] e = cc
    at (c ∷ ks) e = some_name (with_names [] (names_of (c ∷ ks))) c.0 (adds_names [] (names_of (c ∷ ks)) c.0 (has_first c.0 (names_of ks)))
