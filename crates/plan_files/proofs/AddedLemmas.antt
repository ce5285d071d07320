-- Columns of files that are added one after another.
use Rattle.std.proofs.Common.{◌≡◌, ◌↔◌, Bool, true, false, not, ◌&&◌, cond, [], ◌∷◌, ◌++◌, Option, Some, None, is_some, refl, sym, ap, ap₂, ◌∙◌, subst, append_assoc, append-nil}
use Rattle.std.specs.Prelude.{fold, IsTrue}
use Rattle.std.proofs.lemmas.Bool.{and_parts}
use Rattle.plan_core.specs.declared.data_type.DataType.{DataType}
use Rattle.plan_core.specs.Columns.{Columns, HasDistinctNames, names_of, type_of, with_type}
use Rattle.plan_core.specs.Names.{has, AreDistinct}
use Rattle.plan_core.proofs.ColumnLemmas.{HasDistinctNames-none}
use Rattle.plan_core.proofs.MergeLemmas.{HasDistinctNames-with_type}
use Rattle.plan_expr.specs.Leaves.{Name}
use Rattle.plan_frame.specs.Beside.{side_by_side, with_new}
use Rattle.plan_frame.proofs.MadeColumns.{last_type}
use Rattle.plan_frame.proofs.NameSets.{names-append, some-type_of}
use Rattle.plan_files.specs.declared.columns.FileColumns.{FileColumns}
use Rattle.plan_files.specs.FileColumns.{with_all, with_next}
use Rattle.plan_files.proofs.FileLemmas.{none_before}

-- one column more

pub next_there : (columns : FileColumns) (a : Name) (t d : DataType) → type_of columns.schema a ≡ Some d → with_next columns (a, t) ≡ record { schema = columns.schema; differ = false }
next_there columns a t d e =
    let there : has (names_of columns.schema) a ≡ true = sym (some-type_of columns.schema a) ∙ ap (λ (o : Option DataType). is_some o) e in
    ap (λ (x : Bool). record { schema = cond x columns.schema (columns.schema ++ (a, t) ∷ []); differ = columns.differ && not x }) there ∙ ap (λ (x : Bool). record { schema = columns.schema; differ = x }) (and-false columns.differ)
  where
    and-false : (b : Bool) → (b && false) ≡ false
    and-false true = refl
    and-false false = refl

pub next_new : (columns : FileColumns) (a : Name) (t : DataType) → type_of columns.schema a ≡ None → with_next columns (a, t) ≡ record { schema = with_type columns.schema a t; differ = columns.differ }
next_new columns a t e =
    let absent : has (names_of columns.schema) a ≡ false = sym (some-type_of columns.schema a) ∙ ap (λ (o : Option DataType). is_some o) e in
    ap (λ (x : Bool). record { schema = cond x columns.schema (columns.schema ++ (a, t) ∷ []); differ = columns.differ && not x }) absent
    ∙ ap₂ (λ (cs : Columns) (x : Bool). record { schema = cs; differ = x }) (sym (last_type columns.schema a t absent)) (and-true columns.differ)
  where
    and-true : (b : Bool) → (b && true) ≡ b
    and-true true = refl
    and-true false = refl

-- columns that are added one after another, and then others
pub added_append : (columns : FileColumns) (cs ds : Columns) → with_all (with_all columns cs) ds ≡ with_all columns (cs ++ ds)
added_append columns [] ds = refl
added_append columns (c ∷ cs) ds = added_append (with_next columns c) cs ds

-- of each name the first
added-schema : (columns : FileColumns) (cs : Columns) → (with_all columns cs).schema ≡ fold with_new columns.schema cs
added-schema columns [] = refl
added-schema columns (c ∷ cs) = added-schema (with_next columns c) cs

pub added_firsts : (cs : Columns) → (with_all (record { schema = []; differ = true }) cs).schema ≡ side_by_side (cs ∷ [])
added_firsts cs = added-schema (record { schema = []; differ = true }) cs ∙ ap (λ (ds : Columns). fold with_new [] ds) (sym (append-nil cs))

-- they all differ exactly where no name comes twice

new_distinct : (s : Columns) (c : Name × DataType) → has (names_of s) c.0 ≡ false → HasDistinctNames s → HasDistinctNames (s ++ c ∷ [])
new_distinct s c e d = subst HasDistinctNames (last_type s c.0 c.1 e) (HasDistinctNames-with_type s c.0 c.1 d)

twice : (s : Columns) (c : Name × DataType) (cs : Columns) → HasDistinctNames (s ++ c ∷ cs) → has (names_of s) c.0 ≡ false
twice s c cs d = none_before (names_of s) c.0 (names_of cs) (subst AreDistinct (names-append s (c ∷ cs)) d)

-- what is added differs from what was there
abbrev Differ : FileColumns → Columns → Type 0
Differ columns cs = (columns.differ ≡ true) × HasDistinctNames (columns.schema ++ cs)

differ_all : (s : Columns) (b : Bool) (cs : Columns) → HasDistinctNames s → (with_all (record { schema = s; differ = b }) cs).differ ≡ true → (b ≡ true) × HasDistinctNames (s ++ cs)
differ_all s b [] d e = (e, subst HasDistinctNames (sym (append-nil s)) d)
differ_all s b (c ∷ cs) d e = at (has (names_of s) c.0) refl (λ t x h. differ_all t x cs h) e
  where
    at : (h : Bool) → has (names_of s) c.0 ≡ h → ((t : Columns) (x : Bool) → HasDistinctNames t → (with_all (record { schema = t; differ = x }) cs).differ ≡ true → (x ≡ true) × HasDistinctNames (t ++ cs)) → (with_all (record { schema = cond h s (s ++ c ∷ []); differ = b && not h }) cs).differ ≡ true → (b ≡ true) × HasDistinctNames (s ++ c ∷ cs)
    at true p by q =
        let r = by s (b && false) d q in
        absurd (no b r.0)
      where
        no : (b : Bool) → (b && false) ≡ true → ⊥
        no true h = cc
        no false h = cc
    at false p by q =
        let r = by (s ++ c ∷ []) (b && true) (new_distinct s c p d) q in
        ((and_parts b true r.0).0, subst HasDistinctNames (append_assoc s (c ∷ []) cs) r.1)

all_differ : (s : Columns) (cs : Columns) → HasDistinctNames s → HasDistinctNames (s ++ cs) → (with_all (record { schema = s; differ = true }) cs).differ ≡ true
all_differ s [] d h = refl
all_differ s (c ∷ cs) d h =
    let p : has (names_of s) c.0 ≡ false = twice s c cs h in
    subst (λ (x : Bool). (with_all (record { schema = cond x s (s ++ c ∷ []); differ = not x }) cs).differ ≡ true) (sym p)
    (all_differ (s ++ c ∷ []) cs (new_distinct s c p d) (subst HasDistinctNames (sym (append_assoc s (c ∷ []) cs)) h))

pub added_differ : (cs : Columns) → IsTrue (with_all (record { schema = []; differ = true }) cs).differ ↔ HasDistinctNames cs
added_differ cs = (λ e. (differ_all [] true cs HasDistinctNames-none e).1, λ h. all_differ [] cs HasDistinctNames-none h)
