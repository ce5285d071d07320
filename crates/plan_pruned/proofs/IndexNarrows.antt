-- A numbering of rows over an input that narrows at what it asks.
use Rattle.std.proofs.Common.{◌≡◌, ℕ, Bool, true, false, not, cond, List, Option, Some, is_some, unwrap_or, refl, sym, ap, ◌∙◌}
use Rattle.std.specs.Str.{bytes_eq}
use Rattle.std.proofs.lemmas.Bool.{not-true, false_from_ne_true}
use Rattle.plan_core.specs.declared.data_type.DataType.{DataType}
use Rattle.plan_core.specs.declared.data_type.DataType.TheVariants.{Int64}
use Rattle.plan_core.specs.Columns.{Columns, names_of, type_of}
use Rattle.plan_core.specs.Names.{has}
use Rattle.plan_ir.specs.declared.functions.FunctionIR.TheVariants.{RowIndex}
use Rattle.plan_expr.specs.Leaves.{Name}
use Rattle.plan_meaning.specs.Functions.{function_schema}
use Rattle.plan_meaning.specs.Contents.{Contents}
use Rattle.plan_meaning.specs.Mapped.{mapped}
use Rattle.plan_frame.specs.Reshaped.{row_numbers}
use Rattle.plan_meaning.specs.Typing.{function_checks, row_index_checks, AllHold}
use Rattle.plan_frame.specs.Frames.{Frame, HasSchema, found, Agree}
use Rattle.plan_meaning.specs.Relating.{Holding}
use Rattle.plan_meaning.specs.Asked.{function_names, Fair}
use Rattle.plan_frame.proofs.NameSets.{some-type_of}
use Rattle.plan_meaning.proofs.KeptExprs.{has_where}
use Rattle.plan_pruned.proofs.FunctionParts.{FunctionKept}

module _ (name : Name) (offset : Option ℕ) (wanted : List Name) (r s : Columns) (good : AllHold (function_checks (RowIndex name offset) s)) (fair : Fair wanted (function_schema (RowIndex name offset) s)) (h : Holding (function_names (RowIndex name offset) wanted s) r s) where
  -- the input has no column of the name
  absent : not (has (names_of s) name) ≡ true
  unfolding row_index_checks
  absent = good.0

  left_absent : has (names_of r) name ≡ false
  left_absent = false_from_ne_true (has (names_of r) name) (λ e.
      let there : has (names_of s) name ≡ true = sym (some-type_of s name) ∙ h.within name (some-type_of r name ∙ e) in
      let none : has (names_of s) name ≡ false = not-true (has (names_of s) name) absent in
      no there none)
    where
      no : has (names_of s) name ≡ true → has (names_of s) name ≡ false → ⊥
      no p q = cc

  index_good : AllHold (function_checks (RowIndex name offset) r)
  unfolding row_index_checks
  index_good = (ap not left_absent, tt)

  -- another asked name is one that is needed
  needed : (a : Name) → has wanted a ≡ true → bytes_eq a name ≡ false → has (function_names (RowIndex name offset) wanted s) a ≡ true
  needed a i e = has_where (has (names_of s)) wanted a (sym (some-type_of s a) ∙ ap (λ (b : Bool). is_some (cond b (Some Int64) (type_of s a))) (sym e) ∙ fair.known a i) i

  index_held : (a : Name) → has wanted a ≡ true → (t : DataType) × (type_of (function_schema (RowIndex name offset) r) a ≡ Some t) × (type_of (function_schema (RowIndex name offset) s) a ≡ Some t)
  index_held a i = at (bytes_eq a name) refl
    where
      at : (b : Bool) → bytes_eq a name ≡ b → (t : DataType) × (cond b (Some Int64) (type_of r a) ≡ Some t) × (cond b (Some Int64) (type_of s a) ≡ Some t)
      at true e = (Int64, refl, refl)
      at false e = h.held a (needed a i e)

  index_within : (a : Name) → is_some (type_of (function_schema (RowIndex name offset) r) a) ≡ true → is_some (type_of (function_schema (RowIndex name offset) s) a) ≡ true
  index_within a = at (bytes_eq a name)
    where
      at : (b : Bool) → is_some (cond b (Some Int64) (type_of r a)) ≡ true → is_some (cond b (Some Int64) (type_of s a)) ≡ true
      at true e = refl
      at false e = h.within a e

  index_agrees : (c : Contents) (f0 g0 : Frame) → HasSchema f0 r → HasSchema g0 s → Agree (function_names (RowIndex name offset) wanted s) f0 g0 → Agree wanted (mapped c (RowIndex name offset) f0) (mapped c (RowIndex name offset) g0)
  index_agrees c f0 g0 hr hs ag = record { height = ag.height; same = λ a i. at a i (bytes_eq a name) refl }
    where
      at : (a : Name) → has wanted a ≡ true → (b : Bool) → bytes_eq a name ≡ b → cond b (Some (row_numbers (unwrap_or offset 0) f0.height)) (found f0.columns a) ≡ cond b (Some (row_numbers (unwrap_or offset 0) g0.height)) (found g0.columns a)
      at a i true e = ap (λ (n : ℕ). Some (row_numbers (unwrap_or offset 0) n)) ag.height
      at a i false e = ag.same a (needed a i e)

  pub index_kept : FunctionKept (RowIndex name offset) wanted r s
  index_kept = record { good = index_good; schema = record { held = index_held; within = index_within }; agrees = index_agrees }
