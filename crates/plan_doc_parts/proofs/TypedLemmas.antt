-- What a document stands for as a value of a type is of that type.
use Rattle.std.proofs.Common.{◌≡◌, Bool, true, false, cond, List, [], ◌∷◌, Option, Some, subst}
use Rattle.std.specs.Prelude.{is_some}
use Rattle.std.specs.List.{AllByRecursion}
use Rattle.serde_json.specs.Data.{Data}
use Rattle.serde_json.specs.Find.{as_null}
use Rattle.plan_core.specs.declared.data_type.DataType.{DataType}
use Rattle.plan_core.specs.declared.data_type.DataType.TheVariants as types
use Rattle.plan_core.specs.declared.data_type.PlainType.{PlainType}
use Rattle.plan_core.specs.declared.data_type.PlainType.TheVariants as plains
use Rattle.plan_table.specs.declared.value.AnyValue.{AnyValue}
use Rattle.plan_table.specs.declared.value.AnyValue.TheVariants as values
use Rattle.plan_table.specs.declared.value.PlainValue.{PlainValue}
use Rattle.plan_table.specs.declared.value.PlainValue.TheVariants as singles
use Rattle.plan_table.specs.Tables.{IsPlainOf, IsOf}
use Rattle.plan_doc_parts.specs.Parts.{◌>>=◌, each, entries_of, name_of, integer_of, truth_of}
use Rattle.plan_doc_parts.specs.Values.{typed_single_of, single_value_of, single_values_of, typed_value_of, any_value_of, any_values_of}
use Rattle.plan_doc_parts.proofs.EntryLemmas.{bind_some, some_is}

-- what holds of all that f reads holds of each entry that is read
pub each_holds : {A : Type 0} (f : Data → Option A) (P : A → Type 0) → ((d : Data) (x : A) → f d ≡ Some x → P x) → (ds : List Data) (xs : List A) → each f ds ≡ Some xs → AllByRecursion P xs
each_holds f P one [] [] e = tt
each_holds f P one [] (x ∷ xs) e = absurd cc
each_holds {A = A} f P one (d ∷ ds) xs e =
    let a = bind_some (f d) (λ x. each f ds >>= λ zs. Some (x ∷ zs)) xs e in
    let b = bind_some (each f ds) (λ zs. Some (a.0 ∷ zs)) xs a.2 in
    let is : a.0 ∷ b.0 ≡ xs = some_is (a.0 ∷ b.0) xs b.2 in
    subst (AllByRecursion P) is (one d a.0 a.1, each_holds f P one ds b.0 b.1)

-- a single value that is read is of the type
single_typed : (t : PlainType) (d : Data) (v : PlainValue) → typed_single_of t d ≡ Some v → IsPlainOf t v
single_typed plains.Int64 d v e =
    let a = bind_some (integer_of d) (λ n. Some (singles.Int64 n)) v e in
    let is : singles.Int64 a.0 ≡ v = some_is (singles.Int64 a.0) v a.2 in
    subst (IsPlainOf plains.Int64) is tt
single_typed plains.String d v e =
    let a = bind_some (name_of d) (λ s. Some (singles.String s)) v e in
    let is : singles.String a.0 ≡ v = some_is (singles.String a.0) v a.2 in
    subst (IsPlainOf plains.String) is tt
single_typed plains.Boolean d v e =
    let a = bind_some (truth_of d) (λ b. Some (singles.Boolean b)) v e in
    let is : singles.Boolean a.0 ≡ v = some_is (singles.Boolean a.0) v a.2 in
    subst (IsPlainOf plains.Boolean) is tt

single_null : (t : PlainType) → IsPlainOf t singles.Null
single_null plains.Int64 = tt
single_null plains.String = tt
single_null plains.Boolean = tt

-- null, or a single value that is read, is null or of the type
single_is : (t : PlainType) (d : Data) (v : PlainValue) → single_value_of t d ≡ Some v → IsPlainOf t v
single_is t d v e = by_test (is_some (as_null d)) e
  where
    by_test : (b : Bool) → cond b (Some singles.Null) (typed_single_of t d) ≡ Some v → IsPlainOf t v
    by_test true q = subst (IsPlainOf t) (some_is singles.Null v q) (single_null t)
    by_test false q = single_typed t d v q

singles_are : (t : PlainType) (d : Data) (vs : List PlainValue) → single_values_of t d ≡ Some vs → AllByRecursion (IsPlainOf t) vs
unfolding single_values_of
singles_are t d vs e =
    let a = bind_some (entries_of d) (λ ds. each (single_value_of t) ds) vs e in
    each_holds (single_value_of t) (IsPlainOf t) (single_is t) a.0 vs a.2

-- a value that is read is of the type
typed_is : (t : DataType) (d : Data) (v : AnyValue) → typed_value_of t d ≡ Some v → IsOf t v
typed_is types.Int64 d v e =
    let a = bind_some (integer_of d) (λ n. Some (values.Int64 n)) v e in
    let is : values.Int64 a.0 ≡ v = some_is (values.Int64 a.0) v a.2 in
    subst (IsOf types.Int64) is tt
typed_is types.String d v e =
    let a = bind_some (name_of d) (λ s. Some (values.String s)) v e in
    let is : values.String a.0 ≡ v = some_is (values.String a.0) v a.2 in
    subst (IsOf types.String) is tt
typed_is types.Boolean d v e =
    let a = bind_some (truth_of d) (λ b. Some (values.Boolean b)) v e in
    let is : values.Boolean a.0 ≡ v = some_is (values.Boolean a.0) v a.2 in
    subst (IsOf types.Boolean) is tt
typed_is (types.List t) d v e =
    let a = bind_some (single_values_of t d) (λ vs. Some (values.List vs)) v e in
    let is : values.List a.0 ≡ v = some_is (values.List a.0) v a.2 in
    subst (IsOf (types.List t)) is (singles_are t d a.0 a.1)

null_is : (t : DataType) → IsOf t values.Null
null_is types.Int64 = tt
null_is types.String = tt
null_is types.Boolean = tt
null_is (types.List t) = tt

-- null, or a value that is read, is null or of the type
pub any_is : (t : DataType) (d : Data) (v : AnyValue) → any_value_of t d ≡ Some v → IsOf t v
any_is t d v e = by_test (is_some (as_null d)) e
  where
    by_test : (b : Bool) → cond b (Some values.Null) (typed_value_of t d) ≡ Some v → IsOf t v
    by_test true q = subst (IsOf t) (some_is values.Null v q) (null_is t)
    by_test false q = typed_is t d v q

-- values that are read are null or of the type
pub values_are : (t : DataType) (d : Data) (vs : List AnyValue) → any_values_of t d ≡ Some vs → AllByRecursion (IsOf t) vs
unfolding any_values_of
values_are t d vs e =
    let a = bind_some (entries_of d) (λ ds. each (any_value_of t) ds) vs e in
    each_holds (any_value_of t) (IsOf t) (any_is t) a.0 vs a.2
