-- The values of hive parts are of their types.
use Rattle.std.proofs.Common.{◌≡◌, true, List, [], ◌∷◌, refl}
use Rattle.std.specs.List.{AllByRecursion, list_all}
use Rattle.plan_core.specs.declared.data_type.DataType.{DataType}
use Rattle.plan_core.specs.declared.data_type.DataType.TheVariants as types
use Rattle.plan_core.specs.declared.data_type.PlainType.{PlainType}
use Rattle.plan_core.specs.declared.data_type.PlainType.TheVariants as plains
use Rattle.plan_table.specs.Tables.{IsOf, IsPlainOf}
use Rattle.plan_table.specs.declared.value.AnyValue.{AnyValue}
use Rattle.plan_table.specs.declared.value.AnyValue.TheVariants as values
use Rattle.plan_table.specs.declared.value.PlainValue.{PlainValue}
use Rattle.plan_table.specs.declared.value.PlainValue.TheVariants as singles
use Rattle.plan_scan.specs.Stats.{AreOf, HasType, Stats, columns_of}
use Rattle.plan_files.specs.HiveParts.{are_typed, is_of, is_single_of}

single_is : (t : PlainType) (v : PlainValue) → IsPlainOf t v → is_single_of t v ≡ true
single_is t singles.Null h = refl
single_is plains.Int64 (singles.Int64 n) h = refl
single_is plains.String (singles.String s) h = refl
single_is plains.Boolean (singles.Boolean b) h = refl
single_is _ _ h = absurd h

singles_are : (t : PlainType) (vs : List PlainValue) → AllByRecursion (IsPlainOf t) vs → list_all (is_single_of t) vs ≡ true
singles_are t [] h = refl
singles_are t (v ∷ vs) h = rw (single_is t v h.0) (singles_are t vs h.1)

value_is : (t : DataType) (v : AnyValue) → IsOf t v → is_of t v ≡ true
value_is t values.Null h = refl
value_is types.Int64 (values.Int64 n) h = refl
value_is types.String (values.String s) h = refl
value_is types.Boolean (values.Boolean b) h = refl
value_is (types.List t) (values.List vs) h = singles_are t vs h
value_is _ _ h = absurd h

values_are : (part : Stats) → AllByRecursion HasType part → are_typed part ≡ true
values_are [] h = refl
values_are (s ∷ part) h = rw (value_is s.field.dtype s.value h.0) (values_are part h.1)

-- each value of a part is null or of its column's type
pub part_typed : (part : Stats) → AreOf (columns_of part) part → are_typed part ≡ true
part_typed part h = values_are part h.typed
