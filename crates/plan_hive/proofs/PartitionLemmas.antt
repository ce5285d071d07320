-- The partitions of paths, column by column.
use Rattle.std.proofs.Common.{◌≡◌, ◌∙◌, ◌++◌, ◌∷◌, [], ◌&&◌, List, ℤ, Bool, true, Option, None, Some, is_some, option_map, unwrap_or, refl, sym, ap, append_assoc, subst}
use Rattle.std.specs.Map.{lookup}
use Rattle.std.specs.Option.{option_and_then}
use Rattle.std.specs.Str.{bytes_eq}
use Rattle.plan_core.specs.Columns.{Columns}
use Rattle.plan_core.specs.declared.data_type.DataType.{DataType}
use Rattle.plan_core.specs.declared.data_type.DataType.TheVariants as types
use Rattle.plan_table.specs.Tables.{IsOf}
use Rattle.plan_table.specs.declared.value.AnyValue.{AnyValue}
use Rattle.plan_table.specs.declared.value.AnyValue.TheVariants as values
use Rattle.plan_hive.specs.Parts.{Text, HivePart}
use Rattle.plan_hive.specs.Hive.{is_read, partition_of, value_in}
use Rattle.plan_scan.specs.Stats.{Stats, stat, AreOf}
use Rattle.plan_hive.specs.Values.{number_of, spelled, truth_of, value_as}

-- the value of a column whose text is there
pub value-there : (parts : List HivePart) (name : Text) (dtype : DataType) (text : Option Text) (v : AnyValue) → lookup (bytes_eq name) parts ≡ Some text → value_as dtype text ≡ Some v → value_in parts (name, dtype) ≡ Some v
value-there parts name dtype text v is e = ap (option_and_then (value_as dtype)) is ∙ e

-- one more column is put behind those that are there
pub partition-next : (parts : List HivePart) (left rest : Columns) (done whole : Stats) (name n : Text) (dtype : DataType) (v : AnyValue) (new : Stats) → left ≡ (name, dtype) ∷ rest → value_in parts (name, dtype) ≡ Some v → n ≡ name → new ≡ done ++ record { field = record { name = n; dtype = dtype }; value = v } ∷ [] → done ++ partition_of left parts ≡ whole → new ++ partition_of rest parts ≡ whole
partition-next parts left rest done whole name n dtype v new is e p pushed all =
    ap (λ (x : Stats). x ++ partition_of rest parts) (pushed ∙ ap (λ (a : Text). done ++ stat (a, dtype) v ∷ []) p)
    ∙ append_assoc done (stat (name, dtype) v ∷ []) (partition_of rest parts)
    ∙ ap (λ (o : Option AnyValue). done ++ stat (name, dtype) (unwrap_or o values.Null) ∷ partition_of rest parts) (sym e)
    ∙ ap (λ (cs : Columns). done ++ partition_of cs parts) (sym is)
    ∙ all

pub read-next : (parts : List HivePart) (left rest : Columns) (whole : Bool) (c : Text × DataType) (v : AnyValue) → left ≡ c ∷ rest → value_in parts c ≡ Some v → is_read left parts ≡ whole → is_read rest parts ≡ whole
read-next parts left rest whole c v is e all =
    ap (λ (o : Option AnyValue). is_some o && is_read rest parts) (sym e) ∙ ap (λ (cs : Columns). is_read cs parts) (sym is) ∙ all

-- what a text spells of a type is of that type
pub spelled-typed : (dtype : DataType) (text : Text) (v : AnyValue) → spelled dtype text ≡ Some v → IsOf dtype v
spelled-typed types.Int64 text v h = at (number_of text) h
  where
    at : (o : Option ℤ) → option_map values.Int64 o ≡ Some v → IsOf types.Int64 v
    at None e = cc
    at (Some n) e = let is : values.Int64 n ≡ v = cc in subst (IsOf types.Int64) is tt
spelled-typed types.String text v h = let is : values.String text ≡ v = cc in subst (IsOf types.String) is tt
spelled-typed types.Boolean text v h = at (truth_of text) h
  where
    at : (o : Option Bool) → option_map values.Boolean o ≡ Some v → IsOf types.Boolean v
    at None e = cc
    at (Some b) e = let is : values.Boolean b ≡ v = cc in subst (IsOf types.Boolean) is tt
spelled-typed (types.List t) text v h = cc

null-typed : (d : DataType) → IsOf d values.Null
null-typed types.Int64 = tt
null-typed types.String = tt
null-typed types.Boolean = tt
null-typed (types.List t) = tt

pub value-typed : (dtype : DataType) (text : Option Text) (v : AnyValue) → value_as dtype text ≡ Some v → IsOf dtype v
value-typed dtype None v h = let is : values.Null ≡ v = cc in subst (IsOf dtype) is (null-typed dtype)
value-typed dtype (Some text) v h = spelled-typed dtype text v h

one-typed : (dtype : DataType) (o : Option (Option Text)) (v : AnyValue) → option_and_then (value_as dtype) o ≡ Some v → IsOf dtype v
one-typed dtype None v h = cc
one-typed dtype (Some text) v h = value-typed dtype text v h

-- where each value is read, the columns have values of their types
pub partition-formed : (cs : Columns) (parts : List HivePart) → is_read cs parts ≡ true → AreOf cs (partition_of cs parts)
partition-formed [] parts h = record { named = refl; typed = tt }
partition-formed (c ∷ cs) parts h = at (partition-formed cs parts) (value_in parts c) refl h
  where
    at : (is_read cs parts ≡ true → AreOf cs (partition_of cs parts)) → (o : Option AnyValue) → value_in parts c ≡ o → (is_some o && is_read cs parts) ≡ true → AreOf (c ∷ cs) (partition_of (c ∷ cs) parts)
    at rest None q e = cc
    at rest (Some v) q e =
        let below = rest e in
        record {
          named = ap (λ (x : Columns). c ∷ x) below.named;
          typed = (subst (λ (o : Option AnyValue). IsOf c.1 (unwrap_or o values.Null)) (sym q) (one-typed c.1 (lookup (bytes_eq c.0) parts) v q), below.typed);
        }
