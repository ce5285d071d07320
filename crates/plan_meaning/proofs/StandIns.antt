-- A column that stands in for a plan's rows is one of the plan's.
use Rattle.std.proofs.Common.{◌≡◌, ◌||◌, Bool, true, false, cond, List, [], ◌∷◌, Option, Some, None, refl, sym, ap, ◌∙◌, is_some}
use Rattle.plan_core.specs.declared.data_type.DataType.{DataType}
use Rattle.plan_core.specs.Columns.{Columns, names_of, type_of}
use Rattle.plan_core.specs.Names.{has}
use Rattle.plan_tree.specs.Rose.{Roses, rose, no_roses, more}
use Rattle.plan_expr.specs.Exprs.{Named}
use Rattle.plan_expr.specs.Leaves.{Name}
use Rattle.plan_expr.specs.Naming.{name_of}
use Rattle.plan_expr.specs.Scalars.{is_scalar}
use Rattle.plan_ir.specs.Plans.{Op, slice, filter, scan, frame_scan, simple_projection, select, hstack, sort, group_by, join, distinct, map_function, sink, union, hconcat, cache, invalid}
use Rattle.plan_meaning.specs.Typing.{first_schema, schema_by, schemas}
use Rattle.plan_frame.specs.ExprLists.{out_names, first_many}
use Rattle.plan_frame.specs.Made.{made_schema}
use Rattle.plan_frame.specs.Beside.{side_by_side}
use Rattle.plan_meaning.specs.Functions.{function_schema}
use Rattle.plan_meaning.specs.Counting.{last_name, first_name, stand_in, stand_ins, first_stand_in}
use Rattle.plan_frame.proofs.NameSets.{has_first, has_later, some-type_of}
use Rattle.plan_frame.proofs.MadeColumns.{some-made}

-- what stands in is one of the columns, where anything does
abbrev pub IsStandIn : Option Name → Columns → Type 0
IsStandIn None s = Unit {0}
IsStandIn (Some a) s = is_some (type_of s a) ≡ true

-- the same of several columns, one for one
abbrev pub AreStandIns : List (Option Name) → List Columns → Type 0
AreStandIns [] [] = Unit {0}
AreStandIns (o ∷ os) (s ∷ ss) = IsStandIn o s × AreStandIns os ss
AreStandIns _ _ = ⊥

pub first_stands : (os : List (Option Name)) (s : Columns) (ss : List Columns) → AreStandIns os (s ∷ ss) → IsStandIn (first_stand_in os) s
first_stands [] s ss k = absurd k
first_stands (o ∷ os) s ss k = k.0

later : (c : Name × DataType) (s : Columns) (o : Option Name) → IsStandIn o s → IsStandIn o (c ∷ s)
later c s None k = tt
later c s (Some a) k = some-type_of (c ∷ s) a ∙ has_later c.0 (names_of s) a (sym (some-type_of s a) ∙ k)

last_known : (s : Columns) → IsStandIn (last_name s) s
last_known [] = tt
last_known (c ∷ []) = some-type_of (c ∷ []) c.0 ∙ has_first c.0 []
last_known (c ∷ d ∷ cs) = later c (d ∷ cs) (last_name (d ∷ cs)) (last_known (d ∷ cs))

-- the first expression that isn't scalar is one of them
first_known : (es : List Named) (o : Option Name) (s : Columns) → ((b : Name) → has (out_names es) b ≡ true → is_some (type_of s b) ≡ true) → IsStandIn o s → IsStandIn (first_name (first_many es) o) s
first_known [] o s k last = last
first_known (e ∷ es) o s k last = at (is_scalar e.expr) (first_known es o s (λ b i. k b (has_later (name_of e.name) (out_names es) b i)) last)
  where
    at : (t : Bool) → IsStandIn (first_name (first_many es) o) s → IsStandIn (first_name (cond t (first_many es) (e ∷ [])) o) s
    at true r = r
    at false r = k (name_of e.name) (has_first (name_of e.name) (out_names es))

-- what expressions make is among the columns
made_known : (s base : Columns) (es : List Named) (b : Name) → has (out_names es) b ≡ true → is_some (type_of (made_schema base es s) b) ≡ true
made_known s base es b i = some-made s base es b ∙ ap (λ (x : Bool). is_some (type_of base b) || x) i ∙ or_true (is_some (type_of base b))
  where
    or_true : (x : Bool) → (x || true) ≡ true
    or_true true = refl
    or_true false = refl

-- per node
stand_in_known : (op : Op) (ss : List Columns) → IsStandIn (stand_in op (schema_by op ss)) (schema_by op ss)
stand_in_known (slice offset len) ss = last_known (first_schema ss)
stand_in_known (filter predicate) ss = last_known (first_schema ss)
stand_in_known (scan sources info hive predicate output kind options) ss = last_known (schema_by (scan sources info hive predicate output kind options) ss)
stand_in_known (frame_scan df schema output) ss = last_known (schema_by (frame_scan df schema output) ss)
stand_in_known (simple_projection columns) ss = last_known columns
stand_in_known (select exprs stored options) ss =
    let s = schema_by (select exprs stored options) ss in
    first_known exprs (last_name s) s (made_known (first_schema ss) [] exprs) (last_known s)
stand_in_known (hstack exprs stored options) ss =
    let s = schema_by (hstack exprs stored options) ss in
    first_known exprs (last_name s) s (made_known (first_schema ss) (first_schema ss) exprs) (last_known s)
stand_in_known (sort keys part options) ss = last_known (first_schema ss)
stand_in_known (group_by keys aggs schema ordered options) ss = last_known (schema_by (group_by keys aggs schema ordered options) ss)
stand_in_known (join left_on right_on stored told) ss = last_known (schema_by (join left_on right_on stored told) ss)
stand_in_known (distinct options) ss = last_known (first_schema ss)
stand_in_known (map_function function) ss = last_known (function_schema function (first_schema ss))
stand_in_known (sink payload) ss = last_known (first_schema ss)
stand_in_known (union options) ss = last_known (first_schema ss)
stand_in_known (hconcat schema options) ss = last_known (side_by_side ss)
stand_in_known (cache id hits) ss = last_known (first_schema ss)
stand_in_known invalid ss = tt

-- of several plans
pub are_stand_ins : (ts : Roses (Unit {0}) Op) → AreStandIns (stand_ins ts (schemas ts)) (schemas ts)
are_stand_ins no_roses = tt
are_stand_ins (more (rose n op ts) rest) = (stand_in_known op (schemas ts), are_stand_ins rest)
