-- In a valid plan the stored columns are those that are computed.
use Rattle.std.proofs.Common.{◌≡◌, ◌&&◌, Bool, true, false, cond, List, [], ◌∷◌, length, Option, Some, None, Err, refl, sym, ap, ap₂, ◌∙◌, subst}
use Rattle.plan_core.specs.declared.arena.Node.{Node}
use Rattle.plan_core.specs.declared.error.PolarsError.{PolarsError}
use Rattle.plan_core.specs.declared.error.PolarsError.TheVariants.{SchemaFieldNotFound, Duplicate, SchemaMismatch, InvalidOperation, ComputeError, OutOfMemory}
use Rattle.plan_core.specs.Columns.{Columns, same_columns}
use Rattle.plan_tree.specs.Rose.{Roses, rose, no_roses, more}
use Rattle.plan_expr.specs.declared.aexpr.AExpr.{AExpr}
use Rattle.plan_scan.specs.Sources.{sources_of}
use Rattle.plan_ir.specs.declared.ir.IR.{IR}
use Rattle.plan_ir.specs.Parts.{IsPlan}
use Rattle.plan_ir.specs.Plans.{Op, slice, filter, scan, frame_scan, simple_projection, select, hstack, sort, group_by, join, distinct, map_function, sink, union, hconcat, cache, invalid, bare, plans_at}
use Rattle.plan_meaning.specs.PlanAt.{one_plan, plan_at}
use Rattle.plan_meaning.specs.Steps.{IsValid}
use Rattle.plan_meaning.specs.Functions.{function_schema}
use Rattle.plan_frame.specs.Grouping.{group_exprs}
use Rattle.plan_meaning.specs.Checks.{Check, stored_checks}
use Rattle.plan_meaning.specs.Typing.{at as at_node, columns_or, first_fault, first_schema, function_checks, scan_columns, schema, schema_by, schemas, checks, Says, AllHold, AllValid}
use Rattle.plan_frame.specs.Beside.{side_by_side}
use Rattle.plan_meaning.proofs.Validity.{all_hold_unless, one_stands}
use Rattle.plan_meaning.proofs.JoinLemmas.{join_good}
pub use Rattle.plan_meaning.proofs.CheckParts.{same_is, is_same}
use Rattle.plan_meaning.proofs.CheckParts.{scan_good, made_good}
use Rattle.plan_schema.specs.Stored.{all_hold, wants_memory, stored_by, stored_all}

out_same : (output : Option Columns) (stored file : Columns) → stored ≡ file → columns_or output stored ≡ columns_or output file
out_same None stored file e = e
out_same (Some out) stored file e = refl

-- checks that hold, all of them
all-hold : (cs : List Check) → AllHold cs → all_hold cs ≡ true
all-hold [] h = refl
all-hold (c ∷ cs) h = ap₂ (λ (x y : Bool). x && y) h.0 (all-hold cs h.1)

pub all-without : (n : Node) (cs : List Check) → first_fault n cs ≡ None → all_hold cs ≡ true
all-without n cs e = all-hold cs (all_hold_unless n cs e)

-- and not all, where there is a fault
pub none-with : (n : Node) (cs : List Check) (e : PolarsError) → first_fault n cs ≡ Some e → all_hold cs ≡ false
none-with n [] e h = cc
none-with n (c ∷ cs) e h = at c.holds h (λ k. none-with n cs e k)
  where
    at : (b : Bool) → cond b (first_fault n cs) (Some (c.fault (at_node n c.place))) ≡ Some e → (first_fault n cs ≡ Some e → all_hold cs ≡ false) → (b && all_hold cs) ≡ false
    at true q r = r q
    at false q r = refl

-- a fault that isn't want of memory is the one that is told
pub fault-told : (e : PolarsError) (fault : Option PolarsError) → wants_memory e ≡ false → Says {A = Columns} (Err e) fault → fault ≡ Some e
fault-told OutOfMemory fault w h = cc
fault-told (SchemaFieldNotFound a) fault w h = h
fault-told (Duplicate a) fault w h = h
fault-told (SchemaMismatch a) fault w h = h
fault-told (InvalidOperation a) fault w h = h
fault-told (ComputeError a) fault w h = h

-- stored columns that hold are those that are computed
stored_holds : (stored computed : Columns) → AllHold (stored_checks stored computed) → same_columns stored computed ≡ true
unfolding stored_checks
stored_holds stored computed h = h.0

-- per node
stored-by : (op : Op) (ss : List Columns) → AllHold (checks op ss) → stored_by op ss ≡ schema_by op ss
stored-by (slice offset len) ss good = refl
stored-by (filter predicate) ss good = refl
stored-by (scan sources info hive predicate output kind options) [] good =
    let file = scan_columns info hive options in
    out_same output info.schema file (same_is info.schema file (scan_good (length (sources_of sources)) predicate output info hive options good).stored)
stored-by (scan sources info hive predicate output kind options) (s ∷ ss) good = cc
stored-by (frame_scan df schema output) ss good = refl
stored-by (simple_projection columns) ss good = refl
stored-by (select es schema options) (s ∷ []) good = same_is schema _ (made_good [] es schema s good.1).same
stored-by (select es schema options) [] good = cc
stored-by (select es schema options) (s ∷ t ∷ ss) good = cc
stored-by (hstack es schema options) (s ∷ []) good = same_is schema _ (made_good s es schema s good).same
stored-by (hstack es schema options) [] good = cc
stored-by (hstack es schema options) (s ∷ t ∷ ss) good = cc
stored-by (sort keys part options) ss good = refl
stored-by (group_by keys aggs schema ordered options) (s ∷ []) good = same_is schema _ (made_good [] (group_exprs keys aggs) schema s good.1).same
stored-by (group_by keys aggs schema ordered options) [] good = cc
stored-by (group_by keys aggs schema ordered options) (s ∷ t ∷ ss) good = cc
stored-by (join left_on right_on schema told) (s ∷ t ∷ []) good = same_is schema _ (join_good left_on right_on schema told s t good).same
stored-by (join left_on right_on schema told) [] good = cc
stored-by (join left_on right_on schema told) (s ∷ []) good = cc
stored-by (join left_on right_on schema told) (s ∷ t ∷ u ∷ ss) good = cc
stored-by (distinct options) ss good = refl
stored-by (map_function function) (s ∷ []) good = ap (λ (b : Bool). cond b (function_schema function s) []) (all-hold (function_checks function s) good)
stored-by (map_function function) [] good = cc
stored-by (map_function function) (s ∷ t ∷ ss) good = cc
stored-by (sink payload) ss good = refl
stored-by (union options) ss good = refl
stored-by (hconcat schema options) ss good = same_is schema (side_by_side ss) (stored_holds schema (side_by_side ss) good.1.1)
stored-by (cache id hits) ss good = refl
stored-by invalid ss good = refl

-- the stored columns of valid plans are those that are computed
pub stored-schemas : (ts : Roses (Unit {0}) Op) → AllValid ts → stored_all ts ≡ schemas ts
stored-schemas no_roses v = refl
stored-schemas (more (rose n op ts) rest) v =
    ap₂ (λ (s : Columns) (ss : List Columns). s ∷ ss) (ap (stored_by op) (stored-schemas ts v.1) ∙ stored-by op (schemas ts) v.0) (stored-schemas rest v.2)

-- and so those of a valid plan at a number are its columns
pub stored-is : (lp : List IR) (ex : List AExpr) (n : Node) → IsPlan lp ex n → IsValid (plan_at lp ex n) → first_schema (stored_all (bare (plans_at lp ex (n ∷ [])))) ≡ schema (plan_at lp ex n)
stored-is lp ex n h valid =
    let t = one_stands lp ex n h in
    let here : plan_at lp ex n ≡ rose tt t.1 (bare t.2) = ap (λ (x : Roses Node Op). one_plan (bare x)) t.3 in
    let v : IsValid (rose tt t.1 (bare t.2)) = subst IsValid here valid in
    ap (λ (x : Roses Node Op). first_schema (stored_all (bare x))) t.3
    ∙ ap first_schema (stored-schemas (more (rose tt t.1 (bare t.2)) no_roses) (v.0, v.1, tt))
    ∙ sym (ap schema here)
