-- Lists of asked names, of which none stands for everything, against what is asked.
use Rattle.std.proofs.Common.{◌≡◌, false, List, [], ◌∷◌, map, Option, refl, sym, ap, ap₂, ◌∙◌, subst}
use Rattle.plan_core.specs.Columns.{Columns, names_of}
use Rattle.plan_core.specs.Names.{with_names}
use Rattle.plan_tree.specs.Rose.{Roses, rose, no_roses, more}
use Rattle.plan_expr.specs.Exprs.{Named}
use Rattle.plan_ir.specs.declared.functions.FunctionIR.{FunctionIR}
use Rattle.plan_ir.specs.Plans.{Op, slice, filter, scan, frame_scan, simple_projection, select, hstack, sort, group_by, join, distinct, map_function, sink, union, hconcat, cache, invalid}
use Rattle.plan_meaning.specs.Checks.{is_empty}
use Rattle.plan_meaning.specs.Typing.{first_schema, rest_schemas, schema_by, schemas, checks, AllHold, AllValid}
use Rattle.plan_frame.specs.Frames.{names_or}
use Rattle.plan_meaning.specs.Relating.{Asked, all, names, cached}
use Rattle.plan_meaning.specs.Asked.{set_of, with_more, asks_columns, kept_exprs, selected_exprs, needed_names, asks_selected, asks_added, asks_stacked, asks_function, asks_grouped, asks_held, grouping_names, asks_alike, asks_joined, asks as asks_of, IsFair}
use Rattle.plan_frame.specs.ExprLists.{all_leaves}
use Rattle.plan_join.specs.Told.{Told}
use Rattle.plan_meaning.specs.JoinAsked.{left_names, right_names}
use Rattle.plan_meaning.specs.Asked as asked
use Rattle.plan_meaning.specs.Counting.{is_closed, stand_ins, first_stand_in}
use Rattle.plan_frame.proofs.NameSets.{has_first, keeps_names}
use Rattle.plan_meaning.proofs.StandIns.{are_stand_ins}
use Rattle.plan_meaning.proofs.Fairness.{fair_asks, FairAll}
use Rattle.plan_meaning.proofs.AskedSets.{some_name}
use Rattle.plan_expr.specs.Leaves.{Name, leaves}
use Rattle.plan_pruned.specs.Pruned.{asked_with, kept, added_names, stacked_names, mapped_names, names_alike, held_names, asks_plans}
use Rattle.plan_schema.specs.Stored.{stored_all}
use Rattle.plan_schema.proofs.StoredLemmas.{stored-schemas}

pub set_some : (l : List Name) → is_empty l ≡ false → set_of l ≡ names l
set_some [] e = cc
set_some (a ∷ l) e = refl

-- all columns are kept where everything is asked

pub kept_all : (cs : Columns) → asked.kept all cs ≡ cs
kept_all [] = refl
kept_all (c ∷ cs) = ap (λ (x : Columns). c ∷ x) (kept_all cs)

pub kept_cached : (cs : Columns) → asked.kept cached cs ≡ cs
kept_cached [] = refl
kept_cached (c ∷ cs) = ap (λ (x : Columns). c ∷ x) (kept_cached cs)

pub kept-is : (l : List Name) (cs : Columns) → kept l cs ≡ asked.kept (set_of l) cs
kept-is [] cs = sym (kept_all cs)
kept-is (a ∷ l) cs = refl

pub more-is : (l others : List Name) → with_more others (set_of l) ≡ set_of (asked_with l others)
more-is [] others = refl
more-is (a ∷ l) others = sym (set_some (with_names (a ∷ l) others) (some_name (with_names (a ∷ l) others) a (keeps_names (a ∷ l) others a (has_first a l))))

-- what a projection asks
projection_asks : (cs : Columns) (l : List Name) → asks_columns cs (set_of l) ≡ set_of (with_names [] (names_of (kept l cs)))
projection_asks cs [] = ap (λ (x : Columns). set_of (with_names [] (names_of x))) (kept_all cs)
projection_asks cs (a ∷ l) = refl

-- what lists of names ask
abbrev pub sets_of : List (List Name) → List Asked
sets_of [] = []
sets_of (l ∷ lists) = set_of l ∷ sets_of lists

-- the same asked of each of some plans
abbrev pub each_asked : Asked → Roses (Unit {0}) Op → List Asked
each_asked a no_roses = []
each_asked a (more p rest) = a ∷ each_asked a rest

-- what an addition asks

added_asks : (es : List Named) (a : Name) (l : List Name) (s : Columns) → asks_added es (a ∷ l) s ≡ set_of (added_names (a ∷ l) es s)
added_asks [] a l s = refl
added_asks (e ∷ es) a l s = refl

pub stacked_asks : (es : List Named) (l : List Name) (s : Columns) → asks_stacked es (set_of l) s ≡ set_of (stacked_names l es s)
stacked_asks es [] s = refl
stacked_asks es (a ∷ l) s = added_asks (kept_exprs (names (a ∷ l)) es) a l s

-- what a selection asks
pub selected_asks : (es : List Named) (o : Option Name) (l : List Name) → asks_selected es o (set_of l) ≡ set_of (needed_names es o (selected_exprs (set_of l) es))
selected_asks es o [] = refl
selected_asks es o (a ∷ l) = refl

-- what a function asks
pub function_asks : (f : FunctionIR) (l : List Name) (s : Columns) → asks_function f (set_of l) s ≡ set_of (mapped_names l f s)
function_asks f [] s = refl
function_asks f (a ∷ l) s = refl

-- what a grouping asks
pub grouped_asks : (keys aggs : List Named) (l : List Name) (s : Columns) → asks_grouped keys aggs (set_of l) s ≡ set_of (grouping_names keys (kept_exprs (set_of l) aggs) l s)
grouped_asks keys aggs [] s = refl
grouped_asks keys aggs (a ∷ l) s = refl

-- what a concatenation asks of each input

held_asks : (l : List Name) (s : Columns) → asks_held (set_of l) s ≡ set_of (held_names l s)
held_asks [] s = refl
held_asks (a ∷ l) s = refl

pub held_sets : (l : List Name) (ss : List Columns) → map (asks_held (set_of l)) ss ≡ sets_of (map (held_names l) ss)
held_sets l [] = refl
held_sets l (s ∷ ss) = ap₂ (λ (x : Asked) (xs : List Asked). x ∷ xs) (held_asks l s) (held_sets l ss)

-- the same asked of each input of a union

alike_sets : (l : List Name) (ss : List Columns) → asks_alike (set_of l) ss ≡ sets_of (names_alike l ss)
alike_sets l [] = refl
alike_sets l (s ∷ ss) = ap (λ (x : List Asked). set_of l ∷ x) (alike_sets l ss)

alike_each : (a : Asked) (ts : Roses (Unit {0}) Op) → asks_alike a (schemas ts) ≡ each_asked a ts
alike_each a no_roses = refl
alike_each a (more (rose n op us) rest) = ap (λ (x : List Asked). a ∷ x) (alike_each a rest)

alike_stored : (l : List Name) (ts : Roses (Unit {0}) Op) → AllValid ts → asks_alike (set_of l) (schemas ts) ≡ sets_of (names_alike l (stored_all ts))
alike_stored l ts v = alike_sets l (schemas ts) ∙ ap (λ (ss : List Columns). sets_of (names_alike l ss)) (sym (stored-schemas ts v))

pub stored_each : (l : List Name) (ts : Roses (Unit {0}) Op) → AllValid ts → sets_of (names_alike l (stored_all ts)) ≡ each_asked (set_of l) ts
stored_each l ts v = sym (alike_stored l ts v) ∙ alike_each (set_of l) ts

-- what a join asks of its sides
joined_asks : (left_on right_on : List Named) (told : Told) (l : List Name) (s t : Columns) → asks_joined left_on right_on told (set_of l) s t ≡ sets_of (left_names l left_on right_on told s t ∷ right_names l left_on right_on told s t ∷ [])
joined_asks left_on right_on told [] s t = refl
joined_asks left_on right_on told (a ∷ l) s t = refl

-- the same asked of one input
one_asked : {a b : Asked} → a ≡ b → a ∷ [] ≡ b ∷ []
one_asked e = ap (λ (x : Asked). x ∷ []) e

-- what a node that isn't closed asks its inputs
pub asks-each : (l : List Name) (op : Op) (ts : Roses (Unit {0}) Op) → is_closed op ≡ false → AllValid ts → asks_of op (set_of l) (schemas ts) (stand_ins ts (schemas ts)) ≡ sets_of (asks_plans l op ts)
asks-each l (filter p) ts opens v = one_asked (more-is l (leaves p.expr))
asks-each l (simple_projection cs) ts opens v = one_asked (projection_asks cs l)
asks-each l (scan sources info hive predicate output kind options) ts opens v = refl
asks-each l (slice o n) ts opens v = refl
asks-each l (frame_scan df schema output) ts opens v = refl
asks-each l (select es schema options) ts opens v =
    one_asked (selected_asks es (first_stand_in (stand_ins ts (schemas ts))) l
    ∙ ap (λ (ss : List Columns). set_of (needed_names es (first_stand_in (stand_ins ts ss)) (selected_exprs (set_of l) es))) (sym (stored-schemas ts v)))
asks-each l (hstack es schema options) ts opens v =
    one_asked (stacked_asks es l (first_schema (schemas ts)) ∙ ap (λ (ss : List Columns). set_of (stacked_names l es (first_schema ss))) (sym (stored-schemas ts v)))
asks-each l (sort keys part options) ts opens v = one_asked (more-is l (all_leaves keys))
asks-each l (group_by keys aggs schema ordered options) ts opens v =
    one_asked (grouped_asks keys aggs l (first_schema (schemas ts)) ∙ ap (λ (ss : List Columns). set_of (grouping_names keys (kept_exprs (set_of l) aggs) l (first_schema ss))) (sym (stored-schemas ts v)))
asks-each l (join left_on right_on schema told) ts opens v =
    joined_asks left_on right_on told l (first_schema (schemas ts)) (first_schema (rest_schemas (schemas ts)))
    ∙ ap (λ (ss : List Columns). sets_of (left_names l left_on right_on told (first_schema ss) (first_schema (rest_schemas ss)) ∷ right_names l left_on right_on told (first_schema ss) (first_schema (rest_schemas ss)) ∷ [])) (sym (stored-schemas ts v))
asks-each l (distinct options) ts opens v =
    one_asked (more-is l (names_or options.subset (names_of (first_schema (schemas ts)))) ∙ ap (λ (ss : List Columns). set_of (asked_with l (names_or options.subset (names_of (first_schema ss))))) (sym (stored-schemas ts v)))
asks-each l (map_function function) ts opens v =
    one_asked (function_asks function l (first_schema (schemas ts)) ∙ ap (λ (ss : List Columns). set_of (mapped_names l function (first_schema ss))) (sym (stored-schemas ts v)))
asks-each l (sink payload) ts opens v = refl
asks-each l (union options) ts opens v = alike_stored l ts v
asks-each l (hconcat schema options) ts opens v = held_sets l (schemas ts) ∙ ap (λ (ss : List Columns). sets_of (map (held_names l) ss)) (sym (stored-schemas ts v))
asks-each l (cache id hits) ts opens v = cc
asks-each l invalid ts opens v = refl

-- what a node that isn't closed asks can be asked of its inputs
pub fair_each : (l : List Name) (op : Op) (ts : Roses (Unit {0}) Op) → is_closed op ≡ false → AllHold (checks op (schemas ts)) → AllValid ts → IsFair (set_of l) (schema_by op (schemas ts)) → FairAll (sets_of (asks_plans l op ts)) (schemas ts)
fair_each l op ts opens good v f = subst (λ (x : List Asked). FairAll x (schemas ts)) (asks-each l op ts opens v) (fair_asks op (set_of l) (schemas ts) (stand_ins ts (schemas ts)) good (are_stand_ins ts) f)
