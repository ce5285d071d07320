-- Rules look at no rechunk mark but to clear it: alike plans get alike answers.
use Rattle.std.proofs.Common.{◌≡◌, ◌||◌, inr, Bool, true, false, cond, List, ◌∷◌, Option, Some, None, option_map, refl, sym, ap, ap₂, ◌∙◌}
use Rattle.plan_core.specs.Columns.{Columns, same_columns}
use Rattle.plan_tree.specs.Rose.{Roses, rose, no_roses, more, join as beside}
use Rattle.plan_ir.specs.Plans.{Op, scan, simple_projection, union, cache, Plan}
use Rattle.plan_meaning.specs.Marks.{unmarked, unmarked_all, unmarked_op}
use Rattle.plan_meaning.specs.Typing.{schema_by, schemas}
use Rattle.plan_pass_laws.specs.declared.kind.RuleKind.{RuleKind}
use Rattle.plan_pass_laws.specs.declared.kind.RuleKind.TheVariants as kinds
use Rattle.plan_pass_laws.specs.Answers.{all_taken_up, answer_of, as_projection, collapse_answer, flatten_answer, has_unflattened, is_unflattened, joined_cache, joined_node, joined_projection, keeps_all, only_input, or_answer, selects_columns, taken_up, true_filter_answer}
use Rattle.plan_pass_laws.proofs.ClearedPlans.{schema_cleared}

abbrev Plans : Type 0
Plans = Roses (Unit {0}) Op

-- Answers over plans without marks

schemas_alike : (ts : Plans) → schemas (unmarked_all ts) ≡ schemas ts
schemas_alike no_roses = refl
schemas_alike (more (rose n op ts) rest) = ap₂ (λ (s : Columns) (ss : List Columns). s ∷ ss) (ap (schema_by (unmarked_op op)) (schemas_alike ts) ∙ schema_cleared (unmarked_op op) op (schemas ts) (inr refl)) (schemas_alike rest)

selects_alike : (op : Op) → selects_columns (unmarked_op op) ≡ selects_columns op
selects_alike (scan sources info hive predicate output kind options) = refl
selects_alike (union options) = refl
selects_alike op = refl

projection_alike : (op : Op) → as_projection (unmarked_op op) ≡ unmarked_op (as_projection op)
projection_alike (scan sources info hive predicate output kind options) = refl
projection_alike (union options) = refl
projection_alike op = refl

either : (b : Bool) (q : Plan) → cond b (Some (unmarked q)) None ≡ option_map unmarked (cond b (Some q) None)
either true q = refl
either false q = refl

if_same : (cs : Columns) (op : Op) (us : Plans) → cond (same_columns cs (schema_by (unmarked_op op) (schemas (unmarked_all us)))) (Some (rose tt (unmarked_op op) (unmarked_all us))) None ≡ option_map unmarked (cond (same_columns cs (schema_by op (schemas us))) (Some (rose tt op us)) None)
if_same cs op us =
    ap (λ (s : Columns). cond (same_columns cs s) (Some (rose tt (unmarked_op op) (unmarked_all us))) None) (ap (schema_by (unmarked_op op)) (schemas_alike us) ∙ schema_cleared (unmarked_op op) op (schemas us) (inr refl))
    ∙ either (same_columns cs (schema_by op (schemas us))) (rose tt op us)

joined_alike : (op : Op) (p : Plan) → joined_projection (unmarked_op op) (unmarked p) ≡ option_map unmarked (joined_projection op p)
joined_alike (simple_projection cs) (rose m (simple_projection ds) us) = refl
joined_alike (simple_projection cs) (rose m (scan sources info hive predicate output kind options) us) = if_same cs (scan sources info hive predicate output kind options) us
joined_alike (simple_projection cs) (rose m (union options) us) = if_same cs (union options) us
joined_alike (simple_projection cs) (rose m op us) = if_same cs op us
joined_alike (scan sources info hive predicate output kind options) p = refl
joined_alike (union options) p = refl
joined_alike op p = refl

cache_alike : (op : Op) (p : Plan) → joined_cache (unmarked_op op) (unmarked p) ≡ option_map unmarked (joined_cache op p)
cache_alike (cache i h) (rose m (cache j k) us) = refl
cache_alike (cache i h) (rose m (scan sources info hive predicate output kind options) us) = refl
cache_alike (cache i h) (rose m (union options) us) = refl
cache_alike (cache i h) (rose m op us) = refl
cache_alike (scan sources info hive predicate output kind options) p = refl
cache_alike (union options) p = refl
cache_alike op p = refl

or_alike : (x y : Option Plan) → or_answer (option_map unmarked x) (option_map unmarked y) ≡ option_map unmarked (or_answer x y)
or_alike None y = refl
or_alike (Some p) y = refl

node_alike : (op : Op) (ts : Plans) → joined_node (unmarked_op op) (unmarked_all ts) ≡ option_map unmarked (joined_node op ts)
node_alike op no_roses = refl
node_alike op (more (rose n o us) no_roses) = ap₂ or_answer (joined_alike op (rose n o us)) (cache_alike op (rose n o us)) ∙ or_alike (joined_projection op (rose n o us)) (joined_cache op (rose n o us))
node_alike op (more (rose n o us) (more (rose m o' vs) rest)) = refl

chosen_alike : (b e : Bool) (q : Plan) (o : Option Plan) → cond b (Some (unmarked q)) (cond e None (option_map unmarked o)) ≡ option_map unmarked (cond b (Some q) (cond e None o))
chosen_alike true e q o = refl
chosen_alike false true q o = refl
chosen_alike false false q o = refl

collapse_alike : (eager : Bool) (p : Plan) → collapse_answer eager (unmarked p) ≡ option_map unmarked (collapse_answer eager p)
collapse_alike eager (rose n op ts) =
    ap (λ (b : Bool). cond b (Some (rose n (as_projection (unmarked_op op)) (unmarked_all ts))) (cond eager None (joined_node (unmarked_op op) (unmarked_all ts)))) (selects_alike op)
    ∙ ap₂ (λ (o : Op) (x : Option Plan). cond (selects_columns op) (Some (rose n o (unmarked_all ts))) (cond eager None x)) (projection_alike op) (node_alike op ts)
    ∙ chosen_alike (selects_columns op) eager (rose n (as_projection op) ts) (joined_node op ts)

unflattened_alike : (op : Op) → is_unflattened (unmarked_op op) ≡ is_unflattened op
unflattened_alike (scan sources info hive predicate output kind options) = refl
unflattened_alike (union options) = refl
unflattened_alike op = refl

any_alike : (ts : Plans) → has_unflattened (unmarked_all ts) ≡ has_unflattened ts
any_alike no_roses = refl
any_alike (more (rose n op ts) rest) = ap₂ (λ (x y : Bool). x || y) (unflattened_alike op) (any_alike rest)

beside_alike : (us rest : Plans) → unmarked_all (beside us rest) ≡ beside (unmarked_all us) (unmarked_all rest)
beside_alike no_roses rest = refl
beside_alike (more (rose n op ts) us) rest = ap (more (rose n (unmarked_op op) (unmarked_all ts))) (beside_alike us rest)

take_alike : (op : Op) (us rest : Plans) → taken_up (rose tt (unmarked_op op) (unmarked_all us)) (unmarked_all rest) ≡ unmarked_all (taken_up (rose tt op us) rest)
take_alike (scan sources info hive predicate output kind options) us rest = refl
take_alike (union options) us rest = sym (beside_alike us rest)
take_alike op us rest = refl

taken_alike : (ts : Plans) → all_taken_up (unmarked_all ts) ≡ unmarked_all (all_taken_up ts)
taken_alike no_roses = refl
taken_alike (more (rose n op us) rest) = ap (taken_up (rose tt (unmarked_op op) (unmarked_all us))) (taken_alike rest) ∙ take_alike op us (all_taken_up rest)

flatten_alike : (p : Plan) → flatten_answer (unmarked p) ≡ option_map unmarked (flatten_answer p)
flatten_alike (rose n (union options) ts) =
    ap₂ (λ (b : Bool) (us : Plans). cond b (Some (rose n (union (record options { flattened_by_opt = true; rechunk = false })) us)) None) (any_alike ts) (taken_alike ts)
    ∙ either (has_unflattened ts) (rose n (union (record options { flattened_by_opt = true })) (all_taken_up ts))
flatten_alike (rose n (scan sources info hive predicate output kind options) ts) = refl
flatten_alike (rose n op ts) = refl

pub all_kept_alike : (op : Op) → keeps_all (unmarked_op op) ≡ keeps_all op
all_kept_alike (scan sources info hive predicate output kind options) = refl
all_kept_alike (union options) = refl
all_kept_alike op = refl

only_alike : (ts : Plans) → only_input (unmarked_all ts) ≡ option_map unmarked (only_input ts)
only_alike no_roses = refl
only_alike (more (rose n op us) no_roses) = refl
only_alike (more (rose n op us) (more (rose m o vs) rest)) = refl

may_alike : (b : Bool) (o : Option Plan) → cond b (option_map unmarked o) None ≡ option_map unmarked (cond b o None)
may_alike true o = refl
may_alike false o = refl

true_filter_alike : (p : Plan) → true_filter_answer (unmarked p) ≡ option_map unmarked (true_filter_answer p)
true_filter_alike (rose n op ts) = ap₂ (λ (b : Bool) (o : Option Plan). cond b o None) (all_kept_alike op) (only_alike ts) ∙ may_alike (keeps_all op) (only_input ts)

-- alike plans get alike answers
pub answer_alike : (k : RuleKind) (p : Plan) → answer_of k (unmarked p) ≡ option_map unmarked (answer_of k p)
answer_alike (kinds.Collapse eager) p = collapse_alike eager p
answer_alike kinds.Flatten p = flatten_alike p
answer_alike kinds.Rechunk p = refl
answer_alike kinds.TrueFilter p = true_filter_alike p
answer_alike kinds.Other p = refl
