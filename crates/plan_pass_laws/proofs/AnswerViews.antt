-- What rules answer, case by case.
use Rattle.std.proofs.Common.{◌≡◌, Bool, true, false, cond, Option, Some, None, unwrap_or, refl, ap, ◌∙◌, subst}
use Rattle.plan_core.specs.Columns.{same_columns}
use Rattle.plan_tree.specs.Rose.{Roses, rose, no_roses, more}
use Rattle.plan_ir.specs.Plans.{Op, filter, simple_projection, select, union, cache, Plan}
use Rattle.plan_meaning.specs.Typing.{schema_by, schemas}
use Rattle.plan_pass_laws.specs.AnswerCases.{Answered, projected, on_projection, left_out, on_cache, flattened, unfiltered}
use Rattle.plan_pass_laws.specs.declared.kind.RuleKind.{RuleKind}
use Rattle.plan_pass_laws.specs.declared.kind.RuleKind.TheVariants as kinds
use Rattle.plan_pass_laws.specs.Answers.{all_taken_up, answer_of, as_projection, collapse_answer, flatten_answer, has_unflattened, hits_of, joined_cache, joined_node, joined_projection, keeps_all, only_input, or_answer, selects_columns, true_filter_answer}

abbrev Plans : Type 0
Plans = Roses (Unit {0}) Op

is : (p q : Plan) → Some p ≡ Some q → p ≡ q
is p q e = ap (λ (o : Option Plan). unwrap_or o p) e

-- Collapse

select_view : (op : Op) (ts : Plans) → selects_columns op ≡ true → Answered (rose tt op ts) (rose tt (as_projection op) ts)
select_view (select es stored options) ts e = projected e
select_view op ts e = cc

projection_view : (op : Op) (p q : Plan) → joined_projection op p ≡ Some q → Answered (rose tt op (more p no_roses)) q
projection_view (simple_projection cs) (rose m (simple_projection ds) us) q e = subst (Answered (rose tt (simple_projection cs) (more (rose tt (simple_projection ds) us) no_roses))) (is (rose tt (simple_projection cs) us) q e) on_projection
projection_view (simple_projection cs) (rose m op us) q e = at (same_columns cs (schema_by op (schemas us))) refl e
  where
    at : (b : Bool) → same_columns cs (schema_by op (schemas us)) ≡ b → cond b (Some (rose m op us)) None ≡ Some q → Answered (rose tt (simple_projection cs) (more (rose m op us) no_roses)) q
    at true h e = subst (Answered (rose tt (simple_projection cs) (more (rose m op us) no_roses))) (is (rose m op us) q e) (left_out h)
    at false h e = cc
projection_view op p q e = cc

cache_view : (op : Op) (p q : Plan) → joined_cache op p ≡ Some q → Answered (rose tt op (more p no_roses)) q
cache_view (cache i h) (rose m (cache j k) us) q e = subst (Answered (rose tt (cache i h) (more (rose tt (cache j k) us) no_roses))) (is (rose tt (cache j (hits_of h k)) us) q e) on_cache
cache_view op p q e = cc

node_view : (op : Op) (ts : Plans) (q : Plan) → joined_node op ts ≡ Some q → Answered (rose tt op ts) q
node_view op no_roses q e = cc
node_view op (more p (more r rs)) q e = cc
node_view op (more p no_roses) q e = at (joined_projection op p) refl e
  where
    at : (o : Option Plan) → joined_projection op p ≡ o → or_answer o (joined_cache op p) ≡ Some q → Answered (rose tt op (more p no_roses)) q
    at None h e = cache_view op p q e
    at (Some r) h e = projection_view op p q (h ∙ e)

pub collapse_view : (eager : Bool) (p q : Plan) → collapse_answer eager p ≡ Some q → Answered p q
collapse_view eager (rose n op ts) q e = at (selects_columns op) refl e
  where
    lower : (x : Bool) → cond x None (joined_node op ts) ≡ Some q → Answered (rose n op ts) q
    lower true e = cc
    lower false e = node_view op ts q e

    at : (b : Bool) → selects_columns op ≡ b → cond b (Some (rose n (as_projection op) ts)) (cond eager None (joined_node op ts)) ≡ Some q → Answered (rose n op ts) q
    at true h e = subst (Answered (rose n op ts)) (is (rose n (as_projection op) ts) q e) (select_view op ts h)
    at false h e = lower eager e

-- Flatten

pub flatten_view : (p q : Plan) → flatten_answer p ≡ Some q → Answered p q
flatten_view (rose n (union options) ts) q e = at (has_unflattened ts) refl e
  where
    at : (b : Bool) → has_unflattened ts ≡ b → cond b (Some (rose n (union (record options { flattened_by_opt = true })) (all_taken_up ts))) None ≡ Some q → Answered (rose n (union options) ts) q
    at true h e = subst (Answered (rose n (union options) ts)) (is (rose n (union (record options { flattened_by_opt = true })) (all_taken_up ts)) q e) (flattened h)
    at false h e = cc
flatten_view (rose n op ts) q e = cc

-- True filters

filter_view : (op : Op) (p : Plan) → keeps_all op ≡ true → Answered (rose tt op (more p no_roses)) p
filter_view (filter e) p h = unfiltered h
filter_view op p h = cc

pub true_filter_view : (p q : Plan) → true_filter_answer p ≡ Some q → Answered p q
true_filter_view (rose n op ts) q e = at (keeps_all op) refl e
  where
    only : (us : Plans) → keeps_all op ≡ true → only_input us ≡ Some q → Answered (rose n op us) q
    only no_roses h e = cc
    only (more p no_roses) h e = subst (Answered (rose n op (more p no_roses))) (is p q e) (filter_view op p h)
    only (more p (more r rs)) h e = cc

    at : (b : Bool) → keeps_all op ≡ b → cond b (only_input ts) None ≡ Some q → Answered (rose n op ts) q
    at true h e = only ts h e
    at false h e = cc

pub answered : (k : RuleKind) (p q : Plan) → answer_of k p ≡ Some q → Answered p q
answered (kinds.Collapse eager) p q e = collapse_view eager p q e
answered kinds.Flatten p q e = flatten_view p q e
answered kinds.Rechunk p q e = cc
answered kinds.TrueFilter p q e = true_filter_view p q e
answered kinds.Other p q e = cc
