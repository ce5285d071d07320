-- What a rule puts in the place of a valid plan refines it, is lighter, keeps its scans, and has no cache that it hasn't.
use Rattle.std.proofs.Common.{◌≡◌, ℕ, ◌+◌, ◌<◌, ◌≤◌, ◌&&◌, ◌||◌, inl, inr, Bool, true, false, not, cond, List, [], ◌∷◌, ◌++◌, append_assoc, Option, Some, None, is_some, refl, sym, ap, ◌∙◌, subst, arith}
use Rattle.plan_core.specs.Columns.{same_columns}
use Rattle.plan_tree.specs.Rose.{Roses, rose, no_roses, more, join as beside}
use Rattle.plan_ir.specs.Plans.{Op, filter, simple_projection, union, cache, Plan}
use Rattle.plan_meaning.specs.Caches.{AreShared, CacheOf, IsCacheOf, caches, caches_in}
use Rattle.plan_meaning.specs.Relating.{Refines}
use Rattle.plan_meaning.specs.Scans.{KeepScans, Keeps, scans, scans_in}
use Rattle.plan_meaning.specs.Steps.{IsValid}
use Rattle.plan_meaning.specs.Typing.{schema_by, schemas}
use Rattle.plan_meaning.proofs.Keeping.{keeps_refl}
use Rattle.plan_pass_laws.specs.declared.kind.RuleKind.TheVariants as kinds
use Rattle.plan_pass_laws.specs.Answers.{all_taken_up, answer_of, as_projection, has_unflattened, is_true_literal, is_unflattened, joined_cache, joined_node, joined_projection, or_answer, selects_columns, taken_up}
use Rattle.plan_pass_laws.specs.Patterns.{is_needless, is_needless_on, shows}
use Rattle.plan_pass_laws.specs.Weights.{bulk, bulk_in, expr_nodes, weight, weight_in}
use Rattle.plan_meaning.proofs.CacheLists.{front_cache}
use Rattle.plan_pass_laws.specs.AnswerCases.{Answered, projected, on_projection, left_out, on_cache, flattened, unfiltered}
use Rattle.plan_pass_laws.proofs.CollapseRefines.{left_out_refines, on_cache_refines, on_projection_refines, projected_refines}
use Rattle.plan_pass_laws.proofs.FilterRefines.{unfiltered_refines}
use Rattle.plan_pass_laws.proofs.FlattenRefines.{flattened_refines}

abbrev Plans : Type 0
Plans = Roses (Unit {0}) Op

pub answer_refines : (p q : Plan) → Answered p q → IsValid p → Refines q p
answer_refines _ _ (projected {es} {stored} {options} {ts} own) v = projected_refines es stored options ts own v
answer_refines _ _ (on_projection {cs} {ds} {us}) v = on_projection_refines cs ds us v
answer_refines _ _ (left_out {cs} {p} same) v = left_out_refines cs p same v
answer_refines _ _ (on_cache {i} {h} {j} {k} {us}) v = on_cache_refines i h j k us v
answer_refines _ _ (flattened {options} {ts} some) v = flattened_refines options ts v
answer_refines _ _ (unfiltered {e} {p} true_is) v = unfiltered_refines e p true_is v

-- Weights: of nodes and selections alone, and with expressions

nothing_more : (n : ℕ) → n ≡ 0 + n
nothing_more n = omega arith

bulk_beside : (us rest : Plans) → bulk_in (beside us rest) ≡ bulk_in us + bulk_in rest
bulk_beside no_roses rest = nothing_more (bulk_in rest)
bulk_beside (more p us) rest = ap (λ (n : ℕ). bulk p + n) (bulk_beside us rest) ∙ sums (bulk p) (bulk_in us) (bulk_in rest)
  where
    sums : (a b c : ℕ) → a + (b + c) ≡ a + b + c
    sums a b c = omega arith

weight_beside : (us rest : Plans) → weight_in (beside us rest) ≡ weight_in us + weight_in rest
weight_beside no_roses rest = nothing_more (weight_in rest)
weight_beside (more p us) rest = ap (λ (n : ℕ). weight p + n) (weight_beside us rest) ∙ sums (weight p) (weight_in us) (weight_in rest)
  where
    sums : (a b c : ℕ) → a + (b + c) ≡ a + b + c
    sums a b c = omega arith

abbrev one_if : Bool → ℕ
one_if true = 1
one_if false = 0

fewer : (b : Bool) (a x y z w : ℕ) → x ≡ y + z → z + one_if b ≤ w → x + 1 ≤ 1 + y + w
fewer true a x y z w e h = omega (arith, e, h)
fewer false a x y z w e h = omega (arith, e, h)

as_many : (u b : Bool) (a z w : ℕ) → u ≡ false → z + one_if b ≤ w → a + z + one_if (u || b) ≤ a + w
as_many false b a z w n h = omega (arith, h)
as_many true b a z w n h = cc

any_less : (u b : Bool) (x y : ℕ) → x + 1 ≤ y → x + one_if (u || b) ≤ y
any_less true b x y h = h
any_less false true x y h = h
any_less false false x y h = omega (arith, h)

bulk_take : (op : Op) (us rest : Plans) (b : Bool) (z w : ℕ) → bulk_in rest ≡ z → z + one_if b ≤ w → bulk_in (taken_up (rose tt op us) rest) + one_if (is_unflattened op || b) ≤ bulk (rose tt op us) + w
bulk_take (union o) us rest b z w e h = any_less (not o.flattened_by_opt) b (bulk_in (beside us rest)) (1 + bulk_in us + w) (fewer b 0 (bulk_in (beside us rest)) (bulk_in us) z w (bulk_beside us rest ∙ ap (λ (n : ℕ). bulk_in us + n) e) h)
bulk_take op us rest b z w e h = subst (λ (n : ℕ). bulk (rose tt op us) + n + one_if (false || b) ≤ bulk (rose tt op us) + w) (sym e) (as_many false b (bulk (rose tt op us)) z w refl h)

bulk_taken : (ts : Plans) → bulk_in (all_taken_up ts) + one_if (has_unflattened ts) ≤ bulk_in ts
bulk_taken no_roses = omega arith
bulk_taken (more (rose n op us) rest) = bulk_take op us (all_taken_up rest) (has_unflattened rest) (bulk_in (all_taken_up rest)) (bulk_in rest) refl (bulk_taken rest)

weight_take : (op : Op) (us rest : Plans) (b : Bool) (z w : ℕ) → weight_in rest ≡ z → z + one_if b ≤ w → weight_in (taken_up (rose tt op us) rest) + one_if (is_unflattened op || b) ≤ weight (rose tt op us) + w
weight_take (union o) us rest b z w e h = any_less (not o.flattened_by_opt) b (weight_in (beside us rest)) (1 + weight_in us + w) (fewer b 0 (weight_in (beside us rest)) (weight_in us) z w (weight_beside us rest ∙ ap (λ (n : ℕ). weight_in us + n) e) h)
weight_take op us rest b z w e h = subst (λ (n : ℕ). weight (rose tt op us) + n + one_if (false || b) ≤ weight (rose tt op us) + w) (sym e) (as_many false b (weight (rose tt op us)) z w refl h)

weight_taken : (ts : Plans) → weight_in (all_taken_up ts) + one_if (has_unflattened ts) ≤ weight_in ts
weight_taken no_roses = omega arith
weight_taken (more (rose n op us) rest) = weight_take op us (all_taken_up rest) (has_unflattened rest) (weight_in (all_taken_up rest)) (weight_in rest) refl (weight_taken rest)

one_less : (b : Bool) (x y : ℕ) → b ≡ true → x + one_if b ≤ y → 1 + x < 1 + y
one_less true x y e h = omega (arith, h)
one_less false x y e h = cc

pub answer_lighter : (p q : Plan) → Answered p q → weight q < weight p
answer_lighter _ _ (projected {es} {stored} {options} {ts} own) = at (expr_nodes es) (weight_in ts)
  where
    at : (n w : ℕ) → 1 + 0 + w < 2 + n + w
    at n w = omega arith
answer_lighter _ _ (on_projection {cs} {ds} {us}) = at (weight_in us)
  where
    at : (w : ℕ) → 1 + 0 + w < 1 + 0 + (1 + 0 + w + 0)
    at w = omega arith
answer_lighter _ _ (left_out {cs} {p} same) = at (weight p)
  where
    at : (w : ℕ) → w < 1 + 0 + (w + 0)
    at w = omega arith
answer_lighter _ _ (on_cache {i} {h} {j} {k} {us}) = at (weight_in us)
  where
    at : (w : ℕ) → 1 + 0 + w < 1 + 0 + (1 + 0 + w + 0)
    at w = omega arith
answer_lighter _ _ (flattened {options} {ts} some) = one_less (has_unflattened ts) (weight_in (all_taken_up ts)) (weight_in ts) some (weight_taken ts)
answer_lighter _ _ (unfiltered {e} {p} true_is) = at (weight p) (expr_nodes (e ∷ []))
  where
    at : (w n : ℕ) → w < 1 + n + (w + 0)
    at w n = omega arith

pub answer_smaller : (p q : Plan) → Answered p q → bulk q < bulk p
answer_smaller _ _ (projected {es} {stored} {options} {ts} own) = at (bulk_in ts)
  where
    at : (w : ℕ) → 1 + w < 2 + w
    at w = omega arith
answer_smaller _ _ (on_projection {cs} {ds} {us}) = at (bulk_in us)
  where
    at : (w : ℕ) → 1 + w < 1 + (1 + w + 0)
    at w = omega arith
answer_smaller _ _ (left_out {cs} {p} same) = at (bulk p)
  where
    at : (w : ℕ) → w < 1 + (w + 0)
    at w = omega arith
answer_smaller _ _ (on_cache {i} {h} {j} {k} {us}) = at (bulk_in us)
  where
    at : (w : ℕ) → 1 + w < 1 + (1 + w + 0)
    at w = omega arith
answer_smaller _ _ (flattened {options} {ts} some) = one_less (has_unflattened ts) (bulk_in (all_taken_up ts)) (bulk_in ts) some (bulk_taken ts)
answer_smaller _ _ (unfiltered {e} {p} true_is) = at (bulk p)
  where
    at : (w : ℕ) → w < 1 + (w + 0)
    at w = omega arith

-- Scans

none_after : (os : List Op) → os ≡ os ++ []
none_after [] = refl
none_after (o ∷ os) = ap (λ (l : List Op). o ∷ l) (none_after os)

scans_beside : (us rest : Plans) → scans_in (beside us rest) ≡ scans_in us ++ scans_in rest
scans_beside no_roses rest = refl
scans_beside (more p us) rest = ap (λ (l : List Op). scans p ++ l) (scans_beside us rest) ∙ sym (append_assoc (scans p) (scans_in us) (scans_in rest))

scans_take : (op : Op) (us rest : Plans) → scans_in (taken_up (rose tt op us) rest) ≡ scans (rose tt op us) ++ scans_in rest
scans_take (union o) us rest = scans_beside us rest
scans_take op us rest = refl

scans_taken : (ts : Plans) → scans_in (all_taken_up ts) ≡ scans_in ts
scans_taken no_roses = refl
scans_taken (more (rose n op us) rest) = scans_take op us (all_taken_up rest) ∙ ap (λ (l : List Op). scans (rose tt op us) ++ l) (scans_taken rest)

pub answer_scans : (p q : Plan) → Answered p q → scans q ≡ scans p
answer_scans _ _ (projected {es} {stored} {options} {ts} own) = refl
answer_scans _ _ (on_projection {cs} {ds} {us}) = none_after (scans_in us)
answer_scans _ _ (left_out {cs} {p} same) = none_after (scans p)
answer_scans _ _ (on_cache {i} {h} {j} {k} {us}) = none_after (scans_in us)
answer_scans _ _ (flattened {options} {ts} some) = scans_taken ts
answer_scans _ _ (unfiltered {e} {p} true_is) = none_after (scans p)

pub answer_keeps : (p q : Plan) → Answered p q → Keeps q p
answer_keeps p q h = subst (λ (os : List Op). KeepScans (scans q) os) (answer_scans p q h) (keeps_refl q)

-- Caches

caches_beside : (us rest : Plans) → caches_in (beside us rest) ≡ caches_in us ++ caches_in rest
caches_beside no_roses rest = refl
caches_beside (more p us) rest = ap (λ (l : List CacheOf). caches p ++ l) (caches_beside us rest) ∙ sym (append_assoc (caches p) (caches_in us) (caches_in rest))

caches_take : (op : Op) (us rest : Plans) → caches_in (taken_up (rose tt op us) rest) ≡ caches (rose tt op us) ++ caches_in rest
caches_take (union o) us rest = caches_beside us rest
caches_take op us rest = refl

caches_taken : (ts : Plans) → caches_in (all_taken_up ts) ≡ caches_in ts
caches_taken no_roses = refl
caches_taken (more (rose n op us) rest) = caches_take op us (all_taken_up rest) ∙ ap (λ (l : List CacheOf). caches (rose tt op us) ++ l) (caches_taken rest)

pub answer_caches : (p q : Plan) → Answered p q → (c : CacheOf) → IsCacheOf c (caches q) → IsCacheOf c (caches p)
answer_caches _ _ (projected {es} {stored} {options} {ts} own) c h = h
answer_caches _ _ (on_projection {cs} {ds} {us}) c h = front_cache c (caches_in us) [] h
answer_caches _ _ (left_out {cs} {p} same) c h = front_cache c (caches p) [] h
answer_caches _ _ (on_cache {i} {h} {j} {k} {us}) c (inl e) = inr (inl e)
answer_caches _ _ (on_cache {i} {h} {j} {k} {us}) c (inr w) = inr (inr (front_cache c (caches_in us) [] w))
answer_caches _ _ (flattened {options} {ts} some) c h = subst (IsCacheOf c) (caches_taken ts) h
answer_caches _ _ (unfiltered {e} {p} true_is) c h = front_cache c (caches p) [] h

-- so an answer in the place of a whole plan keeps sharing
pub answer_shared : (p q : Plan) → Answered p q → AreShared p → AreShared q
answer_shared p q h s c d i j = s c d (answer_caches p q h c i) (answer_caches p q h d j)

-- Patterns: a rule answers exactly where the pattern of its kind stands

needless : (op : Op) (p : Plan) → is_some (or_answer (joined_projection op p) (joined_cache op p)) ≡ is_needless op p
needless (simple_projection cs) (rose m (simple_projection ds) us) = refl
needless (simple_projection cs) (rose m op us) = at (same_columns cs (schema_by op (schemas us)))
  where
    at : (b : Bool) → is_some (or_answer (cond b (Some (rose m op us)) None) None) ≡ b
    at true = refl
    at false = refl
needless (cache i h) (rose m (cache j k) us) = refl
needless (cache i h) (rose m op us) = refl
needless op p = refl

needless_on : (op : Op) (ts : Plans) → is_some (joined_node op ts) ≡ is_needless_on op ts
needless_on op no_roses = refl
needless_on op (more p no_roses) = needless op p
needless_on op (more p (more q rest)) = refl

either : (b e : Bool) (p : Plan) (o : Option Plan) (n : Bool) → is_some o ≡ n → is_some (cond b (Some p) (cond e None o)) ≡ (b || (not e && n))
either true e p o n h = refl
either false true p o n h = refl
either false false p o n h = h

nested : (b : Bool) (p : Plan) → is_some (cond b (Some p) None) ≡ b
nested true p = refl
nested false p = refl

pub collapse_shows : (eager : Bool) (p : Plan) → is_some (answer_of (kinds.Collapse eager) p) ≡ shows (kinds.Collapse eager) p
collapse_shows eager (rose n op ts) = either (selects_columns op) eager (rose n (as_projection op) ts) (joined_node op ts) (is_needless_on op ts) (needless_on op ts)

pub flatten_shows : (p : Plan) → is_some (answer_of kinds.Flatten p) ≡ shows kinds.Flatten p
flatten_shows (rose n (union options) ts) = nested (has_unflattened ts) (rose n (union (record options { flattened_by_opt = true })) (all_taken_up ts))
flatten_shows (rose n op ts) = refl

-- of a valid plan: a filter has one input
pub true_filter_shows : (p : Plan) → IsValid p → is_some (answer_of kinds.TrueFilter p) ≡ shows kinds.TrueFilter p
true_filter_shows (rose n (filter e) no_roses) v = cc
true_filter_shows (rose n (filter e) (more p no_roses)) v = nested (is_true_literal e.expr) p
true_filter_shows (rose n (filter e) (more (rose m o us) (more (rose m' o' us') rest))) v = cc
true_filter_shows (rose n op ts) v = refl
