-- Cleared marks make no pattern, and a rule that delays leaves none of its own.
use Rattle.std.proofs.Common.{◌≡◌, ◌&&◌, ◌||◌, inl, inr, Bool, true, false, not, cond, List, [], ◌∷◌, Option, Some, None, is_some, option_map, refl, sym, ap, ap₂, ◌∙◌}
use Rattle.std.proofs.lemmas.Bool.{and_from, and_parts, or_parts, not-true}
use Rattle.plan_tree.specs.Rose.{Roses, rose, no_roses, more}
use Rattle.plan_ir.specs.Plans.{Op, scan, union, Plan}
use Rattle.plan_meaning.specs.Marks.{unmarked, unmarked_op}
use Rattle.plan_pass_laws.specs.declared.kind.RuleKind.{RuleKind}
use Rattle.plan_pass_laws.specs.declared.kind.RuleKind.TheVariants as kinds
use Rattle.plan_pass_laws.specs.Answers.{answer_of, delayed, delayed_in, first_met, groups_by_one, is_met, meets}
use Rattle.plan_pass_laws.specs.Patterns.{any_marked, are_quiet, is_marked, is_quiet, shows, shows_one}
use Rattle.plan_pass_laws.specs.Clearing.{AreCleared, Cleared, IsCleared}
use Rattle.plan_pass_laws.proofs.AlikeAnswers.{all_kept_alike, answer_alike}
use Rattle.plan_pass_laws.proofs.AnswerLaws.{collapse_shows, flatten_shows}
use Rattle.plan_pass_laws.proofs.ClearedPlans.{are_cleared_refl, by_op, cleared_alike}

abbrev Plans : Type 0
Plans = Roses (Unit {0}) Op

-- Patterns that look at no mark

some_map : (o : Option Plan) → is_some (option_map unmarked o) ≡ is_some o
some_map None = refl
some_map (Some p) = refl

collapse_same : (eager : Bool) (p : Plan) → shows (kinds.Collapse eager) (unmarked p) ≡ shows (kinds.Collapse eager) p
collapse_same eager p = sym (collapse_shows eager (unmarked p)) ∙ ap is_some (answer_alike (kinds.Collapse eager) p) ∙ some_map (answer_of (kinds.Collapse eager) p) ∙ collapse_shows eager p

flatten_same : (p : Plan) → shows kinds.Flatten (unmarked p) ≡ shows kinds.Flatten p
flatten_same p = sym (flatten_shows (unmarked p)) ∙ ap is_some (answer_alike kinds.Flatten p) ∙ some_map (answer_of kinds.Flatten p) ∙ flatten_shows p

filter_same : (p : Plan) → shows kinds.TrueFilter (unmarked p) ≡ shows kinds.TrueFilter p
filter_same (rose n op ts) = all_kept_alike op

by_alike : (k : RuleKind) (q p : Plan) → ((r : Plan) → shows k (unmarked r) ≡ shows k r) → Cleared q p → shows k p ≡ false → shows k q ≡ false
by_alike k q p same h e = sym (same q) ∙ ap (shows k) (cleared_alike q p h) ∙ same p ∙ e

-- The first scan, union or join

met_same : (op : Op) → is_met (unmarked_op op) ≡ is_met op
met_same (scan sources info hive predicate output kind options) = refl
met_same (union options) = refl
met_same op = refl

groups_same : (op : Op) → groups_by_one (unmarked_op op) ≡ groups_by_one op
groups_same (scan sources info hive predicate output kind options) = refl
groups_same (union options) = refl
groups_same op = refl

never_marked : (op : Op) → is_marked (unmarked_op op) ≡ false
never_marked (scan sources info hive predicate output kind options) = refl
never_marked (union options) = refl
never_marked op = refl

meets_same : (qs ps : Plans) → AreCleared qs ps → meets qs ≡ meets ps
meets_same no_roses no_roses h = refl
meets_same no_roses (more p ps) h = absurd h
meets_same (more q qs) no_roses h = absurd h
meets_same (more (rose m o us) qs) (more (rose n op ts) ps) h = ap₂ (λ (x y : Bool). x || y) (meets_same qs ps h.2) (ap₂ (λ (x y : Bool). x || y) (by_op is_met o op (met_same op) h.0) (meets_same us ts h.1))

marked_cleared : (o op : Op) → IsCleared o op → is_marked op ≡ false → is_marked o ≡ false
marked_cleared o op (inl e) n = ap is_marked e ∙ n
marked_cleared o op (inr e) n = ap is_marked e ∙ never_marked op

abbrev Less : Option Op → Option Op → Type 0
Less x y = any_marked y ≡ false → any_marked x ≡ false

less_if : (a b : Bool) (x y z w : Option Op) → a ≡ b → Less x y → Less z w → Less (cond a x z) (cond b y w)
less_if true true x y z w e f g h = f h
less_if false false x y z w e f g h = g h
less_if true false x y z w e f g h = cc
less_if false true x y z w e f g h = cc

first_less : (qs ps : Plans) → AreCleared qs ps → Less (first_met qs) (first_met ps)
first_less no_roses no_roses h e = refl
first_less no_roses (more p ps) h e = absurd h
first_less (more q qs) no_roses h e = absurd h
first_less (more (rose m o us) qs) (more (rose n op ts) ps) h e =
    less_if (meets qs) (meets ps) (first_met qs) (first_met ps) (cond (is_met o) (Some o) (first_met us)) (cond (is_met op) (Some op) (first_met ts)) (meets_same qs ps h.2) (first_less qs ps h.2)
    (less_if (is_met o) (is_met op) (Some o) (Some op) (first_met us) (first_met ts) (by_op is_met o op (met_same op) h.0) (λ k. marked_cleared o op h.0 k) (first_less us ts h.1)) e

rechunk_cleared : (q p : Plan) → Cleared q p → shows kinds.Rechunk p ≡ false → shows kinds.Rechunk q ≡ false
rechunk_cleared (rose m o us) (rose n op ts) h e = at (groups_by_one o) (groups_by_one op) (by_op groups_by_one o op (groups_same op) h.0) e
  where
    at : (a b : Bool) → a ≡ b → (b && any_marked (first_met ts)) ≡ false → (a && any_marked (first_met us)) ≡ false
    at true true q e = first_less us ts h.1 e
    at false b q e = refl
    at true false q e = cc

-- cleared marks make no pattern
pub shows_cleared : (k : RuleKind) (q p : Plan) → Cleared q p → shows k p ≡ false → shows k q ≡ false
shows_cleared (kinds.Collapse eager) q p h e = by_alike (kinds.Collapse eager) q p (collapse_same eager) h e
shows_cleared kinds.Flatten q p h e = by_alike kinds.Flatten q p flatten_same h e
shows_cleared kinds.Rechunk q p h e = rechunk_cleared q p h e
shows_cleared kinds.TrueFilter q p h e = by_alike kinds.TrueFilter q p filter_same h e
shows_cleared kinds.Other q p h e = refl

neither : (a b : Bool) → a ≡ false → b ≡ false → (a || b) ≡ false
neither false b e f = f
neither true b e f = cc

pub one_cleared : (ks : List RuleKind) (q p : Plan) → Cleared q p → shows_one ks p ≡ false → shows_one ks q ≡ false
one_cleared [] q p h e = refl
one_cleared (k ∷ ks) q p h e =
    let parts = or_parts (shows k p) (shows_one ks p) e in
    neither (shows k q) (shows_one ks q) (shows_cleared k q p h parts.0) (one_cleared ks q p h parts.1)

pub all_quiet : (ks : List RuleKind) (qs ps : Plans) → AreCleared qs ps → are_quiet ks ps ≡ true → are_quiet ks qs ≡ true
all_quiet ks no_roses no_roses h e = refl
all_quiet ks no_roses (more p ps) h e = absurd h
all_quiet ks (more q qs) no_roses h e = absurd h
all_quiet ks (more (rose m o us) qs) (more (rose n op ts) ps) h e =
    let parts = and_parts (is_quiet ks (rose n op ts)) (are_quiet ks ps) e in
    let own = and_parts (not (shows_one ks (rose n op ts))) (are_quiet ks ts) parts.0 in
    and_from (is_quiet ks (rose m o us)) (are_quiet ks qs)
    (and_from (not (shows_one ks (rose m o us))) (are_quiet ks us) (ap not (one_cleared ks (rose m o us) (rose n op ts) (h.0, h.1) (not-true (shows_one ks (rose n op ts)) own.0))) (all_quiet ks us ts h.1 own.1))
    (all_quiet ks qs ps h.2 parts.1)

-- A rule that delays

delay_cleared : (ts : Plans) → AreCleared (delayed_in ts) ts
delay_cleared no_roses = tt
delay_cleared (more (rose n op ts) rest) = at (meets rest) (is_met op) (delay_cleared ts) (delay_cleared rest)
  where
    at : (a b : Bool) → AreCleared (delayed_in ts) ts → AreCleared (delayed_in rest) rest → AreCleared (cond a (more (rose n op ts) (delayed_in rest)) (cond b (more (rose n (unmarked_op op) ts) rest) (more (rose n op (delayed_in ts)) rest))) (more (rose n op ts) rest)
    at true b below others = (inl refl, are_cleared_refl ts, others)
    at false true below others = (inr refl, are_cleared_refl ts, are_cleared_refl rest)
    at false false below others = (inl refl, below, are_cleared_refl rest)

pub delayed_cleared : (p : Plan) → Cleared (delayed p) p
delayed_cleared (rose n op ts) = at (groups_by_one op)
  where
    at : (b : Bool) → Cleared (cond b (rose n op (delayed_in ts)) (rose n op ts)) (rose n op ts)
    at true = (inl refl, delay_cleared ts)
    at false = (inl refl, are_cleared_refl ts)

delay_unmarked : (ts : Plans) → any_marked (first_met (delayed_in ts)) ≡ false
delay_unmarked no_roses = refl
delay_unmarked (more (rose n op ts) rest) = at (meets rest) (is_met op) refl refl (delay_unmarked ts) (delay_unmarked rest) (meets_same (delayed_in rest) rest (delay_cleared rest))
  where
    at : (a b : Bool) → meets rest ≡ a → is_met op ≡ b → any_marked (first_met (delayed_in ts)) ≡ false → any_marked (first_met (delayed_in rest)) ≡ false → meets (delayed_in rest) ≡ meets rest → any_marked (first_met (cond a (more (rose n op ts) (delayed_in rest)) (cond b (more (rose n (unmarked_op op) ts) rest) (more (rose n op (delayed_in ts)) rest)))) ≡ false
    at true b m i below others same = ap (λ (x : Bool). any_marked (cond x (first_met (delayed_in rest)) (cond (is_met op) (Some op) (first_met ts)))) (same ∙ m) ∙ others
    at false true m i below others same =
        ap₂ (λ (x y : Bool). any_marked (cond x (first_met rest) (cond y (Some (unmarked_op op)) (first_met ts)))) m (met_same op ∙ i) ∙ never_marked op
    at false false m i below others same =
        ap₂ (λ (x y : Bool). any_marked (cond x (first_met rest) (cond y (Some op) (first_met (delayed_in ts))))) m i ∙ below

pub delayed_quiet : (p : Plan) → shows kinds.Rechunk (delayed p) ≡ false
delayed_quiet (rose n op ts) = at (groups_by_one op) refl
  where
    at : (b : Bool) → groups_by_one op ≡ b → shows kinds.Rechunk (cond b (rose n op (delayed_in ts)) (rose n op ts)) ≡ false
    at true e = ap (λ (x : Bool). x && any_marked (first_met (delayed_in ts))) e ∙ delay_unmarked ts
    at false e = ap (λ (x : Bool). x && any_marked (first_met ts)) e
