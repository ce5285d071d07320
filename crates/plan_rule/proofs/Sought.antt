-- The first scan, union or join of trees, and the trees with its mark cleared.
use Rattle.std.proofs.Common.{◌≡◌, ℕ, ◌<◌, ◌||◌, Bool, true, false, cond, List, [], ◌∷◌, ◌++◌, length, Option, Some, None, is_some, refl, sym, ap, ap₂, ◌∙◌, subst, ◌⊎◌, zero, suc, inl, inr}
use Rattle.std.specs.List.{slice_get, slice_set}
use Rattle.plan_core.specs.declared.arena.Node.{Node}
use Rattle.plan_tree.specs.Rose.{Roses, rose, no_roses, more, join}
use Rattle.plan_tree.specs.Stands.{Apart, Reaches, Rewrites, StandsOnce, Trees}
use Rattle.plan_tree.proofs.Frames.{Rewrites-above, Rewrites-refl}
use Rattle.plan_tree.proofs.Numbers.{Reaches-within}
use Rattle.plan_tree.proofs.Pairs.{rewrites_pair}
use Rattle.plan_tree.proofs.Replaced.{after, below}
use Rattle.plan_expr.specs.declared.aexpr.AExpr.{AExpr}
use Rattle.plan_ir.specs.declared.ir.IR.{IR}
use Rattle.plan_ir.specs.declared.ir.IR.TheVariants.{Scan, Join, Union}
use Rattle.plan_ir.specs.Parts.{inputs_of, is_invalid, plan_shape, roots_in, roots_of}
use Rattle.plan_ir.specs.Plans.{Op, bare, op_at, plans_of}
use Rattle.plan_meaning.specs.Marks.{unmarked_op}
use Rattle.plan_pass_laws.specs.Answers.{delayed_in, is_met, meets}
use Rattle.plan_rule.specs.Sought.{Delays, first_sought, is_sought, or_number, unmarked_entry}

abbrev Plans : Type 0
Plans = Roses (Unit {0}) Op

-- By node

met_is : (ex : List AExpr) (p : IR) → is_met (op_at ex p) ≡ is_sought p
met_is ex (Scan sources file_info hive_parts predicate output_schema scan_type file_options) = refl
met_is ex (Union inputs options) = refl
met_is ex (Join input_left input_right schema left_on right_on options) = refl
met_is ex p = refl

unmarked_is : (ex : List AExpr) (p : IR) → op_at ex (unmarked_entry p) ≡ unmarked_op (op_at ex p)
unmarked_is ex (Scan sources file_info hive_parts predicate output_schema scan_type file_options) = refl
unmarked_is ex (Union inputs options) = refl
unmarked_is ex p = refl

unmarked_inputs : (p : IR) → inputs_of (unmarked_entry p) ≡ inputs_of p
unmarked_inputs (Scan sources file_info hive_parts predicate output_schema scan_type file_options) = refl
unmarked_inputs (Union inputs options) = refl
unmarked_inputs p = refl

unmarked_roots : (p : IR) → roots_of (unmarked_entry p) ≡ roots_of p
unmarked_roots (Scan sources file_info hive_parts predicate output_schema scan_type file_options) = refl
unmarked_roots (Union inputs options) = refl
unmarked_roots p = refl

unmarked_whole : (p : IR) → is_invalid p ≡ false → is_invalid (unmarked_entry p) ≡ false
unmarked_whole (Scan sources file_info hive_parts predicate output_schema scan_type file_options) e = e
unmarked_whole (Union inputs options) e = e
unmarked_whole p e = e

-- By trees

pub or_none : (a : Option Node) → or_number a None ≡ a
or_none None = refl
or_none (Some n) = refl

or_assoc : (a b c : Option Node) → or_number (or_number a b) c ≡ or_number a (or_number b c)
or_assoc None b c = refl
or_assoc (Some n) b c = refl

-- trees side by side: the last ones first
pub sought_join : (f g : Trees IR) → first_sought (join f g) ≡ or_number (first_sought g) (first_sought f)
sought_join no_roses g = sym (or_none (first_sought g))
sought_join (more (rose n p kids) rest) g =
    let own = cond (is_sought p) (Some n) (first_sought kids) in
    ap (λ (o : Option Node). or_number o own) (sought_join rest g) ∙ or_assoc (first_sought g) (first_sought rest) own

some_or : (a : Option Node) (b : Bool) (n : Node) (c : Option Node) → is_some (or_number a (cond b (Some n) c)) ≡ is_some a || (b || is_some c)
some_or (Some m) b n c = refl
some_or None true n c = refl
some_or None false n c = refl

-- there is one where the plans meet one
some_sought : (ex : List AExpr) (t : Trees IR) → is_some (first_sought t) ≡ meets (bare (plans_of ex t))
some_sought ex no_roses = refl
some_sought ex (more (rose n p kids) rest) =
    some_or (first_sought rest) (is_sought p) n (first_sought kids)
    ∙ ap₂ (λ (a b : Bool). a || b) (some_sought ex rest) (ap₂ (λ (a b : Bool). a || b) (sym (met_is ex p)) (some_sought ex kids))

-- neither of two numbers is there
neither : (a b : Option Node) → or_number a b ≡ None → (a ≡ None) × (b ≡ None)
neither None b e = (refl, e)
neither (Some n) b e = cc

not_here : (b : Bool) (n : Node) (c : Option Node) → cond b (Some n) c ≡ None → (b ≡ false) × (c ≡ None)
not_here true n c e = cc
not_here false n c e = (refl, e)

-- where there is none, plans stay
undelayed : (ex : List AExpr) (t : Trees IR) → first_sought t ≡ None → delayed_in (bare (plans_of ex t)) ≡ bare (plans_of ex t)
undelayed ex no_roses e = refl
undelayed ex (more (rose n p kids) rest) e =
    let parts = neither (first_sought rest) (cond (is_sought p) (Some n) (first_sought kids)) e in
    let own = not_here (is_sought p) n (first_sought kids) parts.1 in
    let no_rest : meets (bare (plans_of ex rest)) ≡ false = sym (some_sought ex rest) ∙ ap is_some parts.0 in
    let no_own : is_met (op_at ex p) ≡ false = met_is ex p ∙ own.0 in
    at (meets (bare (plans_of ex rest))) (is_met (op_at ex p)) no_rest no_own ∙ ap (λ (us : Plans). more (rose tt (op_at ex p) us) (bare (plans_of ex rest))) (undelayed ex kids own.1)
  where
    at : (a b : Bool) → a ≡ false → b ≡ false → cond a (more (rose tt (op_at ex p) (bare (plans_of ex kids))) (delayed_in (bare (plans_of ex rest)))) (cond b (more (rose tt (unmarked_op (op_at ex p)) (bare (plans_of ex kids))) (bare (plans_of ex rest))) (more (rose tt (op_at ex p) (delayed_in (bare (plans_of ex kids)))) (bare (plans_of ex rest)))) ≡ more (rose tt (op_at ex p) (delayed_in (bare (plans_of ex kids)))) (bare (plans_of ex rest))
    at false false x y = refl
    at true b x y = cc
    at false true x y = cc

pub delays_none : (lp : List IR) (ns : List Node) (t : Trees IR) → StandsOnce plan_shape lp ns t → first_sought t ≡ None → Delays lp lp ns t
delays_none lp ns t h e = record { trees = t; places = Rewrites-refl plan_shape lp ns t h; roots = refl; plans = λ ex. sym (undelayed ex t e) }

-- the three cases of plans with a mark cleared
module _ (ex : List AExpr) (p : IR) (kids rest : Trees IR) where
  in_rest : meets (bare (plans_of ex rest)) ≡ true → more (rose tt (op_at ex p) (bare (plans_of ex kids))) (delayed_in (bare (plans_of ex rest))) ≡ delayed_in (more (rose tt (op_at ex p) (bare (plans_of ex kids))) (bare (plans_of ex rest)))
  in_rest e = sym (ap (λ (a : Bool). cond a (more (rose tt (op_at ex p) (bare (plans_of ex kids))) (delayed_in (bare (plans_of ex rest)))) (cond (is_met (op_at ex p)) (more (rose tt (unmarked_op (op_at ex p)) (bare (plans_of ex kids))) (bare (plans_of ex rest))) (more (rose tt (op_at ex p) (delayed_in (bare (plans_of ex kids)))) (bare (plans_of ex rest))))) e)

  in_node : meets (bare (plans_of ex rest)) ≡ false → is_met (op_at ex p) ≡ true → more (rose tt (unmarked_op (op_at ex p)) (bare (plans_of ex kids))) (bare (plans_of ex rest)) ≡ delayed_in (more (rose tt (op_at ex p) (bare (plans_of ex kids))) (bare (plans_of ex rest)))
  in_node e f = sym (ap₂ (λ (a b : Bool). cond a (more (rose tt (op_at ex p) (bare (plans_of ex kids))) (delayed_in (bare (plans_of ex rest)))) (cond b (more (rose tt (unmarked_op (op_at ex p)) (bare (plans_of ex kids))) (bare (plans_of ex rest))) (more (rose tt (op_at ex p) (delayed_in (bare (plans_of ex kids)))) (bare (plans_of ex rest))))) e f)

  in_kids : meets (bare (plans_of ex rest)) ≡ false → is_met (op_at ex p) ≡ false → more (rose tt (op_at ex p) (delayed_in (bare (plans_of ex kids)))) (bare (plans_of ex rest)) ≡ delayed_in (more (rose tt (op_at ex p) (bare (plans_of ex kids))) (bare (plans_of ex rest)))
  in_kids e f = sym (ap₂ (λ (a b : Bool). cond a (more (rose tt (op_at ex p) (bare (plans_of ex kids))) (delayed_in (bare (plans_of ex rest)))) (cond b (more (rose tt (unmarked_op (op_at ex p)) (bare (plans_of ex kids))) (bare (plans_of ex rest))) (more (rose tt (op_at ex p) (delayed_in (bare (plans_of ex kids)))) (bare (plans_of ex rest))))) e f)

-- the first tree is unmarked at its node
unmarked_first : (lp : List IR) (n : Node) (ns : List Node) (p : IR) (kids rest : Trees IR) → StandsOnce plan_shape lp (n ∷ ns) (more (rose n p kids) rest) → Rewrites plan_shape lp (slice_set lp n.0 (unmarked_entry p)) (n ∷ ns) (more (rose n p kids) rest) (more (rose n (unmarked_entry p) kids) rest)
unmarked_first lp n ns p kids rest h =
    let one : StandsOnce plan_shape lp (n ∷ []) (more (rose n p kids) no_roses) = record { stands = (refl, h.stands.1, h.stands.2, h.stands.3, tt); once = (h.once.0, (λ z. z), (λ k u v. v), h.once.3, tt) } in
    let others : StandsOnce plan_shape lp ns rest = record { stands = h.stands.4; once = h.once.4 } in
    let lower : StandsOnce plan_shape lp (inputs_of (unmarked_entry p)) kids = subst (λ (is : List Node). StandsOnce plan_shape lp is kids) (sym (unmarked_inputs p)) (record { stands = h.stands.3; once = h.once.3 }) in
    rewrites_pair plan_shape lp lp (slice_set lp n.0 (unmarked_entry p)) (more (rose n p kids) no_roses) rest apart (λ k r. Reaches-within plan_shape lp (n ∷ []) (more (rose n p kids) no_roses) k one.stands r)
    (n ∷ []) ns (more (rose n (unmarked_entry p) kids) no_roses) rest
    (Rewrites-refl plan_shape lp ns rest others)
    (Rewrites-above plan_shape lp lp n p (unmarked_entry p) kids kids one (Rewrites-refl plan_shape lp (n ∷ []) (more (rose n p kids) no_roses) one).keeps lower (λ k r. inl r) (unmarked_whole p h.stands.2))
  where
    apart : Apart (more (rose n p kids) no_roses) rest
    apart k (inl e) u = h.once.1 (subst (Reaches rest) e u)
    apart k (inr (inl r)) u = h.once.2 k r u
    apart k (inr (inr r)) u = absurd r

-- which of the three
number_is : (m k : Node) → Some m ≡ Some k → m ≡ k
number_is m k e = cc

pub delays_some : (lp : List IR) (ns : List Node) (t : Trees IR) (k : Node) (p : IR) → StandsOnce plan_shape lp ns t → first_sought t ≡ Some k → slice_get lp k.0 ≡ Some p → Delays lp (slice_set lp k.0 (unmarked_entry p)) ns t
delays_some lp ns no_roses k p h e there = cc
delays_some lp [] (more (rose n q kids) rest) k p h e there = absurd h.stands
delays_some lp (n' ∷ ns) (more (rose n q kids) rest) k p h e there =
    at (first_sought rest) (is_sought q) refl refl e
    (λ x. delays_some lp ns rest k p (record { stands = h.stands.4; once = h.once.4 }) x there)
    (λ x. delays_some lp (inputs_of q) kids k p (record { stands = h.stands.3; once = h.once.3 }) x there)
  where
    at : (a : Option Node) (b : Bool) → first_sought rest ≡ a → is_sought q ≡ b → or_number a (cond b (Some n) (first_sought kids)) ≡ Some k → (first_sought rest ≡ Some k → Delays lp (slice_set lp k.0 (unmarked_entry p)) ns rest) → (first_sought kids ≡ Some k → Delays lp (slice_set lp k.0 (unmarked_entry p)) (inputs_of q) kids) → Delays lp (slice_set lp k.0 (unmarked_entry p)) (n' ∷ ns) (more (rose n q kids) rest)
    at (Some m) b ra qb e later lower =
        let x = later (ra ∙ e) in
        record {
          trees = more (rose n q kids) x.trees;
          places = after plan_shape lp (slice_set lp k.0 (unmarked_entry p)) n' n ns q kids rest x.trees h x.places;
          roots = ap (λ (l : List Node). roots_of q ++ (roots_in kids ++ l)) x.roots;
          plans = λ ex. ap (λ (us : Plans). more (rose tt (op_at ex q) (bare (plans_of ex kids))) us) (x.plans ex) ∙ in_rest ex q kids rest (sym (some_sought ex rest) ∙ ap is_some ra);
        }
    at None true ra qb e later lower =
        let nn : n' ≡ n = h.stands.0 in
        let kn : n ≡ k = number_is n k e in
        let same : q ≡ p = (let u = h.stands.1 in cc) in
        let h1 : StandsOnce plan_shape lp (n ∷ ns) (more (rose n q kids) rest) = subst (λ (m : Node). StandsOnce plan_shape lp (m ∷ ns) (more (rose n q kids) rest)) nn h in
        let x = unmarked_first lp n ns q kids rest h1 in
        let x1 : Rewrites plan_shape lp (slice_set lp n.0 (unmarked_entry q)) (n' ∷ ns) (more (rose n q kids) rest) (more (rose n (unmarked_entry q) kids) rest) = subst (λ (m : Node). Rewrites plan_shape lp (slice_set lp n.0 (unmarked_entry q)) (m ∷ ns) (more (rose n q kids) rest) (more (rose n (unmarked_entry q) kids) rest)) (sym nn) x in
        record {
          trees = more (rose n (unmarked_entry q) kids) rest;
          places = subst (λ (l : List IR). Rewrites plan_shape lp l (n' ∷ ns) (more (rose n q kids) rest) (more (rose n (unmarked_entry q) kids) rest)) (ap₂ (λ (m : Node) (o : IR). slice_set lp m.0 (unmarked_entry o)) kn same) x1;
          roots = ap (λ (l : List Node). l ++ (roots_in kids ++ roots_in rest)) (unmarked_roots q);
          plans = λ ex. ap (λ (o : Op). more (rose tt o (bare (plans_of ex kids))) (bare (plans_of ex rest))) (unmarked_is ex q) ∙ in_node ex q kids rest (sym (some_sought ex rest) ∙ ap is_some ra) (met_is ex q ∙ qb);
        }
    at None false ra qb e later lower =
        let x = lower e in
        record {
          trees = more (rose n q x.trees) rest;
          places = below plan_shape lp (slice_set lp k.0 (unmarked_entry p)) n' n ns q kids rest x.trees h x.places;
          roots = ap (λ (l : List Node). roots_of q ++ (l ++ roots_in rest)) x.roots;
          plans = λ ex. ap (λ (us : Plans). more (rose tt (op_at ex q) us) (bare (plans_of ex rest))) (x.plans ex) ∙ in_kids ex q kids rest (sym (some_sought ex rest) ∙ ap is_some ra) (met_is ex q ∙ qb);
        }

either : (a : Option Node) (b : Bool) (n k : Node) (c : Option Node) → Some k ≡ or_number a (cond b (Some n) c) → (Some k ≡ a) ⊎ ((Some k ≡ Some n) ⊎ (Some k ≡ c))
either (Some m) b n k c e = inl e
either None true n k c e = inr (inl e)
either None false n k c e = inr (inr e)

-- what is sought is reached
sought_reached : (t : Trees IR) (k : Node) → Some k ≡ first_sought t → Reaches t k.0
sought_reached no_roses k e = cc
sought_reached (more (rose n p kids) rest) k e = at (either (first_sought rest) (is_sought p) n k (first_sought kids) e) (sought_reached rest k) (sought_reached kids k)
  where
    at : (Some k ≡ first_sought rest) ⊎ ((Some k ≡ Some n) ⊎ (Some k ≡ first_sought kids)) → (Some k ≡ first_sought rest → Reaches rest k.0) → (Some k ≡ first_sought kids → Reaches kids k.0) → Reaches (more (rose n p kids) rest) k.0
    at (inl e) later lower = inr (inr (later e))
    at (inr (inl e)) later lower = inl (ap (λ (m : Node). m.0) (number_is k n e))
    at (inr (inr e)) later lower = inr (inl (lower e))

-- the number that is sought is one of the arena's
pub sought_inside : (lp : List IR) (ns : List Node) (t : Trees IR) (k : Node) → StandsOnce plan_shape lp ns t → Some k ≡ first_sought t → k.0 < length lp
sought_inside lp ns t k h e = Reaches-within plan_shape lp ns t k.0 h.stands (sought_reached t k e)

-- an entry is put where another was
set_twice : (xs : List IR) (k : ℕ) (d y : IR) → slice_set (slice_set xs k d) k y ≡ slice_set xs k y
set_twice [] k d y = refl
set_twice (x ∷ xs) zero d y = refl
set_twice (x ∷ xs) (suc k) d y = ap (λ (l : List IR). x ∷ l) (set_twice xs k d y)

-- the node that is sought was taken, and put back without its mark
pub delays_taken : (lp : List IR) (ns : List Node) (t : Trees IR) (k : Node) (p d : IR) → StandsOnce plan_shape lp ns t → Some k ≡ first_sought t → slice_get lp k.0 ≡ Some p → Delays lp (slice_set (slice_set lp k.0 d) k.0 (unmarked_entry p)) ns t
delays_taken lp ns t k p d h e there = subst (λ (l : List IR). Delays lp l ns t) (sym (set_twice lp k.0 d (unmarked_entry p))) (delays_some lp ns t k p h (sym e) there)
