-- The rule that makes one union of unions, over what stands at its number.
use Rattle.std.proofs.Common.{◌≡◌, ℕ, ◌||◌, ◌<◌, Bool, true, false, cond, List, [], ◌∷◌, ◌++◌, append_assoc, All, length, Option, Some, None, is_some, refl, sym, ap, ap₂, ◌∙◌, subst, ◌⊎◌, inl, inr}
use Rattle.std.specs.List.{slice_get, slice_set}
use Rattle.std.specs.Option.{option_map_or}
use Rattle.std.proofs.lemmas.Option.{slice_get_within}
use Rattle.std.proofs.lemmas.List.Elements.{All-cons, All-nil}
use Rattle.plan_core.specs.declared.arena.Node.{Node}
use Rattle.plan_options.specs.declared.union.UnionOptions.{UnionOptions}
use Rattle.plan_tree.specs.Rose.{Roses, rose, no_roses, more, join}
use Rattle.plan_tree.specs.Stands.{IsOnce, Reaches, Stands, StandsOnce, Trees}
use Rattle.plan_tree.proofs.Frames.{IsOnce-join, Reaches-join, Rewrites-refl, Stands-join}
use Rattle.plan_tree.proofs.TreeLemmas.{opened}
use Rattle.plan_expr.specs.declared.aexpr.AExpr.{AExpr}
use Rattle.plan_expr.specs.Operands.{expr_shape}
use Rattle.plan_ir.specs.declared.ir.IR.{IR}
use Rattle.plan_ir.specs.declared.ir.IR.TheVariants.{Union}
use Rattle.plan_ir.specs.Parts.{IsPlan, StandsPlan, inputs_of, is_invalid, plan_shape, roots_in, roots_of}
use Rattle.plan_ir.specs.Plans.{Op, bare, op_at, plans_of, union}
use Rattle.plan_meaning.specs.PlanAt.{plan_at}
use Rattle.plan_meaning.specs.Steps.{IsValid}
use Rattle.plan_pass_laws.specs.declared.kind.RuleKind.TheVariants as kinds
use Rattle.plan_pass_laws.specs.Answers.{all_taken_up, answer_of, flatten_answer, has_unflattened, is_unflattened, taken_up}
use Rattle.plan_pass_laws.proofs.AnswerLaws.{flatten_shows}
use Rattle.plan_rule.specs.Calls.{Leaves, Replaces, plan_of}
use Rattle.plan_rule.specs.TakenUp.{flattened_options, has_unflattened_node, is_unflattened_node, numbers_for, numbers_taken_up}
use Rattle.plan_rule.proofs.Placed.{Last, put_at, stays}

abbrev Plans : Type 0
Plans = Roses (Unit {0}) Op

-- Which unions are there

unflattened_is : (ex : List AExpr) (p : IR) → is_unflattened (op_at ex p) ≡ is_unflattened_node p
unflattened_is ex (Union inputs options) = refl
unflattened_is ex p = refl

some_unflattened : (lp : List IR) (ex : List AExpr) (ns : List Node) (f : Trees IR) → Stands plan_shape lp ns f → has_unflattened_node lp ns ≡ has_unflattened (bare (plans_of ex f))
some_unflattened lp ex [] no_roses h = refl
some_unflattened lp ex [] (more (rose m p kids) rest) h = absurd h
some_unflattened lp ex (n ∷ ns) no_roses h = absurd h
some_unflattened lp ex (n ∷ ns) (more (rose m p kids) rest) h =
    ap₂ (λ (a b : Bool). a || b) (ap (λ (o : Option IR). option_map_or is_unflattened_node o false) h.1 ∙ sym (unflattened_is ex p)) (some_unflattened lp ex ns rest h.4)

-- Trees, with the inputs of unions in the place of these

abbrev trees_for : Node → IR → Trees IR → Trees IR → Trees IR
trees_for n (Union inputs options) kids rest = join kids rest
trees_for n p kids rest = more (rose n p kids) rest

abbrev trees_taken_up : Trees IR → Trees IR
trees_taken_up no_roses = no_roses
trees_taken_up (more (rose n p kids) rest) = trees_for n p kids (trees_taken_up rest)

stand_for : (lp : List IR) (n m : Node) (p : IR) (kids g : Trees IR) (ms : List Node) → n ≡ m → slice_get lp n.0 ≡ Some p → is_invalid p ≡ false → Stands plan_shape lp (inputs_of p) kids → Stands plan_shape lp ms g → Stands plan_shape lp (numbers_for n p ++ ms) (trees_for m p kids g)
stand_for lp n m (Union inputs options) kids g ms a b c d e = Stands-join plan_shape lp inputs ms kids g d e
stand_for lp n m p kids g ms a b c d e = (a, b, c, d, e)

stand_taken : (lp : List IR) (ns : List Node) (f : Trees IR) → Stands plan_shape lp ns f → Stands plan_shape lp (numbers_taken_up lp ns) (trees_taken_up f)
stand_taken lp [] no_roses h = tt
stand_taken lp [] (more (rose m p kids) rest) h = absurd h
stand_taken lp (n ∷ ns) no_roses h = absurd h
stand_taken lp (n ∷ ns) (more (rose m p kids) rest) h =
    subst (λ (l : List Node). Stands plan_shape lp (l ++ numbers_taken_up lp ns) (trees_for m p kids (trees_taken_up rest))) (sym (ap (λ (o : Option IR). option_map_or (numbers_for n) o (n ∷ [])) h.1))
    (stand_for lp n m p kids (trees_taken_up rest) (numbers_taken_up lp ns) h.0 h.1 h.2 h.3 (stand_taken lp ns rest h.4))

reach_for : (m : Node) (p : IR) (kids g rest : Trees IR) → ((k : ℕ) → Reaches g k → Reaches rest k) → (k : ℕ) → Reaches (trees_for m p kids g) k → Reaches (more (rose m p kids) rest) k
reach_for m (Union inputs options) kids g rest into k r = at (Reaches-join plan_shape kids g k r)
  where
    at : Reaches kids k ⊎ Reaches g k → Reaches (more (rose m (Union inputs options) kids) rest) k
    at (inl u) = inr (inl u)
    at (inr v) = inr (inr (into k v))
reach_for m p kids g rest into k (inl e) = inl e
reach_for m p kids g rest into k (inr (inl u)) = inr (inl u)
reach_for m p kids g rest into k (inr (inr v)) = inr (inr (into k v))

reach_taken : (f : Trees IR) (k : ℕ) → Reaches (trees_taken_up f) k → Reaches f k
reach_taken no_roses k r = r
reach_taken (more (rose m p kids) rest) k r = reach_for m p kids (trees_taken_up rest) rest (reach_taken rest) k r

once_for : (m : Node) (p : IR) (kids g rest : Trees IR) → ((k : ℕ) → Reaches g k → Reaches rest k) → IsOnce (more (rose m p kids) rest) → IsOnce g → IsOnce (trees_for m p kids g)
once_for m (Union inputs options) kids g rest into h o = IsOnce-join plan_shape kids g h.3 o (λ k u r. h.2 k u (into k r))
once_for m p kids g rest into h o = (h.0, (λ r. h.1 (into m.0 r)), (λ k u r. h.2 k u (into k r)), h.3, o)

once_taken : (f : Trees IR) → IsOnce f → IsOnce (trees_taken_up f)
once_taken no_roses h = tt
once_taken (more (rose m p kids) rest) h = once_for m p kids (trees_taken_up rest) rest (reach_taken rest) h (once_taken rest h.4)

plans_join : (ex : List AExpr) (f g : Trees IR) → bare (plans_of ex (join f g)) ≡ join (bare (plans_of ex f)) (bare (plans_of ex g))
plans_join ex no_roses g = refl
plans_join ex (more (rose n p kids) rest) g = ap (λ (us : Plans). more (rose tt (op_at ex p) (bare (plans_of ex kids))) us) (plans_join ex rest g)

plans_for : (ex : List AExpr) (m : Node) (p : IR) (kids g : Trees IR) → bare (plans_of ex (trees_for m p kids g)) ≡ taken_up (rose tt (op_at ex p) (bare (plans_of ex kids))) (bare (plans_of ex g))
plans_for ex m (Union inputs options) kids g = plans_join ex kids g
plans_for ex m p kids g = refl

plans_taken : (ex : List AExpr) (f : Trees IR) → bare (plans_of ex (trees_taken_up f)) ≡ all_taken_up (bare (plans_of ex f))
plans_taken ex no_roses = refl
plans_taken ex (more (rose m p kids) rest) = plans_for ex m p kids (trees_taken_up rest) ∙ ap (λ (us : Plans). taken_up (rose tt (op_at ex p) (bare (plans_of ex kids))) us) (plans_taken ex rest)

roots_join : (f g : Trees IR) → roots_in (join f g) ≡ roots_in f ++ roots_in g
roots_join no_roses g = refl
roots_join (more (rose n p kids) rest) g =
    ap (λ (l : List Node). roots_of p ++ (roots_in kids ++ l)) (roots_join rest g)
    ∙ ap (λ (l : List Node). roots_of p ++ l) (sym (append_assoc (roots_in kids) (roots_in rest) (roots_in g)))
    ∙ sym (append_assoc (roots_of p) (roots_in kids ++ roots_in rest) (roots_in g))

roots_for : (m : Node) (p : IR) (kids g : Trees IR) → roots_in (trees_for m p kids g) ≡ roots_of p ++ (roots_in kids ++ roots_in g)
roots_for m (Union inputs options) kids g = roots_join kids g
roots_for m p kids g = refl

roots_taken : (f : Trees IR) → roots_in (trees_taken_up f) ≡ roots_in f
roots_taken no_roses = refl
roots_taken (more (rose m p kids) rest) = roots_for m p kids (trees_taken_up rest) ∙ ap (λ (l : List Node). roots_of p ++ (roots_in kids ++ l)) (roots_taken rest)

-- The rule

flat_answer : (options : UnionOptions) (ts us : Plans) → has_unflattened ts ≡ true → us ≡ all_taken_up ts → flatten_answer (rose tt (union options) ts) ≡ Some (rose tt (union (flattened_options options)) us)
flat_answer options ts us some is =
    ap (λ (b : Bool). cond b (Some (rose tt (union (flattened_options options)) (all_taken_up ts))) None) some ∙ ap (λ (vs : Plans). Some (rose tt (union (flattened_options options)) vs)) (sym is)

pub union_flattens : (lp : List IR) (ex : List AExpr) (n : Node) (ns ms : List Node) (options : UnionOptions) (t : Trees IR) (e : Trees AExpr) → StandsPlan lp ex n t e → IsValid (plan_at lp ex n) → slice_get lp n.0 ≡ Some (Union ns options) → has_unflattened_node lp ns ≡ true → ms ≡ numbers_taken_up lp ns → Replaces kinds.Flatten true lp (slice_set lp n.0 (Union ms (flattened_options options))) ex ex n t e
union_flattens lp ex n ns ms options t e h v entry some is =
    let o = opened plan_shape lp n (Union ns options) t h.nodes entry in
    subst (λ (f : Trees IR). Replaces kinds.Flatten true lp (slice_set lp n.0 (Union ms (flattened_options options))) ex ex n f e) (sym o.is)
    (at o.kids (subst (λ (f : Trees IR). StandsPlan lp ex n f e) o.is h) o.inputs)
  where
    at : (kids : Trees IR) → StandsPlan lp ex n (more (rose n (Union ns options) kids) no_roses) e → StandsOnce plan_shape lp ns kids → Replaces kinds.Flatten true lp (slice_set lp n.0 (Union ms (flattened_options options))) ex ex n (more (rose n (Union ns options) kids) no_roses) e
    at kids h low =
        let stand : StandsOnce plan_shape lp ms (trees_taken_up kids) = record { stands = subst (λ (l : List Node). Stands plan_shape lp l (trees_taken_up kids)) (sym is) (stand_taken lp ns kids low.stands); once = once_taken kids low.once } in
        let numbers : roots_in (more (rose n (Union ns options) kids) no_roses) ≡ roots_in (more (rose n (Union ms (flattened_options options)) (trees_taken_up kids)) no_roses) = ap (λ (l : List Node). l ++ []) (sym (roots_taken kids)) in
        let last : Last ex (roots_in (more (rose n (Union ms (flattened_options options)) (trees_taken_up kids)) no_roses)) e = record { trees = e; stand = subst (λ (l : List Node). StandsOnce expr_shape ex l e) numbers h.exprs; part = λ k r. r } in
        put_at kinds.Flatten true lp lp ex n (Union ns options) (Union ms (flattened_options options)) kids (trees_taken_up kids) e h v
        (Rewrites-refl plan_shape lp (n ∷ []) (more (rose n (Union ns options) kids) no_roses) h.nodes).keeps
        stand (reach_taken kids) refl last
        (flat_answer options (bare (plans_of ex kids)) (bare (plans_of ex (trees_taken_up kids))) (sym (some_unflattened lp ex ns kids low.stands) ∙ some) (plans_taken ex kids))

flat_stays : (lp : List IR) (ex : List AExpr) (n : Node) (t : Trees IR) (e : Trees AExpr) → StandsPlan lp ex n t e → answer_of kinds.Flatten (plan_of ex t) ≡ None → Leaves kinds.Flatten true lp lp ex ex n t e
flat_stays lp ex n t e h none = stays kinds.Flatten true lp ex n t e h (sym (flatten_shows (plan_of ex t)) ∙ ap is_some none) none refl

pub union_stays : (lp : List IR) (ex : List AExpr) (n : Node) (ns : List Node) (options : UnionOptions) (t : Trees IR) (e : Trees AExpr) → StandsPlan lp ex n t e → slice_get lp n.0 ≡ Some (Union ns options) → has_unflattened_node lp ns ≡ false → Leaves kinds.Flatten true lp lp ex ex n t e
union_stays lp ex n ns options t e h entry none =
    let o = opened plan_shape lp n (Union ns options) t h.nodes entry in
    flat_stays lp ex n t e h (ap (λ (f : Trees IR). flatten_answer (plan_of ex f)) o.is ∙ ap (λ (b : Bool). cond b (Some (rose tt (union (flattened_options options)) (all_taken_up (bare (plans_of ex o.kids))))) None) (sym (some_unflattened lp ex ns o.kids o.inputs.stands) ∙ none))

no_union : (ex : List AExpr) (p : IR) (ts : Plans) → ((ns : List Node) (options : UnionOptions) → p ≡ Union ns options → ⊥) → flatten_answer (rose tt (op_at ex p) ts) ≡ None
no_union ex (Union ns options) ts other = absurd (other ns options refl)
no_union ex p ts other = refl

pub no_union_stays : (lp : List IR) (ex : List AExpr) (n : Node) (p : IR) (t : Trees IR) (e : Trees AExpr) → StandsPlan lp ex n t e → slice_get lp n.0 ≡ Some p → ((ns : List Node) (options : UnionOptions) → p ≡ Union ns options → ⊥) → Leaves kinds.Flatten true lp lp ex ex n t e
no_union_stays lp ex n p t e h entry other =
    let o = opened plan_shape lp n p t h.nodes entry in
    flat_stays lp ex n t e h (ap (λ (f : Trees IR). flatten_answer (plan_of ex f)) o.is ∙ no_union ex p (bare (plans_of ex o.kids)) other)

-- the numbers of inputs are of the arena
inputs_inside : (lp : List IR) (ns : List Node) (f : Trees IR) → Stands plan_shape lp ns f → All (λ (m : Node). m.0 < length lp) ns
inputs_inside lp [] f h = All-nil (λ (m : Node). m.0 < length lp)
inputs_inside lp (n ∷ ns) no_roses h = absurd h
inputs_inside lp (n ∷ ns) (more (rose m p kids) rest) h = All-cons (λ (k : Node). k.0 < length lp) n ns (slice_get_within lp n.0 p h.1) (inputs_inside lp ns rest h.4)

pub union_inside : (lp : List IR) (ex : List AExpr) (n : Node) (ns : List Node) (options : UnionOptions) → IsPlan lp ex n → slice_get lp n.0 ≡ Some (Union ns options) → All (λ (m : Node). m.0 < length lp) ns
union_inside lp ex n ns options h entry =
    let o = opened plan_shape lp n (Union ns options) h.nodes h.stands.nodes entry in
    inputs_inside lp ns o.kids o.inputs.stands
