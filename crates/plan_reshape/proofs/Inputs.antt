-- A node over its inputs, the last of which are walked before the first.
use Rattle.std.proofs.Common.{◌≡◌, ℕ, ◌+◌, ◌<◌, ◌≤◌, ◌^◌, ◌||◌, ◌⊎◌, inl, inr, ⊎_elim, Bool, true, false, List, [], ◌∷◌, ◌++◌, length, append_assoc, append-nil, Some, refl, sym, ap, ap₂, ◌∙◌, subst, arith}
use Rattle.std.specs.List.{slice_get}
use Rattle.plan_core.specs.declared.arena.Node.{Node}
use Rattle.plan_tree.specs.Rose.{Rose, Roses, rose, no_roses, more, join as beside}
use Rattle.plan_tree.specs.Stands.{Apart, Reaches, Rewrites, Stands, StandsOnce, Trees}
use Rattle.plan_tree.proofs.Numbers.{Reaches-within}
use Rattle.plan_tree.proofs.SplitLemmas.{StandsOnce-split}
use Rattle.plan_tree.proofs.TreeLemmas.{opened}
use Rattle.plan_expr.specs.declared.aexpr.AExpr.{AExpr}
use Rattle.plan_expr.specs.Operands.{expr_shape}
use Rattle.plan_ir.specs.declared.ir.IR.{IR}
use Rattle.plan_ir.specs.Parts.{IsPlan, StandsPlan, inputs_of, plan_shape, roots_in, roots_of}
use Rattle.plan_ir.specs.Plans.{Op, Plan, bare, op_at, plans_of, slice, filter, scan, frame_scan, simple_projection, select, hstack, sort, group_by, join, distinct, map_function, sink, union, hconcat, cache, invalid}
use Rattle.plan_meaning.specs.Marks.{unmarked, unmarked_all, unmarked_op}
use Rattle.plan_meaning.specs.PlanAt.{plan_at}
use Rattle.plan_meaning.specs.Steps.{IsValid}
use Rattle.plan_meaning.specs.Typing.{AllValid}
use Rattle.plan_pass_laws.specs.declared.kind.RuleKind.{RuleKind}
use Rattle.plan_pass_laws.specs.Patterns.{shows_one}
use Rattle.plan_pass_laws.specs.Settling.{Done, Reworks, Walked, both, idle}
use Rattle.plan_pass_laws.specs.Walks.{AllWalk, UntilAll, Walks, more_walks, no_walk, walks}
use Rattle.plan_pass_laws.specs.Weights.{weight, weight_in, own_weight}
use Rattle.plan_pass_laws.proofs.Reworked.{walked_more, walked_node, walked_none}
use Rattle.plan_rule.specs.Calls.{plan_of}
use Rattle.plan_pass_laws.proofs.KeptPlans.{op_kept, plans_kept}
use Rattle.plan_tree.proofs.Pairs.{stand_first}
use Rattle.plan_pass_laws.specs.Becoming.{AllBecome}
use Rattle.plan_reshape.specs.Walking.{AtTop, WalkedAt}
use Rattle.plan_reshape.proofs.Beside.{become_beside, become_under, roots_join}
use Rattle.plan_reshape.proofs.Brings.{Plans, StandAll, become_refl, become_then, one_of, plan_at_is}

-- Plans side by side

bare_join : (ex : List AExpr) (f g : Trees IR) → bare (plans_of ex (beside f g)) ≡ beside (bare (plans_of ex f)) (bare (plans_of ex g))
bare_join ex no_roses g = refl
bare_join ex (more (rose n p kids) rest) g = ap (λ (l : Plans). more (rose tt (op_at ex p) (bare (plans_of ex kids))) l) (bare_join ex rest g)

weight_join : (qs rs : Plans) → weight_in (beside qs rs) ≡ weight_in qs + weight_in rs
weight_join no_roses rs = omega arith
weight_join (more q qs) rs = let e = weight_join qs rs in omega (arith, e)

valid_last : (qs rs : Plans) → AllValid (beside qs rs) → AllValid rs
valid_last no_roses rs v = v
valid_last (more (rose n op ts) qs) rs v = valid_last qs rs v.2

valid_first : (q : Plan) (rs : Plans) → AllValid (more q rs) → IsValid q
valid_first (rose n op ts) rs v = (v.0, v.1)

-- a walk of rules of these kinds made others of the plans at numbers; where all rules are their kinds' own, a walk of plans without marks does so
pub record WalkedAll (ks : List RuleKind) (own : Bool) (lp new : List IR) (ex grown : List AExpr) (ns : List Node) (f : Trees IR) (e : Trees AExpr) (done : Done) : Type 0 where
  pub become : AllBecome lp new ex grown ns f e
  pub walked : Walked ks (bare (plans_of grown become.nodes)) (bare (plans_of ex f)) done
  pub told : own ≡ true → AllWalk ks (unmarked_all (bare (plans_of ex f))) (unmarked_all (bare (plans_of grown become.nodes)))

more_told : (ks : List RuleKind) (p q : Plan) (ps qs : Plans) → Walks ks (unmarked p) (unmarked q) → AllWalk ks (unmarked_all ps) (unmarked_all qs) → AllWalk ks (unmarked_all (more p ps)) (unmarked_all (more q qs))
more_told ks (rose n op ts) (rose m o us) ps qs w h = more_walks w h

-- The next plan

-- the plan at a number, beside those to its right, which were walked
pub record NextPlan (ks : List RuleKind) (own : Bool) (b c : List IR) (y z : List AExpr) (i : Node) (right : List Node) (g : Trees IR) (e : Trees AExpr) (w : Done) : Type 0 where
  pub first : Trees IR
  pub rest : Trees IR
  pub is : g ≡ beside first rest
  pub firsts : Trees AExpr
  pub rests : Trees AExpr
  pub are : e ≡ beside firsts rests
  pub stands_first : StandsOnce plan_shape b (i ∷ []) first
  pub exprs_first : StandsOnce expr_shape y (roots_in first) firsts
  pub apart : Apart first rest
  pub away : Apart firsts rests
  pub walked : WalkedAll ks own b c y z right rest rests w
  pub stands : StandsPlan c z i first firsts
  pub same : bare (plans_of z first) ≡ bare (plans_of y first)

next_plan : (ks : List RuleKind) (own : Bool) (b c : List IR) (y z : List AExpr) (i : Node) (right : List Node) (g : Trees IR) (e : Trees AExpr) (w : Done) → ((f : Trees IR) (d : Trees AExpr) → StandAll b y right f d → WalkedAll ks own b c y z right f d w) → StandAll b y (i ∷ right) g e → NextPlan ks own b c y z i right g e w
next_plan ks own b c y z i right g e w walked h =
    let n = StandsOnce-split plan_shape b (i ∷ []) right g h.nodes in
    let eq : roots_in g ≡ roots_in n.left ++ roots_in n.right = ap roots_in n.is ∙ roots_join n.left n.right in
    let s = StandsOnce-split expr_shape y (roots_in n.left) (roots_in n.right) e (subst (λ (l : List Node). StandsOnce expr_shape y l e) eq h.exprs) in
    let was = walked n.right s.right (record { nodes = n.second; exprs = s.second }) in
    record {
      first = n.left;
      rest = n.right;
      is = n.is;
      firsts = s.left;
      rests = s.right;
      are = s.is;
      stands_first = n.first;
      exprs_first = s.first;
      apart = n.apart;
      away = s.apart;
      walked = was;
      stands = record {
        nodes = stand_first plan_shape b c c n.left n.right n.apart (λ k r. Reaches-within plan_shape b (i ∷ []) n.left k n.first.stands r) (i ∷ []) right was.become.nodes n.first was.become.places;
        exprs = stand_first expr_shape y z z s.left s.right s.apart (λ k r. Reaches-within expr_shape y (roots_in n.left) s.left k s.first.stands r) (roots_in n.left) (roots_in was.become.nodes) was.become.exprs s.first was.become.under;
      };
      same = plans_kept y z s.right was.become.under.keeps n.left (record { trees = s.left; stand = s.first; apart = s.apart });
    }

-- it is walked too
next_walked : (ks : List RuleKind) (own : Bool) (b c m : List IR) (y z x : List AExpr) (i : Node) (right : List Node) (g : Trees IR) (e : Trees AExpr) (v w : Done) (n : NextPlan ks own b c y z i right g e v) (r : WalkedAt ks c m z x i n.first n.firsts w) → (own ≡ true → Walks ks (unmarked (plan_of z n.first)) (unmarked (plan_of x r.becomes.nodes))) → WalkedAll ks own b m y x (i ∷ right) g e (both v w)
next_walked ks own b c m y z x i right g e v w n r alone =
    let inside : (k : ℕ) → Reaches n.first k → k < length b = λ k u. Reaches-within plan_shape b (i ∷ []) n.first k n.stands_first.stands u in
    let within : (k : ℕ) → Reaches n.firsts k → k < length y = λ k u. Reaches-within expr_shape y (roots_in n.first) n.firsts k n.exprs_first.stands u in
    let all = become_beside b c m y z x n.first n.rest n.firsts n.rests n.apart inside n.away within (i ∷ []) right n.walked.become r.becomes in
    let far : Apart n.walked.become.exprs n.firsts = λ k u q. ⊎_elim (λ (p : Reaches n.rests k). n.away k q p) (λ (p : length y ≤ k). let lt = within k q in absurd (omega (arith, lt, p))) (n.walked.become.under.within k u) in
    let kept : bare (plans_of x n.walked.become.nodes) ≡ bare (plans_of z n.walked.become.nodes) = plans_kept z x n.firsts r.becomes.under.keeps n.walked.become.nodes (record { trees = n.walked.become.exprs; stand = n.walked.become.under.stands; apart = far }) in
    let now : bare (plans_of x (beside r.becomes.nodes n.walked.become.nodes)) ≡ more (plan_of x r.becomes.nodes) (bare (plans_of z n.walked.become.nodes)) =
    bare_join x r.becomes.nodes n.walked.become.nodes
    ∙ ap (λ (l : Plans). beside l (bare (plans_of x n.walked.become.nodes))) (one_of m x i r.becomes.nodes r.becomes.places.stands)
    ∙ ap (λ (l : Plans). more (plan_of x r.becomes.nodes) l) kept in
    let was : bare (plans_of y g) ≡ more (plan_of z n.first) (bare (plans_of y n.rest)) =
    ap (λ (f : Trees IR). bare (plans_of y f)) n.is
    ∙ bare_join y n.first n.rest
    ∙ ap (λ (l : Plans). beside l (bare (plans_of y n.rest))) (sym n.same ∙ one_of c z i n.first n.stands.nodes) in
    let both_walked = walked_more ks (plan_of x r.becomes.nodes) (plan_of z n.first) (bare (plans_of z n.walked.become.nodes)) (bare (plans_of y n.rest)) v w n.walked.walked r.walked in
    record {
      become = record {
        nodes = beside r.becomes.nodes n.walked.become.nodes;
        exprs = beside r.becomes.exprs n.walked.become.exprs;
        places = subst (λ (f : Trees IR). Rewrites plan_shape b m (i ∷ right) f (beside r.becomes.nodes n.walked.become.nodes)) (sym n.is) all.places;
        under = subst (λ (f : Trees AExpr). Rewrites expr_shape y x (roots_in (beside r.becomes.nodes n.walked.become.nodes)) f (beside r.becomes.exprs n.walked.become.exprs)) (sym n.are) all.under;
      };
      walked = subst (λ (l : Plans). Walked ks l (bare (plans_of y g)) (both v w)) (sym now) (subst (λ (l : Plans). Walked ks (more (plan_of x r.becomes.nodes) (bare (plans_of z n.walked.become.nodes))) l (both v w)) (sym was) both_walked);
      told = λ o. subst (λ (l : Plans). AllWalk ks (unmarked_all (bare (plans_of y g))) (unmarked_all l)) (sym now) (subst (λ (l : Plans). AllWalk ks (unmarked_all l) (unmarked_all (more (plan_of x r.becomes.nodes) (bare (plans_of z n.walked.become.nodes))))) (sym was) (more_told ks (plan_of z n.first) (plan_of x r.becomes.nodes) (bare (plans_of y n.rest)) (bare (plans_of z n.walked.become.nodes)) (alone o) (n.walked.told o)));
    }

-- The inputs that are left, and what was done with those to their right

pub record Left (ks : List RuleKind) (own : Bool) (b c : List IR) (y z : List AExpr) (ns left : List Node) (w : Done) : Type 0 where
  pub right : List Node
  pub split : left ++ right ≡ ns
  pub walked : (g : Trees IR) (e : Trees AExpr) → StandAll b y right g e → WalkedAll ks own b c y z right g e w

nothing_walked : (ks : List RuleKind) (own : Bool) (b : List IR) (y : List AExpr) (g : Trees IR) (e : Trees AExpr) → StandAll b y [] g e → WalkedAll ks own b b y y [] g e idle
nothing_walked ks own b y no_roses no_roses h = record { become = become_refl b y [] no_roses no_roses h; walked = walked_none ks; told = λ o. no_walk }
nothing_walked ks own b y no_roses (more (rose m p kids) rest) h = absurd h.exprs.stands
nothing_walked ks own b y (more (rose m p kids) rest) e h = absurd h.nodes.stands

pub left_first : (ks : List RuleKind) (own : Bool) (b : List IR) (y : List AExpr) (ns : List Node) → Left ks own b b y y ns ns idle
left_first ks own b y ns = record { right = []; split = append-nil ns; walked = nothing_walked ks own b y }

pub left_next : (ks : List RuleKind) (own : Bool) (b c m : List IR) (y z x : List AExpr) (ns old left : List Node) (i : Node) (v w : Done) → old ≡ left ++ i ∷ [] → Left ks own b c y z ns old v → ((t : Trees IR) (e : Trees AExpr) → StandsPlan c z i t e → WalkedAt ks c m z x i t e w) → (own ≡ true → Walks ks (unmarked (plan_at c z i)) (unmarked (plan_at m x i))) → Left ks own b m y x ns left (both v w)
left_next ks own b c m y z x ns old left i v w eq l call told = record {
  right = i ∷ l.right;
  split = sym (append_assoc left (i ∷ []) l.right) ∙ ap (λ (o : List Node). o ++ l.right) (sym eq) ∙ l.split;
  walked = λ g e h.
      let n = next_plan ks own b c y z i l.right g e v l.walked h in
      let r = call n.first n.firsts n.stands in
      next_walked ks own b c m y z x i l.right g e v w n r (λ o. subst (λ (p : Plan). Walks ks (unmarked p) (unmarked (plan_of x r.becomes.nodes))) (plan_at_is c z i n.first n.stands.nodes) (subst (λ (p : Plan). Walks ks (unmarked (plan_at c z i)) (unmarked p)) (plan_at_is m x i r.becomes.nodes r.becomes.places.stands) (told o)));
}

-- the plans at some last numbers, among all of them
record LastPlans (b : List IR) (y : List AExpr) (right : List Node) (f : Trees IR) : Type 0 where
  trees : Trees IR
  exprs : Trees AExpr
  stand : StandAll b y right trees exprs
  valid : AllValid (bare (plans_of y trees))
  small : weight_in (bare (plans_of y trees)) ≤ weight_in (bare (plans_of y f))

last_plans : (b : List IR) (y : List AExpr) (ns left right : List Node) (f : Trees IR) (e : Trees AExpr) → left ++ right ≡ ns → StandAll b y ns f e → AllValid (bare (plans_of y f)) → LastPlans b y right f
last_plans b y ns left right f e eq h v =
    let n = StandsOnce-split plan_shape b left right f (subst (λ (l : List Node). StandsOnce plan_shape b l f) (sym eq) h.nodes) in
    let rs : roots_in f ≡ roots_in n.left ++ roots_in n.right = ap roots_in n.is ∙ roots_join n.left n.right in
    let s = StandsOnce-split expr_shape y (roots_in n.left) (roots_in n.right) e (subst (λ (l : List Node). StandsOnce expr_shape y l e) rs h.exprs) in
    let both_plans : bare (plans_of y f) ≡ beside (bare (plans_of y n.left)) (bare (plans_of y n.right)) = ap (λ (g : Trees IR). bare (plans_of y g)) n.is ∙ bare_join y n.left n.right in
    let sum = ap weight_in both_plans ∙ weight_join (bare (plans_of y n.left)) (bare (plans_of y n.right)) in
    record {
      trees = n.right;
      exprs = s.right;
      stand = record { nodes = n.second; exprs = s.second };
      valid = valid_last (bare (plans_of y n.left)) (bare (plans_of y n.right)) (subst AllValid both_plans v);
      small = omega (arith, sum);
    }

-- what the next call asks
pub record Asks (c : List IR) (z : List AExpr) (i : Node) (most : ℕ) : Type 0 where
  pub plan : IsPlan c z i
  pub valid : IsValid (plan_at c z i)
  pub weighs : weight (plan_at c z i) ≤ most

pub left_asks : (ks : List RuleKind) (own : Bool) (b c : List IR) (y z : List AExpr) (ns old left : List Node) (i : Node) (v : Done) (f : Trees IR) (e : Trees AExpr) → old ≡ left ++ i ∷ [] → Left ks own b c y z ns old v → StandAll b y ns f e → AllValid (bare (plans_of y f)) → Asks c z i (weight_in (bare (plans_of y f)))
left_asks ks own b c y z ns old left i v f e eq l h valid =
    let split = sym (append_assoc left (i ∷ []) l.right) ∙ ap (λ (o : List Node). o ++ l.right) (sym eq) ∙ l.split in
    let p = last_plans b y ns left (i ∷ l.right) f e split h valid in
    let n = next_plan ks own b c y z i l.right p.trees p.exprs v l.walked p.stand in
    let at : plan_at c z i ≡ plan_of z n.first = plan_at_is c z i n.first n.stands.nodes in
    let was : bare (plans_of y p.trees) ≡ more (plan_of z n.first) (bare (plans_of y n.rest)) =
    ap (λ (f : Trees IR). bare (plans_of y f)) n.is
    ∙ bare_join y n.first n.rest
    ∙ ap (λ (l : Plans). beside l (bare (plans_of y n.rest))) (sym n.same ∙ one_of c z i n.first n.stands.nodes) in
    let weights : weight_in (bare (plans_of y p.trees)) ≡ weight (plan_of z n.first) + weight_in (bare (plans_of y n.rest)) = ap weight_in was in
    let w : weight (plan_at c z i) ≡ weight (plan_of z n.first) = ap weight at in
    let less = p.small in
    record {
      plan = record { nodes = n.first; exprs = n.firsts; stands = n.stands };
      valid = subst IsValid (sym at) (valid_first (plan_of z n.first) (bare (plans_of y n.rest)) (subst AllValid was p.valid));
      weighs = omega (arith, weights, w, less);
    }

pub left_fits : (ks : List RuleKind) (own : Bool) (b c : List IR) (y z : List AExpr) (ns left : List Node) (v : Done) (f : Trees IR) (e : Trees AExpr) → Left ks own b c y z ns left v → StandAll b y ns f e → AllValid (bare (plans_of y f)) → v.replaced ≤ weight_in (bare (plans_of y f))
left_fits ks own b c y z ns left v f e l h valid =
    let p = last_plans b y ns left l.right f e l.split h valid in
    let k = (l.walked p.trees p.exprs p.stand).walked.reworks.counted in
    let less = p.small in
    omega (arith, k, less)

-- A node over its inputs, once the rules were called at it

pub record Under (ks : List RuleKind) (a b : List IR) (x y : List AExpr) (n : Node) (p : IR) (t : Trees IR) (e : Trees AExpr) (v : Done) : Type 0 where
  pub kids : Trees IR
  pub own : Trees AExpr
  pub below : Trees AExpr
  pub whole : StandsOnce plan_shape b (n ∷ []) (more (rose n p kids) no_roses)
  pub owns : StandsOnce expr_shape y (roots_of p) own
  pub inputs : StandAll b y (inputs_of p) kids below
  pub apart : Apart own below
  pub become : AllBecome a b x y (n ∷ []) t e
  pub nodes_are : become.nodes ≡ more (rose n p kids) no_roses
  pub exprs_are : become.exprs ≡ beside own below
  pub reworks : Reworks ks (more (rose tt (op_at y p) (bare (plans_of y kids))) no_roses) (more (plan_of x t) no_roses) v
  pub quiet : v.changed ≡ false → shows_one ks (rose tt (op_at y p) (bare (plans_of y kids))) ≡ false
  pub valid : AllValid (bare (plans_of y kids))
  pub lighter : v.replaced + weight_in (bare (plans_of y kids)) < weight (plan_at a x n)

bulky : (op : Op) → 1 ≤ own_weight op
bulky (slice offset len) = omega arith
bulky (filter predicate) = omega arith
bulky (scan sources info hive predicate output kind options) = omega arith
bulky (frame_scan df schema output) = omega arith
bulky (simple_projection columns) = omega arith
bulky (select exprs schema options) = omega arith
bulky (hstack exprs schema options) = omega arith
bulky (sort keys part options) = omega arith
bulky (group_by keys aggs schema ordered options) = omega arith
bulky (join left_on right_on schema told) = omega arith
bulky (distinct options) = omega arith
bulky (map_function function) = omega arith
bulky (sink payload) = omega arith
bulky (union options) = omega arith
bulky (hconcat schema options) = omega arith
bulky (cache id hits) = omega arith
bulky invalid = omega arith

pub under_of : (ks : List RuleKind) (a b : List IR) (x y : List AExpr) (n : Node) (p : IR) (t : Trees IR) (e : Trees AExpr) (v : Done) → StandsPlan a x n t e → AtTop ks a b x y n t e v → slice_get b n.0 ≡ Some p → Under ks a b x y n p t e v
under_of ks a b x y n p t e v h top at =
    let d = top.brought.become in
    let o = opened plan_shape b n p d.nodes d.places.stands at in
    let standing : StandsOnce expr_shape y (roots_of p ++ (roots_in o.kids ++ [])) d.exprs = subst (λ (u : Trees IR). StandsOnce expr_shape y (roots_in u) d.exprs) o.is d.under.stands in
    let s = StandsOnce-split expr_shape y (roots_of p) (roots_in o.kids ++ []) d.exprs standing in
    let reworks = subst (λ (u : Trees IR). Reworks ks (bare (plans_of y u)) (more (plan_of x t) no_roses) v) o.is (subst (λ (l : Plans). Reworks ks (bare (plans_of y d.nodes)) l v) (one_of a x n t h.nodes) top.brought.reworks) in
    let counted : v.replaced + (own_weight (op_at y p) + weight_in (bare (plans_of y o.kids)) + 0) ≤ weight (plan_of x t) + 0 = reworks.counted in
    let was : weight (plan_at a x n) ≡ weight (plan_of x t) = ap weight (plan_at_is a x n t h.nodes) in
    let some = bulky (op_at y p) in
    record {
      kids = o.kids;
      own = s.left;
      below = s.right;
      whole = subst (λ (u : Trees IR). StandsOnce plan_shape b (n ∷ []) u) o.is d.places.stands;
      owns = s.first;
      inputs = record { nodes = o.inputs; exprs = subst (λ (l : List Node). StandsOnce expr_shape y l s.right) (append-nil (roots_in o.kids)) s.second };
      apart = s.apart;
      become = d;
      nodes_are = o.is;
      exprs_are = s.is;
      reworks = reworks;
      quiet = λ m. subst (λ (u : Trees IR). shows_one ks (plan_of y u) ≡ false) o.is (top.quiet m);
      valid = reworks.refine.0.valid.1;
      lighter = omega (arith, counted, was, some);
    }

-- the walked inputs under the node
pub record Ended (ks : List RuleKind) (own : Bool) (b c : List IR) (y z : List AExpr) (n : Node) (p : IR) (kids : Trees IR) (own_exprs below : Trees AExpr) (w : Done) : Type 0 where
  pub all : WalkedAll ks own b c y z (inputs_of p) kids below w
  pub over : AllBecome b c y z (n ∷ []) (more (rose n p kids) no_roses) (beside own_exprs below)
  pub nodes_are : over.nodes ≡ more (rose n p all.become.nodes) no_roses
  pub kept : op_at z p ≡ op_at y p

ended : (ks : List RuleKind) (own : Bool) (a b c : List IR) (x y z : List AExpr) (n : Node) (p : IR) (t : Trees IR) (e : Trees AExpr) (v w : Done) (u : Under ks a b x y n p t e v) → Left ks own b c y z (inputs_of p) [] w → Ended ks own b c y z n p u.kids u.own u.below w
ended ks own a b c x y z n p t e v w u l =
    let all = subst (λ (ns : List Node). WalkedAll ks own b c y z ns u.kids u.below w) l.split (l.walked u.kids u.below (subst (λ (ns : List Node). StandAll b y ns u.kids u.below) (sym l.split) u.inputs)) in
    record {
      all = all;
      over = become_under b c y z n p u.kids u.own u.below u.whole u.owns u.apart all.become;
      nodes_are = refl;
      kept = op_kept y z u.below all.become.under.keeps p (record { trees = u.own; stand = u.owns; apart = u.apart });
    }

pub walked_end : (ks : List RuleKind) (own : Bool) (a b c : List IR) (x y z : List AExpr) (n : Node) (p : IR) (t : Trees IR) (e : Trees AExpr) (v w : Done) → StandsPlan a x n t e → Under ks a b x y n p t e v → Left ks own b c y z (inputs_of p) [] w → WalkedAt ks a c x z n t e (both v w)
walked_end ks own a b c x y z n p t e v w h u l =
    let d = ended ks own a b c x y z n p t e v w u l in
    let first : AllBecome a b x y (n ∷ []) t e = record {
      nodes = more (rose n p u.kids) no_roses;
      exprs = beside u.own u.below;
      places = subst (λ (f : Trees IR). Rewrites plan_shape a b (n ∷ []) t f) u.nodes_are u.become.places;
      under = subst (λ (g : Trees AExpr). Rewrites expr_shape x y (roots_in (more (rose n p u.kids) no_roses)) e g) u.exprs_are (subst (λ (f : Trees IR). Rewrites expr_shape x y (roots_in f) e u.become.exprs) u.nodes_are u.become.under);
    } in
    let whole = become_then a b c x y z (n ∷ []) t e first d.over in
    let walked : Walked ks (more (rose tt (op_at y p) (bare (plans_of z d.all.become.nodes))) no_roses) (more (plan_of x t) no_roses) (both v w) = walked_node ks (op_at y p) (plan_of x t) (bare (plans_of z d.all.become.nodes)) (bare (plans_of y u.kids)) v w u.reworks.refine.0.valid u.reworks u.quiet d.all.walked in
    record {
      becomes = record {
        nodes = more (rose n p d.all.become.nodes) no_roses;
        exprs = d.over.exprs;
        places = subst (λ (f : Trees IR). Rewrites plan_shape a c (n ∷ []) t f) d.nodes_are whole.places;
        under = subst (λ (f : Trees IR). Rewrites expr_shape x z (roots_in f) e d.over.exprs) d.nodes_are whole.under;
      };
      walked = subst (λ (o : Op). Walked ks (more (rose tt o (bare (plans_of z d.all.become.nodes))) no_roses) (more (plan_of x t) no_roses) (both v w)) (sym d.kept) walked;
    }

-- and what a walk of the plan without marks leaves
pub walked_told : (ks : List RuleKind) (own : Bool) (a b c : List IR) (x y z : List AExpr) (n : Node) (p : IR) (t : Trees IR) (e : Trees AExpr) (v w : Done) → Under ks a b x y n p t e v → Left ks own b c y z (inputs_of p) [] w → own ≡ true → UntilAll ks (unmarked (plan_at a x n)) (unmarked (plan_at b y n)) → Walks ks (unmarked (plan_at a x n)) (unmarked (plan_at c z n))
walked_told ks own a b c x y z n p t e v w u l o until =
    let d = ended ks own a b c x y z n p t e v w u l in
    let was : plan_at b y n ≡ rose tt (op_at y p) (bare (plans_of y u.kids)) = plan_at_is b y n (more (rose n p u.kids) no_roses) u.whole in
    let there : StandsOnce plan_shape c (n ∷ []) (more (rose n p d.all.become.nodes) no_roses) = subst (λ (f : Trees IR). StandsOnce plan_shape c (n ∷ []) f) d.nodes_are d.over.places.stands in
    let now : plan_at c z n ≡ rose tt (op_at y p) (bare (plans_of z d.all.become.nodes)) =
    plan_at_is c z n (more (rose n p d.all.become.nodes) no_roses) there
    ∙ ap (λ (q : Op). rose tt q (bare (plans_of z d.all.become.nodes))) d.kept in
    let top : UntilAll ks (unmarked (plan_at a x n)) (rose tt (unmarked_op (op_at y p)) (unmarked_all (bare (plans_of y u.kids)))) = subst (λ (q : Plan). UntilAll ks (unmarked (plan_at a x n)) (unmarked q)) was until in
    subst (λ (q : Plan). Walks ks (unmarked (plan_at a x n)) (unmarked q)) (sym now) (walks top (d.all.told o))

pub left_at : (ks : List RuleKind) (own : Bool) (b c : List IR) (y z : List AExpr) (ns ms left : List Node) (w : Done) → ns ≡ ms → Left ks own b c y z ns left w → Left ks own b c y z ms left w
left_at ks own b c y z ns ms left w e l = subst (λ (l : List Node). Left ks own b c y z l left w) e l

-- what was counted at the node and below it is no more than its weight
pub end_fits : (ks ls : List RuleKind) (own : Bool) (a b c : List IR) (x y z : List AExpr) (n : Node) (p : IR) (left : List Node) (t : Trees IR) (e : Trees AExpr) (v w : Done) → Under ks a b x y n p t e v → Left ls own b c y z (inputs_of p) left w → v.replaced + w.replaced < weight (plan_at a x n)
end_fits ks ls own a b c x y z n p left t e v w u l =
    let k = left_fits ls own b c y z (inputs_of p) left w u.kids u.below l u.inputs u.valid in
    let less = u.lighter in
    omega (arith, k, less)

pub no_inputs : {ks : List RuleKind} {own : Bool} {b c : List IR} {y z : List AExpr} {ns : List Node} {w : Done} (left : List Node) → left ≡ [] → Left ks own b c y z ns left w → Left ks own b c y z ns [] w
no_inputs {ks} {own} {b} {c} {y} {z} {ns} {w} left e l = subst (λ (o : List Node). Left ks own b c y z ns o w) e l

below_top : (w most v top : ℕ) → w ≤ most → v + most < top → w < top
below_top w most v top a b = omega (arith, a, b)

-- what the next call asks, whose plan weighs less than the node's did
pub record AsksBelow (c : List IR) (z : List AExpr) (i : Node) (top : ℕ) : Type 0 where
  pub plan : IsPlan c z i
  pub valid : IsValid (plan_at c z i)
  pub less : weight (plan_at c z i) < top

pub inputs_ask : (ks ls : List RuleKind) (own : Bool) (a b c : List IR) (x y z : List AExpr) (n : Node) (p : IR) (t : Trees IR) (e : Trees AExpr) (v w : Done) (ns old left : List Node) (i : Node) → StandsPlan a x n t e → AtTop ks a b x y n t e v → slice_get b n.0 ≡ Some p → ns ≡ inputs_of p → old ≡ left ++ i ∷ [] → Left ls own b c y z ns old w → AsksBelow c z i (weight (plan_at a x n))
inputs_ask ks ls own a b c x y z n p t e v w ns old left i h top at are eq l =
    let u = under_of ks a b x y n p t e v h top at in
    let k = left_asks ls own b c y z (inputs_of p) old left i w u.kids u.below eq (left_at ls own b c y z ns (inputs_of p) old w are l) u.inputs u.valid in
    record { plan = k.plan; valid = k.valid; less = below_top (weight (plan_at c z i)) (weight_in (bare (plans_of y u.kids))) v.replaced (weight (plan_at a x n)) k.weighs u.lighter }

pub falls_to : (w top t : ℕ) → w < top → top ≡ t → w < t
falls_to w top t a b = omega (arith, a, b)

pub fits_below : (w top : ℕ) → w < top → top < 2 ^ 64 → w < 2 ^ 64
fits_below w top a b = omega (arith, a, b)
