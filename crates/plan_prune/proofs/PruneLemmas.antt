-- What pruning does at each kind of node.
use Rattle.std.proofs.Common.{◌≡◌, ℕ, ◌<◌, ◌≤◌, Bool, true, false, List, [], ◌∷◌, ◌++◌, length, Some, refl, sym, ap, ap₂, ◌∙◌, inl, inr, ◌⊎◌, arith, length-set, subst, append-nil}
use Rattle.std.specs.List.{slice_get, slice_set}
use Rattle.std.proofs.lemmas.Option.{slice_get_within}
use Rattle.plan_core.specs.declared.arena.Node.{Node}
use Rattle.plan_core.specs.Columns.{Columns}
use Rattle.plan_tree.specs.Rose.{Roses, rose, no_roses, more}
use Rattle.plan_tree.specs.Stands.{Trees, Reaches, Stands, StandsOnce, Keeps, Rewrites}
use Rattle.plan_tree.proofs.TreeLemmas.{opened, nth, height_at, Stands-nth, Stands-unique}
use Rattle.plan_tree.proofs.Numbers.{Reaches-within}
use Rattle.plan_tree.proofs.ReadLemmas.{trees_at-is}
use Rattle.plan_tree.proofs.Frames.{Rewrites-refl, Rewrites-back, Rewrites-above, StandsOnce-set, StandsOnce-first, StandsOnce-taken, Stands-kept, descend, Keeps-trans, Keeps-set, Keeps-append, slice_get-append, slice_get-append_last}
use Rattle.plan_expr.specs.declared.aexpr.AExpr.{AExpr}
use Rattle.plan_ir.specs.declared.ir.IR.{IR}
use Rattle.plan_ir.specs.declared.ir.IR.TheVariants as nodes
use Rattle.plan_ir.specs.Parts.{plan_shape, inputs_of, is_invalid, roots_of, roots_in, IsPlan}
use Rattle.plan_ir.specs.Plans.{Op, op_at, plans_of, plans_at, bare}
use Rattle.plan_ir.proofs.PlanLemmas.{plan_down}
use Rattle.plan_expr.specs.Leaves.{Name}
use Rattle.plan_meaning.specs.Counting.{is_closed}
use Rattle.plan_schema.specs.Stored.{stored_all}
use Rattle.plan_pruned.specs.Pruned.{asks_plans, left_below, rebuilt, top_below, pruned_all}
use Rattle.plan_meaning.specs.PlanAt.{one_plan}
use Rattle.plan_pruned.specs.Renamed.{IsLonger}
use Rattle.plan_prune_parts.specs.Places.{StandExprs, TakePlace}
use Rattle.plan_prune.specs.Prunes.{Prunes, PrunesAt}
use Rattle.plan_prune_parts.specs.Tops.{with_top}
use Rattle.plan_prune_parts.proofs.LongerLemmas.{op_longer, own_exprs}
use Rattle.plan_prune_parts.proofs.PlaceLemmas.{place_alone, place_equal, place_both, place_before, place_trans, place_without}

-- what a call on the input of a node asks, once the node is taken
pub record Asks (a b : List IR) (ex : List AExpr) (n i : Node) : Type 0 where
  pub falls : height_at plan_shape b i < height_at plan_shape a n
  pub plan : IsPlan b ex i

pub input_asks : (a b : List IR) (ex : List AExpr) (n i : Node) (p d : IR) (j : ℕ) → IsPlan a ex n → slice_get a n.0 ≡ Some p → b ≡ slice_set a n.0 d → slice_get (inputs_of p) j ≡ Some i → Asks a b ex n i
input_asks a b ex n i p d j h e taken k =
    let down = plan_down a ex n p h e j i k in
    let plan = down.1 in
    let o = opened plan_shape a n p h.nodes h.stands.nodes e in
    let s = StandsOnce-first plan_shape a b n i p d h.nodes j o taken k in
    let same : plan.nodes ≡ nth plan_shape o.kids j = Stands-unique plan_shape a (i ∷ []) plan.nodes (nth plan_shape o.kids j) plan.stands.nodes.stands (Stands-nth plan_shape a (inputs_of p) o.kids j i o.inputs.stands k) in
    record {
      falls = descend plan_shape a b n i p h.nodes j h.stands.nodes o s;
      plan = record {
        nodes = plan.nodes;
        exprs = plan.exprs;
        stands = record { nodes = subst (λ (t : Trees IR). StandsOnce plan_shape b (i ∷ []) t) (sym same) s; exprs = plan.stands.exprs };
      };
    }

-- the node's entry is still there after calls that only append
pub entry_stays : (a b c : List IR) (n : Node) (p d : IR) → slice_get a n.0 ≡ Some p → b ≡ slice_set a n.0 d → length b ≤ length c → n.0 < length c
entry_stays a b c n p d e taken grows =
    let small : n.0 < length a = slice_get_within a n.0 p e in
    let long : length b ≡ length a = rw taken (length-set a n.0 d) in
    omega arith

-- equal names, each alone in a list
pub one_list : {x y : List Name} → x ≡ y → x ∷ [] ≡ y ∷ []
one_list e = ap (λ (l : List Name). l ∷ []) e

-- what is left below a node that isn't closed is what is pruned
pub left_open : (op : Op) (kids others : Roses (Unit {0}) Op) → is_closed op ≡ false → others ≡ left_below (is_closed op) kids others
left_open op kids others opens = ap (λ (b : Bool). left_below b kids others) (sym opens)

-- from the input of a node to the node, which goes back over the same input
pub finish : (top low : Bool) (asked names : List Name) (a b c : List IR) (ex grown : List AExpr) (n i : Node) (p q d : IR) (t : Trees IR) → IsLonger ex grown → StandsOnce plan_shape a (n ∷ []) t → StandExprs ex (roots_in t) → slice_get a n.0 ≡ Some p → b ≡ slice_set a n.0 d → inputs_of p ≡ i ∷ [] → inputs_of q ≡ inputs_of p → is_invalid q ≡ false → TakePlace ex ex (roots_of q) (roots_of p) → is_closed (op_at ex p) ≡ false → low ≡ top_below top (op_at ex p) → names ∷ [] ≡ asks_plans asked (op_at ex p) (bare (plans_at b ex (i ∷ []))) → rose tt (op_at ex q) (bare (plans_at c grown (i ∷ []))) ≡ rebuilt top asked (op_at ex p) (stored_all (bare (plans_at b ex (i ∷ [])))) (bare (plans_at c grown (i ∷ []))) → PrunesAt low names b c ex grown i → Prunes top asked a (slice_set c n.0 q) ex grown n t
finish top low asked names a b c ex grown n i p q d t longer h s e taken one same valid roots opens low_is asks_is built below =
    let o = opened plan_shape a n p t h e in
    let under : StandsOnce plan_shape b (inputs_of p) o.kids = rw taken (StandsOnce-set plan_shape a (inputs_of p) o.kids n.0 d o.inputs o.above) in
    let at_input : StandsOnce plan_shape b (i ∷ []) o.kids = subst (λ (ns : List Node). StandsOnce plan_shape b ns o.kids) one under in
    let x = below o.kids at_input in
    let inside : Rewrites plan_shape b c (inputs_of p) o.kids x.trees = subst (λ (ns : List Node). Rewrites plan_shape b c ns o.kids x.trees) (sym one) x.rewrites in
    let kids : Roses (Unit {0}) Op = bare (plans_of ex o.kids) in
    let said : List Columns = stored_all (bare (plans_at b ex (i ∷ []))) in
    let before : bare (plans_at b ex (i ∷ [])) ≡ kids = ap (λ (u : Trees IR). bare (plans_of ex u)) (trees_at-is plan_shape b (i ∷ []) o.kids at_input) in
    let after : bare (plans_at c grown (i ∷ [])) ≡ bare (plans_of grown x.trees) = ap (λ (u : Trees IR). bare (plans_of grown u)) (trees_at-is plan_shape c (i ∷ []) x.trees x.rewrites.stands) in
    let own : StandExprs ex (roots_of p) = own_exprs ex p o.kids no_roses (rw o.is at s) in
    let same_op : op_at grown q ≡ op_at ex q = op_longer ex grown longer q (place_alone ex ex (roots_of q) (roots_of p) roots own) in
    rw o.is (record {
      trees = more (rose n q x.trees) no_roses;
      rewrites = Rewrites-back plan_shape a b c n p q d o.kids x.trees (rw o.is at h) taken inside same valid;
      exprs = place_both ex ex grown (roots_of q) (roots_of p) (roots_in x.trees ++ []) (roots_in o.kids ++ []) roots (place_before ex grown [] (roots_in x.trees) (roots_in o.kids) x.exprs);
      pruned =
          ap (λ (o : Op). more (rose tt o (bare (plans_of grown x.trees))) no_roses) same_op
          ∙ ap (λ r. more r no_roses) (subst (λ (f : Roses (Unit {0}) Op). rose tt (op_at ex q) f ≡ rebuilt top asked (op_at ex p) said f) after built)
          ∙ ap (λ (f : Roses (Unit {0}) Op). more (rebuilt top asked (op_at ex p) said f) no_roses) x.pruned
          ∙ ap₂ (λ (w : Bool) (l : List (List Name)). more (rebuilt top asked (op_at ex p) said (pruned_all w l kids)) no_roses) low_is asks_is
          ∙ ap (λ (f : Roses (Unit {0}) Op). more (rebuilt top asked (op_at ex p) (stored_all f) (pruned_all (top_below top (op_at ex p)) (asks_plans asked (op_at ex p) f) kids)) no_roses) before
          ∙ ap (λ (f : Roses (Unit {0}) Op). more (rebuilt top asked (op_at ex p) (stored_all kids) f) no_roses) (left_open (op_at ex p) kids (pruned_all (top_below top (op_at ex p)) (asks_plans asked (op_at ex p) kids) kids) opens);
    })

-- from the input of a node to the node, where what stands at the input's number takes its place
pub moves_up : (top low : Bool) (asked names : List Name) (a b c : List IR) (ex grown : List AExpr) (n i : Node) (p q d m : IR) (t : Trees IR) → StandsOnce plan_shape a (n ∷ []) t → slice_get a n.0 ≡ Some p → b ≡ slice_set a n.0 d → inputs_of p ≡ i ∷ [] → slice_get c i.0 ≡ Some q → is_closed (op_at ex p) ≡ false → low ≡ top_below top (op_at ex p) → names ∷ [] ≡ asks_plans asked (op_at ex p) (bare (plans_at b ex (i ∷ []))) → ((ss : List Columns) (f : Roses (Unit {0}) Op) → one_plan f ≡ rebuilt top asked (op_at ex p) ss f) → PrunesAt low names b c ex grown i → Prunes top asked a (slice_set (slice_set c i.0 m) n.0 q) ex grown n t
moves_up top low asked names a b c ex grown n i p q d m t h e taken one entry opens low_is asks_is built below =
    let o = opened plan_shape a n p t h e in
    let under : StandsOnce plan_shape b (inputs_of p) o.kids = rw taken (StandsOnce-set plan_shape a (inputs_of p) o.kids n.0 d o.inputs o.above) in
    let at_input : StandsOnce plan_shape b (i ∷ []) o.kids = subst (λ (ns : List Node). StandsOnce plan_shape b ns o.kids) one under in
    let x = below o.kids at_input in
    let y = opened plan_shape c i q x.trees x.rewrites.stands entry in
    let kids : Roses (Unit {0}) Op = bare (plans_of ex o.kids) in
    let said : List Columns = stored_all (bare (plans_at b ex (i ∷ []))) in
    let before : bare (plans_at b ex (i ∷ [])) ≡ kids = ap (λ (u : Trees IR). bare (plans_of ex u)) (trees_at-is plan_shape b (i ∷ []) o.kids at_input) in
    let whole : Trees IR = more (rose n p o.kids) no_roses in
    let long : length b ≡ length a = rw taken (length-set a n.0 d) in
    let reached : (k : ℕ) → Reaches (more (rose i q y.kids) no_roses) k → Reaches o.kids k ⊎ (length a ≤ k) = λ k r.
    elim (x.rewrites.within k (subst (λ (u : Trees IR). Reaches u k) (sym y.is) r)) as (λ _. Reaches o.kids k ⊎ (length a ≤ k)) [ inl u ↦ inl u | inr v ↦ inr (omega (arith, long)) ] in
    let up : Keeps a c whole = Keeps-trans plan_shape a b c whole o.kids (rw taken (Keeps-set plan_shape a n.0 d whole (inl refl))) x.rewrites.keeps (λ k r. inl (inr (inl r))) in
    let keeps : Keeps a (slice_set c i.0 m) whole = Keeps-trans plan_shape a c (slice_set c i.0 m) whole (more (rose i q y.kids) no_roses) up (Keeps-set plan_shape c i.0 m (more (rose i q y.kids) no_roses) (inl refl)) (λ k r. elim (reached k r) as (λ _. Reaches whole k ⊎ (length a ≤ k)) [ inl u ↦ inl (inr (inl u)) | inr v ↦ inr v ]) in
    let there : TakePlace ex grown (roots_of q ++ (roots_in y.kids ++ [])) (roots_in o.kids) = subst (λ (u : Trees IR). TakePlace ex grown (roots_in u) (roots_in o.kids)) y.is x.exprs in
    rw o.is (record {
      trees = more (rose n q y.kids) no_roses;
      rewrites = Rewrites-above plan_shape a (slice_set c i.0 m) n p q o.kids y.kids (rw o.is at h) keeps (StandsOnce-set plan_shape c (inputs_of q) y.kids i.0 m y.inputs y.above) (λ k r. reached k (inr (inl r))) y.valid;
      exprs = place_both ex ex grown [] (roots_of p) (roots_of q ++ (roots_in y.kids ++ [])) (roots_in o.kids ++ []) (place_without ex (roots_of p))
          (place_trans ex ex grown (roots_of q ++ (roots_in y.kids ++ [])) (roots_in o.kids) (roots_in o.kids ++ []) there (place_equal ex (roots_in o.kids) (roots_in o.kids ++ []) (sym (append-nil (roots_in o.kids)))));
      pruned =
          ap (λ (u : Trees IR). more (one_plan (bare (plans_of grown u))) no_roses) (sym y.is)
          ∙ ap (λ r. more r no_roses) (built said (bare (plans_of grown x.trees)))
          ∙ ap (λ (f : Roses (Unit {0}) Op). more (rebuilt top asked (op_at ex p) said f) no_roses) x.pruned
          ∙ ap₂ (λ (w : Bool) (l : List (List Name)). more (rebuilt top asked (op_at ex p) said (pruned_all w l kids)) no_roses) low_is asks_is
          ∙ ap (λ (f : Roses (Unit {0}) Op). more (rebuilt top asked (op_at ex p) (stored_all f) (pruned_all (top_below top (op_at ex p)) (asks_plans asked (op_at ex p) f) kids)) no_roses) before
          ∙ ap (λ (f : Roses (Unit {0}) Op). more (rebuilt top asked (op_at ex p) (stored_all kids) f) no_roses) (left_open (op_at ex p) kids (pruned_all (top_below top (op_at ex p)) (asks_plans asked (op_at ex p) kids) kids) opens);
    })

-- what stands at the inputs of a node, once the node is taken, and at its input once that is pruned
pub inputs_taken : (a b : List IR) (n : Node) (p d : IR) (t : Trees IR) → StandsOnce plan_shape a (n ∷ []) t → slice_get a n.0 ≡ Some p → b ≡ slice_set a n.0 d → (u : Trees IR) × StandsOnce plan_shape b (inputs_of p) u
inputs_taken a b n p d t h e taken =
    let o = opened plan_shape a n p t h e in
    (o.kids, rw taken (StandsOnce-set plan_shape a (inputs_of p) o.kids n.0 d o.inputs o.above))

pub stands_taken : (a b : List IR) (n i : Node) (p d : IR) (t : Trees IR) → StandsOnce plan_shape a (n ∷ []) t → slice_get a n.0 ≡ Some p → b ≡ slice_set a n.0 d → inputs_of p ≡ i ∷ [] → (u : Trees IR) × StandsOnce plan_shape b (i ∷ []) u
stands_taken a b n i p d t h e taken one =
    let s = inputs_taken a b n p d t h e taken in
    (s.0, subst (λ (ns : List Node). StandsOnce plan_shape b ns s.0) one s.1)

pub stands_after : (top : Bool) (names : List Name) (b c : List IR) (ex grown : List AExpr) (i : Node) → ((t : Trees IR) × StandsOnce plan_shape b (i ∷ []) t) → PrunesAt top names b c ex grown i → (t : Trees IR) × StandsOnce plan_shape c (i ∷ []) t
stands_after top names b c ex grown i s below = let x = below s.0 s.1 in (x.trees, x.rewrites.stands)

-- a number over which trees stand has an entry
pub is_entry : (lp : List IR) (i : Node) → ((t : Trees IR) × StandsOnce plan_shape lp (i ∷ []) t) → i.0 < length lp
is_entry lp i s = go s.0 s.1
  where
    go : (t : Trees IR) → StandsOnce plan_shape lp (i ∷ []) t → i.0 < length lp
    go no_roses h = absurd h.stands
    go (more (rose m p kids) rest) h = slice_get_within lp i.0 p h.stands.1

-- nothing stands over no numbers
no_trees : (lp : List IR) (f : Trees IR) → Stands plan_shape lp [] f → f ≡ no_roses
no_trees lp no_roses h = refl
no_trees lp (more (rose n p kids) rest) h = absurd h

-- a node under a projection that takes its number
abbrev pub under : Node → Node → Columns → IR → Trees IR → Trees IR
under n m cs q kids = more (rose n (nodes.SimpleProjection m cs) (more (rose m q kids) no_roses)) no_roses

-- a node that was taken goes to a new number, over what was below it, and a node on top takes its number
pub goes_beneath : (a b : List IR) (n : Node) (p q d above : IR) (kids : Trees IR) → StandsOnce plan_shape a (n ∷ []) (more (rose n p kids) no_roses) → b ≡ slice_set a n.0 d → inputs_of q ≡ inputs_of p → is_invalid q ≡ false → inputs_of above ≡ record { 0 = length b } ∷ [] → is_invalid above ≡ false → Rewrites plan_shape a (slice_set (b ++ q ∷ []) n.0 above) (n ∷ []) (more (rose n p kids) no_roses) (more (rose n above (more (rose (record { 0 = length b }) q kids) no_roses)) no_roses)
goes_beneath a b n p q d above kids h taken same valid one good =
    let m : Node = record { 0 = length b } in
    let c : List IR = b ++ q ∷ [] in
    let whole : Trees IR = more (rose n p kids) no_roses in
    let below : Trees IR = more (rose m q kids) no_roses in
    let long : length b ≡ length a = rw taken (length-set a n.0 d) in
    let s : StandsOnce plan_shape b (inputs_of p) kids = rw taken (StandsOnce-taken plan_shape a n p d kids h) in
    let low : (k : ℕ) → Reaches kids k → k < length b = λ k r. Reaches-within plan_shape b (inputs_of p) kids k s.stands r in
    let inside : Stands plan_shape c (inputs_of q) kids = rw same (Stands-kept plan_shape b c (inputs_of p) kids s.stands (λ k r. slice_get-append plan_shape b (q ∷ []) k (low k r))) in
    let stands : StandsOnce plan_shape c (m ∷ []) below = record {
      stands = (refl, slice_get-append_last plan_shape b q, valid, inside, tt);
      once = ((λ r. absurd (let w = low (length b) r in omega arith)), (λ r. r), (λ k u v. v), s.once, tt);
    } in
    let keeps : Keeps a c whole = Keeps-trans plan_shape a b c whole whole (rw taken (Keeps-set plan_shape a n.0 d whole (inl refl))) (Keeps-append plan_shape b q whole) (λ k r. inl r) in
    let new : (k : ℕ) → Reaches below k → Reaches kids k ⊎ (length a ≤ k) = λ k r. elim r as (λ _. Reaches kids k ⊎ (length a ≤ k)) [
      | inl u ↦ inr (omega arith)
      | inr v ↦ elim v as (λ _. Reaches kids k ⊎ (length a ≤ k)) [ inl w ↦ inl w | inr w ↦ absurd w ]
    ] in
    Rewrites-above plan_shape a c n p above kids below h keeps (subst (λ (ns : List Node). StandsOnce plan_shape c ns below) (sym one) stands) new good

-- so it does under a projection
pub goes_under : (a b : List IR) (n : Node) (p q d : IR) (kids : Trees IR) (cs : Columns) → StandsOnce plan_shape a (n ∷ []) (more (rose n p kids) no_roses) → b ≡ slice_set a n.0 d → inputs_of q ≡ inputs_of p → is_invalid q ≡ false → Rewrites plan_shape a (with_top cs b n q) (n ∷ []) (more (rose n p kids) no_roses) (under n (record { 0 = length b }) cs q kids)
goes_under a b n p q d kids cs h taken same valid = goes_beneath a b n p q d (nodes.SimpleProjection (record { 0 = length b }) cs) kids h taken same valid refl refl

-- a node without inputs at a number
module _ (a b : List IR) (ex : List AExpr) (n : Node) (p d : IR) (t : Trees IR) (h : StandsOnce plan_shape a (n ∷ []) t) (leaf : inputs_of p ≡ []) (e : slice_get a n.0 ≡ Some p) (taken : b ≡ slice_set a n.0 d) where
  -- its tree has nothing below
  pub alone : t ≡ more (rose n p no_roses) no_roses
  alone =
      let o = opened plan_shape a n p t h e in
      o.is ∙ ap (λ (kids : Trees IR). more (rose n p kids) no_roses) (no_trees a o.kids (subst (λ (ns : List Node). Stands plan_shape a ns o.kids) leaf o.inputs.stands))

  -- another node without inputs goes back to the number
  pub stays : (top : Bool) (asked : List Name) (q : IR) → is_closed (op_at ex p) ≡ false → inputs_of q ≡ [] → is_invalid q ≡ false → roots_of q ≡ roots_of p → rose tt (op_at ex q) no_roses ≡ rebuilt top asked (op_at ex p) [] no_roses → Prunes top asked a (slice_set b n.0 q) ex ex n t
  stays top asked q opens none valid roots is =
      let under : StandsOnce plan_shape b [] no_roses = record { stands = tt; once = tt } in
      rw alone (record {
        trees = more (rose n q no_roses) no_roses;
        rewrites = Rewrites-back plan_shape a b b n p q d no_roses no_roses (rw alone at h) taken (subst (λ (ns : List Node). Rewrites plan_shape b b ns no_roses no_roses) (sym leaf) (Rewrites-refl plan_shape b [] no_roses under)) (none ∙ sym leaf) valid;
        exprs = place_equal ex (roots_of q ++ []) (roots_of p ++ []) (ap (λ (l : List Node). l ++ []) roots);
        pruned = ap (λ r. more r no_roses) (is ∙ ap (rebuilt top asked (op_at ex p) []) (left_open (op_at ex p) no_roses no_roses opens));
      })

  -- it goes to a new number, and a projection on top takes its number
  pub goes_below : (asked : List Name) (q : IR) (cs : Columns) → is_closed (op_at ex p) ≡ false → inputs_of q ≡ [] → is_invalid q ≡ false → roots_of q ≡ roots_of p → rose tt (op_at ex (nodes.SimpleProjection n cs)) (more (rose tt (op_at ex q) no_roses) no_roses) ≡ rebuilt true asked (op_at ex p) [] no_roses → Prunes true asked a (with_top cs b n q) ex ex n t
  goes_below asked q cs opens none valid roots is =
      rw alone (record {
        trees = under n (record { 0 = length b }) cs q no_roses;
        rewrites = goes_under a b n p q d no_roses cs (rw alone at h) taken (none ∙ sym leaf) valid;
        exprs = place_equal ex ((roots_of q ++ []) ++ []) (roots_of p ++ []) (append-nil (roots_of q ++ []) ∙ ap (λ (l : List Node). l ++ []) roots);
        pruned = ap (λ r. more r no_roses) (is ∙ ap (rebuilt true asked (op_at ex p) []) (left_open (op_at ex p) no_roses no_roses opens));
      })

-- what a pruned plan is
module _ (top : Bool) (asked : List Name) (a c : List IR) (ex grown : List AExpr) (n : Node) (h : IsPlan a ex n) (x : Prunes top asked a c ex grown n h.nodes) where
  pub pruned_is : bare (plans_at c grown (n ∷ [])) ≡ pruned_all top (asked ∷ []) (bare (plans_at a ex (n ∷ [])))
  pruned_is =
      ap (λ (t : Trees IR). bare (plans_of grown t)) (trees_at-is plan_shape c (n ∷ []) x.trees x.rewrites.stands)
      ∙ x.pruned
      ∙ ap (λ (t : Trees IR). pruned_all top (asked ∷ []) (bare (plans_of ex t))) (sym (trees_at-is plan_shape a (n ∷ []) h.nodes h.stands.nodes))

  pub pruned_stands : IsPlan c grown n
  pruned_stands =
      let e : StandExprs grown (roots_in x.trees) = place_alone ex grown (roots_in x.trees) (roots_in h.nodes) x.exprs (h.exprs, h.stands.exprs) in
      record {
        nodes = x.trees;
        exprs = e.0;
        stands = record { nodes = x.rewrites.stands; exprs = e.1 };
      }
