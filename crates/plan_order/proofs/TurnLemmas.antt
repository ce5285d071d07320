-- A turn of the pass: trees stand at the stacked numbers, and once they are what is made of them, so is the whole.
use Rattle.std.proofs.Common.{◌≡◌, ℕ, ◌+◌, ◌<◌, ◌≤◌, Bool, true, false, not, ◌||◌, List, [], ◌∷◌, ◌++◌, length, refl, sym, ap, ◌∙◌, inl, inr, arith, Some, length-set, subst}
use Rattle.std.specs.List.{slice_get, slice_set}
use Rattle.std.proofs.lemmas.Option.{slice_get_within}
use Rattle.plan_core.specs.declared.arena.Node.{Node}
use Rattle.plan_tree.specs.Rose.{Rose, rose, no_roses, more, join, size}
use Rattle.plan_tree.specs.Stands.{Trees, Reaches, Apart, Stands, StandsOnce, Keeps}
use Rattle.plan_tree.specs.Read.{trees_at}
use Rattle.plan_tree.proofs.Frames.{Reaches-join, join-left, join-right, StandsOnce-set, Keeps-set, Keeps-trans, slice_get-set_same}
use Rattle.plan_tree.proofs.JoinLemmas.{size-join}
use Rattle.plan_tree.proofs.Numbers.{size-le}
use Rattle.plan_tree.proofs.ReadLemmas.{trees_at-is}
use Rattle.plan_tree.proofs.SplitLemmas.{StandsOnce-split, StandsOnce-join, IsOnce-split}
use Rattle.plan_tree.proofs.TreeLemmas.{opened}
use Rattle.plan_expr.specs.declared.aexpr.AExpr.{AExpr}
use Rattle.plan_expr.specs.Operands.{expr_shape}
use Rattle.plan_ir.specs.declared.ir.IR.{IR}
use Rattle.plan_ir.specs.Parts.{inputs_of, plan_shape, roots_of}
use Rattle.plan_ir.specs.Plans.{op_at}
use Rattle.plan_order_laws.specs.Demands.{demands, is_idle}
use Rattle.plan_order.specs.DemandTurns.{told_node}
use Rattle.plan_order.proofs.OrderTrees.{some_trees, orders, orders_in, count-orders, count-stands, Stands-unjoin, orders-join, orders-over, orders-idle, orders-told, orders-part, told-inputs, told-valid}

-- expressions stand over those of each node of trees
abbrev pub Known : List AExpr → Trees IR → Type 0
Known ex no_roses = Unit {0}
Known ex (more (rose n p kids) rest) = ((e : Trees AExpr) × StandsOnce expr_shape ex (roots_of p) e) × Known ex kids × Known ex rest

known-left : (ex : List AExpr) (f g : Trees IR) → Known ex (join f g) → Known ex f
known-left ex no_roses g h = tt
known-left ex (more (rose n p kids) rest) g h = (h.0, h.1, known-left ex rest g h.2)

known-right : (ex : List AExpr) (f g : Trees IR) → Known ex (join f g) → Known ex g
known-right ex no_roses g h = h
known-right ex (more (rose n p kids) rest) g h = known-right ex rest g h.2

known-join : (ex : List AExpr) (f g : Trees IR) → Known ex f → Known ex g → Known ex (join f g)
known-join ex no_roses g a b = b
known-join ex (more (rose n p kids) rest) g a b = (a.0, a.1, known-join ex rest g a.2 b)

-- a tree t at a root became, in an arena, what is made of it
pub record Ordered (old new : List IR) (ex : List AExpr) (root : Node) (t : Trees IR) : Type 0 where
  pub stands : StandsOnce plan_shape new (root ∷ []) (orders_in ex true t)
  pub keeps : Keeps old new t

-- the pass at a turn: trees stand at the stacked numbers, and wherever an arena has in their places what is made of them, with the demand for the last, the whole is made
pub record Going (old : List IR) (ex : List AExpr) (root : Node) (t : Trees IR) (now : List IR) (stack : List Node) (d : Bool) : Type 0 where
  pub trees : Trees IR
  pub stands : StandsOnce plan_shape now stack trees
  pub known : Known ex trees
  pub ends : (c : List IR) → Keeps now c trees → StandsOnce plan_shape c stack (orders_in ex d trees) → Ordered old c ex root t
  pub small : size trees ≤ size t

-- the measure: how many nodes stand at and below the stacked numbers
unfoldable pub left : List IR → List Node → ℕ
left now stack = size (trees_at plan_shape now stack)

pub going-init : (old : List IR) (ex : List AExpr) (root : Node) (t : Trees IR) → StandsOnce plan_shape old (root ∷ []) t → Known ex t → Going old ex root t old (root ∷ []) true
going-init old ex root t h e = record {
  trees = t;
  stands = h;
  known = e;
  ends = λ c keeps stands. record { stands = stands; keeps = keeps };
  small = omega arith;
}

-- where no number is stacked, the whole is made
pub going-end : (old : List IR) (ex : List AExpr) (root : Node) (t : Trees IR) (now : List IR) (d : Bool) → Going old ex root t now [] d → Ordered old now ex root t
going-end old ex root t now d g = go g.trees g.stands g.ends
  where
    go : (f : Trees IR) → StandsOnce plan_shape now [] f → ((c : List IR) → Keeps now c f → StandsOnce plan_shape c [] (orders_in ex d f) → Ordered old c ex root t) → Ordered old now ex root t
    go no_roses h ends = ends now (record { grows = omega arith; same = λ k a b. refl }) h
    go (more (rose m p kids) rest) h ends = absurd h.stands

-- the number on top, and the rest
pub record Top (ex : List AExpr) (now : List IR) (ns : List Node) (n : Node) (p : IR) (f : Trees IR) : Type 0 where
  pub before : Trees IR
  pub kids : Trees IR
  pub is : f ≡ join before (more (rose n p kids) no_roses)
  pub first : StandsOnce plan_shape now ns before
  pub inputs : StandsOnce plan_shape now (inputs_of p) kids
  pub valid : plan_shape.bad p ≡ false
  pub here : slice_get now n.0 ≡ Some p
  pub away : Reaches before n.0 → ⊥
  pub above : Reaches kids n.0 → ⊥
  pub apart : Apart before kids
  pub earlier : Known ex before
  pub own : (e : Trees AExpr) × StandsOnce expr_shape ex (roots_of p) e
  pub below : Known ex kids

pub top_of : (ex : List AExpr) (now : List IR) (ns : List Node) (n : Node) (p : IR) (f : Trees IR) → StandsOnce plan_shape now (ns ++ n ∷ []) f → Known ex f → slice_get now n.0 ≡ Some p → Top ex now ns n p f
top_of ex now ns n p f h known e =
    let s = StandsOnce-split plan_shape now ns (n ∷ []) f h in
    let o = opened plan_shape now n p s.right s.second e in
    let k : Known ex (join s.left (more (rose n p o.kids) no_roses)) = subst (λ (x : Trees IR). Known ex x) (s.is ∙ ap (join s.left) o.is) known in
    let own = known-right ex s.left (more (rose n p o.kids) no_roses) k in
    let far : Apart s.left (more (rose n p o.kids) no_roses) = subst (λ (x : Trees IR). Apart s.left x) o.is s.apart in
    record {
      before = s.left;
      kids = o.kids;
      is = s.is ∙ ap (join s.left) o.is;
      first = s.first;
      inputs = o.inputs;
      valid = o.valid;
      here = e;
      away = λ r. far n.0 r (inl refl);
      above = o.above;
      apart = λ j a b. far j a (inr (inl b));
      earlier = known-left ex s.left (more (rose n p o.kids) no_roses) k;
      own = own.0;
      below = own.1;
    }

-- one turn: what is left, and that it is less
pub record Turn (old : List IR) (ex : List AExpr) (root : Node) (t : Trees IR) (now next : List IR) (before after : List Node) (d : Bool) : Type 0 where
  pub going : Going old ex root t next after d
  pub falls : left next after < left now before

module _ (old : List IR) (ex : List AExpr) (root : Node) (t : Trees IR) (now : List IR) (ns : List Node) (n : Node) (p : IR) (d : Bool) where
  -- a node is told of order, and its inputs are stacked
  told_of : (f : Trees IR) → StandsOnce plan_shape now (ns ++ n ∷ []) f → ((c : List IR) → Keeps now c f → StandsOnce plan_shape c (ns ++ n ∷ []) (orders_in ex d f) → Ordered old c ex root t) → size f ≤ size t → Top ex now ns n p f → is_idle d (op_at ex p) ≡ false → (e : Bool) → ((kids : Trees IR) → StandsOnce plan_shape now (inputs_of p) kids → e ≡ (demands d (op_at ex p) || not (some_trees kids))) → Turn old ex root t now (slice_set now n.0 (told_node d p)) (ns ++ n ∷ []) (ns ++ inputs_of p) e
  unfolding left
  told_of f h ends low x busy e demand =
      let next = slice_set now n.0 (told_node d p) in
      let one = more (rose n p x.kids) no_roses in
      let both = join x.before x.kids in
      let within : n.0 < length now = slice_get_within now n.0 p x.here in
      let far : Reaches both n.0 → ⊥ = λ r. elim (Reaches-join plan_shape x.before x.kids n.0 r) as (λ _. ⊥) [ inl u ↦ x.away u | inr v ↦ x.above v ] in
      let was = StandsOnce-join plan_shape now ns (inputs_of p) x.before x.kids x.first x.inputs x.apart in
      let stand = StandsOnce-set plan_shape now (ns ++ inputs_of p) both n.0 (told_node d p) was far in
      let top : Reaches f n.0 = rw x.is (join-right plan_shape x.before one n.0 (inl refl)) in
      let part : (k : ℕ) → Reaches both k → Reaches f k = λ k r. rw x.is (elim (Reaches-join plan_shape x.before x.kids k r) as (λ _. Reaches (join x.before one) k) [ inl u ↦ join-left plan_shape x.before one k u | inr v ↦ join-right plan_shape x.before one k (inr (inl v)) ]) in
      let e_is = demand x.kids x.inputs in
      let A = orders_in ex true x.before in
      let B = orders_in ex (demands d (op_at ex p)) x.kids in
      let made : orders_in ex e both ≡ join A B = ap (λ (b : Bool). orders_in ex b both) e_is ∙ orders-over ex (demands d (op_at ex p)) x.before x.kids in
      let whole : orders_in ex d f ≡ join A (more (rose n (told_node d p) B) no_roses) =
      ap (orders_in ex d) x.is ∙ orders-join ex d x.before (rose n p x.kids) no_roses ∙ ap (λ (r : Rose Node IR). join A (more r no_roses)) (ap (λ (b : Bool). orders ex b (rose n p x.kids)) (or_false d) ∙ orders-told ex d n p x.kids busy) in
      record {
        going = record {
          trees = both;
          stands = stand;
          known = known-join ex x.before x.kids x.earlier x.below;
          ends = λ c keeps st.
              let st' : StandsOnce plan_shape c (ns ++ inputs_of p) (join A B) = rw (← made) st in
              let c_of = Stands-unjoin c ns (inputs_of p) A B (count-orders ex true x.before ∙ count-stands now ns x.before x.first.stands) st'.stands in
              let once = IsOnce-split plan_shape A B st'.once in
              let noA : Reaches A n.0 → ⊥ = λ r. x.away (orders-part ex true x.before n.0 r) in
              let noB : Reaches B n.0 → ⊥ = λ r. x.above (orders-part ex (demands d (op_at ex p)) x.kids n.0 r) in
              let there : slice_get c n.0 ≡ Some (told_node d p) = keeps.same n.0 (omega (arith, length-set now n.0 (told_node d p))) far ∙ slice_get-set_same plan_shape now n.0 (told_node d p) within in
              let node : StandsOnce plan_shape c (n ∷ []) (more (rose n (told_node d p) B) no_roses) = record {
                stands = (refl, there, told-valid d p ∙ x.valid, rw (told-inputs d p) c_of.1, tt);
                once = (noB, (λ r. r), (λ k u v. v), once.right, tt);
              } in
              let all = StandsOnce-join plan_shape c ns (n ∷ []) A (more (rose n (told_node d p) B) no_roses) (record { stands = c_of.0; once = once.left }) node
              (λ k a b. elim b as (λ _. ⊥) [ inl q ↦ noA (rw (← q) a) | inr w ↦ elim w as (λ _. ⊥) [ inl u ↦ once.apart k a u | inr v ↦ v ] ]) in
              ends c (Keeps-trans plan_shape now next c f both (Keeps-set plan_shape now n.0 (told_node d p) f top) keeps (λ k r. inl (part k r))) (rw whole all);
          small = let a : size f ≡ size (join x.before one) = ap size x.is in omega (arith, low, size-join x.before one, size-join x.before x.kids);
        };
        falls =
            let a : size f ≡ size (join x.before one) = ap size x.is in
            rw (trees_at-is plan_shape next (ns ++ inputs_of p) both stand, trees_at-is plan_shape now (ns ++ n ∷ []) f h) (omega (arith, size-join x.before one, size-join x.before x.kids));
      }
    where
      or_false : (b : Bool) → (b || false) ≡ b
      or_false true = refl
      or_false false = refl

  pub turn_told : Going old ex root t now (ns ++ n ∷ []) d → slice_get now n.0 ≡ Some p → is_idle d (op_at ex p) ≡ false → (e : Bool) → ((kids : Trees IR) → StandsOnce plan_shape now (inputs_of p) kids → e ≡ (demands d (op_at ex p) || not (some_trees kids))) → Turn old ex root t now (slice_set now n.0 (told_node d p)) (ns ++ n ∷ []) (ns ++ inputs_of p) e
  turn_told g here busy e demand = told_of g.trees g.stands g.ends g.small (top_of ex now ns n p g.trees g.stands g.known here) busy e demand

-- a sort whose order isn't demanded is left out: its input's node moves up to its number
module _ (old : List IR) (ex : List AExpr) (root : Node) (t : Trees IR) (now : List IR) (ns : List Node) (n i : Node) (p q v : IR) where
  -- the node below, with its inputs
  record Below (f : Trees IR) : Type 0 where
    before : Trees IR
    kids : Trees IR
    is : f ≡ join before (more (rose n p (more (rose i q kids) no_roses)) no_roses)
    first : StandsOnce plan_shape now ns before
    inputs : StandsOnce plan_shape now (inputs_of q) kids
    valid : plan_shape.bad q ≡ false
    away : Reaches before n.0 → ⊥
    away_below : Reaches before i.0 → ⊥
    above : Reaches kids n.0 → ⊥
    above_below : Reaches kids i.0 → ⊥
    apart : Apart before kids
    earlier : Known ex before
    own : (e : Trees AExpr) × StandsOnce expr_shape ex (roots_of q) e
    below : Known ex kids

  below_of : (f : Trees IR) → (x : Top ex now ns n p f) → inputs_of p ≡ i ∷ [] → slice_get now i.0 ≡ Some q → Below f
  below_of f x one e =
      let o = opened plan_shape now i q x.kids (subst (λ (l : List Node). StandsOnce plan_shape now l x.kids) one x.inputs) e in
      let no : Reaches (more (rose i q o.kids) no_roses) n.0 → ⊥ = subst (λ (k : Trees IR). Reaches k n.0 → ⊥) o.is x.above in
      let far : Apart x.before (more (rose i q o.kids) no_roses) = subst (λ (k : Trees IR). Apart x.before k) o.is x.apart in
      let known : Known ex (more (rose i q o.kids) no_roses) = subst (λ (k : Trees IR). Known ex k) o.is x.below in
      record {
        before = x.before;
        kids = o.kids;
        is = x.is ∙ ap (λ (k : Trees IR). join x.before (more (rose n p k) no_roses)) o.is;
        first = x.first;
        inputs = o.inputs;
        valid = o.valid;
        away = x.away;
        away_below = λ r. far i.0 r (inl refl);
        above = λ r. no (inr (inl r));
        above_below = o.above;
        apart = λ k a b. far k a (inr (inl b));
        earlier = x.earlier;
        own = known.0;
        below = known.1;
      }

  dropped_of : (f : Trees IR) → StandsOnce plan_shape now (ns ++ n ∷ []) f → ((c : List IR) → Keeps now c f → StandsOnce plan_shape c (ns ++ n ∷ []) (orders_in ex false f) → Ordered old c ex root t) → size f ≤ size t → slice_get now n.0 ≡ Some p → Below f → is_idle false (op_at ex p) ≡ true → demands false (op_at ex p) ≡ false → Turn old ex root t now (slice_set (slice_set now i.0 v) n.0 q) (ns ++ n ∷ []) (ns ++ n ∷ []) false
  unfolding left
  dropped_of f h ends low here x idle same =
      let mid = slice_set now i.0 v in
      let next = slice_set mid n.0 q in
      let was = more (rose n p (more (rose i q x.kids) no_roses)) no_roses in
      let one = more (rose n q x.kids) no_roses in
      let both = join x.before one in
      let within : n.0 < length now = slice_get_within now n.0 p here in
      let first = StandsOnce-set plan_shape mid ns x.before n.0 q (StandsOnce-set plan_shape now ns x.before i.0 v x.first x.away_below) x.away in
      let inputs = StandsOnce-set plan_shape mid (inputs_of q) x.kids n.0 q (StandsOnce-set plan_shape now (inputs_of q) x.kids i.0 v x.inputs x.above_below) x.above in
      let node : StandsOnce plan_shape next (n ∷ []) one = record {
        stands = (refl, slice_get-set_same plan_shape mid n.0 q (omega (arith, length-set now i.0 v)), x.valid, inputs.stands, tt);
        once = (x.above, (λ r. r), (λ k a b. b), inputs.once, tt);
      } in
      let stand = StandsOnce-join plan_shape next ns (n ∷ []) x.before one first node
      (λ k a b. elim b as (λ _. ⊥) [ inl e ↦ x.away (subst (λ (j : ℕ). Reaches x.before j) e a) | inr w ↦ elim w as (λ _. ⊥) [ inl u ↦ x.apart k a u | inr z ↦ z ] ]) in
      let top : Reaches f n.0 = subst (λ (g : Trees IR). Reaches g n.0) (sym x.is) (join-right plan_shape x.before was n.0 (inl refl)) in
      let lower : Reaches f i.0 = subst (λ (g : Trees IR). Reaches g i.0) (sym x.is) (join-right plan_shape x.before was i.0 (inr (inl (inl refl)))) in
      let part : (k : ℕ) → Reaches both k → Reaches f k = λ k r. subst (λ (g : Trees IR). Reaches g k) (sym x.is) (elim (Reaches-join plan_shape x.before one k r) as (λ _. Reaches (join x.before was) k) [
        | inl u ↦ join-left plan_shape x.before was k u
        | inr w ↦ join-right plan_shape x.before was k (elim w as (λ _. Reaches was k) [
          | inl e ↦ inl e
          | inr y ↦ elim y as (λ _. Reaches was k) [ inl b ↦ inr (inl (inr (inl b))) | inr z ↦ absurd z ]
        ])
      ]) in
      let kept : Keeps now next f = Keeps-trans plan_shape now mid next f f (Keeps-set plan_shape now i.0 v f lower) (Keeps-set plan_shape mid n.0 q f top) (λ k r. inl r) in
      let whole : orders_in ex false f ≡ orders_in ex false both =
      ap (orders_in ex false) x.is
      ∙ orders-join ex false x.before (rose n p (more (rose i q x.kids) no_roses)) no_roses
      ∙ ap (λ (r : Rose Node IR). join (orders_in ex true x.before) (more r no_roses)) (orders-idle ex false n i p q x.kids idle same)
      ∙ sym (orders-join ex false x.before (rose n q x.kids) no_roses) in
      record {
        going = record {
          trees = both;
          stands = stand;
          known = known-join ex x.before one x.earlier (x.own, x.below, tt);
          ends = λ c keeps st. ends c (Keeps-trans plan_shape now next c f both kept keeps (λ k r. inl (part k r))) (subst (λ (g : Trees IR). StandsOnce plan_shape c (ns ++ n ∷ []) g) (sym whole) st);
          small = let a : size f ≡ size (join x.before was) = ap size x.is in omega (arith, low, size-join x.before was, size-join x.before one);
        };
        falls =
            let a : size f ≡ size (join x.before was) = ap size x.is in
            rw (trees_at-is plan_shape next (ns ++ n ∷ []) both stand, trees_at-is plan_shape now (ns ++ n ∷ []) f h) (omega (arith, size-join x.before was, size-join x.before one));
      }

  pub turn_dropped : (d : Bool) → Going old ex root t now (ns ++ n ∷ []) d → slice_get now n.0 ≡ Some p → inputs_of p ≡ i ∷ [] → slice_get now i.0 ≡ Some q → is_idle d (op_at ex p) ≡ true → d ≡ false → demands false (op_at ex p) ≡ false → Turn old ex root t now (slice_set (slice_set now i.0 v) n.0 q) (ns ++ n ∷ []) (ns ++ n ∷ []) false
  turn_dropped true g here one e idle unasked same = cc
  turn_dropped false g here one e idle unasked same =
      let x = top_of ex now ns n p g.trees g.stands g.known here in
      dropped_of g.trees g.stands g.ends g.small here (below_of g.trees x one e) idle same

-- what a turn reads: the number on top has an entry, over whose expressions trees stand, and the stack has room for its inputs
pub record Reads (old : List IR) (ex : List AExpr) (t : Trees IR) (now : List IR) (ns : List Node) (n : Node) (p : IR) : Type 0 where
  pub exprs : (e : Trees AExpr) × StandsOnce expr_shape ex (roots_of p) e
  pub room : length ns + length (inputs_of p) < size t
  pub inputs : (i : Node) → inputs_of p ≡ i ∷ [] → i.0 < length now

length-le : (now : List IR) (ns : List Node) (f : Trees IR) → Stands plan_shape now ns f → length ns ≤ size f
length-le now [] f s = omega arith
length-le now (m ∷ ns) no_roses s = absurd s
length-le now (m ∷ ns) (more (rose k p kids) rest) s = omega (arith, length-le now ns rest s.4)

pub reads_of : (old : List IR) (ex : List AExpr) (root : Node) (t : Trees IR) (now : List IR) (ns : List Node) (n : Node) (p : IR) (d : Bool) → Going old ex root t now (ns ++ n ∷ []) d → slice_get now n.0 ≡ Some p → Reads old ex t now ns n p
reads_of old ex root t now ns n p d g here =
    let x = top_of ex now ns n p g.trees g.stands g.known here in
    record {
      exprs = x.own;
      room =
          let a : size g.trees ≡ size (join x.before (more (rose n p x.kids) no_roses)) = ap size x.is in
          omega (arith, g.small, size-join x.before (more (rose n p x.kids) no_roses), length-le now ns x.before x.first.stands, length-le now (inputs_of p) x.kids x.inputs.stands);
      inputs = λ i e. first i x.kids (subst (λ (l : List Node). StandsOnce plan_shape now l x.kids) e x.inputs);
    }
  where
    first : (i : Node) (f : Trees IR) → StandsOnce plan_shape now (i ∷ []) f → i.0 < length now
    first i no_roses h = absurd h.stands
    first i (more (rose m q kids) rest) h = slice_get_within now i.0 q h.stands.1

-- the number on top has an entry
pub on_top : (old : List IR) (ex : List AExpr) (root : Node) (t : Trees IR) (now : List IR) (ns : List Node) (n : Node) (d : Bool) → Going old ex root t now (ns ++ n ∷ []) d → n.0 < length now
on_top old ex root t now ns n d g =
    let s = StandsOnce-split plan_shape now ns (n ∷ []) g.trees g.stands in
    first s.right s.second
  where
    first : (f : Trees IR) → StandsOnce plan_shape now (n ∷ []) f → n.0 < length now
    first no_roses h = absurd h.stands
    first (more (rose m q kids) rest) h = slice_get_within now n.0 q h.stands.1

-- the stack has room for a number more than it had left
pub has_room : (old : List IR) (ex : List AExpr) (root : Node) (t : Trees IR) (now : List IR) (ns : List Node) (d : Bool) → Going old ex root t now ns d → StandsOnce plan_shape old (root ∷ []) t → length ns ≤ length old
has_room old ex root t now ns d g h = omega (arith, g.small, length-le now ns g.trees g.stands.stands, size-le plan_shape old (root ∷ []) t h)

-- the same at a stack that is popped
pub on_top_at : {old : List IR} {ex : List AExpr} {root : Node} {t : Trees IR} {now : List IR} {before : List Node} {d : Bool} (ns : List Node) (n : Node) → before ≡ ns ++ n ∷ [] → Going old ex root t now before d → n.0 < length now
on_top_at {old} {ex} {root} {t} {now} {before} {d} ns n b g = on_top old ex root t now ns n d (subst (λ (l : List Node). Going old ex root t now l d) b g)

pub reads_at : {old : List IR} {ex : List AExpr} {root : Node} {t : Trees IR} {now : List IR} {before : List Node} {p : IR} {d : Bool} (ns : List Node) (n : Node) → before ≡ ns ++ n ∷ [] → Going old ex root t now before d → slice_get now n.0 ≡ Some p → Reads old ex t now ns n p
reads_at {old} {ex} {root} {t} {now} {before} {p} {d} ns n b g here = reads_of old ex root t now ns n p d (subst (λ (l : List Node). Going old ex root t now l d) b g) here

pub going_init_at : (old : List IR) (ex : List AExpr) (root : Node) (t : Trees IR) (stack : List Node) → stack ≡ root ∷ [] → StandsOnce plan_shape old (root ∷ []) t → Known ex t → Going old ex root t old stack true
going_init_at old ex root t stack s h k = subst (λ (l : List Node). Going old ex root t old l true) (sym s) (going-init old ex root t h k)

-- where the stack is empty, the whole is made
pub going_end_at : {old : List IR} {ex : List AExpr} {root : Node} {t : Trees IR} {now : List IR} {d : Bool} (stack : List Node) → length stack ≡ 0 → Going old ex root t now stack d → Ordered old now ex root t
going_end_at {old} {ex} {root} {t} {now} {d} [] e g = going-end old ex root t now d g
going_end_at (n ∷ ns) e g = absurd (omega arith)
