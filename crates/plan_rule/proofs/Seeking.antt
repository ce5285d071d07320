-- The loop that seeks the first scan, union or join at pending numbers and below.
use Rattle.std.proofs.Common.{◌≡◌, ℕ, ◌<◌, Bool, true, false, cond, List, [], ◌∷◌, ◌++◌, length, Option, Some, None, refl, sym, ap, ◌∙◌, subst, arith, inl, inr}
use Rattle.std.specs.List.{slice_get}
use Rattle.plan_core.specs.declared.arena.Node.{Node}
use Rattle.plan_tree.specs.Read.{trees_at}
use Rattle.plan_tree.specs.Rose.{rose, no_roses, more, join, size}
use Rattle.plan_tree.specs.Stands.{Apart, Reaches, StandsOnce, Trees}
use Rattle.plan_tree.proofs.JoinLemmas.{size-join}
use Rattle.plan_tree.proofs.Numbers.{Reaches-within}
use Rattle.plan_tree.proofs.ReadLemmas.{trees_at-is}
use Rattle.plan_tree.proofs.SplitLemmas.{StandsOnce-join, StandsOnce-split}
use Rattle.plan_tree.proofs.TreeLemmas.{Stands-unique, opened}
use Rattle.plan_ir.specs.declared.ir.IR.{IR}
use Rattle.plan_ir.specs.Parts.{inputs_of, plan_shape}
use Rattle.plan_rule.specs.Sought.{first_sought, is_sought, or_number}
use Rattle.plan_rule.proofs.Sought.{sought_join}

-- trees stand at the first numbers and at those that are left, and the first that is sought is the same
pub record Seeking (lp : List IR) (first left : List Node) : Type 0 where
  pub given : Trees IR
  pub stand : StandsOnce plan_shape lp first given
  pub trees : Trees IR
  pub here : StandsOnce plan_shape lp left trees
  pub same : first_sought trees ≡ first_sought given

pub seeking : (lp : List IR) (first : List Node) → ((t : Trees IR) × StandsOnce plan_shape lp first t) → Seeking lp first first
seeking lp first h = record { given = h.0; stand = h.1; trees = h.0; here = h.1; same = refl }

-- what the loop says of all trees at the first numbers
pub told : (lp : List IR) (first left : List Node) (found : Option Node) → (k : Seeking lp first left) → found ≡ first_sought k.trees → (t : Trees IR) → StandsOnce plan_shape lp first t → found ≡ first_sought t
told lp first left found k is t h = is ∙ k.same ∙ ap first_sought (Stands-unique plan_shape lp first k.given t k.stand.stands h.stands)

-- how many nodes stand at and below the numbers
unfoldable pub waiting : List IR → List Node → ℕ
waiting lp ns = size (trees_at plan_shape lp ns)

-- the last number, with its entry
record Top (lp : List IR) (m : Node) (p : IR) (rest : List Node) (f : Trees IR) : Type 0 where
  front : Trees IR
  kids : Trees IR
  is : f ≡ join front (more (rose m p kids) no_roses)
  first : StandsOnce plan_shape lp rest front
  low : StandsOnce plan_shape lp (inputs_of p) kids
  apart : Apart front kids

top : (lp : List IR) (m : Node) (p : IR) (rest : List Node) (f : Trees IR) → StandsOnce plan_shape lp (rest ++ m ∷ []) f → slice_get lp m.0 ≡ Some p → Top lp m p rest f
top lp m p rest f h entry =
    let s = StandsOnce-split plan_shape lp rest (m ∷ []) f h in
    let o = opened plan_shape lp m p s.right s.second entry in
    let into : (k : ℕ) → Reaches o.kids k → Reaches s.right k = λ k r. subst (λ (g : Trees IR). Reaches g k) (sym o.is) (inr (inl r)) in
    record {
      front = s.left;
      kids = o.kids;
      is = s.is ∙ ap (λ (g : Trees IR). join s.left g) o.is;
      first = s.first;
      low = o.inputs;
      apart = λ k r u. s.apart k r (into k u);
    }

-- what is sought first at the last number
sought_here : (p : IR) (m : Node) (front kids : Trees IR) → first_sought (join front (more (rose m p kids) no_roses)) ≡ or_number (cond (is_sought p) (Some m) (first_sought kids)) (first_sought front)
sought_here p m front kids = sought_join front (more (rose m p kids) no_roses)

pub found_here : (lp : List IR) (first before rest : List Node) (m : Node) (p : IR) (k : Seeking lp first before) → before ≡ rest ++ m ∷ [] → slice_get lp m.0 ≡ Some p → is_sought p ≡ true → (t : Trees IR) → StandsOnce plan_shape lp first t → Some m ≡ first_sought t
found_here lp first before rest m p k is entry one =
    let x = top lp m p rest k.trees (subst (λ (ns : List Node). StandsOnce plan_shape lp ns k.trees) is k.here) entry in
    told lp first before (Some m) k (sym (ap first_sought x.is ∙ sought_here p m x.front x.kids ∙ ap (λ (b : Bool). or_number (cond b (Some m) (first_sought x.kids)) (first_sought x.front)) one))

pub record Onward (lp : List IR) (first before after : List Node) : Type 0 where
  pub next : Seeking lp first after
  pub falls : waiting lp after < waiting lp before

pub onward : (lp : List IR) (first before rest after : List Node) (m : Node) (p : IR) (k : Seeking lp first before) → before ≡ rest ++ m ∷ [] → slice_get lp m.0 ≡ Some p → is_sought p ≡ false → after ≡ rest ++ inputs_of p → Onward lp first before after
unfolding waiting
onward lp first before rest after m p k is entry isnt then =
    let here : StandsOnce plan_shape lp (rest ++ m ∷ []) k.trees = subst (λ (ns : List Node). StandsOnce plan_shape lp ns k.trees) is k.here in
    let x = top lp m p rest k.trees here entry in
    let low : StandsOnce plan_shape lp (rest ++ inputs_of p) (join x.front x.kids) = StandsOnce-join plan_shape lp rest (inputs_of p) x.front x.kids x.first x.low x.apart in
    let low1 : StandsOnce plan_shape lp after (join x.front x.kids) = subst (λ (ns : List Node). StandsOnce plan_shape lp ns (join x.front x.kids)) (sym then) low in
    let up : trees_at plan_shape lp before ≡ k.trees = trees_at-is plan_shape lp before k.trees k.here in
    let down : trees_at plan_shape lp after ≡ join x.front x.kids = trees_at-is plan_shape lp after (join x.front x.kids) low1 in
    let many : size (trees_at plan_shape lp before) ≡ size (join x.front (more (rose m p x.kids) no_roses)) = ap size (up ∙ x.is) in
    let few : size (trees_at plan_shape lp after) ≡ size (join x.front x.kids) = ap size down in
    record {
      next = record {
        given = k.given;
        stand = k.stand;
        trees = join x.front x.kids;
        here = low1;
        same = sought_join x.front x.kids
            ∙ sym (ap first_sought x.is ∙ sought_here p m x.front x.kids ∙ ap (λ (b : Bool). or_number (cond b (Some m) (first_sought x.kids)) (first_sought x.front)) isnt)
            ∙ k.same;
      };
      falls = omega (arith, many, few, size-join x.front x.kids, size-join x.front (more (rose m p x.kids) no_roses));
    }

pub none_left : (lp : List IR) (first left : List Node) (k : Seeking lp first left) → left ≡ [] → (t : Trees IR) → StandsOnce plan_shape lp first t → None ≡ first_sought t
none_left lp first left k is =
    told lp first left None k (none k.trees (subst (λ (ns : List Node). StandsOnce plan_shape lp ns k.trees) is k.here))
  where
    none : (f : Trees IR) → StandsOnce plan_shape lp [] f → None ≡ first_sought f
    none no_roses h = refl
    none (more (rose m p kids) rest) h = absurd h.stands

-- the number on top is one of the arena's
pub top_inside : (lp : List IR) (first before rest : List Node) (m : Node) → Seeking lp first before → before ≡ rest ++ m ∷ [] → m.0 < length lp
top_inside lp first before rest m k is =
    let s = StandsOnce-split plan_shape lp rest (m ∷ []) k.trees (subst (λ (ns : List Node). StandsOnce plan_shape lp ns k.trees) is k.here) in
    at s.right s.second
  where
    at : (f : Trees IR) → StandsOnce plan_shape lp (m ∷ []) f → m.0 < length lp
    at no_roses h = absurd h.stands
    at (more (rose a p kids) more_trees) h = Reaches-within plan_shape lp (m ∷ []) (more (rose a p kids) more_trees) m.0 h.stands (inl (ap (λ (x : Node). x.0) h.stands.0))
