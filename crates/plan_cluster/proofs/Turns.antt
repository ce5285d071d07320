-- A turn of the pass: trees stand at the stacked numbers, and once they are clustered, so is the whole.
use Rattle.std.proofs.Common.{◌≡◌, ◌∙◌, ◌++◌, ◌<◌, ◌≤◌, ◌⊎◌, ℕ, false, List, [], ◌∷◌, append-nil, arith, length, Some, inl, inr, refl, sym, ap, ap₂, subst}
use Rattle.std.specs.List.{slice_get}
use Rattle.plan_core.specs.declared.arena.Node.{Node}
use Rattle.plan_tree.specs.Forests.{StandsToo}
use Rattle.plan_tree.specs.Read.{trees_at}
use Rattle.plan_tree.specs.Rose.{Roses, rose, no_roses, more, join, size}
use Rattle.plan_tree.specs.Stands.{Apart, Reaches, Rewrites, StandsOnce, Trees}
use Rattle.plan_tree.proofs.Frames.{Reaches-join, Rewrites-refl, Stands-kept, join-left, join-right}
use Rattle.plan_tree.proofs.JoinLemmas.{size-join}
use Rattle.plan_tree.proofs.Numbers.{Reaches-within}
use Rattle.plan_tree.proofs.ReadLemmas.{trees_at-is}
use Rattle.plan_tree.proofs.SplitLemmas.{Sides, StandsOnce-split, StandsOnce-join}
use Rattle.plan_tree.proofs.TreeLemmas.{Opened, opened}
use Rattle.plan_expr.specs.declared.aexpr.AExpr.{AExpr}
use Rattle.plan_expr.specs.Operands.{expr_shape}
use Rattle.plan_ir.specs.declared.ir.IR.{IR}
use Rattle.plan_ir.specs.Parts.{inputs_of, is_hstack, plan_shape, roots_in, roots_of}
use Rattle.plan_ir.specs.Plans.{Op, bare, op_at, plans_of}
use Rattle.plan_collapse_laws.specs.Runs.{Link, linked_in}
use Rattle.plan_collapse_laws.specs.Clustered.{clustered_all}
use Rattle.plan_cluster.specs.Layers.{layer_roots, links_at}
use Rattle.plan_cluster.specs.Chains.{Among, Chained, Settled}
use Rattle.plan_cluster.specs.Sound.{AllSound}
use Rattle.plan_cluster.proofs.Chained.{Over, Under, chained_kept, over, under}
use Rattle.plan_cluster.proofs.Clusters.{clustered_join, clustered_run}
use Rattle.plan_cluster.proofs.Nodes.{no_addition, sound_join, sound_left, sound_right}
use Rattle.plan_cluster.proofs.Picked.{between, picked}
use Rattle.plan_cluster.proofs.Sides.{count_clustered, count_stands, join_same, plans_join, roots_join}

-- trees at numbers became their clustered plans, over some of their expressions
pub record Becoming (ex : List AExpr) (old new : List IR) (ns : List Node) (f : Trees IR) : Type 0 where
  pub trees : Trees IR
  pub places : Rewrites plan_shape old new ns f trees
  pub plans : bare (plans_of ex trees) ≡ clustered_all (bare (plans_of ex f))
  pub roots : StandsToo expr_shape ex (roots_in f) (roots_in trees)

-- the pass at a turn: trees stand at the stacked numbers, and wherever they become their clustered plans in an arena, the whole does
pub record Going (old : List IR) (ex : List AExpr) (root : Node) (t : Trees IR) (now : List IR) (stack : List Node) : Type 0 where
  pub trees : Trees IR
  pub stands : StandsOnce plan_shape now stack trees
  pub sound : AllSound ex trees
  pub ends : (c : List IR) → Becoming ex now c stack trees → Becoming ex old c (root ∷ []) t

-- the measure: how many nodes stand at and below the stacked numbers
unfoldable pub left : List IR → List Node → ℕ
left now stack = size (trees_at plan_shape now stack)

pub going_init : (old : List IR) (ex : List AExpr) (root : Node) (t : Trees IR) → StandsOnce plan_shape old (root ∷ []) t → AllSound ex t → Going old ex root t old (root ∷ [])
going_init old ex root t h s = record { trees = t; stands = h; sound = s; ends = λ c x. x }

-- where no number is stacked, the whole is clustered
pub going_end : (old : List IR) (ex : List AExpr) (root : Node) (t : Trees IR) (now : List IR) (stack : List Node) → stack ≡ [] → Going old ex root t now stack → Becoming ex old now (root ∷ []) t
going_end old ex root t now (n ∷ ns) e g = cc
going_end old ex root t now [] e g = go g.trees g.stands g.ends
  where
    go : (f : Trees IR) → StandsOnce plan_shape now [] f → ((c : List IR) → Becoming ex now c [] f → Becoming ex old c (root ∷ []) t) → Becoming ex old now (root ∷ []) t
    go no_roses h ends = ends now (record { trees = no_roses; places = Rewrites-refl plan_shape now [] no_roses h; plans = refl; roots = λ e s. (e, s, λ k r. r) })
    go (more (rose m p kids) rest) h ends = absurd h.stands

-- a number is reached by what stands there
reaches_top : (lp : List IR) (n : Node) (t : Trees IR) → StandsOnce plan_shape lp (n ∷ []) t → Reaches t n.0
reaches_top lp n no_roses h = absurd h.stands
reaches_top lp n (more (rose m p kids) rest) h = inl (ap (λ (x : Node). x.0) h.stands.0)

module _ (old : List IR) (ex : List AExpr) (root : Node) (t : Trees IR) (now : List IR) (ns : List Node) (n : Node) (g : Going old ex root t now (ns ++ n ∷ [])) where
  -- what stands before the last number, and what stands there
  abbrev s : Sides plan_shape now ns (n ∷ []) g.trees
  s = StandsOnce-split plan_shape now ns (n ∷ []) g.trees g.stands

  -- what a call for the run at the last number asks
  pub asked : (u : Trees IR) × StandsOnce plan_shape now (n ∷ []) u × AllSound ex u
  asked = (s.right, s.second, sound_right ex s.left s.right (subst (λ (x : Trees IR). AllSound ex x) s.is g.sound))

  module _ (new : List IR) (below : Node) (x : Settled now new ex n below) where
    abbrev u : Under now ex x.places x.before below s.right
    u = under now ex x.places x.before below n s.right x.was x.was_first s.second

    top : Reaches u.tree below.0
    top = reaches_top now below u.tree u.stands

    low : below.0 < length now
    low = Reaches-within plan_shape now (below ∷ []) u.tree below.0 u.stands.stands top

    off_places : Among below.0 x.places → ⊥
    off_places a = u.apart below.0 a top

    pub low_new : below.0 < length new
    low_new = omega (arith, low, x.grows)

    module _ (q : IR) (here : slice_get new below.0 ≡ Some q) where
      at : slice_get now below.0 ≡ Some q
      at = sym (x.same below.0 low off_places) ∙ here

      plain : is_hstack q ≡ false
      plain = let e : x.ends.0 ≡ q = (let a = x.ends.1 in let b = at in cc) in subst (λ (p : IR). is_hstack p ≡ false) e x.ends.2

      abbrev o : Opened plan_shape now below q u.tree
      o = opened plan_shape now below q u.tree u.stands at

      abbrev both : Trees IR
      both = join s.left o.kids

      under_tree : (k : ℕ) → Reaches o.kids k → Reaches u.tree k
      under_tree k r = subst (λ (f : Trees IR). Reaches f k) (sym o.is) (inr (inl r))

      in_whole : (k : ℕ) → Reaches s.right k → Reaches g.trees k
      in_whole k r = subst (λ (f : Trees IR). Reaches f k) (sym s.is) (join-right plan_shape s.left s.right k r)

      part : (k : ℕ) → Reaches both k → Reaches g.trees k
      part k r = elim (Reaches-join plan_shape s.left o.kids k r) as (λ _. Reaches g.trees k) [
        | inl a ↦ subst (λ (f : Trees IR). Reaches f k) (sym s.is) (join-left plan_shape s.left s.right k a)
        | inr b ↦ in_whole k (u.part k (under_tree k b))
      ]

      was : StandsOnce plan_shape now (ns ++ inputs_of q) both
      was = StandsOnce-join plan_shape now ns (inputs_of q) s.left o.kids s.first o.inputs (λ k a b. s.apart k a (u.part k (under_tree k b)))

      lower : (k : ℕ) → Reaches both k → k < length now
      lower k r = Reaches-within plan_shape now (ns ++ inputs_of q) both k was.stands r

      far : (k : ℕ) → Among k x.places → Reaches both k → ⊥
      far k a r = elim (Reaches-join plan_shape s.left o.kids k r) as (λ _. ⊥) [ inl b ↦ s.apart k b (u.holds k a) | inr b ↦ u.apart k a (under_tree k b) ]

      stand : StandsOnce plan_shape new (ns ++ inputs_of q) both
      stand = record { stands = Stands-kept plan_shape now new (ns ++ inputs_of q) both was.stands (λ k r. x.same k (lower k r) (λ a. far k a r)); once = was.once }

      sound : AllSound ex both
      sound =
          let h : AllSound ex (join s.left s.right) = subst (λ (f : Trees IR). AllSound ex f) s.is g.sound in
          let v : AllSound ex (more (rose below q o.kids) no_roses) = subst (λ (f : Trees IR). AllSound ex f) o.is (u.sound (sound_right ex s.left s.right h)).0 in
          sound_join ex s.left o.kids (sound_left ex s.left s.right h) v.1

      -- numbers of the run are apart from all else
      number_low : (k : ℕ) → Among k x.numbers → k < length new
      number_low k a = elim (x.within k a) as (λ _. k < length new) [
        | inl b ↦ (let l : k < length now = Reaches-within plan_shape now (n ∷ []) s.right k s.second.stands (u.holds k b) in omega (arith, l, x.grows))
        | inr h ↦ h.1
      ]

      number_off : (k : ℕ) → Among k x.numbers → Reaches both k → ⊥
      number_off k a r = elim (x.within k a) as (λ _. ⊥) [ inl b ↦ far k b r | inr h ↦ (let l = lower k r in absurd (omega (arith, l, h.0))) ]

      number_below : Among below.0 x.numbers → ⊥
      number_below a = elim (x.within below.0 a) as (λ _. ⊥) [ inl b ↦ off_places b | inr h ↦ absurd (omega (arith, low, h.0)) ]

      below_off : Reaches both below.0 → ⊥
      below_off r = elim (Reaches-join plan_shape s.left o.kids below.0 r) as (λ _. ⊥) [ inl a ↦ s.apart below.0 a (u.part below.0 top) | inr b ↦ o.above b ]

      module _ (c : List IR) (y : Becoming ex new c (ns ++ inputs_of q) both) where
        abbrev v : Sides plan_shape c ns (inputs_of q) y.trees
        v = StandsOnce-split plan_shape c ns (inputs_of q) y.trees y.places.stands

        abbrev tree : Trees IR
        tree = more (rose below q v.right) no_roses

        in_left : (k : ℕ) → Reaches v.left k → Reaches y.trees k
        in_left k r = subst (λ (f : Trees IR). Reaches f k) (sym v.is) (join-left plan_shape v.left v.right k r)

        in_right : (k : ℕ) → Reaches v.right k → Reaches y.trees k
        in_right k r = subst (λ (f : Trees IR). Reaches f k) (sym v.is) (join-right plan_shape v.left v.right k r)

        number_away : (k : ℕ) → Among k x.numbers → Reaches y.trees k → ⊥
        number_away k a r = elim (y.places.within k r) as (λ _. ⊥) [ inl b ↦ number_off k a b | inr h ↦ (let l = number_low k a in absurd (omega (arith, l, h))) ]

        below_away : Reaches y.trees below.0 → ⊥
        below_away r = elim (y.places.within below.0 r) as (λ _. ⊥) [ inl b ↦ below_off b | inr h ↦ absurd (omega (arith, low_new, h)) ]

        node : StandsOnce plan_shape c (below ∷ []) tree
        node = record {
          stands = (refl, y.places.keeps.same below.0 low_new below_off ∙ here, o.valid, v.second.stands, tt);
          once = ((λ r. below_away (in_right below.0 r)), (λ r. r), (λ k a b. b), v.second.once, tt);
        }

        chained : Chained c x.numbers x.after below
        chained = chained_kept new c x.numbers x.after below x.is (λ k a. y.places.keeps.same k (number_low k a) (number_off k a))

        abbrev w : Over c ex x.numbers x.after below tree
        w = over c ex x.numbers x.after below tree chained x.differ (λ k a r. number_tree k a r) node
          where
            number_tree : (k : ℕ) → Among k x.numbers → Reaches tree k → ⊥
            number_tree k a (inl e) = number_below (subst (λ (j : ℕ). Among j x.numbers) e a)
            number_tree k a (inr (inl r)) = number_away k a (in_right k r)
            number_tree k a (inr (inr r)) = r

        whole_stands : StandsOnce plan_shape c (n ∷ []) w.whole
        whole_stands = subst (λ (m : Node). StandsOnce plan_shape c (m ∷ []) w.whole) x.is_first w.stands

        left_apart : Apart v.left w.whole
        left_apart k a r = elim (w.part k r) as (λ _. ⊥) [
          | inl m ↦ number_away k m (in_left k a)
          | inr b ↦ elim b as (λ _. ⊥) [
            | inl e ↦ below_away (in_left below.0 (subst (λ (j : ℕ). Reaches v.left j) e a))
            | inr d ↦ elim d as (λ _. ⊥) [ inl z ↦ v.apart k a z | inr z ↦ z ]
          ]
        ]

        reached : (k : ℕ) → Reaches y.trees k → Reaches g.trees k ⊎ (length now ≤ k)
        reached k r = elim (y.places.within k r) as (λ _. Reaches g.trees k ⊎ (length now ≤ k)) [ inl b ↦ inl (part k b) | inr h ↦ inr (omega (arith, h, x.grows)) ]

        within : (k : ℕ) → Reaches (join v.left w.whole) k → Reaches g.trees k ⊎ (length now ≤ k)
        within k r = elim (Reaches-join plan_shape v.left w.whole k r) as (λ _. Reaches g.trees k ⊎ (length now ≤ k)) [
          | inl a ↦ reached k (in_left k a)
          | inr b ↦ elim (w.part k b) as (λ _. Reaches g.trees k ⊎ (length now ≤ k)) [
            | inl m ↦ elim (x.within k m) as (λ _. Reaches g.trees k ⊎ (length now ≤ k)) [ inl z ↦ inl (in_whole k (u.holds k z)) | inr z ↦ inr z.0 ]
            | inr d ↦ elim d as (λ _. Reaches g.trees k ⊎ (length now ≤ k)) [
              | inl e ↦ inl (in_whole k (u.part k (subst (λ (j : ℕ). Reaches u.tree j) (sym e) top)))
              | inr f ↦ elim f as (λ _. Reaches g.trees k ⊎ (length now ≤ k)) [ inl z ↦ reached k (in_right k z) | inr z ↦ absurd z ]
            ]
          ]
        ]

        parts : (bare (plans_of ex v.left) ≡ clustered_all (bare (plans_of ex s.left))) × (bare (plans_of ex v.right) ≡ clustered_all (bare (plans_of ex o.kids)))
        parts = join_same (bare (plans_of ex v.left)) (bare (plans_of ex v.right)) (clustered_all (bare (plans_of ex s.left))) (clustered_all (bare (plans_of ex o.kids)))
            (count_stands ex c ns v.left v.first.stands ∙ sym (count_stands ex now ns s.left s.first.stands) ∙ sym (count_clustered (bare (plans_of ex s.left))))
            (sym (plans_join ex v.left v.right) ∙ ap (λ (f : Trees IR). bare (plans_of ex f)) (sym v.is) ∙ y.plans ∙ ap clustered_all (plans_join ex s.left o.kids) ∙ clustered_join (bare (plans_of ex s.left)) (bare (plans_of ex o.kids)))

        abbrev one : Roses (Unit {0}) Op → Roses (Unit {0}) Op
        one ts = more (rose tt (op_at ex q) ts) no_roses

        run_plans : bare (plans_of ex w.whole) ≡ clustered_all (bare (plans_of ex s.right))
        run_plans =
            w.plans
            ∙ ap₂ (λ (ks : List Link) (ts : Roses (Unit {0}) Op). linked_in ks (one ts)) x.rested parts.1
            ∙ sym (clustered_run ex (op_at ex q) (bare (plans_of ex o.kids)) (no_addition ex q plain) x.before x.adds)
            ∙ ap (λ (f : Trees IR). clustered_all (linked_in (links_at ex x.before) (bare (plans_of ex f)))) (sym o.is)
            ∙ ap clustered_all (sym u.plans)

        plans : bare (plans_of ex (join v.left w.whole)) ≡ clustered_all (bare (plans_of ex g.trees))
        plans =
            plans_join ex v.left w.whole
            ∙ ap₂ (λ (a b : Roses (Unit {0}) Op). join a b) parts.0 run_plans
            ∙ sym (clustered_join (bare (plans_of ex s.left)) (bare (plans_of ex s.right)))
            ∙ ap clustered_all (sym (plans_join ex s.left s.right))
            ∙ ap (λ (f : Trees IR). clustered_all (bare (plans_of ex f))) (sym s.is)

        roots_before : roots_in g.trees ≡ roots_in s.left ++ (layer_roots x.before ++ (roots_of q ++ roots_in o.kids))
        roots_before =
            ap roots_in s.is
            ∙ roots_join s.left s.right
            ∙ ap (λ (l : List Node). roots_in s.left ++ l) (u.roots ∙ ap (λ (f : Trees IR). layer_roots x.before ++ roots_in f) o.is ∙ ap (λ (l : List Node). layer_roots x.before ++ (roots_of q ++ l)) (append-nil (roots_in o.kids)))

        roots_after : roots_in (join v.left w.whole) ≡ roots_in v.left ++ (layer_roots x.after ++ (roots_of q ++ roots_in v.right))
        roots_after =
            roots_join v.left w.whole
            ∙ ap (λ (l : List Node). roots_in v.left ++ l) (w.roots ∙ ap (λ (l : List Node). layer_roots x.after ++ (roots_of q ++ l)) (append-nil (roots_in v.right)))

        roots : StandsToo expr_shape ex (roots_in g.trees) (roots_in (join v.left w.whole))
        roots =
            let others : StandsToo expr_shape ex (roots_in s.left ++ roots_in o.kids) (roots_in v.left ++ roots_in v.right) =
            subst (λ (l : List Node). StandsToo expr_shape ex l (roots_in v.left ++ roots_in v.right)) (roots_join s.left o.kids)
            (subst (λ (l : List Node). StandsToo expr_shape ex (roots_in both) l) (ap roots_in v.is ∙ roots_join v.left v.right) y.roots) in
            let with_node = between expr_shape ex (roots_in s.left) (roots_in o.kids) (roots_in v.left) (roots_in v.right) (roots_of q) (roots_of q) others (λ e h. (e, h, λ k r. r)) in
            let all = between expr_shape ex (roots_in s.left) (roots_of q ++ roots_in o.kids) (roots_in v.left) (roots_of q ++ roots_in v.right) (layer_roots x.before) (layer_roots x.after) with_node (picked expr_shape ex (layer_roots x.before) (layer_roots x.after) x.roots.left x.roots.permutes) in
            subst (λ (l : List Node). StandsToo expr_shape ex l (roots_in (join v.left w.whole))) (sym roots_before)
            (subst (λ (l : List Node). StandsToo expr_shape ex (roots_in s.left ++ (layer_roots x.before ++ (roots_of q ++ roots_in o.kids))) l) (sym roots_after) all)

        became : Becoming ex now c (ns ++ n ∷ []) g.trees
        became = record {
          trees = join v.left w.whole;
          places = record {
            stands = StandsOnce-join plan_shape c ns (n ∷ []) v.left w.whole v.first whole_stands left_apart;
            keeps = record {
              grows = omega (arith, x.grows, y.places.keeps.grows);
              same = λ k l away. y.places.keeps.same k (omega (arith, l, x.grows)) (λ r. away (part k r)) ∙ x.same k l (λ a. away (in_whole k (u.holds k a)));
            };
            within = within;
          };
          plans = plans;
          roots = roots;
        }

      pub turned : Going old ex root t new (ns ++ inputs_of q)
      turned = record { trees = both; stands = stand; sound = sound; ends = λ c y. g.ends c (became c y) }

      pub turn_falls : left new (ns ++ inputs_of q) < left now (ns ++ n ∷ [])
      unfolding left
      turn_falls =
          let a : size g.trees ≡ size (join s.left s.right) = ap size s.is in
          let b : size u.tree ≡ size (more (rose below q o.kids) no_roses) = ap size o.is in
          rw (trees_at-is plan_shape new (ns ++ inputs_of q) both stand, trees_at-is plan_shape now (ns ++ n ∷ []) g.trees g.stands) (omega (arith, a, b, u.sized, size-join s.left s.right, size-join s.left o.kids))
