-- Trees over layers at numbers, taken apart and put together.
use Rattle.std.proofs.Common.{◌≡◌, ◌∙◌, ◌++◌, ◌≤◌, ◌⊎◌, ℕ, All, List, [], ◌∷◌, append-nil, append_assoc, arith, Some, inl, inr, refl, sym, ap, ap₂, subst}
use Rattle.std.specs.List.{slice_get}
use Rattle.std.proofs.lemmas.List.Elements.{All-append, All-cons, All-nil}
use Rattle.plan_core.specs.declared.arena.Node.{Node}
use Rattle.plan_tree.specs.Rose.{Roses, rose, no_roses, more, size}
use Rattle.plan_tree.specs.Stands.{Reaches, Stands, StandsOnce, Trees}
use Rattle.plan_tree.proofs.TreeLemmas.{opened}
use Rattle.plan_expr.specs.declared.aexpr.AExpr.{AExpr}
use Rattle.plan_expr.specs.Operands.{IsExpr}
use Rattle.plan_ir.specs.declared.ir.IR.{IR}
use Rattle.plan_ir.specs.Parts.{plan_shape, roots_in}
use Rattle.plan_ir.specs.Plans.{Op, bare, plans_of}
use Rattle.plan_collapse_laws.specs.Runs.{linked_in}
use Rattle.plan_cluster.specs.declared.layer.Layer.{Layer}
use Rattle.plan_cluster.specs.Layers.{IsOnce, expr_nodes, layer_exprs, layer_roots, links_at}
use Rattle.plan_cluster.specs.Chains.{AllDiffer, Among, Chained, node_over, top_of}
use Rattle.plan_cluster.specs.Sound.{AllSound}
use Rattle.plan_cluster.proofs.Nodes.{over_fine, over_inputs, over_once, over_op, over_roots, over_stand}

-- layers that are chained are so in another arena that has the same entries at their numbers
pub chained_kept : (a c : List IR) (ns : List Node) (ks : List Layer) (b : Node) → Chained a ns ks b → ((k : ℕ) → Among k ns → slice_get c k ≡ slice_get a k) → Chained c ns ks b
chained_kept a c [] [] b h same = tt
chained_kept a c [] (k ∷ ks) b h same = absurd h
chained_kept a c (n ∷ ns) [] b h same = absurd h
chained_kept a c (n ∷ ns) (k ∷ ks) b h same = (same n.0 (inl refl) ∙ h.0, chained_kept a c ns ks b h.1 (λ j m. same j (inr m)))

-- the topmost number stays where one goes below
pub top_last : (ns : List Node) (n i : Node) → top_of (ns ++ n ∷ []) i ≡ top_of ns n
top_last [] n i = refl
top_last (m ∷ ns) n i = refl

-- a further layer below
pub chained_last : (a : List IR) (ns : List Node) (ks : List Layer) (n i : Node) (k : Layer) → Chained a ns ks n → slice_get a n.0 ≡ Some (node_over k i) → Chained a (ns ++ n ∷ []) (ks ++ k ∷ []) i
chained_last a [] [] n i k h e = (e, tt)
chained_last a [] (j ∷ ks) n i k h e = absurd h
chained_last a (m ∷ ns) [] n i k h e = absurd h
chained_last a (m ∷ ns) (j ∷ ks) n i k h e = (h.0 ∙ ap (λ (x : Node). Some (node_over j x)) (sym (top_last ns n i)), chained_last a ns ks n i k h.1 e)

-- what is known of the layers of sound trees
pub record SoundLayers (ex : List AExpr) (run : List Layer) : Type 0 where
  pub stand : All (λ (n : Node). IsExpr ex n) (layer_roots run)
  pub once : All IsOnce run

-- a tree over a chain of layers, taken apart: what is below, and that it is the layers over it
pub record Under (lp : List IR) (ex : List AExpr) (places : List Node) (run : List Layer) (below : Node) (t : Trees IR) : Type 0 where
  pub tree : Trees IR
  pub stands : StandsOnce plan_shape lp (below ∷ []) tree
  pub plans : bare (plans_of ex t) ≡ linked_in (links_at ex run) (bare (plans_of ex tree))
  pub roots : roots_in t ≡ layer_roots run ++ roots_in tree
  pub differ : AllDiffer places
  pub apart : (k : ℕ) → Among k places → Reaches tree k → ⊥
  pub part : (k : ℕ) → Reaches tree k → Reaches t k
  pub holds : (k : ℕ) → Among k places → Reaches t k
  pub sized : size tree ≤ size t
  pub sound : AllSound ex t → AllSound ex tree × SoundLayers ex run

module _ (lp : List IR) (ex : List AExpr) where
  under_more : (m : Node) (ns : List Node) (k : Layer) (ks : List Layer) (below : Node) (kids : Trees IR) → (Reaches kids m.0 → ⊥) → Under lp ex ns ks below kids → Under lp ex (m ∷ ns) (k ∷ ks) below (more (rose m (node_over k (top_of ns below)) kids) no_roses)
  under_more m ns k ks below kids away u = record {
    tree = u.tree;
    stands = u.stands;
    plans = ap₂ (λ (o : Op) (ts : Roses (Unit {0}) Op). more (rose tt o ts) no_roses) (over_op ex k (top_of ns below)) u.plans;
    roots = ap₂ (λ (a b : List Node). a ++ b) (over_roots k (top_of ns below)) (append-nil (roots_in kids) ∙ u.roots) ∙ sym (append_assoc (expr_nodes (layer_exprs k)) (layer_roots ks) (roots_in u.tree));
    differ = ((λ a. away (u.holds m.0 a)), u.differ);
    apart = λ j a r. elim a as (λ _. ⊥) [ inl e ↦ away (u.part m.0 (subst (Reaches u.tree) e r)) | inr b ↦ u.apart j b r ];
    part = λ j r. inr (inl (u.part j r));
    holds = λ j a. elim a as (λ _. Reaches (more (rose m (node_over k (top_of ns below)) kids) no_roses) j) [ inl e ↦ inl e | inr b ↦ inr (inl (u.holds j b)) ];
    sized = (let s = u.sized in omega (arith, s));
    sound = λ s. (
      (u.sound s.1).0,
      record {
        stand = All-append (λ (n : Node). IsExpr ex n) (expr_nodes (layer_exprs k)) (layer_roots ks) (over_stand ex k (top_of ns below) s.0) (u.sound s.1).1.stand;
        once = All-cons IsOnce k ks (over_once ex k (top_of ns below) s.0) (u.sound s.1).1.once;
      },
    );
  }

  pub under : (ns : List Node) (ks : List Layer) (below n : Node) (t : Trees IR) → Chained lp ns ks below → top_of ns below ≡ n → StandsOnce plan_shape lp (n ∷ []) t → Under lp ex ns ks below t
  under [] [] below n t c e h = record {
    tree = t;
    stands = subst (λ (x : Node). StandsOnce plan_shape lp (x ∷ []) t) (sym e) h;
    plans = refl;
    roots = refl;
    differ = tt;
    apart = λ k a r. a;
    part = λ k r. r;
    holds = λ k a. absurd a;
    sized = omega arith;
    sound = λ s. (s, record { stand = All-nil (λ (n : Node). IsExpr ex n); once = All-nil IsOnce });
  }
  under [] (k ∷ ks) below n t c e h = absurd c
  under (m ∷ ns) [] below n t c e h = absurd c
  under (m ∷ ns) (k ∷ ks) below n t c e h =
      let o = opened plan_shape lp m (node_over k (top_of ns below)) t (subst (λ (x : Node). StandsOnce plan_shape lp (x ∷ []) t) (sym e) h) c.0 in
      let u = under ns ks below (top_of ns below) o.kids c.1 refl (subst (λ (l : List Node). StandsOnce plan_shape lp l o.kids) (over_inputs k (top_of ns below)) o.inputs) in
      subst (λ (x : Trees IR). Under lp ex (m ∷ ns) (k ∷ ks) below x) (sym o.is) (under_more m ns k ks below o.kids o.above u)

-- a chain of layers put over a tree
pub record Over (lp : List IR) (ex : List AExpr) (numbers : List Node) (run : List Layer) (below : Node) (tree : Trees IR) : Type 0 where
  pub whole : Trees IR
  pub stands : StandsOnce plan_shape lp (top_of numbers below ∷ []) whole
  pub plans : bare (plans_of ex whole) ≡ linked_in (links_at ex run) (bare (plans_of ex tree))
  pub roots : roots_in whole ≡ layer_roots run ++ roots_in tree
  pub part : (k : ℕ) → Reaches whole k → Among k numbers ⊎ Reaches tree k

module _ (lp : List IR) (ex : List AExpr) where
  pub over : (ns : List Node) (ks : List Layer) (below : Node) (tree : Trees IR) → Chained lp ns ks below → AllDiffer ns → ((k : ℕ) → Among k ns → Reaches tree k → ⊥) → StandsOnce plan_shape lp (below ∷ []) tree → Over lp ex ns ks below tree
  over [] [] below tree c d apart h = record { whole = tree; stands = h; plans = refl; roots = refl; part = λ k r. inr r }
  over [] (k ∷ ks) below tree c d apart h = absurd c
  over (m ∷ ns) [] below tree c d apart h = absurd c
  over (m ∷ ns) (k ∷ ks) below tree c d apart h =
      let u = over ns ks below tree c.1 d.1 (λ j a r. apart j (inr a) r) h in
      let p = node_over k (top_of ns below) in
      let away : Reaches u.whole m.0 → ⊥ = λ r. elim (u.part m.0 r) as (λ _. ⊥) [ inl a ↦ d.0 a | inr b ↦ apart m.0 (inl refl) b ] in
      record {
        whole = more (rose m p u.whole) no_roses;
        stands = record {
          stands = (refl, c.0, over_fine k (top_of ns below), subst (λ (l : List Node). Stands plan_shape lp l u.whole) (sym (over_inputs k (top_of ns below))) u.stands.stands, tt);
          once = (away, (λ r. r), (λ j a b. b), u.stands.once, tt);
        };
        plans = ap₂ (λ (o : Op) (ts : Roses (Unit {0}) Op). more (rose tt o ts) no_roses) (over_op ex k (top_of ns below)) u.plans;
        roots = ap₂ (λ (a b : List Node). a ++ b) (over_roots k (top_of ns below)) (append-nil (roots_in u.whole) ∙ u.roots) ∙ sym (append_assoc (expr_nodes (layer_exprs k)) (layer_roots ks) (roots_in tree));
        part = λ j r. elim r as (λ _. Among j (m ∷ ns) ⊎ Reaches tree j) [
          | inl e ↦ inl (inl e)
          | inr t ↦ elim t as (λ _. Among j (m ∷ ns) ⊎ Reaches tree j) [
            | inl v ↦ elim (u.part j v) as (λ _. Among j (m ∷ ns) ⊎ Reaches tree j) [ inl a ↦ inl (inr a) | inr b ↦ inr b ]
            | inr w ↦ absurd w
          ]
        ];
      }
