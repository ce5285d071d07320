-- A run that was taken out, brought to rest and put back.
use Rattle.std.proofs.Common.{◌≡◌, ◌∙◌, ◌<◌, ◌≤◌, ◌⊎◌, ℕ, All, false, true, List, [], ◌∷◌, arith, length, Some, inl, inr, refl, sym, ap}
use Rattle.std.specs.List.{slice_get}
use Rattle.std.proofs.lemmas.List.Elements.{All-cons, All-nil}
use Rattle.plan_core.specs.declared.arena.Node.{Node}
use Rattle.plan_tree.specs.Stands.{StandsOnce, Trees}
use Rattle.plan_tree.proofs.Numbers.{Reaches-within}
use Rattle.plan_expr.specs.declared.aexpr.AExpr.{AExpr}
use Rattle.plan_ir.specs.declared.ir.IR.{IR}
use Rattle.plan_ir.specs.Parts.{plan_shape}
use Rattle.plan_meaning.specs.Checks.{is_empty}
use Rattle.plan_collapse_laws.specs.Runs.{rested}
use Rattle.plan_collapse_laws.proofs.Links.{rested_some, rested_still}
use Rattle.plan_cluster.specs.declared.layer.Layer.{Layer}
use Rattle.plan_cluster.specs.Layers.{layer_roots, links_at}
use Rattle.plan_cluster.specs.Looks.{ArePart}
use Rattle.plan_cluster.specs.Chains.{AllDiffer, Among, Chained, PutBack, Settled, TakenOut, top_of}
use Rattle.plan_cluster.specs.Sound.{AllSound}
use Rattle.plan_cluster.proofs.Chained.{SoundLayers, under}

all_low : (b : ℕ) (ns : List Node) → ((k : ℕ) → Among k ns → k < b) → All (λ (n : Node). n.0 < b) ns
all_low b [] h = All-nil (λ (n : Node). n.0 < b)
all_low b (n ∷ ns) h = All-cons (λ (m : Node). m.0 < b) n ns (h n.0 (inl refl)) (all_low b ns (λ k a. h k (inr a)))

some_links : (ex : List AExpr) (ks : List Layer) → is_empty (links_at ex ks) ≡ is_empty ks
some_links ex [] = refl
some_links ex (k ∷ ks) = refl

module _ (old mid : List IR) (ex : List AExpr) (node below : Node) (stands : (t : Trees IR) × StandsOnce plan_shape old (node ∷ []) t × AllSound ex t) (places : List Node) (before : List Layer) (x : TakenOut old mid node places before below) where
  taken : (k : ℕ) → Among k places → k < length mid
  taken k a =
      let u = under old ex places before below node stands.0 x.chained x.first stands.1 in
      let lt : k < length old = Reaches-within plan_shape old (node ∷ []) stands.0 k stands.1.stands (u.holds k a) in
      omega (arith, lt, x.long)

  pub places_low : All (λ (n : Node). n.0 < length mid) places
  places_low = all_low (length mid) places taken

  pub places_differ : AllDiffer places
  places_differ = let u = under old ex places before below node stands.0 x.chained x.first stands.1 in u.differ

  pub layers_sound : SoundLayers ex before
  layers_sound = let u = under old ex places before below node stands.0 x.chained x.first stands.1 in (u.sound stands.2).1

  module _ (new : List IR) (after : List Layer) (is : links_at ex after ≡ rested (links_at ex before)) (roots : ArePart (layer_roots before) (layer_roots after)) (y : PutBack mid new places after below) where
    topmost : (ns ms : List Node) (ks ls : List Layer) → Chained old ns ks below → Chained new ms ls below → top_of ns below ≡ node → links_at ex ls ≡ rested (links_at ex ks) → (is_empty ls ≡ false → (n : Node) → slice_get ns 0 ≡ Some n → top_of ms below ≡ n) → top_of ms below ≡ node
    topmost [] ms (k ∷ ks) ls a b e same first = absurd a
    topmost (n ∷ ns) ms [] ls a b e same first = absurd a
    topmost (n ∷ ns) ms (k ∷ ks) ls a b e same first = first (sym (some_links ex ls) ∙ ap is_empty same ∙ rested_some (links_at ex (k ∷ ks)) refl) n refl ∙ e
    topmost [] [] [] ls a b e same first = e
    topmost [] (m ∷ ms) [] [] a b e same first = absurd b
    topmost [] (m ∷ ms) [] (l ∷ ls) a b e same first = let q : false ≡ true = ap is_empty (same ∙ rested_still [] refl) in cc

    pub settled : Settled old new ex node below
    settled = record {
      places = places;
      before = before;
      was = x.chained;
      was_first = x.first;
      adds = x.adds;
      ends = x.ends;
      numbers = y.numbers;
      after = after;
      is = y.chained;
      is_first = topmost places y.numbers before after x.chained y.chained x.first is y.first;
      differ = y.differ;
      within = λ k a. elim (y.within k a) as (λ _. Among k places ⊎ ((length old ≤ k) × (k < length new))) [ inl b ↦ inl b | inr h ↦ inr (omega (arith, h.0, x.long), h.1) ];
      grows = omega (arith, x.long, y.grows);
      same = λ k l a. y.same k (omega (arith, l, x.long)) a ∙ x.same k a;
      rested = is;
      roots = roots;
    }
