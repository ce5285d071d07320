-- A run of additions taken out layer by layer, and a run put back layer by layer.
use Rattle.std.proofs.Common.{◌≡◌, ◌∙◌, ◌++◌, ◌<◌, ◌≤◌, ◌⊎◌, ℕ, zero, suc, All, false, List, [], ◌∷◌, append-nil, append_assoc, arith, drop, length, length-append, length-set, Option, Some, None, inl, inr, refl, sym, ap, subst}
use Rattle.std.specs.List.{slice_get, slice_set}
use Rattle.std.proofs.lemmas.List.Elements.{All-head, All-tail}
use Rattle.plan_core.specs.declared.arena.Node.{Node}
use Rattle.plan_tree.specs.Rose.{rose, no_roses, more}
use Rattle.plan_tree.specs.Stands.{Reaches, StandsOnce, Trees}
use Rattle.plan_tree.proofs.Frames.{slice_get-append, slice_get-append_last, slice_get-set_other, slice_get-set_same}
use Rattle.plan_tree.proofs.Numbers.{Reaches-within}
use Rattle.plan_tree.proofs.TreeLemmas.{height-falls, height_at}
use Rattle.plan_ir.specs.declared.ir.IR.{IR}
use Rattle.plan_ir.specs.Parts.{plan_shape}
use Rattle.plan_meaning.specs.Checks.{is_empty}
use Rattle.plan_cluster.specs.declared.layer.Layer.{Layer}
use Rattle.plan_cluster.specs.declared.layer.Layer.TheVariants.{Adds, Projects}
use Rattle.plan_cluster.specs.Chains.{AllDiffer, Among, AreAdds, Chained, PutBack, PutOne, TakenOne, TakenOut, node_over, top_of}
use Rattle.plan_cluster.proofs.Nodes.{over_inputs}
use Rattle.plan_cluster.proofs.Chained.{chained_kept, chained_last, top_last, under}

-- an entry that is put back
pub put_again : {X : Type 0} (xs : List X) (i : ℕ) (d p : X) → slice_get xs i ≡ Some p → slice_set (slice_set xs i d) i p ≡ xs
put_again [] i d p e = refl
put_again (x ∷ xs) zero d p e = let q : p ≡ x = cc in ap (λ (y : _). y ∷ xs) q
put_again (x ∷ xs) (suc i) d p e = ap (λ (ys : List _). x ∷ ys) (put_again xs i d p e)

-- what isn't there is none
pub none_if : {X : Type 0} (o : Option X) → ((x : X) → o ≡ Some x → ⊥) → o ≡ None
none_if None h = refl
none_if (Some x) h = absurd (h x refl)

-- numbers of a list

among_left : (k : ℕ) (ns ms : List Node) → Among k ns → Among k (ns ++ ms)
among_left k [] ms a = absurd a
among_left k (n ∷ ns) ms (inl e) = inl e
among_left k (n ∷ ns) ms (inr a) = inr (among_left k ns ms a)

among_last : (n : Node) (ns : List Node) → Among n.0 (ns ++ n ∷ [])
among_last n [] = inl refl
among_last n (m ∷ ns) = inr (among_last n ns)

among_at : (ns : List Node) (i : ℕ) (n : Node) → slice_get ns i ≡ Some n → Among n.0 ns
among_at [] i n e = cc
among_at (m ∷ ns) zero n e = let q : n ≡ m = cc in inl (ap (λ (x : Node). x.0) q)
among_at (m ∷ ns) (suc i) n e = inr (among_at ns i n e)

drop_at : (ns : List Node) (i : ℕ) (n : Node) → slice_get ns i ≡ Some n → drop i ns ≡ n ∷ drop (suc i) ns
drop_at [] i n e = cc
drop_at (m ∷ ns) zero n e = let q : n ≡ m = cc in ap (λ (x : Node). x ∷ ns) (sym q)
drop_at (m ∷ ns) (suc i) n e = drop_at ns i n e

drop_past : (ns : List Node) (i : ℕ) → slice_get ns i ≡ None → drop (suc i) ns ≡ []
drop_past [] i e = refl
drop_past (m ∷ ns) zero e = cc
drop_past (m ∷ ns) (suc i) e = drop_past ns i e

differ_drop : (ns : List Node) (i : ℕ) → AllDiffer ns → AllDiffer (drop i ns)
differ_drop ns zero d = d
differ_drop [] (suc i) d = tt
differ_drop (n ∷ ns) (suc i) d = differ_drop ns i d.1

among_drop : (k : ℕ) (ns : List Node) (i : ℕ) → Among k (drop i ns) → Among k ns
among_drop k ns zero a = a
among_drop k [] (suc i) a = a
among_drop k (n ∷ ns) (suc i) a = inr (among_drop k ns i a)

low_at : (b : ℕ) (ns : List Node) (i : ℕ) (n : Node) → All (λ (m : Node). m.0 < b) ns → slice_get ns i ≡ Some n → n.0 < b
low_at b [] i n h e = cc
low_at b (m ∷ ns) zero n h e = let q : n ≡ m = cc in subst (λ (x : Node). x.0 < b) (sym q) (All-head (λ (x : Node). x.0 < b) m ns h)
low_at b (m ∷ ns) (suc i) n h e = low_at b ns i n (All-tail (λ (x : Node). x.0 < b) m ns h) e

-- the run taken so far

pub record Taking (old now : List IR) (node : Node) (places : List Node) (run : List Layer) (below : Node) : Type 0 where
  pub chained : Chained old places run below
  pub first : top_of places below ≡ node
  pub adds : AreAdds run
  pub long : length now ≡ length old
  pub same : (k : ℕ) → (Among k places → ⊥) → slice_get now k ≡ slice_get old k

pub taking_first : (old : List IR) (node : Node) (places : List Node) (run : List Layer) → run ≡ [] → places ≡ [] → Taking old old node places run node
taking_first old node places run a b = subst (λ (ks : List Layer). Taking old old node places ks node) (sym a) (subst (λ (ns : List Node). Taking old old node ns [] node) (sym b) (record { chained = tt; first = refl; adds = tt; long = refl; same = λ k away. refl }))

adds_last : (ks ls : List Layer) → AreAdds ks → AreAdds ls → AreAdds (ks ++ ls)
adds_last [] ls a b = b
adds_last (Adds x ∷ ks) ls a b = adds_last ks ls a b
adds_last (Projects x ∷ ks) ls a b = absurd a

module _ (old now : List IR) (node : Node) (stands : (t : Trees IR) × StandsOnce plan_shape old (node ∷ []) t) (places : List Node) (run : List Layer) (below : Node) (x : Taking old now node places run below) where
  -- a tree stands below what was taken
  below_stands : (t : Trees IR) × StandsOnce plan_shape old (below ∷ []) t
  below_stands = let u = under old [] places run below node stands.0 x.chained x.first stands.1 in (u.tree, u.stands)

  pub taking_low : below.0 < length now
  taking_low = (let lt : below.0 < length old = low below_stands in omega (arith, lt, x.long))
    where
      low : (t : Trees IR) × StandsOnce plan_shape old (below ∷ []) t → below.0 < length old
      low (no_roses, h) = absurd h.stands
      low (more (rose m p kids) rest, h) = Reaches-within plan_shape old (below ∷ []) (more (rose m p kids) rest) below.0 h.stands (inl (ap (λ (n : Node). n.0) h.stands.0))

  -- and it is as it was
  taking_same : slice_get now below.0 ≡ slice_get old below.0
  taking_same =
      let u = under old [] places run below node stands.0 x.chained x.first stands.1 in
      x.same below.0 (λ a. u.apart below.0 a (top u.tree u.stands))
    where
      top : (t : Trees IR) → StandsOnce plan_shape old (below ∷ []) t → Reaches t below.0
      top no_roses h = absurd h.stands
      top (more (rose m p kids) rest) h = inl (ap (λ (n : Node). n.0) h.stands.0)

  module _ (new : List IR) (p : IR) (here : slice_get now below.0 ≡ Some p) where
    pub taking_end : (after : List Layer) → TakenOne now new below p run after None → TakenOut old new node places after below
    taking_end after h = subst (λ (ks : List Layer). TakenOut old new node places ks below) (sym h.2) (subst (λ (l : List IR). TakenOut old l node places run below) (sym h.1) (record {
      chained = x.chained;
      first = x.first;
      adds = x.adds;
      ends = (p, sym taking_same ∙ here, h.0);
      long = x.long;
      same = x.same;
    }))

    module _ (after : List Layer) (input : Node) (h : TakenOne now new below p run after (Some input)) where
      entry : slice_get old below.0 ≡ Some (node_over h.0 input)
      entry = sym taking_same ∙ here ∙ ap Some h.2

      pub taking_falls : height_at plan_shape old input < height_at plan_shape old below
      taking_falls = height-falls plan_shape old below input (node_over h.0 input) below_stands.0 0 below_stands.1 entry (ap (λ (l : List Node). slice_get l 0) (over_inputs h.0 input))

      pub taking_next : Taking old new node (places ++ below ∷ []) after input
      taking_next = subst (λ (ks : List Layer). Taking old new node (places ++ below ∷ []) ks input) (sym h.4) (record {
        chained = chained_last old places run below input h.0 x.chained entry;
        first = top_last places below input ∙ x.first;
        adds = adds_last run (h.0 ∷ []) x.adds h.3;
        long = ap length h.5 ∙ length-set now below.0 h.1 ∙ x.long;
        same = λ k away. ap (λ (l : List IR). slice_get l k) h.5 ∙ slice_get-set_other plan_shape now below.0 k h.1 (λ e. away (subst (λ (j : ℕ). Among j (places ++ below ∷ [])) (sym e) (among_last below places))) ∙ x.same k (λ a. away (among_left k places (below ∷ []) a));
      })

-- the run put back so far, from below

pub record Putting (old now : List IR) (places : List Node) (all ks : List Layer) (below top : Node) : Type 0 where
  pub done : List Layer
  pub split : all ≡ ks ++ done
  pub numbers : List Node
  pub chained : Chained now numbers done below
  pub is_top : top ≡ top_of numbers below
  pub first : is_empty done ≡ false → (n : Node) → slice_get places (length ks) ≡ Some n → top_of numbers below ≡ n
  pub differ : AllDiffer numbers
  pub within : (k : ℕ) → Among k numbers → Among k (drop (length ks) places) ⊎ ((length old ≤ k) × (k < length now))
  pub grows : length old ≤ length now
  pub same : (k : ℕ) → k < length old → (Among k places → ⊥) → slice_get now k ≡ slice_get old k

pub putting_first : (old : List IR) (places : List Node) (all : List Layer) (below : Node) → Putting old old places all all below below
putting_first old places all below = record {
  done = [];
  split = sym (append-nil all);
  numbers = [];
  chained = tt;
  is_top = refl;
  first = λ e n h. let q : e ≡ e = refl in cc;
  differ = tt;
  within = λ k a. absurd a;
  grows = omega arith;
  same = λ k l a. refl;
}

pub putting_end : (old now : List IR) (places : List Node) (all ks : List Layer) (below top : Node) → length ks ≡ 0 → Putting old now places all ks below top → PutBack old now places all below
putting_end old now places all [] below top e x = subst (λ (l : List Layer). PutBack old now places l below) (sym x.split) (record {
  numbers = x.numbers;
  chained = x.chained;
  first = x.first;
  differ = x.differ;
  within = x.within;
  grows = x.grows;
  same = x.same;
})
putting_end old now places all (k ∷ ks) below top e x = absurd (omega (arith, e))

module _ (old now new : List IR) (places : List Node) (all ks : List Layer) (k : Layer) (below top n : Node) (entry : IR) (low : All (λ (m : Node). m.0 < length old) places) (apart : AllDiffer places) (is : entry ≡ node_over k top) (x : Putting old now places all (ks ++ k ∷ []) below top) where
  long : length (ks ++ k ∷ []) ≡ suc (length ks)
  long = (let e = length-append ks (k ∷ []) in omega (arith, e))

  over_done : entry ≡ node_over k (top_of x.numbers below)
  over_done = is ∙ ap (node_over k) x.is_top

  now_split : all ≡ ks ++ (k ∷ x.done)
  now_split = x.split ∙ append_assoc ks (k ∷ []) x.done

  -- the numbers of what was put are further ones, or new
  further : (j : ℕ) → Among j x.numbers → Among j (drop (suc (length ks)) places) ⊎ ((length old ≤ j) × (j < length now))
  further j a = subst (λ (i : ℕ). Among j (drop i places) ⊎ ((length old ≤ j) × (j < length now))) long (x.within j a)

  put_there : (m : Node) → slice_get places (length ks) ≡ Some m → n ≡ m → new ≡ slice_set now m.0 entry → Putting old new places all ks below n
  put_there m here same_number placed =
      let at : drop (length ks) places ≡ m ∷ drop (suc (length ks)) places = drop_at places (length ks) m here in
      let lt : m.0 < length old = low_at (length old) places (length ks) m low here in
      let others : AllDiffer (m ∷ drop (suc (length ks)) places) = subst (λ (l : List Node). AllDiffer l) at (differ_drop places (length ks) apart) in
      let away : Among m.0 x.numbers → ⊥ = λ a. elim (further m.0 a) as (λ _. ⊥) [ inl b ↦ others.0 b | inr h ↦ absurd (omega (arith, h.0, lt)) ] in
      let grown : length new ≡ length now = ap length placed ∙ length-set now m.0 entry in
      let stays : (j : ℕ) → (j ≡ m.0 → ⊥) → slice_get new j ≡ slice_get now j = λ j ne. ap (λ (l : List IR). slice_get l j) placed ∙ slice_get-set_other plan_shape now m.0 j entry ne in
      record {
        done = k ∷ x.done;
        split = now_split;
        numbers = m ∷ x.numbers;
        chained = (
          ap (λ (l : List IR). slice_get l m.0) placed ∙ slice_get-set_same plan_shape now m.0 entry (omega (arith, lt, x.grows)) ∙ ap Some over_done,
          chained_kept now new x.numbers x.done below x.chained (λ j a. stays j (λ e. away (subst (λ (i : ℕ). Among i x.numbers) e a))),
        );
        is_top = same_number;
        first = λ e u h. (let q : u ≡ m = cc in sym q);
        differ = (away, x.differ);
        within = λ j a. elim a as (λ _. Among j (drop (length ks) places) ⊎ ((length old ≤ j) × (j < length new))) [
          | inl e ↦ inl (subst (λ (l : List Node). Among j l) (sym at) (inl e))
          | inr b ↦ elim (further j b) as (λ _. Among j (drop (length ks) places) ⊎ ((length old ≤ j) × (j < length new))) [
            | inl c ↦ inl (subst (λ (l : List Node). Among j l) (sym at) (inr c))
            | inr h ↦ inr (h.0, omega (arith, h.1, grown))
          ]
        ];
        grows = omega (arith, x.grows, grown);
        same = λ j l a. stays j (λ e. a (subst (λ (i : ℕ). Among i places) (sym e) (among_at places (length ks) m here))) ∙ x.same j l a;
      }

  put_last : slice_get places (length ks) ≡ None → n.0 ≡ length now → new ≡ now ++ entry ∷ [] → Putting old new places all ks below n
  put_last none at_end placed =
      let past : drop (suc (length ks)) places ≡ [] = drop_past places (length ks) none in
      let grown : length new ≡ suc (length now) = (let e = ap length placed in let f = length-append now (entry ∷ []) in omega (arith, e, f)) in
      let lower : (j : ℕ) → Among j x.numbers → (length old ≤ j) × (j < length now) = λ j a. elim (further j a) as (λ _. (length old ≤ j) × (j < length now)) [ inl b ↦ absurd (subst (λ (l : List Node). Among j l) past b) | inr h ↦ h ] in
      let stays : (j : ℕ) → j < length now → slice_get new j ≡ slice_get now j = λ j lt. ap (λ (l : List IR). slice_get l j) placed ∙ slice_get-append plan_shape now (entry ∷ []) j lt in
      record {
        done = k ∷ x.done;
        split = now_split;
        numbers = n ∷ x.numbers;
        chained = (
          ap (λ (l : List IR). slice_get l n.0) placed ∙ ap (λ (j : ℕ). slice_get (now ++ entry ∷ []) j) at_end ∙ slice_get-append_last plan_shape now entry ∙ ap Some over_done,
          chained_kept now new x.numbers x.done below x.chained (λ j a. stays j (lower j a).1),
        );
        is_top = refl;
        first = λ e u h. cc;
        differ = ((λ a. (let h = lower n.0 a in absurd (omega (arith, h.1, at_end)))), x.differ);
        within = λ j a. elim a as (λ _. Among j (drop (length ks) places) ⊎ ((length old ≤ j) × (j < length new))) [
          | inl e ↦ inr (omega (arith, e, at_end, x.grows), omega (arith, e, at_end, grown))
          | inr b ↦ inr ((lower j b).0, (let h = lower j b in omega (arith, h.1, grown)))
        ];
        grows = omega (arith, x.grows, grown);
        same = λ j l a. stays j (omega (arith, l, x.grows)) ∙ x.same j l a;
      }

  pub putting_next : (o : Option Node) → slice_get places (length ks) ≡ o → PutOne now new o n entry → Putting old new places all ks below n
  putting_next None e h = put_last e h.0 h.1
  putting_next (Some m) e h = put_there m e h.0 h.1
