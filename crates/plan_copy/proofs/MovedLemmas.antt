-- Trees whose entries stand in another arena under new numbers.
use Rattle.std.proofs.Common.{◌≡◌, ℕ, List, [], ◌∷◌, ◌++◌, length, map, Option, Some, None, refl, sym, ap, ap₂, ◌∙◌, inl, inr}
use Rattle.std.specs.List.{range_with_len, slice_get}
use Rattle.std.specs.Option.{option_map}
use Rattle.std.proofs.lemmas.List.{map-append}
use Rattle.std.proofs.lemmas.Option.{slice_get-map}
use Rattle.plan_core.specs.declared.arena.Node.{Node}
use Rattle.plan_tree.proofs.Numbers.{entries-items, labels-from_Reaches}
use Rattle.plan_tree.specs.Rose.{Roses, rose, no_roses, more, labels, items, map_roses}
use Rattle.plan_tree.specs.Stands.{Shape, Trees, numbers, Reaches, IsOnce, Stands, StandsOnce}
use Rattle.plan_ir.specs.Moved.{new_number}
use Rattle.plan_copy.proofs.NumberingLemmas.{place_is}

module _ {N M P Q : Type 0} (f : N → M) (g : P → Q) where
  pub labels-map_roses : (t : Roses N P) → labels (map_roses f g t) ≡ map f (labels t)
  labels-map_roses no_roses = refl
  labels-map_roses (more (rose n p kids) rest) =
      ap (λ (l : List M). f n ∷ l) (ap₂ (λ (x y : List M). x ++ y) (labels-map_roses kids) (labels-map_roses rest) ∙ sym (map-append f (labels kids) (labels rest)))

module _ {P : Type 0} (to : Node → Node) (g : P → P) where
  -- the number that a moved number comes from
  record From (f : Trees P) (k : ℕ) : Type 0 where
    node : Node
    reached : Reaches f node.0
    is : k ≡ (to node).0

  from_moved : (f : Trees P) (k : ℕ) → Reaches (map_roses to g f) k → From f k
  from_moved no_roses k r = absurd r
  from_moved (more (rose n p kids) rest) k r =
      elim r as (λ _. From (more (rose n p kids) rest) k) [
        | inl e ↦ record { node = n; reached = inl refl; is = e }
        | inr t ↦ elim t as (λ _. From (more (rose n p kids) rest) k) [
          | inl u ↦ (let a = from_moved kids k u in record { node = a.node; reached = inr (inl a.reached); is = a.is })
          | inr v ↦ (let a = from_moved rest k v in record { node = a.node; reached = inr (inr a.reached); is = a.is })
        ]
      ]

  -- no two numbers of the trees have one new number
  abbrev pub KeepsApart : Trees P → Type 0
  KeepsApart f = (m n : Node) → Reaches f m.0 → Reaches f n.0 → (to m).0 ≡ (to n).0 → m.0 ≡ n.0

  pub IsOnce-moved : (f : Trees P) → IsOnce f → KeepsApart f → IsOnce (map_roses to g f)
  IsOnce-moved no_roses o apart = tt
  IsOnce-moved (more (rose n p kids) rest) o apart = (
    (λ r. let a = from_moved kids (to n).0 r in o.0 (rw (apart n a.node (inl refl) (inr (inl a.reached)) a.is) a.reached)),
    (λ r. let a = from_moved rest (to n).0 r in o.1 (rw (apart n a.node (inl refl) (inr (inr a.reached)) a.is) a.reached)),
    (λ k u v.
        let a = from_moved kids k u in
        let b = from_moved rest k v in
        o.2 b.node.0 (rw (← apart a.node b.node (inr (inl a.reached)) (inr (inr b.reached)) (sym a.is ∙ b.is)) a.reached) b.reached),
    IsOnce-moved kids o.3 (λ m k a b. apart m k (inr (inl a)) (inr (inl b))),
    IsOnce-moved rest o.4 (λ m k a b. apart m k (inr (inr a)) (inr (inr b))),
  )

module _ {P : Type 0} (S : Shape P) (to : Node → Node) (g : P → P) (inputs : (p : P) → S.inputs (g p) ≡ map to (S.inputs p)) (bad : (p : P) → S.bad (g p) ≡ S.bad p) where
  pub Stands-moved : (old new : List P) (ns : List Node) (f : Trees P) → Stands S old ns f → ((n : Node) → Reaches f n.0 → slice_get new (to n).0 ≡ option_map g (slice_get old n.0)) → Stands S new (map to ns) (map_roses to g f)
  Stands-moved old new [] no_roses s there = tt
  Stands-moved old new [] (more (rose n p kids) rest) s there = absurd s
  Stands-moved old new (m ∷ ns) no_roses s there = absurd s
  Stands-moved old new (m ∷ ns) (more (rose n p kids) rest) s there = (
    ap to s.0,
    there m (inl (ap (λ (x : Node). x.0) s.0)) ∙ ap (option_map g) s.1,
    bad p ∙ s.2,
    rw (inputs p) (Stands-moved old new (S.inputs p) kids s.3 (λ k r. there k (inr (inl r)))),
    Stands-moved old new ns rest s.4 (λ k r. there k (inr (inr r))),
  )

module _ {P : Type 0} where
  there : (x y : Option P) → option_map Some x ≡ Some y → x ≡ y
  there None y h = cc
  there (Some x) y h = cc

  -- an entry of a list is that of the numbers at the same place
  entry_at : (old xs : List P) (ns : List Node) (k : ℕ) (n : Node) → map (λ (m : Node). slice_get old m.0) ns ≡ map Some xs → slice_get ns k ≡ Some n → slice_get xs k ≡ slice_get old n.0
  entry_at old xs ns k n e at =
      let left : slice_get (map (λ (m : Node). slice_get old m.0) ns) k ≡ Some (slice_get old n.0) = slice_get-map (λ (m : Node). slice_get old m.0) ns k ∙ ap (option_map (λ (m : Node). slice_get old m.0)) at in
      let right : slice_get (map (λ (x : P). Some x) xs) k ≡ option_map Some (slice_get xs k) = slice_get-map (λ (x : P). Some x) xs k in
      there (slice_get xs k) (slice_get old n.0) (sym right ∙ ap (λ (l : List (Option P)). slice_get l k) (sym e) ∙ left)

-- copies of the entries of trees, in walk order and numbered so, stand over the moved numbers
module _ {P : Type 0} (S : Shape P) (table : List Node) (g : P → P) (inputs : (p : P) → S.inputs (g p) ≡ map (new_number table) (S.inputs p)) (bad : (p : P) → S.bad (g p) ≡ S.bad p) where
  pub StandsOnce-moved : (old : List P) (ns : List Node) (f : Trees P) → StandsOnce S old ns f → numbers (map (new_number table) (labels f)) ≡ range_with_len 0 (length (labels f)) → StandsOnce S (map g (items f)) (map (new_number table) ns) (map_roses (new_number table) g f)
  StandsOnce-moved old ns f h numbered =
      let place : (n : Node) → Reaches f n.0 → slice_get (labels f) (new_number table n).0 ≡ Some n = λ n r. place_is table (labels f) n (labels-from_Reaches f n.0 r) numbered in
      record {
        stands = Stands-moved S (new_number table) g inputs bad old (map g (items f)) ns f h.stands (λ n r.
            slice_get-map g (items f) (new_number table n).0
            ∙ ap (option_map g) (entry_at old (items f) (labels f) (new_number table n).0 n (entries-items S old ns f h.stands) (place n r)));
        once = IsOnce-moved (new_number table) g f h.once (λ m n a b e.
            let u : Some m ≡ Some n = sym (place m a) ∙ ap (slice_get (labels f)) e ∙ place n b in
            cc);
      }
