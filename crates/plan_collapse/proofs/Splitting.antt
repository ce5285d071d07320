-- Minterms that are split one by one: what was split, with those that are left, makes what all make.
use Rattle.std.proofs.Common.{◌≡◌, ◌∙◌, ◌++◌, ◌+◌, ◌-◌, ◌<◌, ◌≤◌, ℕ, zero, suc, Bool, true, false, List, [], ◌∷◌, drop, get_or, length, map, Option, Some, None, option_map, IfNone, IfSome, refl, sym, ap, ap₂, subst, arith, append-nil, append_assoc, length-append}
use Rattle.std.specs.List.Sorted.{IsPermutation}
use Rattle.std.proofs.Math.Dec.{ltb}
use Rattle.std.proofs.lemmas.Bool.{ltb-false, ltb-true}
use Rattle.std.proofs.lemmas.List.{drop_more, map-append}
use Rattle.std.proofs.lemmas.List.Sorted.{IsPermutation-append_right, IsPermutation-cons, IsPermutation-middle, IsPermutation-trans}
use Rattle.plan_core.specs.declared.arena.Node.{Node}
use Rattle.plan_expr.specs.declared.aexpr.AExpr.{AExpr}
use Rattle.plan_expr.specs.Exprs.{Expr, expr_at}
use Rattle.plan_prune_parts.specs.Places.{TakePlace}
use Rattle.plan_prune_parts.proofs.PlaceLemmas.{place_before, place_behind, place_equal, place_trans}
use Rattle.plan_collapse_laws.specs.CrossKeys.{Crossed, KeyPair}
use Rattle.plan_collapse_laws.specs.TakenKeys.{taken, untaken}
use Rattle.plan_collapse.specs.declared.keys.KeyNodes.{KeyNodes}
use Rattle.plan_collapse.specs.declared.split.Split.{Split}
use Rattle.plan_collapse.specs.KeysAt.{IsSplit, both_nodes, pair_at, split_nodes}
use Rattle.plan_collapse.proofs.Places.{place_shuffled}

-- a minterm was added: the keys that it gives, or itself
abbrev pub AddedSome : Split → Split → Option KeyNodes → Type 0
AddedSome old new found = IfSome found (λ (k : KeyNodes). (new.keys ≡ old.keys ++ k ∷ []) × (new.rest ≡ old.rest))

abbrev pub AddedNone : Split → Split → Node → Option KeyNodes → Type 0
AddedNone old new minterm found = IfNone found ((new.keys ≡ old.keys) × (new.rest ≡ old.rest ++ minterm ∷ []))

module _ (ex : List AExpr) (j : Crossed) (f : Expr → Option KeyPair) where
  -- what was split, with what is left to be split
  pub record Splitting (limit : ℕ) (all : List Node) (split : Split) (left : List Node) : Type 0 where
    pub count : length split.keys ≤ limit
    pub keys_are : map (pair_at ex j) split.keys ++ taken (limit - length split.keys) f (map (expr_at ex) left) ≡ taken limit f (map (expr_at ex) all)
    pub rest_are : map (expr_at ex) split.rest ++ untaken (limit - length split.keys) f (map (expr_at ex) left) ≡ untaken limit f (map (expr_at ex) all)

  pub splitting-init : (limit : ℕ) (all : List Node) (split : Split) → split.keys ≡ [] → split.rest ≡ [] → Splitting limit all split all
  splitting-init limit all split ks rs =
      let none : length split.keys ≡ 0 = ap length ks in
      let whole : limit - length split.keys ≡ limit = omega (arith, none) in
      record {
        count = omega (arith, none);
        keys_are = ap₂ (λ (xs : List KeyNodes) (n : ℕ). map (pair_at ex j) xs ++ taken n f (map (expr_at ex) all)) ks whole;
        rest_are = ap₂ (λ (xs : List Node) (n : ℕ). map (expr_at ex) xs ++ untaken n f (map (expr_at ex) all)) rs whole;
      }

  -- the minterm gives keys, and some may be taken
  taken-some : (n : ℕ) (e : Expr) (k : KeyPair) (es : List Expr) → f e ≡ Some k → taken (suc n) f (e ∷ es) ≡ k ∷ taken n f es
  taken-some n e k es is = ap (λ (o : Option KeyPair). elim o as (λ _. List KeyPair) [ None ↦ taken (suc n) f es | Some x ↦ x ∷ taken n f es ]) is

  untaken-some : (n : ℕ) (e : Expr) (k : KeyPair) (es : List Expr) → f e ≡ Some k → untaken (suc n) f (e ∷ es) ≡ untaken n f es
  untaken-some n e k es is = ap (λ (o : Option KeyPair). elim o as (λ _. List Expr) [ None ↦ e ∷ untaken (suc n) f es | Some x ↦ untaken n f es ]) is

  -- it gives none
  taken-none : (n : ℕ) (e : Expr) (es : List Expr) → f e ≡ None → taken n f (e ∷ es) ≡ taken n f es
  taken-none zero e es is = refl
  taken-none (suc n) e es is = ap (λ (o : Option KeyPair). elim o as (λ _. List KeyPair) [ None ↦ taken (suc n) f es | Some x ↦ x ∷ taken n f es ]) is

  untaken-none : (n : ℕ) (e : Expr) (es : List Expr) → f e ≡ None → untaken n f (e ∷ es) ≡ e ∷ untaken n f es
  untaken-none zero e es is = refl
  untaken-none (suc n) e es is = ap (λ (o : Option KeyPair). elim o as (λ _. List Expr) [ None ↦ e ∷ untaken (suc n) f es | Some x ↦ untaken n f es ]) is

  -- no more may be taken
  taken-full : (n : ℕ) (e : Expr) (es : List Expr) → n ≡ 0 → taken n f (e ∷ es) ≡ taken n f es
  taken-full zero e es is = refl
  taken-full (suc n) e es is = absurd (omega (arith, is))

  untaken-full : (n : ℕ) (e : Expr) (es : List Expr) → n ≡ 0 → untaken n f (e ∷ es) ≡ e ∷ untaken n f es
  untaken-full zero e es is = refl
  untaken-full (suc n) e es is = absurd (omega (arith, is))

  module _ (limit : ℕ) (all : List Node) (old new : Split) (m : Node) (left : List Node) (s : Splitting limit all old (m ∷ left)) where
    -- the minterm stays
    stays : (new.keys ≡ old.keys) → (new.rest ≡ old.rest ++ m ∷ []) → taken (limit - length old.keys) f (map (expr_at ex) (m ∷ left)) ≡ taken (limit - length old.keys) f (map (expr_at ex) left) → untaken (limit - length old.keys) f (map (expr_at ex) (m ∷ left)) ≡ expr_at ex m ∷ untaken (limit - length old.keys) f (map (expr_at ex) left) → Splitting limit all new left
    stays ks rs t u =
        let n : ℕ = limit - length old.keys in
        let rest : List Expr = untaken n f (map (expr_at ex) left) in
        record {
          count = (let count = s.count in let same : length new.keys ≡ length old.keys = ap length ks in omega (arith, count, same));
          keys_are = ap (λ (xs : List KeyNodes). map (pair_at ex j) xs ++ taken (limit - length xs) f (map (expr_at ex) left)) ks ∙ ap (λ (xs : List KeyPair). map (pair_at ex j) old.keys ++ xs) (sym t) ∙ s.keys_are;
          rest_are =
              ap₂ (λ (xs : List KeyNodes) (ns : List Node). map (expr_at ex) ns ++ untaken (limit - length xs) f (map (expr_at ex) left)) ks rs
              ∙ ap (λ (es : List Expr). es ++ rest) (map-append (expr_at ex) old.rest (m ∷ []))
              ∙ append_assoc (map (expr_at ex) old.rest) (expr_at ex m ∷ []) rest
              ∙ ap (λ (es : List Expr). map (expr_at ex) old.rest ++ es) (sym u)
              ∙ s.rest_are;
        }

    -- its keys are taken
    goes : (k : KeyNodes) → (new.keys ≡ old.keys ++ k ∷ []) → (new.rest ≡ old.rest) → length old.keys < limit → f (expr_at ex m) ≡ Some (pair_at ex j k) → Splitting limit all new left
    goes k ks rs room is =
        let n : ℕ = limit - length new.keys in
        let long : length new.keys ≡ length old.keys + 1 = ap length ks ∙ length-append old.keys (k ∷ []) in
        let up : limit - length old.keys ≡ suc n = omega (arith, room, long) in
        let keys : List KeyPair = taken n f (map (expr_at ex) left) in
        record {
          count = omega (arith, room, long);
          keys_are =
              ap (λ (xs : List KeyNodes). map (pair_at ex j) xs ++ keys) ks
              ∙ ap (λ (xs : List KeyPair). xs ++ keys) (map-append (pair_at ex j) old.keys (k ∷ []))
              ∙ append_assoc (map (pair_at ex j) old.keys) (pair_at ex j k ∷ []) keys
              ∙ ap (λ (xs : List KeyPair). map (pair_at ex j) old.keys ++ xs) (sym (ap (λ (i : ℕ). taken i f (map (expr_at ex) (m ∷ left))) up ∙ taken-some n (expr_at ex m) (pair_at ex j k) (map (expr_at ex) left) is))
              ∙ s.keys_are;
          rest_are =
              ap (λ (ns : List Node). map (expr_at ex) ns ++ untaken n f (map (expr_at ex) left)) rs
              ∙ ap (λ (es : List Expr). map (expr_at ex) old.rest ++ es) (sym (ap (λ (i : ℕ). untaken i f (map (expr_at ex) (m ∷ left))) up ∙ untaken-some n (expr_at ex m) (pair_at ex j k) (map (expr_at ex) left) is))
              ∙ s.rest_are;
        }

    -- some may be taken
    pub splitting-open : (found : Option KeyNodes) → AddedSome old new found → AddedNone old new m found → length old.keys < limit → option_map (pair_at ex j) found ≡ f (expr_at ex m) → Splitting limit all new left
    splitting-open None some none room is = stays none.0 none.1 (taken-none (limit - length old.keys) (expr_at ex m) (map (expr_at ex) left) (sym is)) (untaken-none (limit - length old.keys) (expr_at ex m) (map (expr_at ex) left) (sym is))
    splitting-open (Some k) some none room is = goes k some.0 some.1 room (sym is)

    -- no more may be taken
    pub splitting-full : (found : Option KeyNodes) → AddedNone old new m found → limit ≤ length old.keys → found ≡ None → Splitting limit all new left
    splitting-full None none full is =
        let over : limit - length old.keys ≡ 0 = omega (arith, full) in
        stays none.0 none.1 (taken-full (limit - length old.keys) (expr_at ex m) (map (expr_at ex) left) over) (untaken-full (limit - length old.keys) (expr_at ex m) (map (expr_at ex) left) over)
    splitting-full (Some k) none full is = cc

    -- keys are wanted while some may be taken
    pub splitting-by : (found : Option KeyNodes) → AddedSome old new found → AddedNone old new m found → (n : ℕ) → n ≡ length old.keys → (ltb n limit ≡ true → option_map (pair_at ex j) found ≡ f (expr_at ex m)) → (ltb n limit ≡ false → found ≡ None) → Splitting limit all new left
    splitting-by found some none n is open_case full_case = at (ltb n limit) refl
      where
        at : (b : Bool) → ltb n limit ≡ b → Splitting limit all new left
        at true e = (let room = ltb-true n limit e in splitting-open found some none (omega (arith, room, is)) (open_case e))
        at false e = (let full = ltb-false n limit e in splitting-full found none (omega (arith, full, is)) (full_case e))

  no-taken : (n : ℕ) → taken n f [] ≡ []
  no-taken zero = refl
  no-taken (suc n) = refl

  no-untaken : (n : ℕ) → untaken n f [] ≡ []
  no-untaken zero = refl
  no-untaken (suc n) = refl

  pub splitting-end : (limit : ℕ) (all : List Node) (split : Split) (left : List Node) → left ≡ [] → Splitting limit all split left → IsSplit ex j limit f all split
  splitting-end limit all split left is s =
      let n : ℕ = limit - length split.keys in (
        sym (append-nil (map (pair_at ex j) split.keys)) ∙ ap (λ (xs : List KeyPair). map (pair_at ex j) split.keys ++ xs) (sym (ap (λ (ns : List Node). taken n f (map (expr_at ex) ns)) is ∙ no-taken n)) ∙ s.keys_are,
        sym (append-nil (map (expr_at ex) split.rest)) ∙ ap (λ (es : List Expr). map (expr_at ex) split.rest ++ es) (sym (ap (λ (ns : List Node). untaken n f (map (expr_at ex) ns)) is ∙ no-untaken n)) ∙ s.rest_are,
      )

-- what is left from a place on, and at the end
pub left-next : (ms : List Node) (i : ℕ) (d : Node) (P : List Node → Type 0) → i < length ms → P (drop i ms) → P (get_or ms i d ∷ drop (i + 1) ms)
left-next ms i d P lt h = subst P (drop_more ms i d lt) h

-- what is split and what is left stand in the place of all
abbrev pub Placed : List AExpr → List Node → Split → List Node → Type 0
Placed ex all split left = TakePlace ex ex (split_nodes split ++ left) all

module _ (ex : List AExpr) (all : List Node) where
  pub placed-init : (split : Split) → split.keys ≡ [] → split.rest ≡ [] → Placed ex all split all
  placed-init split ks rs = place_equal ex (split_nodes split ++ all) all (ap₂ (λ (xs : List KeyNodes) (ns : List Node). (map (λ (k : KeyNodes). k.left) xs ++ (map (λ (k : KeyNodes). k.right) xs ++ ns)) ++ all) ks rs)

  pub placed-end : (split : Split) (left : List Node) → left ≡ [] → Placed ex all split left → TakePlace ex ex (split_nodes split) all
  placed-end split left is h = subst (λ (ns : List Node). TakePlace ex ex ns all) (ap (λ (ns : List Node). split_nodes split ++ ns) is ∙ append-nil (split_nodes split)) h

  module _ (old new : Split) (m : Node) (left : List Node) (h : Placed ex all old (m ∷ left)) where
    abbrev lefts : List Node
    lefts = map (λ (k : KeyNodes). k.left) old.keys

    abbrev rights : List Node
    rights = map (λ (k : KeyNodes). k.right) old.keys

    -- three lists and more, one after another
    flat : (a b c d : List Node) → (a ++ (b ++ c)) ++ d ≡ a ++ (b ++ (c ++ d))
    flat a b c d = append_assoc a (b ++ c) d ∙ ap (λ (ns : List Node). a ++ ns) (append_assoc b c d)

    placed-other : new.keys ≡ old.keys → new.rest ≡ old.rest ++ m ∷ [] → Placed ex all new left
    placed-other ks rs = subst (λ (ns : List Node). TakePlace ex ex ns all) (sym is) h
      where
        is : split_nodes new ++ left ≡ split_nodes old ++ (m ∷ left)
        is =
            ap₂ (λ (xs : List KeyNodes) (ns : List Node). (map (λ (k : KeyNodes). k.left) xs ++ (map (λ (k : KeyNodes). k.right) xs ++ ns)) ++ left) ks rs
            ∙ flat lefts rights (old.rest ++ m ∷ []) left
            ∙ ap (λ (ns : List Node). lefts ++ (rights ++ ns)) (append_assoc old.rest (m ∷ []) left)
            ∙ sym (flat lefts rights old.rest (m ∷ left))

    placed-keys : (k : KeyNodes) → new.keys ≡ old.keys ++ k ∷ [] → new.rest ≡ old.rest → TakePlace ex ex (both_nodes k) (m ∷ []) → Placed ex all new left
    placed-keys k ks rs p =
        place_trans ex ex ex (split_nodes new ++ left) (split_nodes old ++ (m ∷ left)) all
        (place_trans ex ex ex (split_nodes new ++ left) (split_nodes old ++ (k.left ∷ k.right ∷ left)) (split_nodes old ++ (m ∷ left))
        (place_shuffled ex (split_nodes new ++ left) (split_nodes old ++ (k.left ∷ k.right ∷ left)) (subst (λ (ns : List Node). IsPermutation (split_nodes old ++ (k.left ∷ k.right ∷ left)) ns) (sym is) moved))
        (place_behind ex ex (split_nodes old) (k.left ∷ k.right ∷ left) (m ∷ left) (place_before ex ex left (both_nodes k) (m ∷ []) p)))
        h
      where
        is : split_nodes new ++ left ≡ lefts ++ (k.left ∷ (rights ++ (k.right ∷ (old.rest ++ left))))
        is =
            ap₂ (λ (xs : List KeyNodes) (ns : List Node). (map (λ (x : KeyNodes). x.left) xs ++ (map (λ (x : KeyNodes). x.right) xs ++ ns)) ++ left) ks rs
            ∙ ap₂ (λ (a b : List Node). (a ++ (b ++ old.rest)) ++ left) (map-append (λ (x : KeyNodes). x.left) old.keys (k ∷ [])) (map-append (λ (x : KeyNodes). x.right) old.keys (k ∷ []))
            ∙ flat (lefts ++ k.left ∷ []) (rights ++ k.right ∷ []) old.rest left
            ∙ append_assoc lefts (k.left ∷ []) ((rights ++ k.right ∷ []) ++ (old.rest ++ left))
            ∙ ap (λ (ns : List Node). lefts ++ (k.left ∷ ns)) (append_assoc rights (k.right ∷ []) (old.rest ++ left))

        inner : IsPermutation (rights ++ (old.rest ++ (k.right ∷ left))) (rights ++ (k.right ∷ (old.rest ++ left)))
        inner = IsPermutation-append_right rights (old.rest ++ (k.right ∷ left)) (k.right ∷ (old.rest ++ left)) (IsPermutation-middle old.rest k.right left)

        outer : IsPermutation (rights ++ (old.rest ++ (k.left ∷ k.right ∷ left))) (k.left ∷ (rights ++ (old.rest ++ (k.right ∷ left))))
        outer = subst (λ (ns : List Node). IsPermutation (rights ++ (old.rest ++ (k.left ∷ k.right ∷ left))) (k.left ∷ ns)) (append_assoc rights old.rest (k.right ∷ left))
            (subst (λ (ns : List Node). IsPermutation ns (k.left ∷ ((rights ++ old.rest) ++ (k.right ∷ left)))) (append_assoc rights old.rest (k.left ∷ k.right ∷ left)) (IsPermutation-middle (rights ++ old.rest) k.left (k.right ∷ left)))

        moved : IsPermutation (split_nodes old ++ (k.left ∷ k.right ∷ left)) (lefts ++ (k.left ∷ (rights ++ (k.right ∷ (old.rest ++ left)))))
        moved = subst (λ (ns : List Node). IsPermutation ns (lefts ++ (k.left ∷ (rights ++ (k.right ∷ (old.rest ++ left)))))) (sym (flat lefts rights old.rest (k.left ∷ k.right ∷ left)))
            (IsPermutation-append_right lefts (rights ++ (old.rest ++ (k.left ∷ k.right ∷ left))) (k.left ∷ (rights ++ (k.right ∷ (old.rest ++ left))))
            (IsPermutation-trans (rights ++ (old.rest ++ (k.left ∷ k.right ∷ left))) (k.left ∷ (rights ++ (old.rest ++ (k.right ∷ left)))) (k.left ∷ (rights ++ (k.right ∷ (old.rest ++ left)))) outer
            (IsPermutation-cons k.left (rights ++ (old.rest ++ (k.right ∷ left))) (rights ++ (k.right ∷ (old.rest ++ left))) inner)))

    pub placed-next : (found : Option KeyNodes) → AddedSome old new found → AddedNone old new m found → IfSome found (λ (k : KeyNodes). TakePlace ex ex (both_nodes k) (m ∷ [])) → Placed ex all new left
    placed-next None some none p = placed-other none.0 none.1
    placed-next (Some k) some none p = placed-keys k some.0 some.1 p

-- at most one pair of keys is added
pub split-grows : (old new : Split) (m : Node) (found : Option KeyNodes) → AddedSome old new found → AddedNone old new m found → length new.keys ≤ length old.keys + 1
split-grows old new m None some none = (let same : length new.keys ≡ length old.keys = ap length none.0 in omega (arith, same))
split-grows old new m (Some k) some none = (let same : length new.keys ≡ length old.keys + 1 = ap length some.0 ∙ length-append old.keys (k ∷ []) in omega (arith, same))
