-- Links over plans, and a look at each pair of a run: it is what meets, and what it makes is lighter.
use Rattle.std.proofs.Common.{◌≡◌, ◌∙◌, ◌++◌, ◌+◌, ◌-◌, ◌<◌, ◌≤◌, Bool, true, false, cond, List, [], ◌∷◌, Option, Some, None, refl, sym, ap, subst, ◌⊎◌, inl, inr, ℕ, zero, suc, arith}
use Rattle.plan_tree.specs.Rose.{Roses, rose, no_roses, more}
use Rattle.plan_ir.specs.Plans.{Op, hstack, simple_projection, Plan}
use Rattle.plan_meaning.specs.Checks.{is_empty}
use Rattle.plan_meaning.specs.PlanAt.{one_plan}
use Rattle.plan_collapse_laws.specs.Additions.{Addition, addition_of, as_op}
use Rattle.plan_collapse_laws.specs.Meeting.{as_one, leaves_order, left_above, met, moving, restored_if, stayed, sunk_into, taking}
use Rattle.plan_collapse_laws.specs.Runs.{Link, adds, projects, link_op, linked, linked_in, looked_at, looked_under, looks, met_links, projected_if, rested, unrest}
use Rattle.plan_collapse_laws.proofs.Counted.{AllLighter, Lighter, lighter_trans, met_lighter, node_lighter, one_lighter, same_lighter}

abbrev pub one : Plan → Roses (Unit {0}) Op
one q = more q no_roses

-- the addition that a link is, if it is one
abbrev pub link_added : Link → Option Addition
link_added (adds u) = Some u
link_added (projects s) = None

pub added_link : (k : Link) → addition_of (link_op k) ≡ link_added k
added_link (adds u) = refl
added_link (projects s) = refl

-- some links stay some

met_some : (u l : Addition) (below : Addition → List Link) → ((x : Addition) → is_empty (below x) ≡ false) → is_empty (met_links u l below) ≡ false
met_some u l below h = at (is_empty (stayed u l)) (is_empty (taking u l ++ moving u l)) (leaves_order u l)
  where
    at : (b c d : Bool) → is_empty (cond b (below (as_one u l)) (cond c (adds u ∷ below l) (projected_if d u.schema (adds (left_above u l) ∷ below (sunk_into u l))))) ≡ false
    at true c d = h (as_one u l)
    at false true d = refl
    at false false true = refl
    at false false false = refl

pub under_some : (ks : List Link) (u : Addition) → is_empty (looked_under ks u) ≡ false
under_some [] u = refl
under_some (adds l ∷ ks) u = met_some u l (λ x. looked_under ks x) (λ x. under_some ks x)
under_some (projects s ∷ ks) u = refl

pub look_some : (ks : List Link) → is_empty ks ≡ false → is_empty (looked_at ks) ≡ false
look_some [] e = e
look_some (adds u ∷ ks) e = under_some ks u
look_some (projects s ∷ ks) e = refl

looks_some : (n : ℕ) (ks : List Link) → is_empty ks ≡ false → is_empty (looks n ks) ≡ false
looks_some zero ks e = e
looks_some (suc n) ks e = looks_some n (looked_at ks) (look_some ks e)

pub rested_some : (ks : List Link) → is_empty ks ≡ false → is_empty (rested ks) ≡ false
rested_some ks e = looks_some (unrest ks) ks e

pub last_some : (ks : List Link) (k : Link) → is_empty (ks ++ k ∷ []) ≡ false
last_some [] k = refl
last_some (j ∷ ks) k = refl

-- links over plans

pub linked_one : (ks : List Link) (ts : Roses (Unit {0}) Op) → is_empty ks ≡ false → linked_in ks ts ≡ one (linked ks ts)
linked_one [] ts e = cc
linked_one (k ∷ ks) ts e = refl

pub last_in : (ks : List Link) (l : Addition) (ts : Roses (Unit {0}) Op) → linked_in (ks ++ adds l ∷ []) ts ≡ linked_in ks (one (rose tt (as_op l) ts))
last_in [] l ts = refl
last_in (k ∷ ks) l ts = ap (λ (us : Roses (Unit {0}) Op). one (rose tt (link_op k) us)) (last_in ks l ts)

pub linked-last : (ks : List Link) (l : Addition) (ts : Roses (Unit {0}) Op) → linked (ks ++ adds l ∷ []) ts ≡ linked ks (one (rose tt (as_op l) ts))
linked-last ks l ts = ap one_plan (last_in ks l ts)

-- what meets within a run is what meets

module _ (u l : Addition) (below : Addition → List Link) (ts : Roses (Unit {0}) Op) (some : (x : Addition) → is_empty (below x) ≡ false) where
  pub linked-restored : (d : Bool) → linked (projected_if d u.schema (adds (left_above u l) ∷ below (sunk_into u l))) ts ≡ restored_if d u.schema (rose tt (as_op (left_above u l)) (one (linked (below (sunk_into u l)) ts)))
  linked-restored true = ap (λ (us : Roses (Unit {0}) Op). rose tt (simple_projection u.schema) (one (rose tt (as_op (left_above u l)) us))) (linked_one (below (sunk_into u l)) ts (some (sunk_into u l)))
  linked-restored false = ap (λ (us : Roses (Unit {0}) Op). rose tt (as_op (left_above u l)) us) (linked_one (below (sunk_into u l)) ts (some (sunk_into u l)))

  pub linked-met : linked (met_links u l below) ts ≡ met u l (λ (x : Addition). linked (below x) ts)
  linked-met = at (is_empty (stayed u l)) (is_empty (taking u l ++ moving u l))
    where
      at : (b c : Bool) → linked (cond b (below (as_one u l)) (cond c (adds u ∷ below l) (projected_if (leaves_order u l) u.schema (adds (left_above u l) ∷ below (sunk_into u l))))) ts
          ≡ cond b (linked (below (as_one u l)) ts) (cond c (rose tt (as_op u) (one (linked (below l) ts))) (restored_if (leaves_order u l) u.schema (rose tt (as_op (left_above u l)) (one (linked (below (sunk_into u l)) ts)))))
      at true c = refl
      at false true = ap (λ (us : Roses (Unit {0}) Op). rose tt (as_op u) us) (linked_one (below l) ts (some l))
      at false false = linked-restored (leaves_order u l)

-- what a look makes is lighter

pub all_same : (ts : Roses (Unit {0}) Op) → AllLighter ts ts
all_same ts = record { sized = omega arith; fewer = omega arith; placed = omega arith; moved = inl refl }

mutual
  pub under_lighter : (ks : List Link) (ts : Roses (Unit {0}) Op) (u : Addition) → Lighter (linked (looked_under ks u) ts) (rose tt (as_op u) (linked_in ks ts))
  under_lighter [] ts u = same_lighter (rose tt (as_op u) ts)
  under_lighter (adds l ∷ ks) ts u = subst (λ (q : Plan). Lighter q (rose tt (as_op u) (one (rose tt (as_op l) (linked_in ks ts))))) (sym (linked-met u l (λ x. looked_under ks x) ts (λ x. under_some ks x)))
      (met_lighter u l (linked_in ks ts) (λ x. linked (looked_under ks x) ts) (λ x. under_lighter ks ts x))
  under_lighter (projects s ∷ ks) ts u = node_lighter (as_op u) (one (rose tt (simple_projection s) (linked_in (looked_at ks) ts))) (one (rose tt (simple_projection s) (linked_in ks ts)))
      (one_lighter (rose tt (simple_projection s) (linked_in (looked_at ks) ts)) (rose tt (simple_projection s) (linked_in ks ts)) (node_lighter (simple_projection s) (linked_in (looked_at ks) ts) (linked_in ks ts) (all_lighter ks ts)))

  pub all_lighter : (ks : List Link) (ts : Roses (Unit {0}) Op) → AllLighter (linked_in (looked_at ks) ts) (linked_in ks ts)
  all_lighter [] ts = all_same ts
  all_lighter (adds u ∷ ks) ts = subst (λ (qs : Roses (Unit {0}) Op). AllLighter qs (one (rose tt (as_op u) (linked_in ks ts)))) (sym (linked_one (looked_under ks u) ts (under_some ks u)))
      (one_lighter (linked (looked_under ks u) ts) (rose tt (as_op u) (linked_in ks ts)) (under_lighter ks ts u))
  all_lighter (projects s ∷ ks) ts = one_lighter (rose tt (simple_projection s) (linked_in (looked_at ks) ts)) (rose tt (simple_projection s) (linked_in ks ts)) (node_lighter (simple_projection s) (linked_in (looked_at ks) ts) (linked_in ks ts) (all_lighter ks ts))

look_lighter : (ks : List Link) (ts : Roses (Unit {0}) Op) → is_empty ks ≡ false → Lighter (linked (looked_at ks) ts) (linked ks ts)
look_lighter [] ts e = same_lighter (linked [] ts)
look_lighter (adds u ∷ ks) ts e = under_lighter ks ts u
look_lighter (projects s ∷ ks) ts e = node_lighter (simple_projection s) (linked_in (looked_at ks) ts) (linked_in ks ts) (all_lighter ks ts)

looks_lighter : (n : ℕ) (ks : List Link) (ts : Roses (Unit {0}) Op) → is_empty ks ≡ false → Lighter (linked (looks n ks) ts) (linked ks ts)
looks_lighter zero ks ts e = same_lighter (linked ks ts)
looks_lighter (suc n) ks ts e = lighter_trans (linked (looks n (looked_at ks)) ts) (linked (looked_at ks) ts) (linked ks ts) (looks_lighter n (looked_at ks) ts (look_some ks e)) (look_lighter ks ts e)

pub rested_lighter : (ks : List Link) (ts : Roses (Unit {0}) Op) → is_empty ks ≡ false → Lighter (linked (rested ks) ts) (linked ks ts)
rested_lighter ks ts e = looks_lighter (unrest ks) ks ts e

pub linked_lighter : (ks : List Link) (qs ts : Roses (Unit {0}) Op) → is_empty ks ≡ false → AllLighter qs ts → Lighter (linked ks qs) (linked ks ts)
linked_lighter [] qs ts e h = cc
linked_lighter (k ∷ []) qs ts e h = node_lighter (link_op k) qs ts h
linked_lighter (k ∷ j ∷ ks) qs ts e h = node_lighter (link_op k) (one (linked (j ∷ ks) qs)) (one (linked (j ∷ ks) ts)) (one_lighter (linked (j ∷ ks) qs) (linked (j ∷ ks) ts) (linked_lighter (j ∷ ks) qs ts refl h))

-- links stand for what they are over no plans

abbrev link_back : Op → List Link → List Link
link_back (hstack es s o) ks = adds (record { exprs = es; schema = s; options = o }) ∷ ks
link_back (simple_projection s) ks = projects s ∷ ks
link_back op ks = ks

abbrev back : Roses (Unit {0}) Op → List Link
back no_roses = []
back (more (rose n op ts) rest) = link_back op (back ts)

back-linked : (ks : List Link) → back (linked_in ks no_roses) ≡ ks
back-linked [] = refl
back-linked (adds u ∷ ks) = ap (λ (js : List Link). adds u ∷ js) (back-linked ks)
back-linked (projects s ∷ ks) = ap (λ (js : List Link). projects s ∷ js) (back-linked ks)

links_same : (js ks : List Link) → linked_in js no_roses ≡ linked_in ks no_roses → js ≡ ks
links_same js ks e = sym (back-linked js) ∙ ap back e ∙ back-linked ks

-- so many looks are enough, and more change nothing

looks_still : (n : ℕ) (ks : List Link) → looked_at ks ≡ ks → looks n ks ≡ ks
looks_still zero ks e = refl
looks_still (suc n) ks e = ap (looks n) e ∙ looks_still n ks e

pub rested_still : (ks : List Link) → looked_at ks ≡ ks → rested ks ≡ ks
rested_still ks e = looks_still (unrest ks) ks e

looks_end : (n : ℕ) (ks : List Link) → unrest ks ≤ n → looked_at (looks n ks) ≡ looks n ks
looks_end zero ks le = at (all_lighter ks no_roses).moved
  where
    at : (linked_in (looked_at ks) no_roses ≡ linked_in ks no_roses) ⊎ (unrest (looked_at ks) < unrest ks) → looked_at ks ≡ ks
    at (inl e) = links_same (looked_at ks) ks e
    at (inr l) = absurd (omega (arith, l, le))
looks_end (suc n) ks le = at (all_lighter ks no_roses).moved (λ k. looks_end n (looked_at ks) k)
  where
    at : (linked_in (looked_at ks) no_roses ≡ linked_in ks no_roses) ⊎ (unrest (looked_at ks) < unrest ks) → (unrest (looked_at ks) ≤ n → looked_at (looks n (looked_at ks)) ≡ looks n (looked_at ks)) → looked_at (looks n (looked_at ks)) ≡ looks n (looked_at ks)
    at (inl e) rest =
        let s = links_same (looked_at ks) ks e in
        let all : looks n (looked_at ks) ≡ ks = ap (looks n) s ∙ looks_still n ks s in
        ap looked_at all ∙ s ∙ sym all
    at (inr l) rest = rest (omega (arith, l, le))

pub rested_end : (ks : List Link) → looked_at (rested ks) ≡ rested ks
rested_end ks = looks_end (unrest ks) ks (omega arith)

-- a run may be looked at as often as one likes before it is brought to rest

looks_sum : (a b : ℕ) (ks : List Link) → looks (a + b) ks ≡ looks b (looks a ks)
looks_sum zero b ks = let e : 0 + b ≡ b = omega arith in ap (λ (n : ℕ). looks n ks) e
looks_sum (suc a) b ks = let e : suc a + b ≡ suc (a + b) = omega arith in ap (λ (n : ℕ). looks n ks) e ∙ looks_sum a b (looked_at ks)

looks_enough : (n : ℕ) (ks : List Link) → unrest ks ≤ n → looks n ks ≡ rested ks
looks_enough n ks le =
    let e : n ≡ unrest ks + (n - unrest ks) = omega (arith, le) in
    ap (λ (m : ℕ). looks m ks) e ∙ looks_sum (unrest ks) (n - unrest ks) ks ∙ looks_still (n - unrest ks) (rested ks) (rested_end ks)

-- a look changes nothing, or leaves less to be changed
pub look_moves : (ks : List Link) → (looked_at ks ≡ ks) ⊎ (unrest (looked_at ks) < unrest ks)
look_moves ks = at (all_lighter ks no_roses).moved
  where
    at : (linked_in (looked_at ks) no_roses ≡ linked_in ks no_roses) ⊎ (unrest (looked_at ks) < unrest ks) → (looked_at ks ≡ ks) ⊎ (unrest (looked_at ks) < unrest ks)
    at (inl e) = inl (links_same (looked_at ks) ks e)
    at (inr l) = inr l

pub rested_look : (ks : List Link) → rested (looked_at ks) ≡ rested ks
rested_look ks = at (look_moves ks)
  where
    at : (looked_at ks ≡ ks) ⊎ (unrest (looked_at ks) < unrest ks) → rested (looked_at ks) ≡ rested ks
    at (inl e) = ap rested e
    at (inr l) = sym (looks_enough (unrest ks) (looked_at ks) (omega (arith, l))) ∙ looks_enough (suc (unrest ks)) ks (omega arith)
