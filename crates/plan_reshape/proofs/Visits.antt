-- Rules one after another at one node.
use Rattle.std.proofs.Common.{◌≡◌, ℕ, zero, suc, ◌+◌, ◌<◌, ◌≤◌, ◌&&◌, ◌||◌, Bool, true, false, List, [], ◌∷◌, ◌++◌, length, map, take, refl, sym, ap, ◌∙◌, subst, arith, get_or, add-one}
use Rattle.std.specs.List.{slice_get, slice_set}
use Rattle.std.proofs.lemmas.Bool.{and_from, and_parts, or_parts}
use Rattle.plan_core.specs.declared.arena.Node.{Node}
use Rattle.plan_tree.specs.Stands.{Trees}
use Rattle.plan_expr.specs.declared.aexpr.AExpr.{AExpr}
use Rattle.plan_ir.specs.declared.ir.IR.{IR}
use Rattle.plan_ir.specs.Parts.{IsPlan, StandsPlan}
use Rattle.plan_ir.specs.Plans.{Plan, bare, plans_of}
use Rattle.plan_meaning.specs.PlanAt.{plan_at}
use Rattle.plan_meaning.specs.Steps.{IsValid}
use Rattle.plan_pass_laws.specs.declared.kind.RuleKind.{RuleKind}
use Rattle.plan_pass_laws.specs.Patterns.{are_counted, is_counted, shows, shows_one}
use Rattle.plan_pass_laws.specs.Settling.{Done, both, idle}
use Rattle.plan_pass_laws.proofs.ClearedPatterns.{one_cleared}
use Rattle.plan_rule.specs.Calls.{plan_of}
use Rattle.plan_reshape.specs.Walking.{AtTop}
use Rattle.plan_reshape.proofs.Brings.{Stays, all_valid_at, brought_refl, brought_then, brought_weaker, cleared_of, stays}

pub counted_join : (ks ls : List RuleKind) → are_counted (ks ++ ls) ≡ true → (are_counted ks ≡ true) × (are_counted ls ≡ true)
counted_join [] ls e = (refl, e)
counted_join (k ∷ ks) ls e =
    let a = and_parts (is_counted k) (are_counted (ks ++ ls)) e in
    let r = counted_join ks ls a.1 in
    (and_from (is_counted k) (are_counted ks) a.0 r.0, r.1)

or_false : (a b : Bool) → a ≡ false → b ≡ false → (a || b) ≡ false
or_false false b x y = y
or_false true b x y = cc

shows_join : (ks ls : List RuleKind) (p : Plan) → shows_one ks p ≡ false → shows_one ls p ≡ false → shows_one (ks ++ ls) p ≡ false
shows_join [] ls p e f = f
shows_join (k ∷ ks) ls p e f =
    let a = or_parts (shows k p) (shows_one ks p) e in
    or_false (shows k p) (shows_one (ks ++ ls) p) a.0 (shows_join ks ls p a.1 f)

-- further rules after some
pub top_then : (ks ls : List RuleKind) (a b c : List IR) (x y z : List AExpr) (n : Node) (t : Trees IR) (e : Trees AExpr) (d w : Done) → AtTop ks a b x y n t e d → ((g : Trees IR) (h : Trees AExpr) → StandsPlan b y n g h → AtTop ls b c y z n g h w) → AtTop (ks ++ ls) a c x z n t e (both d w)
top_then ks ls a b c x y z n t e d w p call =
    let q = call p.brought.become.nodes p.brought.become.exprs (record { nodes = p.brought.become.places.stands; exprs = p.brought.become.under.stands }) in
    record {
      brought = brought_then (ks ++ ls) a b c x y z (n ∷ []) t e d w
          (brought_weaker ks (ks ++ ls) a b x y (n ∷ []) t e d (λ k. (counted_join ks ls k).0) p.brought)
          (brought_weaker ls (ks ++ ls) b c y z (n ∷ []) p.brought.become.nodes p.brought.become.exprs w (λ k. (counted_join ks ls k).1) q.brought);
      quiet = λ m.
          let s = or_parts d.changed w.changed m in
          shows_join ks ls (plan_of z q.brought.become.nodes)
          (one_cleared ks (plan_of z q.brought.become.nodes) (plan_of y p.brought.become.nodes) (cleared_of (bare (plans_of z q.brought.become.nodes)) (bare (plans_of y p.brought.become.nodes)) (q.brought.reworks.still s.1)) (p.quiet s.0))
          (q.quiet s.1);
    }

-- what the first rules have done at a node
pub record Visited (ks : List RuleKind) (a b : List IR) (x y : List AExpr) (n : Node) (d : Done) : Type 0 where
  pub done : (t : Trees IR) (e : Trees AExpr) → StandsPlan a x n t e → AtTop ks a b x y n t e d

pub visited_first : (ks : List RuleKind) (a : List IR) (x : List AExpr) (n : Node) → IsValid (plan_at a x n) → Visited (take 0 ks) a a x x n idle
visited_first ks a x n v = record { done = λ t e h. record { brought = brought_refl [] a x (n ∷ []) t e (record { nodes = h.nodes; exprs = h.exprs }) (all_valid_at a x n t h.nodes v); quiet = λ m. refl } }

pub visited_stays : (ks : List RuleKind) (a b : List IR) (x y : List AExpr) (n : Node) (d : Done) → IsPlan a x n → Visited ks a b x y n d → Stays a b x y n d.replaced
visited_stays ks a b x y n d plan visited = stays ks a b x y n plan.nodes plan.exprs d plan.stands (visited.done plan.nodes plan.exprs plan.stands).brought

pub visited_then : (ks ls : List RuleKind) (a b c : List IR) (x y z : List AExpr) (n : Node) (d w : Done) → Visited ks a b x y n d → ((g : Trees IR) (h : Trees AExpr) → StandsPlan b y n g h → AtTop ls b c y z n g h w) → Visited (ks ++ ls) a c x z n (both d w)
visited_then ks ls a b c x y z n d w v call = record { done = λ t e h. top_then ks ls a b c x y z n t e d w (v.done t e h) call }

pub visited_next : (ks : List RuleKind) (i : ℕ) (k : RuleKind) (a b c : List IR) (x y z : List AExpr) (n : Node) (d w : Done) → take (i + 1) ks ≡ take i ks ++ k ∷ [] → Visited (take i ks) a b x y n d → ((g : Trees IR) (h : Trees AExpr) → StandsPlan b y n g h → AtTop (k ∷ []) b c y z n g h w) → Visited (take (i + 1) ks) a c x z n (both d w)
visited_next ks i k a b c x y z n d w more v call = rw more (visited_then (take i ks) (k ∷ []) a b c x y z n d w v call)

-- a list's kinds after one element of the same kind was written, and the first of them
pub map_set : {A B : Type 0} (f : A → B) (xs : List A) (i : ℕ) (x y : A) → f y ≡ f (get_or xs i x) → map f (slice_set xs i y) ≡ map f xs
map_set f [] i x y same = refl
map_set f (z ∷ zs) zero x y same = ap (λ b. b ∷ map f zs) same
map_set f (z ∷ zs) (suc i) x y same = ap (λ bs. f z ∷ bs) (map_set f zs i x y same)

take_map_suc : {A B : Type 0} (f : A → B) (xs : List A) (i : ℕ) (x : A) → i < length xs → take (suc i) (map f xs) ≡ take i (map f xs) ++ f (get_or xs i x) ∷ []
take_map_suc f [] i x lt = absurd (omega arith)
take_map_suc f (z ∷ zs) zero x lt = refl
take_map_suc f (z ∷ zs) (suc i) x lt = ap (λ bs. f z ∷ bs) (take_map_suc f zs i x (omega arith))

pub take_map : {A B : Type 0} (f : A → B) (xs : List A) (i : ℕ) (x : A) → i < length xs → take (i + 1) (map f xs) ≡ take i (map f xs) ++ f (get_or xs i x) ∷ []
take_map f xs i x lt = rw add-one (take_map_suc f xs i x lt)

pub take_map_all : {A B : Type 0} (f : A → B) (xs : List A) (i : ℕ) → length xs ≤ i → take i (map f xs) ≡ map f xs
take_map_all f [] zero h = refl
take_map_all f [] (suc i) h = refl
take_map_all f (z ∷ zs) zero h = absurd (omega arith)
take_map_all f (z ∷ zs) (suc i) h = ap (λ bs. f z ∷ bs) (take_map_all f zs i (omega arith))
