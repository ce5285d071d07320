-- A look over a run, one layer after another.
use Rattle.std.proofs.Common.{◌≡◌, ◌∙◌, Bool, true, false, ◌||◌, All, List, [], ◌∷◌, ◌++◌, map, length, reverse, Option, Some, None, refl, sym, ap, subst, arith, append-nil, ◌⊎◌, inl, inr}
use Rattle.std.specs.Prelude.{option_to_list, Result, Ok, Err}
use Rattle.std.specs.Result.{IfOk, OnOk}
use Rattle.std.specs.declared.alloc.AllocError.{AllocError}
use Rattle.std.proofs.Math.Seq.{drop-append_seam, take-append_seam}
use Rattle.std.proofs.lemmas.List.{append_assoc, append_cancel_left, map-append, reverse-append}
use Rattle.std.proofs.lemmas.List.Elements.{All-append, All-cons, All-drop, All-head, All-nil, All-tail, All-take}
use Rattle.std.proofs.lemmas.List.Sorted.{All-permutation, IsPermutation-append_comm, IsPermutation-append_left, IsPermutation-append_right}
use Rattle.plan_core.specs.declared.arena.Node.{Node}
use Rattle.plan_expr.specs.declared.aexpr.AExpr.{AExpr}
use Rattle.plan_expr.specs.declared.expr_ir.ExprIR.{ExprIR}
use Rattle.plan_expr.specs.Operands.{IsExpr}
use Rattle.plan_collapse_laws.specs.Runs.{Link, looked_at}
use Rattle.plan_cluster.specs.Layers.{IsOnce, expr_nodes, layer_exprs, layer_roots, link_at, links_at}
use Rattle.plan_cluster.specs.Looks.{ArePart, IsUnderway}
use Rattle.plan_cluster.specs.Meetings.{ChangesOrRests, IsMet, above_of, is_change}
use Rattle.plan_cluster.specs.declared.layer.Layer.{Layer}
use Rattle.plan_cluster.specs.declared.layer.Layer.TheVariants.{Adds, Projects}
use Rattle.plan_cluster.specs.declared.meeting.Meeting.{Meeting}
use Rattle.plan_cluster.specs.declared.meeting.Meeting.TheVariants.{Merged, Moved, Restores, Rests}
use Rattle.plan_cluster.proofs.RootLemmas.{◌∙∙◌, same}

-- lists that are taken from and added to at their ends

pub popped : {X : Type 0} (xs ys : List X) (r : Option X) (x : X) → xs ≡ ys ++ option_to_list r → r ≡ Some x → reverse xs ≡ x ∷ reverse ys
popped {X} xs ys r x e q = ap reverse (e ∙ ap (λ (o : Option X). ys ++ option_to_list o) q) ∙ reverse-append ys (x ∷ [])

pub none-popped : {X : Type 0} (xs ys : List X) (r : Option X) → xs ≡ ys ++ option_to_list r → r ≡ None → reverse xs ≡ reverse ys
none-popped {X} xs ys r e q = ap reverse (e ∙ ap (λ (o : Option X). ys ++ option_to_list o) q ∙ append-nil ys)

pub pushed : {X : Type 0} (ys : List X) (x : X) → reverse (ys ++ x ∷ []) ≡ x ∷ reverse ys
pushed ys x = reverse-append ys (x ∷ [])

all-front : {X : Type 0} (P : X → Type 0) (xs ys : List X) → All P (xs ++ ys) → All P xs
all-front P xs ys h = subst (All P) (take-append_seam xs ys) (All-take P (length xs) (xs ++ ys) h)

all-back : {X : Type 0} (P : X → Type 0) (xs ys : List X) → All P (xs ++ ys) → All P ys
all-back P xs ys h = subst (All P) (drop-append_seam xs ys) (All-drop P (length xs) (xs ++ ys) h)

all-unmap : {X Y : Type 0} (P : Y → Type 0) (f : X → Y) (xs : List X) → All P (map f xs) → All (λ (x : X). P (f x)) xs
all-unmap {X} P f [] h = All-nil (λ (x : X). P (f x))
all-unmap {X} P f (x ∷ xs) h = All-cons (λ (y : X). P (f y)) x xs (All-head P (f x) (map f xs) h) (all-unmap P f xs (All-tail P (f x) (map f xs) h))

-- the expressions of the topmost layer stand
pub top-stands : (ex : List AExpr) (l : Layer) (left : List Layer) → All (λ (n : Node). IsExpr ex n) (layer_roots (l ∷ left)) → All (λ (e : ExprIR). IsExpr ex e.node) (layer_exprs l)
top-stands ex l left h = all-unmap (λ (n : Node). IsExpr ex n) (λ (e : ExprIR). e.node) (layer_exprs l) (all-front (λ (n : Node). IsExpr ex n) (expr_nodes (layer_exprs l)) (layer_roots left) h)

pub links-append : (ex : List AExpr) (xs ys : List Layer) → links_at ex (xs ++ ys) ≡ links_at ex xs ++ links_at ex ys
links-append ex xs ys = map-append (link_at ex) xs ys

roots-append : (xs ys : List Layer) → layer_roots (xs ++ ys) ≡ layer_roots xs ++ layer_roots ys
roots-append [] ys = refl
roots-append (x ∷ xs) ys = ap (λ (ns : List Node). expr_nodes (layer_exprs x) ++ ns) (roots-append xs ys) ∙ sym (append_assoc (expr_nodes (layer_exprs x)) (layer_roots xs) (layer_roots ys))

-- parts of parts
pub part-of : (ms ns os : List Node) → ArePart ms ns → ArePart ns os → ArePart ms os
part-of ms ns os h k = record {
  left = k.left ++ h.left;
  permutes = h.permutes ∙∙ IsPermutation-append_left h.left ns (os ++ k.left) k.permutes ∙∙ same (append_assoc os k.left h.left);
}

pub all-part : (ms : List Node) → ArePart ms ms
all-part ms = record { left = []; permutes = same (sym (append-nil ms)) }

pub part-stands : (ex : List AExpr) (ms ns : List Node) → ArePart ms ns → All (λ (n : Node). IsExpr ex n) ms → All (λ (n : Node). IsExpr ex n) ns
part-stands ex ms ns h k = all-front (λ (n : Node). IsExpr ex n) ns h.left (All-permutation (λ (n : Node). IsExpr ex n) ms (ns ++ h.left) h.permutes k)

-- in the middle of a list, a part in the place of what it is one of
part-within : (ds us xs rs : List Node) → ArePart us xs → ArePart (ds ++ (us ++ rs)) (ds ++ (xs ++ rs))
part-within ds us xs rs h = record {
  left = h.left;
  permutes =
      IsPermutation-append_right ds (us ++ rs) ((xs ++ h.left) ++ rs) (IsPermutation-append_left rs us (xs ++ h.left) h.permutes)
      ∙∙ same (ap (λ (l : List Node). ds ++ l) (append_assoc xs h.left rs))
      ∙∙ IsPermutation-append_right ds (xs ++ (h.left ++ rs)) (xs ++ (rs ++ h.left)) (IsPermutation-append_right xs (h.left ++ rs) (rs ++ h.left) (IsPermutation-append_comm h.left rs))
      ∙∙ same (ap (λ (l : List Node). ds ++ l) (sym (append_assoc xs rs h.left)) ∙ sym (append_assoc ds (xs ++ rs) h.left));
}

or-true : (a b : Bool) → (a || b) ≡ true → (a ≡ true) ⊎ ((a ≡ false) × (b ≡ true))
or-true true b h = inl refl
or-true false b h = inr (refl, h)

or-false : (a b : Bool) → (a || b) ≡ false → (a ≡ false) × (b ≡ false)
or-false true b h = cc
or-false false b h = (refl, h)

changes-by : (ex : List AExpr) (m : Meeting) (u l u' l' : Layer) → ChangesOrRests ex m u l u' l' → is_change m ≡ true → (ks : List Link) → looked_at (link_at ex u ∷ link_at ex l ∷ ks) ≡ link_at ex u ∷ link_at ex l ∷ ks → ⊥
changes-by ex Merged u l u' l' h q = h
changes-by ex Moved u l u' l' h q = h
changes-by ex (Restores s) u l u' l' h q = h
changes-by ex Rests u l u' l' h q = cc

rests-by : (ex : List AExpr) (m : Meeting) (u l u' l' : Layer) → ChangesOrRests ex m u l u' l' → is_change m ≡ false → (above_of m u' ≡ u ∷ []) × (l' ≡ l)
rests-by ex Merged u l u' l' h q = cc
rests-by ex Moved u l u' l' h q = cc
rests-by ex (Restores s) u l u' l' h q = cc
rests-by ex Rests u l u' l' h q = (ap (λ (x : Layer). x ∷ []) h.0, h.1)

module _ (ex : List AExpr) (run : List Layer) where
  -- two layers meet
  pub step-met : (done left : List Layer) (u l u' l' : Layer) (m : Meeting) (changed : Bool) → IsMet ex u l u' l' m → IsUnderway ex run done (u ∷ l ∷ left) changed → IsUnderway ex run (done ++ above_of m u') (l' ∷ left) (changed || is_change m)
  step-met done left u l u' l' m changed met h =
      let js = links_at ex left in
      let above = above_of m u' in
      let made : links_at ex (done ++ above) ≡ links_at ex done ++ links_at ex above = links-append ex done above in
      let seam : (done ++ above) ++ l' ∷ left ≡ done ++ ((above ++ l' ∷ []) ++ left) = append_assoc done above (l' ∷ left) ∙ ap (λ (x : List Layer). done ++ x) (sym (append_assoc above (l' ∷ []) left)) in
      record {
        comes =
            ap (λ (x : List Link). x ++ looked_at (link_at ex l' ∷ js)) made
            ∙ append_assoc (links_at ex done) (links_at ex above) (looked_at (link_at ex l' ∷ js))
            ∙ ap (λ (x : List Link). links_at ex done ++ x) (sym (met.looked js))
            ∙ h.comes;
        same = λ q.
            let p = or-false changed (is_change m) q in
            let r = rests-by ex m u l u' l' met.changes p.1 in
            ap (λ (x : List Link). x ++ (link_at ex l' ∷ js)) (made ∙ ap (λ (x : List Layer). links_at ex done ++ links_at ex x) r.0)
            ∙ append_assoc (links_at ex done) (link_at ex u ∷ []) (link_at ex l' ∷ js)
            ∙ ap (λ (x : Layer). links_at ex done ++ (link_at ex u ∷ link_at ex x ∷ js)) r.1
            ∙ h.same p.0;
        moved = λ q e. at (or-true changed (is_change m) q) e;
        roots = part-of (layer_roots run) (layer_roots (done ++ (u ∷ l ∷ left))) (layer_roots ((done ++ above) ++ l' ∷ left)) h.roots
            (subst (λ (x : List Node). ArePart x (layer_roots ((done ++ above) ++ l' ∷ left))) (sym (roots-append done (u ∷ l ∷ left) ∙ ap (λ (x : List Node). layer_roots done ++ x) (roots-append (u ∷ l ∷ []) left)))
            (subst (ArePart (layer_roots done ++ (layer_roots (u ∷ l ∷ []) ++ layer_roots left)))
            (sym (ap layer_roots seam ∙ roots-append done ((above ++ l' ∷ []) ++ left) ∙ ap (λ (x : List Node). layer_roots done ++ x) (roots-append (above ++ l' ∷ []) left)))
            (part-within (layer_roots done) (layer_roots (u ∷ l ∷ [])) (layer_roots (above ++ l' ∷ [])) (layer_roots left) (record { left = met.left; permutes = met.roots }))));
        once = subst (All IsOnce) (sym seam)
            (All-append IsOnce done ((above ++ l' ∷ []) ++ left) (all-front IsOnce done (u ∷ l ∷ left) h.once)
            (All-append IsOnce (above ++ l' ∷ []) left met.once (All-tail IsOnce l left (All-tail IsOnce u (l ∷ left) (all-back IsOnce done (u ∷ l ∷ left) h.once)))));
      }
    where
      at : (changed ≡ true) ⊎ ((changed ≡ false) × (is_change m ≡ true)) → looked_at (links_at ex run) ≡ links_at ex run → ⊥
      at (inl q) e = h.moved q e
      at (inr q) e =
          let js = links_at ex left in
          changes-by ex m u l u' l' met.changes q.1 js
          (append_cancel_left (links_at ex done) (looked_at (link_at ex u ∷ link_at ex l ∷ js)) (link_at ex u ∷ link_at ex l ∷ js) (h.comes ∙ e ∙ sym (h.same q.0)))

  -- the last layer stays
  look-last : (u : Layer) → looked_at (link_at ex u ∷ []) ≡ link_at ex u ∷ []
  look-last (Adds a) = refl
  look-last (Projects s) = refl

  pub step-last : (done : List Layer) (u : Layer) (changed : Bool) → IsUnderway ex run done (u ∷ []) changed → IsUnderway ex run (done ++ u ∷ []) [] changed
  step-last done u changed h =
      let seam : (done ++ u ∷ []) ++ [] ≡ done ++ u ∷ [] = append-nil (done ++ u ∷ []) in
      record {
        comes = append-nil (links_at ex (done ++ u ∷ [])) ∙ links-append ex done (u ∷ []) ∙ ap (λ (x : List Link). links_at ex done ++ x) (sym (look-last u)) ∙ h.comes;
        same = λ q. append-nil (links_at ex (done ++ u ∷ [])) ∙ links-append ex done (u ∷ []) ∙ h.same q;
        moved = h.moved;
        roots = subst (λ (x : List Layer). ArePart (layer_roots run) (layer_roots x)) (sym seam) h.roots;
        once = subst (All IsOnce) (sym seam) h.once;
      }

-- a look begins

pub look-starts : (ex : List AExpr) (run : List Layer) → All IsOnce run → IsUnderway ex run [] run false
look-starts ex run once = record {
  comes = refl;
  same = λ q. refl;
  moved = λ q e. cc;
  roots = all-part (layer_roots run);
  once = once;
}

pub left-stands : (ex : List AExpr) (run done left : List Layer) (changed : Bool) → IsUnderway ex run done left changed → All (λ (n : Node). IsExpr ex n) (layer_roots run) → All (λ (n : Node). IsExpr ex n) (layer_roots left)
left-stands ex run done left changed h k =
    all-back (λ (n : Node). IsExpr ex n) (layer_roots done) (layer_roots left)
    (subst (All (λ (n : Node). IsExpr ex n)) (roots-append done left) (part-stands ex (layer_roots run) (layer_roots (done ++ left)) h.roots k))

pub left-once : (ex : List AExpr) (run done left : List Layer) (changed : Bool) → IsUnderway ex run done left changed → All IsOnce left
left-once ex run done left changed h = all-back IsOnce done left h.once

-- what the code answers of a step, if it answers

pub went-on : (ex : List AExpr) (done done' was is after : List Layer) (u l u' l' : Layer) (m : Meeting) (r : Result Bool AllocError) → IsMet ex u l u' l' m → was ≡ u ∷ l ∷ after → is ≡ l' ∷ after → OnOk r (done' ≡ done ++ above_of m u') → IfOk r (λ b. b ≡ is_change m)
    → IfOk r (λ moves. (run : List Layer) (changed : Bool) → IsUnderway ex run done was changed → IsUnderway ex run done' is (changed || moves))
went-on ex done done' was is after u l u' l' m (Ok b) met e f g h = λ run changed k.
    subst (λ (x : List Layer). IsUnderway ex run x is (changed || b)) (sym g)
    (subst (λ (x : List Layer). IsUnderway ex run (done ++ above_of m u') x (changed || b)) (sym f)
    (subst (λ (x : Bool). IsUnderway ex run (done ++ above_of m u') (l' ∷ after) (changed || x)) (sym h)
    (step-met ex run done after u l u' l' m changed met (subst (λ (x : List Layer). IsUnderway ex run done x changed) e k))))
went-on ex done done' was is after u l u' l' m (Err x) met e f g h = tt

or-none : (b : Bool) → b ≡ (b || false)
or-none true = refl
or-none false = refl

pub went-last : (ex : List AExpr) (done done' was is : List Layer) (u : Layer) (r : Result Bool AllocError) → was ≡ u ∷ [] → is ≡ [] → OnOk r (done' ≡ done ++ u ∷ []) → IfOk r (λ b. b ≡ false)
    → IfOk r (λ moves. (run : List Layer) (changed : Bool) → IsUnderway ex run done was changed → IsUnderway ex run done' is (changed || moves))
went-last ex done done' was is u (Ok b) e f g h = λ run changed k.
    subst (λ (x : List Layer). IsUnderway ex run x is (changed || b)) (sym g)
    (subst (λ (x : List Layer). IsUnderway ex run (done ++ u ∷ []) x (changed || b)) (sym f)
    (subst (λ (x : Bool). IsUnderway ex run (done ++ u ∷ []) [] x) (or-none changed ∙ ap (λ (x : Bool). changed || x) (sym h))
    (step-last ex run done u changed (subst (λ (x : List Layer). IsUnderway ex run done x changed) e k))))
went-last ex done done' was is u (Err x) e f g h = tt

pub went-nowhere : (ex : List AExpr) (done was is : List Layer) → was ≡ is → (run : List Layer) (changed : Bool) → IsUnderway ex run done was changed → IsUnderway ex run done is (changed || false)
went-nowhere ex done was is e run changed k =
    subst (λ (x : Bool). IsUnderway ex run done is x) (or-none changed) (subst (λ (x : List Layer). IsUnderway ex run done x changed) e k)

pub none-left : {X : Type 0} (xs ys : List X) (r : Option X) → xs ≡ ys ++ option_to_list r → r ≡ None → length ys ≡ 0 → reverse xs ≡ []
none-left {X} xs ys r e q h = none-popped xs ys r e q ∙ at ys h
  where
    at : (zs : List X) → length zs ≡ 0 → reverse zs ≡ []
    at [] h = refl
    at (z ∷ zs) h = absurd (omega arith)
