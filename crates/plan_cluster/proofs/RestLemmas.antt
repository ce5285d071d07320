-- Looks until nothing moves.
use Rattle.std.proofs.Common.{◌≡◌, ◌∙◌, ◌<◌, suc, Bool, true, false, ◌||◌, cond, All, List, [], ◌++◌, length, reverse, refl, sym, ap, subst, arith, append-nil, ◌⊎◌, inl, inr}
use Rattle.std.proofs.lemmas.List.{nil_from_length, reverse-reverse}
use Rattle.plan_expr.specs.declared.aexpr.AExpr.{AExpr}
use Rattle.plan_collapse_laws.specs.Runs.{Link, looked_at, rested, unrest}
use Rattle.plan_collapse_laws.proofs.Links.{look_moves, rested_look, rested_still}
use Rattle.plan_cluster.specs.Layers.{IsOnce, layer_roots, links_at}
use Rattle.plan_cluster.specs.Looks.{ArePart, IsUnderway}
use Rattle.plan_cluster.specs.declared.layer.Layer.{Layer}
use Rattle.plan_cluster.proofs.LookLemmas.{look-starts}

-- a look begins, goes on and is over

pub look-begins : (ex : List AExpr) (run done todo : List Layer) → done ≡ [] → todo ≡ reverse run → All IsOnce run → IsUnderway ex run done (reverse todo) false
look-begins ex run done todo e f once =
    subst (λ (x : List Layer). IsUnderway ex run x (reverse todo) false) (sym e)
    (subst (λ (x : List Layer). IsUnderway ex run [] x false) (sym (ap reverse f ∙ reverse-reverse run)) (look-starts ex run once))

or-moved : (a b : Bool) → b ≡ true → (a || b) ≡ true
or-moved true b q = refl
or-moved false b q = q

or-same : (a b : Bool) → b ≡ false → (a || b) ≡ a
or-same true b q = refl
or-same false b q = q

pub look-moved : (ex : List AExpr) (run done left : List Layer) (a b : Bool) → b ≡ true → IsUnderway ex run done left (a || b) → IsUnderway ex run done left true
look-moved ex run done left a b q h = subst (λ (x : Bool). IsUnderway ex run done left x) (or-moved a b q) h

pub look-same : (ex : List AExpr) (run done left : List Layer) (a b : Bool) → b ≡ false → IsUnderway ex run done left (a || b) → IsUnderway ex run done left a
look-same ex run done left a b q h = subst (λ (x : Bool). IsUnderway ex run done left x) (or-same a b q) h

pub none-reversed : {X : Type 0} (xs : List X) → length xs ≡ 0 → reverse xs ≡ []
none-reversed xs h = ap reverse (nil_from_length xs h)

module _ (ex : List AExpr) (run done left : List Layer) (changed : Bool) (h : IsUnderway ex run done left changed) (none : left ≡ []) where
  pub over-looked : links_at ex done ≡ looked_at (links_at ex run)
  over-looked = sym (append-nil (links_at ex done)) ∙ ap (λ (x : List Layer). links_at ex done ++ looked_at (links_at ex x)) (sym none) ∙ h.comes

  pub over-same : changed ≡ false → looked_at (links_at ex run) ≡ links_at ex run
  over-same q = sym over-looked ∙ sym (append-nil (links_at ex done)) ∙ ap (λ (x : List Layer). links_at ex done ++ links_at ex x) (sym none) ∙ h.same q

  pub over-roots : ArePart (layer_roots run) (layer_roots done)
  over-roots = subst (λ (x : List Layer). ArePart (layer_roots run) (layer_roots x)) (ap (λ (x : List Layer). done ++ x) none ∙ append-nil done) h.roots

  pub over-once : All IsOnce done
  over-once = subst (All IsOnce) (ap (λ (x : List Layer). done ++ x) none ∙ append-nil done) h.once

-- looks end
pub looks-less : (ks js : List Link) (was moves : Bool) → was ≡ true → js ≡ looked_at ks → (moves ≡ true → looked_at ks ≡ ks → ⊥) → cond moves (suc (unrest js)) 0 < cond was (suc (unrest ks)) 0
looks-less ks js false moves q e h = cc
looks-less ks js true false q e h = omega arith
looks-less ks js true true q e h = at (look_moves ks)
  where
    at : (looked_at ks ≡ ks) ⊎ (unrest (looked_at ks) < unrest ks) → suc (unrest js) < suc (unrest ks)
    at (inl s) = absurd (h refl s)
    at (inr l) = let n : unrest js ≡ unrest (looked_at ks) = ap unrest e in omega (arith, l, n)

pub looks-come : (ks js ls : List Link) → js ≡ looked_at ks → rested ks ≡ ls → rested js ≡ ls
looks-come ks js ls e h = ap rested e ∙ rested_look ks ∙ h

pub looks-still : (ks js : List Link) → js ≡ looked_at ks → looked_at ks ≡ ks → looked_at js ≡ js
looks-still ks js e s = ap looked_at (e ∙ s) ∙ sym e

pub looks-rested : (ks ls : List Link) → looked_at ks ≡ ks → rested ks ≡ ls → ks ≡ ls
looks-rested ks ls s h = sym (rested_still ks s) ∙ h
