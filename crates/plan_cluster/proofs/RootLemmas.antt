-- The expressions of two additions that meet, and those of what they become: the same, but for those that are replaced.
use Rattle.std.proofs.Common.{◌≡◌, ◌∙◌, Bool, true, false, ◌||◌, cond, List, [], ◌∷◌, ◌++◌, Option, Some, None, unwrap_or, refl, sym, ap, ap₂, subst, append-nil}
use Rattle.std.specs.Str.{bytes_eq}
use Rattle.std.specs.Cmp.Lexicographic.{nat_list_eq_equiv}
use Rattle.std.specs.List.Sorted.{IsPermutation}
use Rattle.std.proofs.lemmas.Bool.{both_ways}
use Rattle.std.proofs.lemmas.List.{append_assoc, map-append}
use Rattle.std.proofs.lemmas.List.Sorted.{IsPermutation-append_comm, IsPermutation-append_left, IsPermutation-append_right, IsPermutation-cons, IsPermutation-map, IsPermutation-middle, IsPermutation-refl, IsPermutation-sym, IsPermutation-trans}
use Rattle.plan_core.specs.declared.arena.Node.{Node}
use Rattle.plan_core.specs.Names.{AreDistinct, has}
use Rattle.plan_expr.specs.declared.expr_ir.ExprIR.{ExprIR}
use Rattle.plan_expr.specs.Leaves.{Name}
use Rattle.plan_frame.proofs.NameSets.{distinct_cons, named}
use Rattle.plan_cluster.specs.ExprNames.{expr_name, expr_named, expr_names, exprs_replaced}
use Rattle.plan_cluster.specs.Layers.{expr_nodes}

-- one list of the same elements after another
infixl 5 ◌∙∙◌
pub ◌∙∙◌ : {X : Type 0} {xs ys zs : List X} → IsPermutation xs ys → IsPermutation ys zs → IsPermutation xs zs
◌∙∙◌ {X} {xs} {ys} {zs} h k = IsPermutation-trans xs ys zs h k

pub same : {X : Type 0} {xs ys : List X} → xs ≡ ys → IsPermutation xs ys
same {X} {xs} {ys} e = subst (IsPermutation xs) e (IsPermutation-refl xs)

pub back : {X : Type 0} {xs ys : List X} → IsPermutation xs ys → IsPermutation ys xs
back {X} {xs} {ys} h = IsPermutation-sym xs ys h

-- an expression that is found, and the others
abbrev without : List ExprIR → Name → List ExprIR
without [] b = []
without (e ∷ es) b = cond (bytes_eq b (expr_name e)) es (e ∷ without es b)

taken-out : (es : List ExprIR) (b : Name) (e : ExprIR) → expr_named es b ≡ Some e → IsPermutation es (e ∷ without es b)
taken-out [] b e q = cc
taken-out (d ∷ es) b e q = at (bytes_eq b (expr_name d)) q (taken-out es b e)
  where
    at : (t : Bool) → cond t (Some d) (expr_named es b) ≡ Some e → (expr_named es b ≡ Some e → IsPermutation es (e ∷ without es b)) → IsPermutation (d ∷ es) (e ∷ cond t es (d ∷ without es b))
    at true r rest = let s : d ≡ e = cc in same (ap (λ (x : ExprIR). x ∷ es) s)
    at false r rest = IsPermutation-cons d es (e ∷ without es b) (rest r) ∙∙ back (IsPermutation-middle (e ∷ []) d (without es b)) ∙∙ same refl

named-still : (es : List ExprIR) (b a : Name) → bytes_eq a b ≡ false → expr_named (without es b) a ≡ expr_named es a
named-still [] b a n = refl
named-still (e ∷ es) b a n = at (bytes_eq b (expr_name e)) refl (bytes_eq a (expr_name e)) refl (named-still es b a n)
  where
    at : (t : Bool) → bytes_eq b (expr_name e) ≡ t → (u : Bool) → bytes_eq a (expr_name e) ≡ u → expr_named (without es b) a ≡ expr_named es a → expr_named (cond t es (e ∷ without es b)) a ≡ cond u (Some e) (expr_named es a)
    at true q true r h = absurd (both_ways (bytes_eq a b) n (ap (bytes_eq a) (named b (expr_name e) q) ∙ r))
    at true q false r h = refl
    at false q u r h = ap₂ (λ (x : Bool) (o : Option ExprIR). cond x (Some e) o) r h

replaced-still : (takes : List ExprIR) (b : Name) (ls : List ExprIR) → has (expr_names ls) b ≡ false → exprs_replaced (without takes b) ls ≡ exprs_replaced takes ls
replaced-still takes b [] n = refl
replaced-still takes b (l ∷ ls) n = at (bytes_eq b (expr_name l)) refl n (replaced-still takes b ls)
  where
    at : (t : Bool) → bytes_eq b (expr_name l) ≡ t → (t || has (expr_names ls) b) ≡ false → (has (expr_names ls) b ≡ false → exprs_replaced (without takes b) ls ≡ exprs_replaced takes ls) → exprs_replaced (without takes b) (l ∷ ls) ≡ exprs_replaced takes (l ∷ ls)
    at true q m rest = cc
    at false q m rest = ap₂ (λ (o : Option ExprIR) (r : List ExprIR). unwrap_or o l ∷ r) (named-still takes b (expr_name l) (nat_list_eq_equiv.symm (expr_name l) b ∙ q)) (rest m)

-- what takes the places of lower ones and these are what is made of them, and others
pub replaced-roots : (takes ls : List ExprIR) → AreDistinct (expr_names ls) → (left : List ExprIR) × IsPermutation (takes ++ ls) (exprs_replaced takes ls ++ left)
replaced-roots takes [] once = (takes, same (append-nil takes))
replaced-roots takes (l ∷ ls) once = at (expr_named takes (expr_name l)) refl (λ ts. replaced-roots ts ls (distinct_cons (expr_name l) (expr_names ls) once).1)
  where
    at : (o : Option ExprIR) → expr_named takes (expr_name l) ≡ o → ((ts : List ExprIR) → (left : List ExprIR) × IsPermutation (ts ++ ls) (exprs_replaced ts ls ++ left)) → (left : List ExprIR) × IsPermutation (takes ++ l ∷ ls) ((unwrap_or o l ∷ exprs_replaced takes ls) ++ left)
    at None q rest = let r = rest takes in (r.0, IsPermutation-middle takes l ls ∙∙ IsPermutation-cons l (takes ++ ls) (exprs_replaced takes ls ++ r.0) r.1)
    at (Some t) q rest =
        let ts = without takes (expr_name l) in
        let r = rest ts in
        let made : exprs_replaced ts ls ≡ exprs_replaced takes ls = replaced-still takes (expr_name l) ls (distinct_cons (expr_name l) (expr_names ls) once).0 in
        let below : IsPermutation (ts ++ ls) (exprs_replaced takes ls ++ r.0) = subst (λ (x : List ExprIR). IsPermutation (ts ++ ls) (x ++ r.0)) made r.1 in (
          l ∷ r.0,
          IsPermutation-append_left (l ∷ ls) takes (t ∷ ts) (taken-out takes (expr_name l) t q)
              ∙∙ IsPermutation-cons t (ts ++ l ∷ ls) (exprs_replaced takes ls ++ l ∷ r.0)
              (IsPermutation-middle ts l ls ∙∙ IsPermutation-cons l (ts ++ ls) (exprs_replaced takes ls ++ r.0) below ∙∙ back (IsPermutation-middle (exprs_replaced takes ls) l r.0)),
        )

-- all of both
all-roots : (us ls s t m r left : List ExprIR) → IsPermutation us (s ++ (t ++ m)) → IsPermutation (t ++ ls) (r ++ left) → IsPermutation (us ++ ls) ((s ++ (r ++ m)) ++ left)
all-roots us ls s t m r left h k =
    IsPermutation-append_left ls us (s ++ (t ++ m)) h
    ∙∙ same (append_assoc s (t ++ m) ls ∙ ap (λ (x : List ExprIR). s ++ x) (append_assoc t m ls))
    ∙∙ IsPermutation-append_right s (t ++ (m ++ ls)) (t ++ (ls ++ m)) (IsPermutation-append_right t (m ++ ls) (ls ++ m) (IsPermutation-append_comm m ls))
    ∙∙ same (ap (λ (x : List ExprIR). s ++ x) (sym (append_assoc t ls m)))
    ∙∙ IsPermutation-append_right s ((t ++ ls) ++ m) ((r ++ left) ++ m) (IsPermutation-append_left m (t ++ ls) (r ++ left) k)
    ∙∙ same (ap (λ (x : List ExprIR). s ++ x) (append_assoc r left m))
    ∙∙ IsPermutation-append_right s (r ++ (left ++ m)) (r ++ (m ++ left)) (IsPermutation-append_right r (left ++ m) (m ++ left) (IsPermutation-append_comm left m))
    ∙∙ same (ap (λ (x : List ExprIR). s ++ x) (sym (append_assoc r m left)) ∙ sym (append_assoc s (r ++ m) left))

nodes-append : (xs ys : List ExprIR) → expr_nodes (xs ++ ys) ≡ expr_nodes xs ++ expr_nodes ys
nodes-append xs ys = map-append (λ (e : ExprIR). e.node) xs ys

-- their numbers, as those of the layers that they are in
pub met-roots : (us ls s t m : List ExprIR) → AreDistinct (expr_names ls) → IsPermutation us (s ++ (t ++ m)) → (left : List Node) × IsPermutation (expr_nodes us ++ (expr_nodes ls ++ [])) ((expr_nodes s ++ (expr_nodes (exprs_replaced t ls ++ m) ++ [])) ++ left)
met-roots us ls s t m once h =
    let r = replaced-roots t ls once in
    let made = exprs_replaced t ls ++ m in (
      expr_nodes r.0,
      same (sym (nodes-append us ls ∙ ap (λ (x : List Node). expr_nodes us ++ x) (sym (append-nil (expr_nodes ls)))))
          ∙∙ IsPermutation-map (λ (e : ExprIR). e.node) (us ++ ls) ((s ++ made) ++ r.0) (all-roots us ls s t m (exprs_replaced t ls) r.0 h r.1)
          ∙∙ same (nodes-append (s ++ made) r.0 ∙ ap (λ (x : List Node). x ++ expr_nodes r.0) (nodes-append s made ∙ ap (λ (x : List Node). expr_nodes s ++ x) (sym (append-nil (expr_nodes made))))),
    )
