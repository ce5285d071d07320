-- What names an expression.
use Rattle.std.proofs.Common.{◌≡◌, ℕ, zero, suc, ◌+◌, ◌≤◌, List, [], ◌∷◌, ◌++◌, length, take, map, Some, sym, ap, ap₂, ◌∙◌, refl}
use Rattle.std.specs.List.{slice_get}
use Rattle.std.proofs.lemmas.List.{map-append, take_all}
use Rattle.plan_core.specs.declared.arena.Node.{Node}
use Rattle.plan_expr.specs.declared.aexpr.AExpr.{AExpr}
use Rattle.plan_expr.specs.declared.names.Naming.{Naming as Found}
use Rattle.plan_expr.specs.declared.names.Naming.TheVariants as found
use Rattle.plan_expr.specs.Operands.{IsExpr, operands_of}
use Rattle.plan_expr.specs.Exprs.{ExprOp, column, literal, alias, binary, ternary, aggregate, call, window, len, expr_op, expr_at, exprs_at}
use Rattle.plan_expr.specs.Naming.{Naming, by_column, by_literal, by_alias, unnamed, naming, namings, or_naming, own_naming, first_named, named_part, naming_seen}
use Rattle.plan_expr.proofs.ExprLemmas.{expr_open}
use Rattle.plan_expr.proofs.ListLemmas.{take-next}

or-assoc : (a b c : Naming) → or_naming (or_naming a b) c ≡ or_naming a (or_naming b c)
or-assoc (by_column x) b c = refl
or-assoc (by_literal x) b c = refl
or-assoc (by_alias x) b c = refl
or-assoc unnamed b c = refl

first-append : (xs ys : List Naming) → first_named (xs ++ ys) ≡ or_naming (first_named xs) (first_named ys)
first-append [] ys = refl
first-append (x ∷ xs) ys = ap (or_naming x) (first-append xs ys) ∙ sym (or-assoc x (first_named xs) (first_named ys))

-- what is found names the whole, whatever comes later
found_names : (f : Found) (m : Naming) → or_naming (naming_seen (Some f)) m ≡ naming_seen (Some f)
found_names (found.Column name) m = refl
found_names (found.Literal name) m = refl
found_names (found.Alias name) m = refl

or_unnamed : (a b : Naming) → or_naming a b ≡ unnamed → (a ≡ unnamed) × (b ≡ unnamed)
or_unnamed (by_column x) b e = cc
or_unnamed (by_literal x) b e = cc
or_unnamed (by_alias x) b e = cc
or_unnamed unnamed b e = (refl, e)

-- a search among things that have names, one after another
module _ {X : Type 0} (name : X → Naming) where
  pub first_found : (xs : List X) (i : ℕ) (x : X) (f : Found) → slice_get xs i ≡ Some x → first_named (map name (take i xs)) ≡ unnamed → naming_seen (Some f) ≡ name x → naming_seen (Some f) ≡ first_named (map name xs)
  first_found [] i x f e u s = cc
  first_found (y ∷ xs) zero x f e u s =
      let same : x ≡ y = cc in
      sym (found_names f (first_named (map name xs))) ∙ ap (λ (m : Naming). or_naming m (first_named (map name xs))) (s ∙ ap name same)
  first_found (y ∷ xs) (suc i) x f e u s =
      let p = or_unnamed (name y) (first_named (map name (take i xs))) u in
      first_found xs i x f e p.1 s ∙ ap (λ (m : Naming). or_naming m (first_named (map name xs))) (sym p.0)

  pub first_more : (xs : List X) (i : ℕ) (x : X) → slice_get xs i ≡ Some x → first_named (map name (take i xs)) ≡ unnamed → unnamed ≡ name x → first_named (map name (take (i + 1) xs)) ≡ unnamed
  first_more xs i x e u s =
      ap (λ (l : List X). first_named (map name l)) (take-next xs i x e)
      ∙ ap first_named (map-append name (take i xs) (x ∷ []))
      ∙ first-append (map name (take i xs)) (name x ∷ [])
      ∙ ap₂ (λ (a b : Naming). or_naming a (or_naming b unnamed)) u (sym s)

  pub first_end : (xs : List X) (i : ℕ) → length xs ≤ i → first_named (map name (take i xs)) ≡ unnamed → unnamed ≡ first_named (map name xs)
  first_end xs i past u = sym u ∙ ap (λ (l : List X). first_named (map name l)) (take_all i xs past)

namings-at : (ex : List AExpr) (ns : List Node) → namings (exprs_at ex ns) ≡ map (λ (m : Node). naming (expr_at ex m)) ns
namings-at ex [] = refl
namings-at ex (n ∷ ns) = ap (λ (ms : List Naming). naming (expr_at ex n) ∷ ms) (namings-at ex ns)

part-map : {X : Type 0} (name : X → Naming) (op : ExprOp) (xs : List X) → named_part op (map name xs) ≡ map name (named_part op xs)
part-map name (column a) xs = refl
part-map name (literal v) xs = refl
part-map name (alias a) xs = refl
part-map name (binary o) xs = refl
part-map name ternary xs = refl
part-map name (aggregate o) xs = refl
part-map name (call f o) xs = refl
part-map name window [] = refl
part-map name window (x ∷ xs) = refl
part-map name len xs = refl

-- an expression is named by itself, or by the first of its operands that has a name
pub naming-open : (ex : List AExpr) (n : Node) (p : AExpr) → IsExpr ex n → slice_get ex n.0 ≡ Some p → naming (expr_at ex n) ≡ or_naming (own_naming (expr_op p)) (first_named (map (λ (m : Node). naming (expr_at ex m)) (named_part (expr_op p) (operands_of p))))
naming-open ex n p h e =
    ap naming (expr_open ex n p h e)
    ∙ ap (λ (ms : List Naming). or_naming (own_naming (expr_op p)) (first_named ms)) (ap (named_part (expr_op p)) (namings-at ex (operands_of p)) ∙ part-map (λ (m : Node). naming (expr_at ex m)) (expr_op p) (operands_of p))

-- an expression that is named by itself
pub naming_own : (ex : List AExpr) (n : Node) (p : AExpr) (f : Found) → IsExpr ex n → slice_get ex n.0 ≡ Some p → naming_seen (Some f) ≡ own_naming (expr_op p) → naming_seen (Some f) ≡ naming (expr_at ex n)
naming_own ex n p f h e s =
    let below : Naming = first_named (map (λ (m : Node). naming (expr_at ex m)) (named_part (expr_op p) (operands_of p))) in
    sym (found_names f below) ∙ ap (λ (m : Naming). or_naming m below) s ∙ sym (naming-open ex n p h e)

-- one that is named by its operands alone
pub naming_below : (ex : List AExpr) (n : Node) (p : AExpr) → IsExpr ex n → slice_get ex n.0 ≡ Some p → unnamed ≡ own_naming (expr_op p) → first_named (map (λ (m : Node). naming (expr_at ex m)) (named_part (expr_op p) (operands_of p))) ≡ naming (expr_at ex n)
naming_below ex n p h e s =
    let below : Naming = first_named (map (λ (m : Node). naming (expr_at ex m)) (named_part (expr_op p) (operands_of p))) in
    ap (λ (m : Naming). or_naming m below) s ∙ sym (naming-open ex n p h e)

-- an operand in which a name is looked for is one of the operands, at the same place
pub part_operand : (op : ExprOp) (ns : List Node) (i : ℕ) (m : Node) → slice_get (named_part op ns) i ≡ Some m → slice_get ns i ≡ Some m
part_operand (column a) ns i m e = e
part_operand (literal v) ns i m e = e
part_operand (alias a) ns i m e = e
part_operand (binary o) ns i m e = e
part_operand ternary ns i m e = e
part_operand (aggregate o) ns i m e = e
part_operand (call f o) ns i m e = e
part_operand window [] i m e = cc
part_operand window (n ∷ ns) zero m e = e
part_operand window (n ∷ ns) (suc i) m e = cc
part_operand len ns i m e = e
