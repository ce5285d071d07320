-- What the checker's walk over an expression finds in the operands of an expression.
use Rattle.std.proofs.Common.{◌≡◌, ℕ, zero, suc, ◌+◌, ◌≤◌, Bool, true, false, ◌&&◌, List, [], ◌∷◌, ◌++◌, map, length, take, Option, Some, None, is_some, refl, sym, ap, ◌∙◌}
use Rattle.std.specs.Prelude.{option_and_then}
use Rattle.std.proofs.lemmas.List.{map-append, take_all}
use Rattle.std.specs.List.{slice_get, flat_map, list_all}
use Rattle.plan_core.specs.declared.arena.Node.{Node}
use Rattle.plan_core.specs.Columns.{Columns, type_of}
use Rattle.plan_core.specs.declared.data_type.DataType.{DataType}
use Rattle.plan_expr.specs.declared.aexpr.AExpr.{AExpr}
use Rattle.plan_expr.specs.Operands.{IsExpr, operands_of}
use Rattle.plan_expr.specs.Exprs.{Expr, expr_op, expr_at, exprs_at}
use Rattle.plan_expr.specs.Walks.{column_name}
use Rattle.plan_expr.proofs.LeafLemmas.{leaves_column, leaves_below}
use Rattle.plan_expr.proofs.ExprLemmas.{expr_open}
use Rattle.plan_expr.specs.Leaves.{Name, leaves}
use Rattle.plan_frame.specs.declared.exprs.FirstTypes.{FirstTypes}
use Rattle.plan_frame.specs.Exprs.{all_known, expr_type, expr_types, op_type, type_by}
use Rattle.plan_frame.specs.Firsts.{first_types}
use Rattle.plan_expr.proofs.ListLemmas.{take-next}
use Rattle.plan_frame.proofs.FrameLemmas.{length-map}
use Rattle.plan_expr.specs.Types.{all_of}

and_true : (b : Bool) → (b && true) ≡ b
and_true true = refl
and_true false = refl

known-append : (xs ys : List Name) (s : Columns) → all_known (xs ++ ys) s ≡ (all_known xs s && all_known ys s)
known-append [] ys s = refl
known-append (x ∷ xs) ys s = go (is_some (type_of s x)) (known-append xs ys s)
  where
    go : (b : Bool) → all_known (xs ++ ys) s ≡ (all_known xs s && all_known ys s) → (b && all_known (xs ++ ys) s) ≡ ((b && all_known xs s) && all_known ys s)
    go true e = e
    go false e = refl

known-flat : (f : Node → List Name) (ns : List Node) (s : Columns) → all_known (flat_map f ns) s ≡ list_all (λ (m : Node). all_known (f m) s) ns
known-flat f [] s = refl
known-flat f (n ∷ ns) s = known-append (f n) (flat_map f ns) s ∙ ap (λ (b : Bool). all_known (f n) s && b) (known-flat f ns s)

module _ (ex : List AExpr) (n : Node) (h : IsExpr ex n) where
  pub known-column : (p : AExpr) (name : Name) (s : Columns) → slice_get ex n.0 ≡ Some p → column_name p ≡ Some name → is_some (type_of s name) ≡ all_known (leaves (expr_at ex n)) s
  known-column p name s e c = sym (and_true (is_some (type_of s name))) ∙ ap (λ (x : List Name). all_known x s) (sym (leaves_column ex n p h e name c))

  pub known-below : (p : AExpr) (s : Columns) → slice_get ex n.0 ≡ Some p → column_name p ≡ None → list_all (λ (m : Node). all_known (leaves (expr_at ex m)) s) (operands_of p) ≡ all_known (leaves (expr_at ex n)) s
  known-below p s e c = sym (ap (λ (x : List Name). all_known x s) (leaves_below ex n p h e c) ∙ known-flat (λ (m : Node). leaves (expr_at ex m)) (operands_of p) s)

-- types of operands, one after another

types-at : (ex : List AExpr) (ns : List Node) (s : Columns) → expr_types (exprs_at ex ns) s ≡ map (λ (m : Node). expr_type (expr_at ex m) s) ns
types-at ex [] s = refl
types-at ex (n ∷ ns) s = ap (λ (os : List (Option DataType)). expr_type (expr_at ex n) s ∷ os) (types-at ex ns s)

-- the type of an expression is that of its operator over the types of its operands
pub type-open : (ex : List AExpr) (n : Node) (p : AExpr) (s : Columns) → IsExpr ex n → slice_get ex n.0 ≡ Some p → expr_type (expr_at ex n) s ≡ type_by (expr_op p) (map (λ (m : Node). expr_type (expr_at ex m) s) (operands_of p)) s
type-open ex n p s h e = ap (λ (x : Expr). expr_type x s) (expr_open ex n p h e) ∙ ap (λ (os : List (Option DataType)). type_by (expr_op p) os s) (types-at ex (operands_of p) s)

-- one more type
all-more : (os : List (Option DataType)) (ts : List DataType) (o : Option DataType) (t : DataType) → all_of os ≡ Some ts → o ≡ Some t → all_of (os ++ o ∷ []) ≡ Some (ts ++ t ∷ [])
all-more [] [] o t e k = rw k refl
all-more [] (u ∷ ts) o t e k = cc
all-more (None ∷ os) ts o t e k = cc
all-more (Some u ∷ os) ts o t e k = at (all_of os) (λ rest q. all-more os rest o t q k) ts e
  where
    at : (all : Option (List DataType)) → ((rest : List DataType) → all ≡ Some rest → all_of (os ++ o ∷ []) ≡ Some (rest ++ t ∷ [])) → (vs : List DataType) → option_and_then (λ (rest : List DataType). Some (u ∷ rest)) all ≡ Some vs → option_and_then (λ (rest : List DataType). Some (u ∷ rest)) (all_of (os ++ o ∷ [])) ≡ Some (vs ++ t ∷ [])
    at None below vs e = cc
    at (Some rest) below vs e = ap (option_and_then (λ (x : List DataType). Some (u ∷ x))) (below rest refl) ∙ (let q : u ∷ rest ≡ vs = cc in ap (λ (x : List DataType). Some (x ++ t ∷ [])) q)

-- a type that is wanting
all-none : (f : Node → Option DataType) (ns : List Node) (i : ℕ) (n : Node) → slice_get ns i ≡ Some n → f n ≡ None → all_of (map f ns) ≡ None
all-none f [] i n e k = cc
all-none f (m ∷ ns) zero n e k = let q : m ≡ n = cc in rw q (rw k refl)
all-none f (m ∷ ns) (suc i) n e k = at (f m) (all-none f ns i n e k)
  where
    at : (o : Option DataType) → all_of (map f ns) ≡ None → all_of (o ∷ map f ns) ≡ None
    at None q = refl
    at (Some t) q = ap (λ (x : Option (List DataType)). option_and_then (λ (rest : List DataType). Some (t ∷ rest)) x) q

length-all : (os : List (Option DataType)) (ts : List DataType) → all_of os ≡ Some ts → length ts ≡ length os
length-all [] [] e = refl
length-all [] (t ∷ ts) e = cc
length-all (None ∷ os) ts e = cc
length-all (Some u ∷ os) ts e = at (all_of os) (λ rest q. length-all os rest q) ts e
  where
    at : (all : Option (List DataType)) → ((rest : List DataType) → all ≡ Some rest → length rest ≡ length os) → (vs : List DataType) → option_and_then (λ (rest : List DataType). Some (u ∷ rest)) all ≡ Some vs → length vs ≡ suc (length os)
    at None below vs e = cc
    at (Some rest) below vs e = let q : u ∷ rest ≡ vs = cc in ap length (sym q) ∙ ap suc (below rest refl)

-- the operands before a place have types, and these are the first three of them
pub record TypedTo (ex : List AExpr) (s : Columns) (ns : List Node) (i : ℕ) (types : FirstTypes) : Type 0 where
  pub all : List DataType
  pub typed : all_of (map (λ (m : Node). expr_type (expr_at ex m) s) (take i ns)) ≡ Some all
  pub first : types ≡ first_types all

pub typed-none : (ex : List AExpr) (s : Columns) (ns : List Node) → TypedTo ex s ns 0 (first_types [])
typed-none ex s ns = record { all = []; typed = refl; first = refl }

pub typed-next : (ex : List AExpr) (s : Columns) (ns : List Node) (i : ℕ) (n : Node) (t : DataType) (types more : FirstTypes) → slice_get ns i ≡ Some n → expr_type (expr_at ex n) s ≡ Some t → TypedTo ex s ns i types → ((ts : List DataType) → types ≡ first_types ts → more ≡ first_types (ts ++ t ∷ [])) → TypedTo ex s ns (i + 1) more
typed-next ex s ns i n t types more e k h one = record {
  all = h.all ++ t ∷ [];
  typed = ap (λ (xs : List Node). all_of (map (λ (m : Node). expr_type (expr_at ex m) s) xs)) (take-next ns i n e)
      ∙ ap all_of (map-append (λ (m : Node). expr_type (expr_at ex m) s) (take i ns) (n ∷ []))
      ∙ all-more (map (λ (m : Node). expr_type (expr_at ex m) s) (take i ns)) h.all (expr_type (expr_at ex n) s) t h.typed k;
  first = one h.all h.first;
}

-- where an operand has no type, the expression has none
pub typed-bad : (ex : List AExpr) (n m : Node) (p : AExpr) (i : ℕ) (s : Columns) → IsExpr ex n → slice_get ex n.0 ≡ Some p → slice_get (operands_of p) i ≡ Some m → expr_type (expr_at ex m) s ≡ None → ◌≡◌ {A = Option DataType} None (expr_type (expr_at ex n) s)
typed-bad ex n m p i s h e k none =
    sym (type-open ex n p s h e ∙ ap (option_and_then (op_type (expr_op p) s)) (all-none (λ (x : Node). expr_type (expr_at ex x) s) (operands_of p) i m k none))

-- where all operands have types, it has the type of its operator over these
pub typed-end : (ex : List AExpr) (n : Node) (p : AExpr) (i : ℕ) (s : Columns) (types : FirstTypes) (o : Option DataType) → IsExpr ex n → slice_get ex n.0 ≡ Some p → length (operands_of p) ≤ i → TypedTo ex s (operands_of p) i types → ((ts : List DataType) → types ≡ first_types ts → length ts ≡ length (operands_of p) → o ≡ op_type (expr_op p) s ts) → o ≡ expr_type (expr_at ex n) s
typed-end ex n p i s types o h e past t over =
    let f : Node → Option DataType = λ m. expr_type (expr_at ex m) s in
    let all : all_of (map f (operands_of p)) ≡ Some t.all = ap (λ (xs : List Node). all_of (map f xs)) (sym (take_all i (operands_of p) past)) ∙ t.typed in
    over t.all t.first (length-all (map f (operands_of p)) t.all all ∙ length-map f (operands_of p))
    ∙ sym (type-open ex n p s h e ∙ ap (option_and_then (op_type (expr_op p) s)) all)

-- three types that are the first of some are those of more, and with another the third
pub more_third : (x : FirstTypes) (t : DataType) (ts : List DataType) → x ≡ first_types ts → (x.second ≡ None → ⊥) → x.third ≡ None → ◌≡◌ {A = FirstTypes} (record { first = x.first; second = x.second; third = Some t }) (first_types (ts ++ t ∷ []))
more_third x t [] e some none = absurd (some (ap (λ (y : FirstTypes). y.second) e))
more_third x t (a ∷ []) e some none = absurd (some (ap (λ (y : FirstTypes). y.second) e))
more_third x t (a ∷ b ∷ []) e some none = ap (λ (y : FirstTypes). record { first = y.first; second = y.second; third = Some t }) e
more_third x t (a ∷ b ∷ c ∷ ts) e some none = let q : ◌≡◌ {A = Option DataType} (Some c) None = sym (ap (λ (y : FirstTypes). y.third) e) ∙ none in cc

pub more_past : (x : FirstTypes) (t : DataType) (ts : List DataType) → x ≡ first_types ts → (x.third ≡ None → ⊥) → x ≡ first_types (ts ++ t ∷ [])
more_past x t [] e some = absurd (some (ap (λ (y : FirstTypes). y.third) e))
more_past x t (a ∷ []) e some = absurd (some (ap (λ (y : FirstTypes). y.third) e))
more_past x t (a ∷ b ∷ []) e some = absurd (some (ap (λ (y : FirstTypes). y.third) e))
more_past x t (a ∷ b ∷ c ∷ ts) e some = e
