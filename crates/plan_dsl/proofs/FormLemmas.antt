-- Expressions that have a form in plans: those in them have one, and they have a name.
use Rattle.std.proofs.Common.{◌≡◌, ℕ, zero, suc, ◌<◌, ◌≤◌, Bool, true, false, not, ◌&&◌, ◌||◌, nat_eq, List, [], ◌∷◌, Some, None, length, take, refl, ap, sym, ◌∙◌, arith, codes}
use Rattle.std.specs.List.{slice_get, flat_map, filter_map, list_all, list_any}
use Rattle.std.proofs.lemmas.List.Folds.{list_all-append}
use Rattle.plan_dsl.specs.declared.expr.Expr.{Expr, size-Expr, size_is-Expr, items-the_row-Expr}
use Rattle.plan_dsl.specs.declared.expr.Expr.TheVariants as exprs
use Rattle.plan_expr.specs.declared.function_expr.FunctionExpr.{FunctionExpr}
use Rattle.plan_expr.specs.declared.function_expr.FunctionExpr.TheVariants as functions
use Rattle.plan_expr.specs.Functions.{inputs_of}
use Rattle.plan_dsl.specs.Names.{decision, named_parts}
use Rattle.plan_dsl.specs.Parts.{aggregated, children}
use Rattle.plan_dsl.specs.Typing.{has_form, has_own_form}
use Rattle.plan_dsl.specs.Walks.{preorder, walk_by}
use Rattle.plan_dsl.proofs.NameLemmas.{decided_here, decided_next}
use Rattle.plan_dsl.proofs.SizeLemmas.{child_below}
use Rattle.plan_dsl.proofs.WalkLemmas.{preorder-is}

-- each one passes a test where none fails it
pub all-not_any : {X : Type 0} (p : X → Bool) (xs : List X) → list_all p xs ≡ not (list_any (λ x. not (p x)) xs)
all-not_any p [] = refl
all-not_any p (x ∷ xs) = go (p x) (all-not_any p xs)
  where
    go : (b : Bool) → list_all p xs ≡ not (list_any (λ x. not (p x)) xs) → (b && list_all p xs) ≡ not (not b || list_any (λ x. not (p x)) xs)
    go true rest = rest
    go false rest = refl

and_first : (a b : Bool) → (a && b) ≡ true → a ≡ true
and_first true b h = refl
and_first false b h = h

and_second : (a b : Bool) → (a && b) ≡ true → b ≡ true
and_second true b h = h
and_second false b h = cc

-- an expression that has a form has one itself
pub form-own : (e : Expr) → has_form e ≡ true → has_own_form e ≡ true
form-own e h = and_first (has_own_form e) (list_all has_own_form (flat_map preorder (children e))) (sym (ap (list_all has_own_form) (preorder-is e)) ∙ h)

-- the first of those that it is made of has one
form-first : (e c : Expr) (rest : List Expr) → children e ≡ c ∷ rest → has_form e ≡ true → has_form c ≡ true
form-first e c rest is h =
    let below : list_all has_own_form (flat_map preorder (children e)) ≡ true = and_second (has_own_form e) (list_all has_own_form (flat_map preorder (children e))) (sym (ap (list_all has_own_form) (preorder-is e)) ∙ h) in
    let apart : list_all has_own_form (flat_map preorder (c ∷ rest)) ≡ (has_form c && list_all has_own_form (flat_map preorder rest)) = list_all-append has_own_form (preorder c) (flat_map preorder rest) in
    and_first (has_form c) (list_all has_own_form (flat_map preorder rest)) (sym apart ∙ ap (λ (es : List Expr). list_all has_own_form (flat_map preorder es)) (sym is) ∙ below)

-- the first expression that decides the name of one gives it
abbrev pub IsNamed : Expr → Type 0
IsNamed e = (name : List ℕ) × (slice_get (filter_map decision (walk_by named_parts e)) 0 ≡ Some (Some name))

-- one that decides nothing has the name of the first of those that it is made of
named_below_first : (k : ℕ) (e c : Expr) (rest parts : List Expr) → ((d : Expr) → size-Expr d ≤ k → has_form d ≡ true → IsNamed d) → size-Expr e ≤ suc k → has_form e ≡ true
    → decision e ≡ None → named_parts e ≡ c ∷ parts → children e ≡ c ∷ rest → IsNamed e
named_below_first k e c rest parts named small h open_ is made =
    let there : slice_get (named_parts e) 0 ≡ Some c = ap (λ (es : List Expr). slice_get es 0) is in
    let child : slice_get (children e) 0 ≡ Some c = ap (λ (es : List Expr). slice_get es 0) made in
    let less : size-Expr c < size-Expr e = child_below e c 0 child in
    let found = named c (omega (arith, less)) (form-first e c rest made h) in
    let none : filter_map decision (e ∷ flat_map (walk_by named_parts) (take 0 (named_parts e))) ≡ [] = rw open_ refl in
    (found.0, decided_next e c 0 (Some found.0) there none found.1)

-- a list that is as long as a function has inputs has a first one
has_first : (function : FunctionExpr) (es : List Expr) → nat_eq (length es) (inputs_of function) ≡ true → (c : Expr) × (rest : List Expr) × (es ≡ c ∷ rest)
has_first function (e ∷ es) h = (e, es, refl)
has_first functions.Not [] h = cc
has_first functions.IsNull [] h = cc
has_first functions.IsNotNull [] h = cc
has_first functions.FillNull [] h = cc
has_first functions.Reverse [] h = cc
has_first functions.CumSum [] h = cc

named_up_to : (k : ℕ) (e : Expr) → size-Expr e ≤ k → has_form e ≡ true → IsNamed e
named_up_to zero e small h = absurd (omega (arith, size_is-Expr e))
named_up_to (suc k) (exprs.Alias' p e name) small h = (name, decided_here (exprs.Alias' p e name) (Some name) refl)
named_up_to (suc k) (exprs.Column name) small h = (name, decided_here (exprs.Column name) (Some name) refl)
named_up_to (suc k) (exprs.Literal value) small h = (codes "literal", decided_here (exprs.Literal value) (Some (codes "literal")) refl)
named_up_to (suc k) exprs.Len small h = (codes "len", decided_here exprs.Len (Some (codes "len")) refl)
named_up_to (suc k) (exprs.BinaryExpr' p left op q right) small h = named_below_first k (exprs.BinaryExpr' p left op q right) left (right ∷ []) (right ∷ []) (named_up_to k) small h refl refl refl
named_up_to (suc k) (exprs.Agg agg) small h = named_below_first k (exprs.Agg agg) (aggregated agg) [] [] (named_up_to k) small h refl refl refl
named_up_to (suc k) (exprs.Ternary' p predicate q truthy r falsy) small h = named_below_first k (exprs.Ternary' p predicate q truthy r falsy) truthy (falsy ∷ predicate ∷ []) (falsy ∷ predicate ∷ []) (named_up_to k) small h refl refl refl
named_up_to (suc k) (exprs.Function' s input function options) small h =
    let own = form-own (exprs.Function' s input function options) h in
    let first = has_first function (items-the_row-Expr _ input) (and_second _ _ own) in
    named_below_first k (exprs.Function' s input function options) first.0 first.1 first.1 (named_up_to k) small h refl first.2 first.2
named_up_to (suc k) (exprs.Window' p function s partition_by) small h = named_below_first k (exprs.Window' p function s partition_by) function (items-the_row-Expr _ partition_by) [] (named_up_to k) small h refl refl refl
named_up_to (suc k) e small h = let own = form-own e h in cc

-- an expression that has a form has a name
pub form_named : (e : Expr) → has_form e ≡ true → (name : List ℕ) × (slice_get (filter_map decision (walk_by named_parts e)) 0 ≡ Some (Some name))
form_named e h = named_up_to (size-Expr e) e (omega arith) h
