-- The join on keys in the place of a cross join, put together.
use Rattle.std.proofs.Common.{◌≡◌, ◌∙◌, ◌++◌, true, All, List, [], ◌∷◌, map, fold, Option, Some, None, option_map, is_some, refl, sym, ap, ap₂, append_assoc, subst}
use Rattle.std.specs.List.{AllByRecursion}
use Rattle.std.proofs.lemmas.List.Elements.{All-from_recursion, recursion_from_All}
use Rattle.plan_core.specs.declared.arena.Node.{Node}
use Rattle.plan_core.specs.Columns.{Columns}
use Rattle.plan_tree.specs.Rose.{Roses, rose}
use Rattle.plan_expr.specs.declared.aexpr.AExpr.{AExpr}
use Rattle.plan_expr.specs.Exprs.{Expr, Named, all_named_at, expr_at, named_at}
use Rattle.plan_expr.specs.Naming.{Naming, by_alias, by_column, by_literal, naming, or_naming, own_output_name, unnamed}
use Rattle.plan_ir.specs.Parts.{list_of}
use Rattle.plan_ir.specs.Plans.{Op, join, Plan}
use Rattle.plan_join.specs.Told.{condition, KindOptions, Told}
use Rattle.plan_expr.specs.declared.expr_ir.ExprIR.{ExprIR}
use Rattle.plan_options.specs.declared.join.JoinArgs.{JoinArgs}
use Rattle.plan_prune_parts.specs.Places.{TakePlace}
use Rattle.plan_prune_parts.proofs.PlaceLemmas.{place_swapped, place_trans}
use Rattle.plan_collapse_laws.specs.Collapsed.{filtered_by, under}
use Rattle.plan_collapse_laws.specs.CrossKeys.{Crossed, KeyPair, own_expr}
use Rattle.plan_collapse_laws.specs.TakenKeys.{and_all, and_expr, self_named, told_now}
use Rattle.plan_collapse.specs.declared.keys.KeyNodes.{KeyNodes}
use Rattle.plan_collapse.specs.KeysAt.{NamesItself, left_nodes, pair_at}

-- a list mapped twice
twice : {A B C : Type 0} (g : B → C) (f : A → B) (xs : List A) → map g (map f xs) ≡ map (λ (x : A). g (f x)) xs
twice g f [] = refl
twice {C = C} g f (x ∷ xs) = ap (λ (l : List C). g (f x) ∷ l) (twice g f xs)

-- what holds of all that a list is mapped to

all_mapped : {A B : Type 0} (P : B → Type 0) (f : A → B) (xs : List A) → AllByRecursion (λ (x : A). P (f x)) xs → AllByRecursion P (map f xs)
all_mapped P f [] h = tt
all_mapped P f (x ∷ xs) h = (h.0, all_mapped P f xs h.1)

all_back : {A B : Type 0} (P : B → Type 0) (f : A → B) (xs : List A) → AllByRecursion P (map f xs) → AllByRecursion (λ (x : A). P (f x)) xs
all_back P f [] h = tt
all_back P f (x ∷ xs) h = (h.0, all_back P f xs h.1)

-- where numbers are what others are, and these name themselves, they do
pub named-alike : {A : Type 0} (f : Node → Expr) (g : A → Expr) (ns : List Node) (xs : List A) → map f ns ≡ map g xs → All (λ (x : A). NamesItself (g x)) xs → All (λ (n : Node). NamesItself (f n)) ns
named-alike {A = A} f g ns xs e h =
    All-from_recursion (λ (n : Node). NamesItself (f n)) ns (all_back NamesItself f ns (subst (AllByRecursion NamesItself) (sym e) (all_mapped NamesItself g xs (recursion_from_All (λ (x : A). NamesItself (g x)) xs h))))

-- And names itself by its left operand
and-named : (a b : Expr) → NamesItself a → NamesItself (and_expr a b)
and-named a b h = of (naming a) (naming b) h
  where
    of : (m n : Naming) → is_some (own_output_name m) ≡ true → is_some (own_output_name (or_naming m (or_naming n unnamed))) ≡ true
    of (by_column x) n e = refl
    of (by_literal x) n e = refl
    of (by_alias x) n e = refl
    of unnamed n e = cc

fold-named : (a : Expr) (es : List Expr) → NamesItself a → NamesItself (fold and_expr a es)
fold-named a [] h = h
fold-named a (e ∷ es) h = fold-named (and_expr a e) es (and-named a e h)

pub all-named : (f : Node → Expr) (g : Node → Expr) (made : Option Node) (ns : List Node) → option_map f made ≡ and_all (map g ns) → All (λ (n : Node). NamesItself (g n)) ns → All (λ (n : Node). NamesItself (f n)) (list_of made)
all-named f g None ns e h = All-from_recursion (λ (n : Node). NamesItself (f n)) [] tt
all-named f g (Some m) [] e h = cc
all-named f g (Some m) (n ∷ ns) e h =
    let first = (recursion_from_All (λ (x : Node). NamesItself (g x)) (n ∷ ns) h).0 in
    let is : f m ≡ fold and_expr (g n) (map g ns) = cc in
    All-from_recursion (λ (x : Node). NamesItself (f x)) (m ∷ []) (subst NamesItself (sym is) (fold-named (g n) (map g ns) first), tt)

-- keys under the names that they give themselves
pub left-keys : (grown ex : List AExpr) (j : Crossed) (keys : List KeyNodes) → map (expr_at grown) (left_nodes keys) ≡ map (expr_at ex) (left_nodes keys) → map (λ (n : Node). self_named (expr_at grown n)) (left_nodes keys) ≡ map (λ (k : KeyPair). self_named k.left_key) (map (pair_at ex j) keys)
left-keys grown ex j keys same =
    sym (twice self_named (expr_at grown) (left_nodes keys))
    ∙ ap (map self_named) (same ∙ twice (expr_at ex) (λ (k : KeyNodes). k.left) keys)
    ∙ twice self_named (λ (k : KeyNodes). expr_at ex k.left) keys
    ∙ sym (twice (λ (k : KeyPair). self_named k.left_key) (pair_at ex j) keys)

pub right-keys : (grown ex : List AExpr) (j : Crossed) (keys : List KeyNodes) (copies : List Node) → map (expr_at grown) copies ≡ map (λ (k : KeyNodes). own_expr j (expr_at ex k.right)) keys → map (λ (n : Node). self_named (expr_at grown n)) copies ≡ map (λ (k : KeyPair). self_named k.right_key) (map (pair_at ex j) keys)
right-keys grown ex j keys copies same =
    sym (twice self_named (expr_at grown) copies)
    ∙ ap (map self_named) same
    ∙ twice self_named (λ (k : KeyNodes). own_expr j (expr_at ex k.right)) keys
    ∙ sym (twice (λ (k : KeyPair). self_named k.right_key) (pair_at ex j) keys)

pub lefts-twice : (ex : List AExpr) (keys : List KeyNodes) → map (expr_at ex) (left_nodes keys) ≡ map (λ (k : KeyNodes). expr_at ex k.left) keys
lefts-twice ex keys = twice (expr_at ex) (λ (k : KeyNodes). k.left) keys

-- a filter by what was made, if anything was
filtered : (grown : List AExpr) (made : Option Node) (e : Option Expr) (p : Plan) → option_map (expr_at grown) made ≡ e → under (map (λ (n : Node). self_named (expr_at grown n)) (list_of made)) p ≡ filtered_by e p
filtered grown None e p is = ap (λ (x : Option Expr). filtered_by x p) is
filtered grown (Some n) e p is = ap (λ (x : Option Expr). filtered_by x p) is

-- the plan
pub keyed-plan : (grown : List AExpr) (made : Option Node) (e : Option Expr) (above left right ls rs : List Named) (schema : Columns) (told now : Told) (inputs : Roses (Unit {0}) Op) → above ≡ map (λ (n : Node). self_named (expr_at grown n)) (list_of made) → option_map (expr_at grown) made ≡ e → left ≡ ls → right ≡ rs → told ≡ now → under above (rose tt (join left right schema told) inputs) ≡ filtered_by e (rose tt (join ls rs schema now) inputs)
keyed-plan grown made e above left right ls rs schema told now inputs a is l r t =
    ap (λ (run : List Named). under run (rose tt (join left right schema told) inputs)) a
    ∙ filtered grown made e (rose tt (join left right schema told) inputs) is
    ∙ ap₂ (λ (x y : List Named). filtered_by e (rose tt (join x y schema told) inputs)) l r
    ∙ ap (λ (x : Told). filtered_by e (rose tt (join ls rs schema x) inputs)) t

-- what stands above goes first
pub above-first : (ex grown : List AExpr) (lefts copies all old : List Node) → TakePlace ex grown (lefts ++ (copies ++ all)) old → TakePlace ex grown (all ++ (lefts ++ copies)) old
above-first ex grown lefts copies all old h =
    place_trans ex grown grown (all ++ (lefts ++ copies)) (lefts ++ (copies ++ all)) old
    (subst (λ (ns : List Node). TakePlace grown grown (all ++ (lefts ++ copies)) ns) (append_assoc lefts copies all) (place_swapped grown (lefts ++ copies) all))
    h

-- a condition under the name that it gives itself
pub told-condition : (grown : List AExpr) (predicate : Option ExprIR) (made : Option Node) (e : Option Expr) → all_named_at grown (list_of predicate) ≡ map (λ (n : Node). self_named (expr_at grown n)) (list_of made) → option_map (expr_at grown) made ≡ e → option_map condition (option_map (named_at grown) predicate) ≡ option_map (λ (x : Expr). condition (self_named x)) e
told-condition grown None None e same is = ap (option_map (λ (x : Expr). condition (self_named x))) is
told-condition grown None (Some n) e same is = cc
told-condition grown (Some p) None e same is = cc
told-condition grown (Some p) (Some n) e same is =
    let named : named_at grown p ≡ self_named (expr_at grown n) = cc in
    ap (λ (x : Named). Some (condition x)) named ∙ ap (option_map (λ (x : Expr). condition (self_named x))) is

pub conditioned-plan : (grown : List AExpr) (left right : List ExprIR) (schema : Columns) (args : JoinArgs) (made_options made : Option KindOptions) (told now : Told) (inputs : Roses (Unit {0}) Op) → left ≡ [] → right ≡ [] → now ≡ told_now args made_options told → made_options ≡ made → rose tt (join (all_named_at grown left) (all_named_at grown right) schema now) inputs ≡ rose tt (join [] [] schema (told_now args made told)) inputs
conditioned-plan grown left right schema args made_options made told now inputs l r t is =
    ap₂ (λ (x y : List ExprIR). rose tt (join (all_named_at grown x) (all_named_at grown y) schema now) inputs) l r
    ∙ ap (λ (x : Told). rose tt (join [] [] schema x) inputs) (t ∙ ap (λ (o : Option KindOptions). told_now args o told) is)
