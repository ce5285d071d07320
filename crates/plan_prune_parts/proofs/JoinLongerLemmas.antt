-- Expressions in an arena that grew: they stand on, and read as they did.
use Rattle.std.proofs.Common.{◌≡◌, ◌∙◌, All, List, [], ◌∷◌, ◌++◌, Option, None, Some, get_or, refl, sym, ap, append_assoc, arith, ℕ, option_map, ◌≤◌, ◌⊎◌, inl, inr, length}
use Rattle.std.specs.List.{slice_get}
use Rattle.plan_core.specs.declared.arena.Node.{Node}
use Rattle.plan_tree.specs.Rose.{no_roses, join}
use Rattle.plan_tree.specs.Stands.{Trees, Apart, Reaches, StandsOnce}
use Rattle.plan_tree.proofs.Frames.{Reaches-join, Stands-kept, slice_get-append}
use Rattle.plan_tree.proofs.SplitLemmas.{StandsOnce-join}
use Rattle.plan_tree.proofs.Numbers.{Reaches-within}
use Rattle.plan_tree.proofs.ReadLemmas.{tree_at-is}
use Rattle.plan_expr.specs.declared.aexpr.AExpr.{AExpr}
use Rattle.plan_expr.specs.declared.expr_ir.ExprIR.{ExprIR}
use Rattle.plan_expr.specs.Exprs.{bare_exprs, Expr, expr_at, one_expr}
use Rattle.plan_expr.specs.Operands.{expr_shape, IsExpr}
use Rattle.plan_ir.specs.Parts.{condition_in, condition_of, list_of}
use Rattle.plan_join.specs.declared.options.JoinOptions.{JoinOptions}
use Rattle.plan_join.specs.declared.options.JoinTypeOptionsIR.{JoinTypeOptionsIR}
use Rattle.plan_join.specs.declared.options.JoinTypeOptionsIR.TheVariants.{IEJoin, Cross}
use Rattle.plan_join.specs.Told.{condition, kind_options_at, KindOptions, told_at}
use Rattle.plan_pruned.specs.Renamed.{IsLonger, IsRenamed}
use Rattle.plan_prune_parts.specs.Left.{StandFor}

-- trees stand on
pub trees-longer : (ex grown : List AExpr) (ns : List Node) (f : Trees AExpr) → IsLonger ex grown → StandsOnce expr_shape ex ns f → StandsOnce expr_shape grown ns f
trees-longer ex grown ns f l h = record {
  stands = Stands-kept expr_shape ex grown ns f h.stands (λ k r. ap (λ (xs : List AExpr). slice_get xs k) l.1 ∙ slice_get-append expr_shape ex l.0 k (Reaches-within expr_shape ex ns f k h.stands r));
  once = h.once;
}

stands_on : (old new : List AExpr) (n : Node) → IsLonger old new → (h : IsExpr old n) → StandsOnce expr_shape new (n ∷ []) h.0
stands_on old new n l h = trees-longer old new (n ∷ []) h.0 l h.1

-- what stands for others stands for them with new trees before it
pub stand_before : (ex mid grown : List AExpr) (top new old : List Node) → IsLonger mid grown → length ex ≤ length mid → StandFor ex mid new old → StandFor mid grown top [] → StandFor ex grown (top ++ new) old
stand_before ex mid grown top new old l low x y f s =
    let a = x f s in
    let b = y no_roses (record { stands = tt; once = tt }) in
    let apart : Apart b.0 a.0 = λ k r q. elim (b.2 k r) as (λ _. ⊥) [ inl u ↦ u | inr v ↦ (let within = Reaches-within expr_shape mid new a.0 k a.1.stands q in omega (arith, v, within)) ] in (
      join b.0 a.0,
      StandsOnce-join expr_shape grown top new b.0 a.0 b.1 (trees-longer mid grown new a.0 l a.1) apart,
      λ k r. elim (Reaches-join expr_shape b.0 a.0 k r) as (λ _. Reaches f k ⊎ (length ex ≤ k)) [
        | inl u ↦ elim (b.2 k u) as (λ _. Reaches f k ⊎ (length ex ≤ k)) [ inl v ↦ absurd v | inr w ↦ inr (omega (arith, w, low)) ]
        | inr v ↦ a.2 k v
      ],
    )

-- an expression stands on
pub is_expr-longer : (old new : List AExpr) (n : Node) → IsLonger old new → IsExpr old n → IsExpr new n
is_expr-longer old new n l h = (h.0, stands_on old new n l h)

-- and reads as it did
pub expr_at-longer : (old new : List AExpr) (n : Node) → IsLonger old new → IsExpr old n → expr_at new n ≡ expr_at old n
expr_at-longer old new n l h = ap (λ (t : Trees AExpr). one_expr (bare_exprs t)) (tree_at-is expr_shape new n h.0 (stands_on old new n l h) ∙ sym (tree_at-is expr_shape old n h.0 h.1))

-- so does the condition of a join
pub conditions-longer : (old new : List AExpr) (es : List ExprIR) → IsLonger old new → All (λ (e : ExprIR). IsExpr old e.node) es → All (λ (e : ExprIR). IsExpr new e.node) es
conditions-longer old new es l h k d lt = is_expr-longer old new (get_or es k d).node l (h k d lt)

pub told-longer : (old new : List AExpr) (o : JoinOptions) → IsLonger old new → All (λ (e : ExprIR). IsExpr old e.node) (list_of (condition_of o)) → told_at new o ≡ told_at old o
told-longer old new o l h = ap (λ (k : Option KindOptions). record { allow_parallel = o.allow_parallel; force_parallel = o.force_parallel; args = o.args; options = k }) (of o.options h)
  where
    of : (told : Option JoinTypeOptionsIR) → All (λ (e : ExprIR). IsExpr old e.node) (list_of (condition_in told)) → option_map (kind_options_at new) told ≡ option_map (kind_options_at old) told
    of None h = refl
    of (Some (IEJoin operators)) h = refl
    of (Some (Cross predicate)) h = ap (λ (e : Expr). Some (condition (record { name = predicate.output_name; expr = e }))) (expr_at-longer old new predicate.node l (h 0 predicate (omega arith)))

-- twice longer is longer
pub longer-longer : (a b c : List AExpr) → IsLonger a b → IsLonger b c → IsLonger a c
longer-longer a b c l m = (l.0 ++ m.0, m.1 ∙ ap (λ (x : List AExpr). x ++ m.0) l.1 ∙ append_assoc a l.0 m.0)

-- a copy stands for what it was made of
pub copy_for : (now : List ℕ → List ℕ) (ex grown : List AExpr) (node copy : Node) → IsRenamed now ex grown node copy → StandFor ex grown (copy ∷ []) (node ∷ [])
copy_for now ex grown node copy r f s = (r.trees, r.stands, λ k q. inr (r.fresh k q))

-- numbers stand for themselves
pub own_for : (ex : List AExpr) (ns : List Node) → StandFor ex ex ns ns
own_for ex ns f s = (f, s, λ k q. inl q)
