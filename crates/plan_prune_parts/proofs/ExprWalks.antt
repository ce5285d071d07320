-- What walks over expressions find, one after another: their names, the first that isn't scalar, and the columns that they make.
use Rattle.std.proofs.Common.{◌≡◌, ℕ, zero, suc, ◌+◌, Bool, true, false, cond, List, [], ◌∷◌, take, Option, Some, None, option_map, refl, sym, ap, ◌∙◌, add-one, append-nil}
use Rattle.std.specs.List.{slice_get, cons_option, flat_map}
use Rattle.plan_core.specs.Columns.{Columns, type_of, with_type, with_types}
use Rattle.plan_core.specs.Names.{with_names, with_name}
use Rattle.plan_core.specs.declared.data_type.DataType.{DataType}
use Rattle.plan_expr.specs.declared.aexpr.AExpr.{AExpr}
use Rattle.plan_expr.specs.declared.expr_ir.ExprIR.{ExprIR}
use Rattle.plan_expr.specs.Exprs.{expr_at, all_named_at}
use Rattle.plan_expr.specs.Leaves.{Name, leaves}
use Rattle.plan_expr.specs.Naming.{name_of}
use Rattle.plan_expr.specs.Scalars.{is_scalar}
use Rattle.plan_frame.specs.ExprLists.{all_leaves}
use Rattle.plan_pruned.specs.Pruned.{typed_names}
use Rattle.plan_pruned.proofs.ListSteps.{with_names-append}
use Rattle.plan_prune_parts.specs.Kept.{many_at, names_at, with_typed}
use Rattle.plan_core.specs.declared.arena.Node.{Node}
use Rattle.plan_expr.specs.Operands.{IsExpr, operands_of}
use Rattle.plan_expr.specs.Walks.{column_name}
use Rattle.plan_expr.proofs.LeafLemmas.{leaves_column, leaves_below}
use Rattle.plan_expr.proofs.ListLemmas.{flat_map-next}

-- expressions one after another
module _ (ex : List AExpr) where
  many_suc : (es : List ExprIR) (i : ℕ) (e : ExprIR) → slice_get es i ≡ Some e → many_at ex (take i es) ≡ [] → is_scalar (expr_at ex e.node) ≡ true → many_at ex (take (suc i) es) ≡ []
  many_suc [] i e k h good = cc
  many_suc (x ∷ es) zero e k h good = let q : e ≡ x = cc in (let s : is_scalar (expr_at ex x.node) ≡ true = rw (← q) good in rw s refl)
  many_suc (x ∷ es) (suc i) e k h good = go (is_scalar (expr_at ex x.node)) h (λ r. many_suc es i e k r good)
    where
      go : (b : Bool) → cond b (many_at ex (take i es)) (x ∷ []) ≡ [] → (many_at ex (take i es) ≡ [] → many_at ex (take (suc i) es) ≡ []) → cond b (many_at ex (take (suc i) es)) (x ∷ []) ≡ []
      go true h f = f h
      go false h f = cc

  pub many-next : (es : List ExprIR) (i : ℕ) (e : ExprIR) → slice_get es i ≡ Some e → many_at ex (take i es) ≡ [] → is_scalar (expr_at ex e.node) ≡ true → many_at ex (take (i + 1) es) ≡ []
  many-next es i e k h good = rw (add-one i) (many_suc es i e k h good)

  pub many-found : (es : List ExprIR) (i : ℕ) (e : ExprIR) → slice_get es i ≡ Some e → many_at ex (take i es) ≡ [] → is_scalar (expr_at ex e.node) ≡ false → e ∷ [] ≡ many_at ex es
  many-found [] i e k h bad = cc
  many-found (x ∷ es) zero e k h bad = let q : e ≡ x = cc in (let s : is_scalar (expr_at ex x.node) ≡ false = rw (← q) bad in rw (q, s) refl)
  many-found (x ∷ es) (suc i) e k h bad = go (is_scalar (expr_at ex x.node)) h (λ r. many-found es i e k r bad)
    where
      go : (b : Bool) → cond b (many_at ex (take i es)) (x ∷ []) ≡ [] → (many_at ex (take i es) ≡ [] → e ∷ [] ≡ many_at ex es) → e ∷ [] ≡ cond b (many_at ex es) (x ∷ [])
      go true h f = f h
      go false h f = cc

  leaves_suc : (done : List Name) (es : List ExprIR) (i : ℕ) (e : ExprIR) → slice_get es i ≡ Some e → with_names (with_names done (all_leaves (all_named_at ex (take i es)))) (leaves (expr_at ex e.node)) ≡ with_names done (all_leaves (all_named_at ex (take (suc i) es)))
  leaves_suc done [] i e k = cc
  leaves_suc done (x ∷ es) zero e k =
      let q : e ≡ x = cc in
      ap (λ (y : ExprIR). with_names done (leaves (expr_at ex y.node))) q ∙ ap (with_names done) (sym (append-nil (leaves (expr_at ex x.node))))
  leaves_suc done (x ∷ es) (suc i) e k =
      let own = leaves (expr_at ex x.node) in
      ap (λ (l : List Name). with_names l (leaves (expr_at ex e.node))) (with_names-append done own (all_leaves (all_named_at ex (take i es))))
      ∙ leaves_suc (with_names done own) es i e k
      ∙ sym (with_names-append done own (all_leaves (all_named_at ex (take (suc i) es))))

  -- the names of one expression more
  pub leaves-next : (done : List Name) (es : List ExprIR) (i : ℕ) (e : ExprIR) → slice_get es i ≡ Some e → with_names (with_names done (all_leaves (all_named_at ex (take i es)))) (leaves (expr_at ex e.node)) ≡ with_names done (all_leaves (all_named_at ex (take (i + 1) es)))
  leaves-next done es i e k = leaves_suc done es i e k ∙ ap (λ (n : ℕ). with_names done (all_leaves (all_named_at ex (take n es)))) (sym (add-one i))

-- the columns of expressions beside others
typed_suc : (base : Columns) (es : List ExprIR) (s : Columns) (i : ℕ) (e : ExprIR) (d : DataType) → slice_get es i ≡ Some e → type_of s (name_of e.output_name) ≡ Some d → with_type (with_typed base (names_at (take i es)) s) (name_of e.output_name) d ≡ with_typed base (names_at (take (suc i) es)) s
typed_suc base [] s i e d k is = cc
typed_suc base (x ∷ es) s zero e d k is =
    let q : e ≡ x = cc in
    let here : type_of s (name_of x.output_name) ≡ Some d = rw (← q) is in
    rw (q, here) refl
typed_suc base (x ∷ es) s (suc i) e d k is = go (type_of s (name_of x.output_name)) (λ c. typed_suc c es s i e d k is)
  where
    a : Name
    a = name_of x.output_name

    go : (o : Option DataType) → ((c : Columns) → with_type (with_typed c (names_at (take i es)) s) (name_of e.output_name) d ≡ with_typed c (names_at (take (suc i) es)) s) → with_type (with_types base (cons_option (option_map (λ t. (a, t)) o) (typed_names s (names_at (take i es))))) (name_of e.output_name) d ≡ with_types base (cons_option (option_map (λ t. (a, t)) o) (typed_names s (names_at (take (suc i) es))))
    go None f = f base
    go (Some t) f = f (with_type base a t)

pub made-next : (base : Columns) (es : List ExprIR) (s : Columns) (i : ℕ) (e : ExprIR) (d : DataType) → slice_get es i ≡ Some e → type_of s (name_of e.output_name) ≡ Some d → with_type (with_typed base (names_at (take i es)) s) (name_of e.output_name) d ≡ with_typed base (names_at (take (i + 1) es)) s
made-next base es s i e d k is = typed_suc base es s i e d k is ∙ ap (λ (n : ℕ). with_typed base (names_at (take n es)) s) (sym (add-one i))

lacks_suc : (base : Columns) (es : List ExprIR) (s : Columns) (i : ℕ) (e : ExprIR) → slice_get es i ≡ Some e → type_of s (name_of e.output_name) ≡ None → with_typed base (names_at (take i es)) s ≡ with_typed base (names_at (take (suc i) es)) s
lacks_suc base [] s i e k is = cc
lacks_suc base (x ∷ es) s zero e k is =
    let q : e ≡ x = cc in
    let here : type_of s (name_of x.output_name) ≡ None = rw (← q) is in
    rw here refl
lacks_suc base (x ∷ es) s (suc i) e k is = go (type_of s (name_of x.output_name)) (λ c. lacks_suc c es s i e k is)
  where
    a : Name
    a = name_of x.output_name

    go : (o : Option DataType) → ((c : Columns) → with_typed c (names_at (take i es)) s ≡ with_typed c (names_at (take (suc i) es)) s) → with_types base (cons_option (option_map (λ t. (a, t)) o) (typed_names s (names_at (take i es)))) ≡ with_types base (cons_option (option_map (λ t. (a, t)) o) (typed_names s (names_at (take (suc i) es))))
    go None f = f base
    go (Some t) f = f (with_type base a t)

pub made-skip : (base : Columns) (es : List ExprIR) (s : Columns) (i : ℕ) (e : ExprIR) → slice_get es i ≡ Some e → type_of s (name_of e.output_name) ≡ None → with_typed base (names_at (take i es)) s ≡ with_typed base (names_at (take (i + 1) es)) s
made-skip base es s i e k is = lacks_suc base es s i e k is ∙ ap (λ (n : ℕ). with_typed base (names_at (take n es)) s) (sym (add-one i))

-- the names of an expression are added: its own, or those of its operands one after another
module _ (ex : List AExpr) (n : Node) (h : IsExpr ex n) where
  pub adds-column : (names : List Name) (p : AExpr) (a : Name) → slice_get ex n.0 ≡ Some p → column_name p ≡ Some a → with_name names a ≡ with_names names (leaves (expr_at ex n))
  adds-column names p a e c = ap (with_names names) (sym (leaves_column ex n p h e a c))

  pub adds-below : (names : List Name) (p : AExpr) → slice_get ex n.0 ≡ Some p → column_name p ≡ None → with_names names (flat_map (λ (m : Node). leaves (expr_at ex m)) (operands_of p)) ≡ with_names names (leaves (expr_at ex n))
  adds-below names p e c = ap (with_names names) (sym (leaves_below ex n p h e c))

-- the names of one operand more
pub adds_next : (names : List Name) (f : Node → List Name) (ns : List Node) (i : ℕ) (m : Node) → slice_get ns i ≡ Some m → with_names (with_names names (flat_map f (take i ns))) (f m) ≡ with_names names (flat_map f (take (i + 1) ns))
adds_next names f ns i m e = sym (with_names-append names (flat_map f (take i ns)) (f m)) ∙ ap (with_names names) (sym (flat_map-next f ns i m e))
