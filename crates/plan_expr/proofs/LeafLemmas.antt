-- The columns of a walk are those that the expression reads.
use Rattle.std.proofs.Common.{◌≡◌, List, [], ◌∷◌, ◌++◌, refl, sym, ap, ap₂, ◌∙◌, append-nil, append_assoc, Option, Some, None}
use Rattle.std.specs.List.{cons_option, flat_map, slice_get}
use Rattle.std.proofs.lemmas.List.Elements.{filter_map-append}
use Rattle.plan_core.specs.declared.arena.Node.{Node}
use Rattle.plan_tree.specs.Rose.{rose, no_roses, more}
use Rattle.plan_tree.specs.Read.{tree_at}
use Rattle.plan_tree.specs.Stands.{Trees, StandsOnce}
use Rattle.plan_tree.proofs.ReadLemmas.{tree_at-is}
use Rattle.plan_expr.specs.declared.aexpr.AExpr.{AExpr}
use Rattle.plan_expr.specs.declared.aexpr.AExpr.TheVariants.{Column, Literal, Alias, BinaryExpr, Ternary, Agg, Function, Window, Len}
use Rattle.plan_expr.specs.Exprs.{expr_op, bare_exprs, one_expr, expr_at, exprs_at}
use Rattle.plan_expr.proofs.ExprLemmas.{expr_open}
use Rattle.plan_expr.specs.Leaves.{Name, own_leaves, leaves, leaves_all}
use Rattle.plan_expr.specs.Operands.{expr_shape, operands_of, IsExpr}
use Rattle.plan_expr.specs.Walks.{numbered, walk_of, column_name, column_names}

-- the column that an expression is, kind by kind
own_column : (p : AExpr) (names : List Name) → cons_option (column_name p) names ≡ own_leaves (expr_op p) ++ names
own_column (Column name) names = refl
own_column (Literal value) names = refl
own_column (Alias input name) names = refl
own_column (BinaryExpr left op right) names = refl
own_column (Ternary predicate truthy falsy) names = refl
own_column (Agg agg) names = refl
own_column (Function input function options) names = refl
own_column (Window function partition_by) names = refl
own_column Len names = refl

names-append : (xs ys : List (Node × AExpr)) → column_names (xs ++ ys) ≡ column_names xs ++ column_names ys
names-append xs ys = filter_map-append (λ (q : Node × AExpr). column_name q.1) xs ys

-- the columns of trees
columns-all : (t : Trees AExpr) → column_names (numbered t) ≡ leaves_all (bare_exprs t)
columns-all no_roses = refl
columns-all (more (rose n p kids) rest) =
    own_column p (column_names (numbered kids ++ numbered rest))
    ∙ ap (λ (l : List Name). own_leaves (expr_op p) ++ l) (names-append (numbered kids) (numbered rest) ∙ ap₂ (λ (x y : List Name). x ++ y) (columns-all kids) (columns-all rest))
    ∙ sym (append_assoc (own_leaves (expr_op p)) (leaves_all (bare_exprs kids)) (leaves_all (bare_exprs rest)))

-- the columns of the tree at a number
one-tree : (ex : List AExpr) (n : Node) (t : Trees AExpr) → StandsOnce expr_shape ex (n ∷ []) t → leaves_all (bare_exprs t) ≡ leaves (one_expr (bare_exprs t))
one-tree ex n no_roses h = absurd h.stands
one-tree ex n (more (rose m p kids) no_roses) h = append-nil (leaves (one_expr (bare_exprs (more (rose m p kids) no_roses))))
one-tree ex n (more (rose m p kids) (more (rose k q below) rest)) h = absurd h.stands.4

pub leaves_of : (ex : List AExpr) (n : Node) → IsExpr ex n → column_names (walk_of ex n) ≡ leaves (expr_at ex n)
leaves_of ex n h =
    let is = tree_at-is expr_shape ex n h.0 h.1 in
    columns-all (tree_at expr_shape ex n)
    ∙ one-tree ex n (tree_at expr_shape ex n) (rw is h.1)

-- what an expression reads by itself, and then what its operands read

leaves-at : (ex : List AExpr) (ns : List Node) → leaves_all (exprs_at ex ns) ≡ flat_map (λ (m : Node). leaves (expr_at ex m)) ns
leaves-at ex [] = refl
leaves-at ex (n ∷ ns) = ap (λ (l : List Name). leaves (expr_at ex n) ++ l) (leaves-at ex ns)

column_alone : (p : AExpr) (a : Name) → column_name p ≡ Some a → own_leaves (expr_op p) ≡ a ∷ [] × operands_of p ≡ []
column_alone (Column name) a e = let same : name ≡ a = cc in (ap (λ (x : Name). x ∷ []) same, refl)
column_alone (Literal value) a e = cc
column_alone (Alias input name) a e = cc
column_alone (BinaryExpr left op right) a e = cc
column_alone (Ternary predicate truthy falsy) a e = cc
column_alone (Agg agg) a e = cc
column_alone (Function input function options) a e = cc
column_alone (Window function partition_by) a e = cc
column_alone Len a e = cc

module _ (ex : List AExpr) (n : Node) (p : AExpr) (h : IsExpr ex n) (e : slice_get ex n.0 ≡ Some p) where
  leaves-open : leaves (expr_at ex n) ≡ own_leaves (expr_op p) ++ flat_map (λ (m : Node). leaves (expr_at ex m)) (operands_of p)
  leaves-open = ap leaves (expr_open ex n p h e) ∙ ap (λ (l : List Name). own_leaves (expr_op p) ++ l) (leaves-at ex (operands_of p))

  -- a column reads itself
  pub leaves_column : (a : Name) → column_name p ≡ Some a → leaves (expr_at ex n) ≡ a ∷ []
  leaves_column a c =
      let alone = column_alone p a c in
      leaves-open ∙ ap₂ (λ (x : List Name) (ns : List Node). x ++ flat_map (λ (m : Node). leaves (expr_at ex m)) ns) alone.0 alone.1

  -- any other expression reads what its operands read
  pub leaves_below : column_name p ≡ None → leaves (expr_at ex n) ≡ flat_map (λ (m : Node). leaves (expr_at ex m)) (operands_of p)
  leaves_below c =
      let below : List Name = flat_map (λ (m : Node). leaves (expr_at ex m)) (operands_of p) in
      leaves-open ∙ sym (own_column p below) ∙ ap (λ (o : Option Name). cons_option o below) c
