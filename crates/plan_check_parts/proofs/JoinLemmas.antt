-- The expressions of a join, read at their numbers: keys that are columns, and a condition that is elementwise.
use Rattle.std.proofs.Common.{◌≡◌, ◌∙◌, arith, ◌&&◌, All, Bor, get_or, Bool, true, false, List, [], ◌∷◌, Option, None, Some, IfNone, IfSome, is_some, option_map, refl, sym, ap, ap₂}
use Rattle.std.specs.List.{cons_option, list_all, slice_get}
use Rattle.std.proofs.lemmas.List.Elements.{All-tail}
use Rattle.std.proofs.lemmas.List.Folds.{list_all-append}
use Rattle.std.proofs.lemmas.Option.{slice_get_within}
use Rattle.plan_core.specs.declared.arena.Node.{Node}
use Rattle.plan_tree.specs.Read.{tree_at}
use Rattle.plan_tree.specs.Rose.{rose, no_roses, more, items}
use Rattle.plan_tree.specs.Stands.{Trees, StandsOnce}
use Rattle.plan_tree.proofs.ReadLemmas.{tree_at-is}
use Rattle.plan_expr.specs.declared.aexpr.AExpr.{AExpr}
use Rattle.plan_expr.specs.declared.aexpr.AExpr.TheVariants as exprs
use Rattle.plan_expr.specs.declared.expr_ir.ExprIR.{ExprIR}
use Rattle.plan_expr.specs.Exprs.{all_named_at, bare_exprs, expr_at, expr_op, exprs_at, one_expr}
use Rattle.plan_expr.specs.Leaves.{Name}
use Rattle.plan_expr.specs.Operands.{expr_shape, operands_of, IsExpr}
use Rattle.plan_expr.specs.Walks.{column_name, reached, works_row_wise}
use Rattle.plan_expr.proofs.ExprLemmas.{expr_open}
use Rattle.plan_ir.specs.Parts.{condition_in, condition_of, list_of}
use Rattle.plan_join.specs.declared.options.JoinOptions.{JoinOptions}
use Rattle.plan_join.specs.declared.options.JoinTypeOptionsIR.{JoinTypeOptionsIR}
use Rattle.plan_join.specs.declared.options.JoinTypeOptionsIR.TheVariants.{IEJoin, Cross}
use Rattle.plan_join.specs.Naming.{key_columns, LieIn}
use Rattle.plan_join.specs.Told.{column_keys, expr_column, kind_options_at, told_at}
use Rattle.plan_join.proofs.ColumnLemmas.{one_column}
use Rattle.plan_meaning.specs.JoinChecks.{are_elementwise, conditions, is_elementwise, works_by_row}

-- an expression is elementwise exactly where all that it reaches works row by row

own_row_wise : (p : AExpr) → works_row_wise p ≡ works_by_row (expr_op p)
own_row_wise (exprs.Column name) = refl
own_row_wise (exprs.Literal value) = refl
own_row_wise (exprs.Alias input name) = refl
own_row_wise (exprs.BinaryExpr left op right) = refl
own_row_wise (exprs.Ternary predicate truthy falsy) = refl
own_row_wise (exprs.Agg agg) = refl
own_row_wise (exprs.Function input function options) = refl
own_row_wise (exprs.Window function partition_by) = refl
own_row_wise exprs.Len = refl

and_assoc : (a b c : Bool) → (a && (b && c)) ≡ ((a && b) && c)
and_assoc true b c = refl
and_assoc false b c = refl

and_true : (b : Bool) → (b && true) ≡ b
and_true true = refl
and_true false = refl

elementwise_all : (t : Trees AExpr) → list_all works_row_wise (items t) ≡ are_elementwise (bare_exprs t)
elementwise_all no_roses = refl
elementwise_all (more (rose n p kids) rest) =
    ap (λ (b : Bool). works_row_wise p && b) (list_all-append works_row_wise (items kids) (items rest) ∙ ap₂ (λ (x y : Bool). x && y) (elementwise_all kids) (elementwise_all rest))
    ∙ ap (λ (b : Bool). b && (are_elementwise (bare_exprs kids) && are_elementwise (bare_exprs rest))) (own_row_wise p)
    ∙ and_assoc (works_by_row (expr_op p)) (are_elementwise (bare_exprs kids)) (are_elementwise (bare_exprs rest))

elementwise_one : (ex : List AExpr) (n : Node) (t : Trees AExpr) → StandsOnce expr_shape ex (n ∷ []) t → are_elementwise (bare_exprs t) ≡ is_elementwise (one_expr (bare_exprs t))
elementwise_one ex n no_roses h = absurd h.stands
elementwise_one ex n (more (rose m p kids) no_roses) h = and_true (is_elementwise (one_expr (bare_exprs (more (rose m p kids) no_roses))))
elementwise_one ex n (more (rose m p kids) (more (rose k q below) rest)) h = absurd h.stands.4

pub elementwise_at : (ex : List AExpr) (n : Node) → IsExpr ex n → list_all works_row_wise (reached ex n) ≡ is_elementwise (expr_at ex n)
elementwise_at ex n h =
    let is = tree_at-is expr_shape ex n h.0 h.1 in
    elementwise_all (tree_at expr_shape ex n) ∙ elementwise_one ex n (tree_at expr_shape ex n) (rw is h.1)

-- the entry of an expression that stands

record Entry (ex : List AExpr) (n : Node) : Type 0 where
  entry : AExpr
  there : slice_get ex n.0 ≡ Some entry

entry_at : (ex : List AExpr) (n : Node) → IsExpr ex n → Entry ex n
entry_at ex n (no_roses, h) = absurd h.stands
entry_at ex n (more (rose m p kids) rest, h) = record { entry = p; there = h.stands.1 }

pub within : (ex : List AExpr) (keys : List ExprIR) → All (λ (e : ExprIR). IsExpr ex e.node) keys → LieIn ex keys
within ex keys h k d lt = let e = entry_at ex (get_or keys k d).node (h k d lt) in slice_get_within ex (get_or keys k d).node.0 e.entry e.there

-- the columns among keys

pub column_here : (ex : List AExpr) (n : Node) (p : AExpr) → IsExpr ex n → slice_get ex n.0 ≡ Some p → expr_column (expr_at ex n) ≡ column_name p
column_here ex n p h e = ap expr_column (expr_open ex n p h e) ∙ of p
  where
    of : (p : AExpr) → expr_column (rose tt (expr_op p) (exprs_at ex (operands_of p))) ≡ column_name p
    of (exprs.Column name) = refl
    of (exprs.Literal value) = refl
    of (exprs.Alias input name) = refl
    of (exprs.BinaryExpr left op right) = refl
    of (exprs.Ternary predicate truthy falsy) = refl
    of (exprs.Agg agg) = refl
    of (exprs.Function input function options) = refl
    of (exprs.Window function partition_by) = refl
    of exprs.Len = refl

pub columns_at : (ex : List AExpr) (keys : List ExprIR) → All (λ (e : ExprIR). IsExpr ex e.node) keys → column_keys (all_named_at ex keys) ≡ key_columns ex keys
columns_at ex [] h = refl
columns_at ex (key ∷ keys) h =
    let e = entry_at ex key.node (h 0 key (omega arith)) in
    ap₂ (λ (o : Option Name) (names : List Name). cons_option o names) (column_here ex key.node e.entry (h 0 key (omega arith)) e.there ∙ sym (one_column ex key e.entry e.there))
    (columns_at ex keys (All-tail (λ (x : ExprIR). IsExpr ex x.node) key keys h))

-- the condition, read at its number
pub conditions_at : (ex : List AExpr) (o : JoinOptions) → conditions (told_at ex o).options ≡ all_named_at ex (list_of (condition_of o))
conditions_at ex o = of o.options
  where
    of : (told : Option JoinTypeOptionsIR) → conditions (option_map (kind_options_at ex) told) ≡ all_named_at ex (list_of (condition_in told))
    of None = refl
    of (Some (IEJoin operators)) = refl
    of (Some (Cross predicate)) = refl

-- a look-up of a column finds one exactly where there is one
pub column_some : (p : AExpr) (o : Option (Bor Name)) → IfSome o (λ (name : Bor Name). column_name p ≡ Some name.now) → IfNone o (column_name p ≡ None) → is_some o ≡ is_some (column_name p)
column_some p None h k = sym (ap (λ (x : Option Name). is_some x) k)
column_some p (Some name) h k = sym (ap (λ (x : Option Name). is_some x) h)
