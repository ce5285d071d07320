-- The keys of a join, read at their numbers.
use Rattle.std.proofs.Common.{◌≡◌, ◌∙◌, arith, ◌<◌, length, All, get_or, List, [], ◌∷◌, Option, None, Some, option_map, refl, sym, ap, ap₂}
use Rattle.std.specs.List.{cons_option, slice_get}
use Rattle.std.proofs.lemmas.List.Elements.{All-tail}
use Rattle.std.proofs.lemmas.Option.{slice_get_within}
use Rattle.plan_core.specs.declared.arena.Node.{Node}
use Rattle.plan_tree.specs.Rose.{rose, no_roses, more}
use Rattle.plan_expr.specs.declared.aexpr.AExpr.{AExpr}
use Rattle.plan_expr.specs.declared.aexpr.AExpr.TheVariants as exprs
use Rattle.plan_expr.specs.declared.expr_ir.ExprIR.{ExprIR}
use Rattle.plan_expr.specs.Exprs.{all_named_at, expr_at, expr_op, exprs_at}
use Rattle.plan_expr.specs.Leaves.{Name}
use Rattle.plan_expr.specs.Operands.{operands_of, IsExpr}
use Rattle.plan_expr.specs.Walks.{column_name}
use Rattle.plan_expr.proofs.ExprLemmas.{expr_open}
use Rattle.plan_ir.specs.Parts.{condition_in, condition_of, list_of}
use Rattle.plan_join.specs.declared.options.JoinOptions.{JoinOptions}
use Rattle.plan_join.specs.declared.options.JoinTypeOptionsIR.{JoinTypeOptionsIR}
use Rattle.plan_join.specs.declared.options.JoinTypeOptionsIR.TheVariants.{IEJoin, Cross}
use Rattle.plan_join.specs.Naming.{key_columns, LieIn}
use Rattle.plan_join.specs.Told.{column_keys, expr_column, kind_options_at, told_at}
use Rattle.plan_join.proofs.ColumnLemmas.{one_column}
use Rattle.plan_meaning.specs.JoinChecks.{conditions}

-- the entry of an expression that stands

record Entry (ex : List AExpr) (n : Node) : Type 0 where
  entry : AExpr
  there : slice_get ex n.0 ≡ Some entry

entry_at : (ex : List AExpr) (n : Node) → IsExpr ex n → Entry ex n
entry_at ex n (no_roses, h) = absurd h.stands
entry_at ex n (more (rose m p kids) rest, h) = record { entry = p; there = h.stands.1 }

pub within : (ex : List AExpr) (keys : List ExprIR) → All (λ (e : ExprIR). IsExpr ex e.node) keys → LieIn ex keys
within ex keys h k d lt = let e = entry_at ex (get_or keys k d).node (h k d lt) in slice_get_within ex (get_or keys k d).node.0 e.entry e.there

-- the columns among keys

pub column_here : (ex : List AExpr) (n : Node) (p : AExpr) → IsExpr ex n → slice_get ex n.0 ≡ Some p → expr_column (expr_at ex n) ≡ column_name p
column_here ex n p h e = ap expr_column (expr_open ex n p h e) ∙ of p
  where
    of : (p : AExpr) → expr_column (rose tt (expr_op p) (exprs_at ex (operands_of p))) ≡ column_name p
    of (exprs.Column name) = refl
    of (exprs.Literal value) = refl
    of (exprs.Alias input name) = refl
    of (exprs.BinaryExpr left op right) = refl
    of (exprs.Ternary predicate truthy falsy) = refl
    of (exprs.Agg agg) = refl
    of (exprs.Function input function options) = refl
    of (exprs.Window function partition_by) = refl
    of exprs.Len = refl

pub columns_at : (ex : List AExpr) (keys : List ExprIR) → All (λ (e : ExprIR). IsExpr ex e.node) keys → column_keys (all_named_at ex keys) ≡ key_columns ex keys
columns_at ex [] h = refl
columns_at ex (key ∷ keys) h =
    let e = entry_at ex key.node (h 0 key (omega arith)) in
    ap₂ (λ (o : Option Name) (names : List Name). cons_option o names) (column_here ex key.node e.entry (h 0 key (omega arith)) e.there ∙ sym (one_column ex key e.entry e.there))
    (columns_at ex keys (All-tail (λ (x : ExprIR). IsExpr ex x.node) key keys h))

-- the condition, read at its number
pub conditions_at : (ex : List AExpr) (o : JoinOptions) → conditions (told_at ex o).options ≡ all_named_at ex (list_of (condition_of o))
conditions_at ex o = of o.options
  where
    of : (told : Option JoinTypeOptionsIR) → conditions (option_map (kind_options_at ex) told) ≡ all_named_at ex (list_of (condition_in told))
    of None = refl
    of (Some (IEJoin operators)) = refl
    of (Some (Cross predicate)) = refl

-- the number of an expression that stands is that of an entry
pub number_within : (ex : List AExpr) (n : Node) → IsExpr ex n → n.0 < length ex
number_within ex n h = let e = entry_at ex n h in slice_get_within ex n.0 e.entry e.there
