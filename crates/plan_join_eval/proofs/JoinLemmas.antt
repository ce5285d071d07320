-- Joins of tables: keys that are equal are so the other way round, and what is read at numbers is what the definitions read.
use Rattle.std.proofs.Common.{◌≡◌, ◌∙◌, get_or, arith, ◌&&◌, ◌||◌, All, ℕ, Bool, true, false, not, List, [], ◌∷◌, Option, None, Some, option_map, refl, sym, ap, ap₂, subst}
use Rattle.std.specs.List.{cons_option, slice_get}
use Rattle.std.proofs.lemmas.List.Elements.{All-tail}
use Rattle.std.proofs.lemmas.Option.{slice_get_within}
use Rattle.plan_core.specs.declared.arena.Node.{Node}
use Rattle.plan_tree.specs.Rose.{no_roses, more, rose}
use Rattle.plan_options.specs.declared.join.JoinArgs.{JoinArgs}
use Rattle.plan_expr.specs.declared.aexpr.AExpr.{AExpr}
use Rattle.plan_expr.specs.declared.aexpr.AExpr.TheVariants as exprs
use Rattle.plan_expr.specs.declared.expr_ir.ExprIR.{ExprIR}
use Rattle.plan_expr.specs.Exprs.{Named, all_named_at, expr_at, expr_op, exprs_at}
use Rattle.plan_expr.specs.Leaves.{Name}
use Rattle.plan_expr.specs.Operands.{IsExpr, operands_of}
use Rattle.plan_expr.specs.Walks.{column_name}
use Rattle.plan_expr.proofs.ExprLemmas.{expr_open}
use Rattle.plan_frame.specs.Frames.{Frame}
use Rattle.plan_frame.specs.Meaning.{Cell, val, value_at}
use Rattle.plan_frame.specs.Orders.{key_cells}
use Rattle.plan_frame.specs.Values.{Value, is_null, is_true, same_value}
use Rattle.plan_frame.proofs.SameValues.{value_decides}
use Rattle.plan_join.specs.declared.options.JoinOptions.{JoinOptions}
use Rattle.plan_join.specs.declared.options.JoinTypeOptionsIR.{JoinTypeOptionsIR}
use Rattle.plan_join.specs.declared.options.JoinTypeOptionsIR.TheVariants.{IEJoin, Cross}
use Rattle.plan_join.specs.Naming.{key_columns, LieIn}
use Rattle.plan_join.proofs.ColumnLemmas.{one_column}
use Rattle.plan_join.specs.Told.{Told, column_keys, expr_column, kind_options_at, told_at}
use Rattle.plan_join.specs.Joined.{joined}
use Rattle.plan_join.specs.Matching.{key_matches, keys_match, matches_by, Joins}
use Rattle.plan_join.specs.declared.matches.Matches.{Matches}
use Rattle.plan_join.specs.declared.pairs.RowPair.{RowPair}
use Rattle.plan_join.specs.Orders.{ArePicked, own_order}
use Rattle.plan_join.specs.Pairs.{Test, both}
use Rattle.plan_join.specs.Rows.{flipped, AreMatches}
use Rattle.plan_join.proofs.PlaceLemmas.{passing-below}
use Rattle.plan_join.specs.OwnOrders.{own_told}
use Rattle.plan_join_eval.specs.Compared.{option_test}

-- keys that are equal are so the other way round

key_turned : (nulls : Bool) (v w : Value) → key_matches nulls w v ≡ key_matches nulls v w
key_turned nulls v w = at (same_value w v) (same_value v w) refl refl
  where
    at : (a b : Bool) → same_value w v ≡ a → same_value v w ≡ b → key_matches nulls w v ≡ key_matches nulls v w
    at true b e f = let q : w ≡ v = (value_decides w v).0 e in ap (λ (x : Value). key_matches nulls x v) q ∙ sym (ap (λ (x : Value). key_matches nulls v x) q)
    at false true e f = let q : v ≡ w = (value_decides v w).0 f in let there : same_value w v ≡ true = (value_decides w v).1 (sym q) in cc
    at false false e f = ap (λ (t : Bool). t && (nulls || not (is_null w))) e ∙ sym (ap (λ (t : Bool). t && (nulls || not (is_null v))) f)

keys_turned : (nulls : Bool) (cs ds : List Cell) (i j : ℕ) → keys_match nulls ds cs j i ≡ keys_match nulls cs ds i j
keys_turned nulls [] [] i j = refl
keys_turned nulls [] (d ∷ ds) i j = refl
keys_turned nulls (c ∷ cs) [] i j = refl
keys_turned nulls (c ∷ cs) (d ∷ ds) i j = ap₂ (λ (x y : Bool). x && y) (key_turned nulls (value_at c i) (value_at d j)) (keys_turned nulls cs ds i j)

pub turned-matches : (nulls : Bool) (cs ds : List Cell) (h k : ℕ) (m : Matches) → AreMatches (keys_match nulls ds cs) k h m → AreMatches (flipped (keys_match nulls cs ds)) k h m
turned-matches nulls cs ds h k m are = record {
  rows = are.rows;
  others = are.others;
  each = λ j lt. are.each j lt ∙ passing-below (keys_match nulls ds cs j) (flipped (keys_match nulls cs ds) j) h (λ i below. keys_turned nulls cs ds i j);
}

-- expressions and columns that are read at numbers

record Entry (ex : List AExpr) (n : Node) : Type 0 where
  entry : AExpr
  there : slice_get ex n.0 ≡ Some entry

entry_at : (ex : List AExpr) (n : Node) → IsExpr ex n → Entry ex n
entry_at ex n (no_roses, h) = absurd h.stands
entry_at ex n (more (rose m p kids) rest, h) = record { entry = p; there = h.stands.1 }

pub within : (ex : List AExpr) (keys : List ExprIR) → All (λ (e : ExprIR). IsExpr ex e.node) keys → LieIn ex keys
within ex keys h k d lt = let e = entry_at ex (get_or keys k d).node (h k d lt) in slice_get_within ex (get_or keys k d).node.0 e.entry e.there

column_here : (ex : List AExpr) (n : Node) (p : AExpr) → IsExpr ex n → slice_get ex n.0 ≡ Some p → expr_column (expr_at ex n) ≡ column_name p
column_here ex n p h e = ap expr_column (expr_open ex n p h e) ∙ of p
  where
    of : (p : AExpr) → expr_column (rose tt (expr_op p) (exprs_at ex (operands_of p))) ≡ column_name p
    of (exprs.Column name) = refl
    of (exprs.Literal value) = refl
    of (exprs.Alias input name) = refl
    of (exprs.BinaryExpr left op right) = refl
    of (exprs.Ternary predicate truthy falsy) = refl
    of (exprs.Agg agg) = refl
    of (exprs.Function input function options) = refl
    of (exprs.Window function partition_by) = refl
    of exprs.Len = refl

columns_at : (ex : List AExpr) (keys : List ExprIR) → All (λ (e : ExprIR). IsExpr ex e.node) keys → column_keys (all_named_at ex keys) ≡ key_columns ex keys
columns_at ex [] h = refl
columns_at ex (key ∷ keys) h =
    let e = entry_at ex key.node (h 0 key (omega arith)) in
    ap₂ (λ (o : Option Name) (names : List Name). cons_option o names) (column_here ex key.node e.entry (h 0 key (omega arith)) e.there ∙ sym (one_column ex key e.entry e.there))
    (columns_at ex keys (All-tail (λ (x : ExprIR). IsExpr ex x.node) key keys h))

-- what is told, and whether rows match by it

test_is : (ex : List AExpr) (told : Told) (args : JoinArgs) (left_on right_on : List Named) (f g : Frame) (o : Option JoinTypeOptionsIR) → told.args ≡ args
    → matches_by told left_on right_on f g (option_map (kind_options_at ex) o) ≡ option_test ex args o (key_cells left_on f) (key_cells right_on g) f g
test_is ex told args left_on right_on f g None e = ap (λ (a : JoinArgs). keys_match a.join_nulls (key_cells left_on f) (key_cells right_on g)) e
test_is ex told args left_on right_on f g (Some (IEJoin operators)) e = refl
test_is ex told args left_on right_on f g (Some (Cross predicate)) e = ap {B = Test} (λ (a : JoinArgs) (i j : ℕ). is_true (value_at (val (expr_at ex predicate.node) (joined a [] [] (both i j ∷ []) f g)) 0)) e

-- a join chooses the frame along the pairs that it picks
pub picked-joins : (ex : List AExpr) (o : JoinOptions) (left_on right_on : List ExprIR) (f g frame : Frame) (ps : List RowPair) → All (λ (e : ExprIR). IsExpr ex e.node) left_on → All (λ (e : ExprIR). IsExpr ex e.node) right_on
    → ArePicked o.args.how (own_order o.args.maintain_order) (option_test ex o.args o.options (key_cells (all_named_at ex left_on) f) (key_cells (all_named_at ex right_on) g) f g) f.height g.height ps
    → frame ≡ joined o.args (key_columns ex left_on) (key_columns ex right_on) ps f g → Joins (own_told (told_at ex o)) (all_named_at ex left_on) (all_named_at ex right_on) f g frame
picked-joins ex o left_on right_on f g frame ps left right picked is =
    let test = test_is ex (told_at ex o) o.args (all_named_at ex left_on) (all_named_at ex right_on) f g o.options refl in (
      ps,
      subst (λ (t : Test). ArePicked o.args.how (own_order o.args.maintain_order) t f.height g.height ps) (sym test) picked,
      is ∙ sym (ap₂ (λ (lk rk : List Name). joined o.args lk rk ps f g) (columns_at ex left_on left) (columns_at ex right_on right)),
    )
