-- Joins: what their expressions and their checks say of the tables that are joined.
use Rattle.std.proofs.Common.{◌≡◌, ◌∙◌, ◌++◌, ◌==◌, ◌&&◌, arith, get_or, ◌<◌, ◌≤◌, Result, Ok, Err, All, ℕ, true, not, List, [], ◌∷◌, length, Option, Some, None, option_map, ap, ap₂, sym, subst, refl}
use Rattle.std.specs.declared.alloc.AllocError.{AllocError}
use Rattle.std.specs.List.{cons_option, slice_get}
use Rattle.std.proofs.lemmas.Bool.{and_parts, eqb-true}
use Rattle.std.proofs.lemmas.List.{length-map}
use Rattle.std.proofs.lemmas.List.Elements.{All-tail}
use Rattle.plan_core.specs.declared.arena.Node.{Node}
use Rattle.plan_core.specs.Columns.{Columns, HasDistinctNames, names_of}
use Rattle.plan_tree.specs.Rose.{no_roses, more, rose}
use Rattle.plan_options.specs.declared.join.JoinType.{JoinType}
use Rattle.plan_options.specs.declared.join.JoinType.TheVariants as kinds
use Rattle.plan_expr.specs.declared.aexpr.AExpr.{AExpr}
use Rattle.plan_expr.specs.declared.aexpr.AExpr.TheVariants as exprs
use Rattle.plan_expr.specs.declared.expr_ir.ExprIR.{ExprIR}
use Rattle.plan_expr.specs.Exprs.{all_named_at, expr_at, expr_op, exprs_at, named_at, Named}
use Rattle.plan_expr.specs.Leaves.{Name}
use Rattle.plan_expr.specs.Operands.{IsExpr, operands_of}
use Rattle.plan_expr.specs.Walks.{column_name}
use Rattle.plan_expr.proofs.ExprLemmas.{expr_open}
use Rattle.plan_join.specs.declared.options.JoinOptions.{JoinOptions}
use Rattle.plan_join.specs.declared.options.JoinTypeOptionsIR.{JoinTypeOptionsIR}
use Rattle.plan_join.specs.declared.options.JoinTypeOptionsIR.TheVariants.{IEJoin, Cross}
use Rattle.plan_join.specs.Naming.{join_columns, key_columns}
use Rattle.plan_join.specs.Told.{KindOptions, Told, column_keys, condition, expr_column, kind_options_at, told_at}
use Rattle.plan_join.proofs.ColumnLemmas.{one_column}
use Rattle.plan_ir.specs.Parts.{condition_in, condition_of, list_of}
use Rattle.plan_meaning.specs.JoinChecks.{are_paired, fits_kind, is_built_join, join_checks}
use Rattle.plan_meaning.specs.Checks.{is_none}
use Rattle.plan_meaning.specs.Typing.{AllHold}
use Rattle.plan_meaning.proofs.JoinLemmas.{JoinGood, differ_distinct, join_good}
use Rattle.plan_join.specs.OwnOrders.{own_told}
use Rattle.plan_join_eval.specs.Compared.{IsTold}
use Rattle.plan_table.specs.declared.source_key.SourceKey.{SourceKey}
use Rattle.plan_table.specs.declared.table.Table.{Table}
use Rattle.plan_value.specs.Shown.{frame_of, schema_of}
use Rattle.plan_join.specs.Matching.{Joins}
use Rattle.plan_ir.specs.Plans.{join}
use Rattle.plan_function_tables.specs.Given.{Gives}
use Rattle.std.specs.Prelude.{IfOk}
use Rattle.plan_eval.proofs.PlanLemmas.{all-first, all-second}

-- the entry at a number
record Entry (ex : List AExpr) (n : Node) : Type 0 where
  entry : AExpr
  there : slice_get ex n.0 ≡ Some entry

-- where an expression stands there is an entry
entry_at : (ex : List AExpr) (n : Node) → IsExpr ex n → Entry ex n
entry_at ex n (no_roses, h) = absurd h.stands
entry_at ex n (more (rose m p kids) rest, h) = record { entry = p; there = h.stands.1 }

-- the column that an expression is, if it is one, is that of its entry
column_here : (ex : List AExpr) (n : Node) (p : AExpr) → IsExpr ex n → slice_get ex n.0 ≡ Some p → expr_column (expr_at ex n) ≡ column_name p
column_here ex n p h e = ap expr_column (expr_open ex n p h e) ∙ of p
  where
    of : (p : AExpr) → expr_column (rose tt (expr_op p) (exprs_at ex (operands_of p))) ≡ column_name p
    of (exprs.Column name) = refl
    of (exprs.Literal value) = refl
    of (exprs.Alias input name) = refl
    of (exprs.BinaryExpr left op right) = refl
    of (exprs.Ternary predicate truthy falsy) = refl
    of (exprs.Agg agg) = refl
    of (exprs.Function input function options) = refl
    of (exprs.Window function partition_by) = refl
    of exprs.Len = refl

-- the columns among keys are those of their entries
pub columns-at : (ex : List AExpr) (keys : List ExprIR) → All (λ (e : ExprIR). IsExpr ex e.node) keys → column_keys (all_named_at ex keys) ≡ key_columns ex keys
columns-at ex [] h = refl
columns-at ex (key ∷ keys) h =
    let e = entry_at ex key.node (h 0 key (omega arith)) in
    ap₂ (λ (o : Option Name) (names : List Name). cons_option o names) (column_here ex key.node e.entry (h 0 key (omega arith)) e.there ∙ sym (one_column ex key e.entry e.there))
    (columns-at ex keys (All-tail (λ (x : ExprIR). IsExpr ex x.node) key keys h))

-- sides whose keys are in pairs have as many
paired : (how : JoinType) (l r : ℕ) → are_paired how l r ≡ true → l ≡ r
paired kinds.Cross l r h = let p = and_parts (l == 0) (r == 0) h in eqb-true l 0 p.0 ∙ sym (eqb-true r 0 p.1)
paired how l r h = eqb-true l r (and_parts (not (l == 0)) (l == r) h).1

-- a kind that takes a condition takes no keys
unpaired : (how : JoinType) (l r : ℕ) (e : Named) → are_paired how l r ≡ true → fits_kind how l (Some (condition e)) ≡ true → (l ≡ 0) × (r ≡ 0)
unpaired kinds.Cross l r e h f = let p = and_parts (l == 0) (r == 0) h in (eqb-true l 0 p.0, eqb-true r 0 p.1)
unpaired how l r e h f = cc

module _ (l r : ℕ) (told : Told) (h : is_built_join l r told ≡ true) where
  -- the keys of a join that is built are in pairs, and it has what its kind takes
  fitting : (are_paired told.args.how l r ≡ true) × (fits_kind told.args.how l told.options ≡ true)
  unfolding is_built_join
  fitting =
      let kind = fits_kind told.args.how l told.options in
      and_parts (are_paired told.args.how l r) kind (and_parts (is_none told.args.slice) (are_paired told.args.how l r && kind) h).1

  -- a join that is built has as many keys on one side as on the other
  pub built-pairs : l ≡ r
  built-pairs = paired told.args.how l r fitting.0

  -- one that has a condition has no keys
  pub built-condition : (e : Named) → told.options ≡ Some (condition e) → (l ≡ 0) × (r ≡ 0)
  built-condition e is = unpaired told.args.how l r e fitting.0 (subst (λ (o : Option KindOptions). fits_kind told.args.how l o ≡ true) is fitting.1)

-- no keys where none are read
no_keys : (ex : List AExpr) (keys : List ExprIR) → length (all_named_at ex keys) ≡ 0 → keys ≡ []
no_keys ex [] h = refl
no_keys ex (key ∷ keys) h = absurd (omega arith)

module _ (ex : List AExpr) (left_on right_on : List ExprIR) (o : JoinOptions) (stand : All (λ (e : ExprIR). IsExpr ex e.node) ((left_on ++ right_on) ++ list_of (condition_of o))) where
  -- the left keys are expressions
  pub left-stand : All (λ (e : ExprIR). IsExpr ex e.node) left_on
  left-stand = all-first (λ (e : ExprIR). IsExpr ex e.node) left_on right_on (all-first (λ (e : ExprIR). IsExpr ex e.node) (left_on ++ right_on) (list_of (condition_of o)) stand)

  -- the right keys are
  pub right-stand : All (λ (e : ExprIR). IsExpr ex e.node) right_on
  right-stand = all-second (λ (e : ExprIR). IsExpr ex e.node) left_on right_on (all-first (λ (e : ExprIR). IsExpr ex e.node) (left_on ++ right_on) (list_of (condition_of o)) stand)

  -- the condition is, if there is one
  condition-stands : (predicate : ExprIR) → o.options ≡ Some (Cross predicate) → IsExpr ex predicate.node
  condition-stands predicate is =
      let last = all-second (λ (e : ExprIR). IsExpr ex e.node) (left_on ++ right_on) (list_of (condition_of o)) stand in
      subst (λ (p : Option JoinTypeOptionsIR). All (λ (e : ExprIR). IsExpr ex e.node) (list_of (condition_in p))) is last 0 predicate (omega arith)

  module _ (stored s t : Columns) (valid : AllHold (join_checks (all_named_at ex left_on) (all_named_at ex right_on) stored (told_at ex o) s t)) where
    good : JoinGood (all_named_at ex left_on) (all_named_at ex right_on) stored (told_at ex o) s t
    good = join_good (all_named_at ex left_on) (all_named_at ex right_on) stored (told_at ex o) s t valid

    -- a valid join has as many left keys as right ones
    pub as-many : length left_on ≡ length right_on
    as-many =
        sym (length-map left_on (named_at ex))
        ∙ built-pairs (length (all_named_at ex left_on)) (length (all_named_at ex right_on)) (told_at ex o) good.built
        ∙ length-map right_on (named_at ex)

    -- among its columns no name comes twice
    pub all-distinct : HasDistinctNames (join_columns o.args (key_columns ex left_on) (key_columns ex right_on) s t)
    all-distinct =
        let left = columns-at ex left_on left-stand in
        let right = columns-at ex right_on right-stand in
        subst (λ (names : List Name). HasDistinctNames (join_columns o.args names (key_columns ex right_on) s t)) left
        (subst (λ (names : List Name). HasDistinctNames (join_columns o.args (column_keys (all_named_at ex left_on)) names s t)) right
        (differ_distinct (names_of (join_columns o.args (column_keys (all_named_at ex left_on)) (column_keys (all_named_at ex right_on)) s t)) good.differ))

    -- its condition, if it has one, is an expression over its columns
    pub has-condition : IsTold ex o.args o.options s t
    has-condition = at o.options refl
      where
        at : (p : Option JoinTypeOptionsIR) → o.options ≡ p → IsTold ex o.args p s t
        at None e = tt
        at (Some (IEJoin operators)) e = tt
        at (Some (Cross predicate)) e =
            let none = built-condition (length (all_named_at ex left_on)) (length (all_named_at ex right_on)) (told_at ex o) good.built (named_at ex predicate) (ap (option_map (kind_options_at ex)) e) in (
              condition-stands predicate e,
              subst (λ (keys : List ExprIR). HasDistinctNames (join_columns o.args (key_columns ex keys) [] s t)) (no_keys ex left_on none.0)
                  (subst (λ (keys : List ExprIR). HasDistinctNames (join_columns o.args (key_columns ex left_on) (key_columns ex keys) s t)) (no_keys ex right_on none.1) all-distinct),
            )

-- two tables are the left one and the right one
pub both-tables : (tables : List Table) (left right : Table) → 2 ≤ length tables → length tables < 3 → left ≡ get_or tables 0 left → right ≡ get_or tables 1 right → tables ≡ left ∷ right ∷ []
both-tables [] left right many few l r = absurd (omega arith)
both-tables (t ∷ []) left right many few l r = absurd (omega arith)
both-tables (t ∷ u ∷ []) left right many few l r = ap₂ (λ (x y : Table). x ∷ y ∷ []) (sym l) (sym r)
both-tables (t ∷ u ∷ v ∷ tables) left right many few l r = absurd (omega arith)

-- a join gives the frame of two tables that it chooses, with the columns of the join
module _ (ts : List (SourceKey × Table)) (ex : List AExpr) (left_on right_on : List ExprIR) (o : JoinOptions) (stored : Columns) (left right : Table) where
  pub join-gives : (r : Result Table AllocError) → All (λ (e : ExprIR). IsExpr ex e.node) left_on → All (λ (e : ExprIR). IsExpr ex e.node) right_on
      → IfOk r (λ (t : Table). Joins (own_told (told_at ex o)) (all_named_at ex left_on) (all_named_at ex right_on) (frame_of left) (frame_of right) (frame_of t))
      → IfOk r (λ (t : Table). schema_of t ≡ join_columns o.args (key_columns ex left_on) (key_columns ex right_on) (schema_of left) (schema_of right))
      → IfOk r (Gives ts (join (all_named_at ex left_on) (all_named_at ex right_on) stored (told_at ex o)) (left ∷ right ∷ []))
  join-gives (Err e) l r frame types = tt
  join-gives (Ok t) l r frame types = record {
    step = frame;
    types = types ∙ sym (ap₂ (λ (lk rk : List Name). join_columns o.args lk rk (schema_of left) (schema_of right)) (columns-at ex left_on l) (columns-at ex right_on r));
  }
