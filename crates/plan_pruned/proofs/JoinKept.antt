-- What the arguments of a narrowed join have in common with those that it had.
use Rattle.std.proofs.Common.{◌≡◌, ℕ, Bool, true, false, not, ◌&&◌, ◌||◌, cond, List, [], ◌∷◌, ◌++◌, length, Option, Some, None, refl, sym, ap, ap₂, ◌∙◌, subst, is_some, ⊎_elim}
use Rattle.std.specs.List.{AllByRecursion, list_all}
use Rattle.std.proofs.lemmas.Bool.{and_parts, both_ways, false_from_ne_true, not-true}
use Rattle.plan_core.specs.Columns.{Columns, names_of}
use Rattle.plan_core.specs.Names.{has}
use Rattle.plan_options.specs.declared.join.JoinArgs.{JoinArgs}
use Rattle.plan_options.specs.declared.join.JoinCoalesce.{JoinCoalesce}
use Rattle.plan_options.specs.declared.join.JoinCoalesce.TheVariants.{CoalesceColumns, KeepColumns}
use Rattle.plan_options.specs.declared.join.JoinType.{JoinType}
use Rattle.plan_options.specs.declared.join.JoinType.TheVariants.{Inner, Left}
use Rattle.plan_options.specs.Join.{coalesces, suffix_of}
use Rattle.plan_expr.specs.Exprs.{Named}
use Rattle.plan_expr.specs.Forms.{has_form}
use Rattle.plan_expr.specs.Leaves.{Name}
use Rattle.plan_frame.specs.ExprLists.{all_leaves}
use Rattle.plan_frame.proofs.NameSets.{has_cons}
use Rattle.plan_join.specs.declared.origin.Side.{Side}
use Rattle.plan_join.specs.declared.origin.Side.TheVariants as sides
use Rattle.plan_join.specs.Naming.{but_for, drops_left, has_right, left_rest, right_name}
use Rattle.plan_join.specs.Origins.{puts_out_right}
use Rattle.plan_join.specs.Told.{KindOptions, Told, column_keys, expr_column}
use Rattle.plan_join.specs.Sides.{fills}
use Rattle.plan_meaning.specs.JoinAsked.{needed_of, origin_of}
use Rattle.plan_meaning.specs.JoinChecks.{are_paired, conditions, fits_kind, is_built_join, is_formed_key, right_keys_plain}
use Rattle.plan_meaning.specs.Checks.{is_none}
use Rattle.plan_meaning.proofs.JoinLemmas.{JoinGood}
use Rattle.plan_pruned.specs.JoinPruned.{are_columns, keeps_both, keys_unasked, may_coalesce, may_drop_right, narrowed_args}
use Rattle.plan_pruned.proofs.JoinColumns.{origin_called}

-- what arguments share with those of a narrowed join, where its keys are these and its columns stand for these
pub record Kept (args left : JoinArgs) (right_on : List Named) (by : Name → Option (Side × Name)) (needed : List Name) : Type 0 where
  pub how : left.how ≡ args.how
  pub suffix : suffix_of left ≡ suffix_of args
  pub nulls : left.join_nulls ≡ args.join_nulls
  pub order : left.maintain_order ≡ args.maintain_order
  pub slice : left.slice ≡ args.slice
  pub left_drops : (coalesces left.how left.coalesce && drops_left left.how) ≡ (coalesces args.how args.coalesce && drops_left args.how)
  pub filled : fills left.how left.coalesce ≡ fills args.how args.coalesce
  pub right_less : (b : Name) → puts_out_right left (column_keys right_on) b ≡ true → puts_out_right args (column_keys right_on) b ≡ true
  pub right_kept : (a b : Name) → has needed a ≡ true → by a ≡ Some (sides.Right, b) → puts_out_right args (column_keys right_on) b ≡ true → puts_out_right left (column_keys right_on) b ≡ true
  pub right_formed : AllByRecursion (λ (e : Named). is_formed_key (right_keys_plain left) e ≡ true) right_on

-- a join that may put out the left keys alone
record Coalesced (how : JoinType) (c : JoinCoalesce) : Type 0 where
  drops : (coalesces how CoalesceColumns && drops_left how) ≡ (coalesces how c && drops_left how)
  fill : fills how CoalesceColumns ≡ fills how c
  whole : (coalesces how c && drops_left how) ≡ false
  put : (b : Bool) → (has_right how && not ((coalesces how c && not (drops_left how)) && b)) ≡ true
  rest : (b : Bool) → b ≡ false → (has_right how && not ((coalesces how CoalesceColumns && not (drops_left how)) && b)) ≡ true
  plain : (coalesces how CoalesceColumns && not (drops_left how)) ≡ true
  none : (pairs : ℕ) (o : Option KindOptions) → fits_kind how pairs o ≡ true → conditions o ≡ []

no_conditions : (o : Option KindOptions) → is_none o ≡ true → conditions o ≡ []
no_conditions None e = refl
no_conditions (Some o) e = cc

coalesced : (how : JoinType) (c : JoinCoalesce) → (may_drop_right how && keeps_both c) ≡ true → Coalesced how c
coalesced Inner KeepColumns e = record { drops = refl; fill = refl; whole = refl; put = λ b. refl; rest = λ b q. ap not q; plain = refl; none = λ pairs o q. no_conditions o q }
coalesced Left KeepColumns e = record { drops = refl; fill = refl; whole = refl; put = λ b. refl; rest = λ b q. ap not q; plain = refl; none = λ pairs o q. no_conditions o q }
coalesced how c e = absurd (cc)

all_in : (test : Name → Bool) (l : List Name) (a : Name) → list_all test l ≡ true → has l a ≡ true → test a ≡ true
all_in test [] a e i = cc
all_in test (b ∷ l) a e i =
    let p = and_parts (test b) (list_all test l) e in
    ⊎_elim (λ (q : a ≡ b). ap test q ∙ p.0) (λ (j : has l a ≡ true). all_in test l a p.1 j) (has_cons b l a i)

formed_columns : (plain : Bool) (es : List Named) → AllByRecursion (λ (e : Named). is_formed_key plain e ≡ true) es → are_columns es ≡ true → AllByRecursion (λ (e : Named). is_formed_key true e ≡ true) es
formed_columns plain [] h k = tt
formed_columns plain (e ∷ es) h k =
    let p = and_parts (has_form e.expr) (not plain || is_some (expr_column e.expr)) h.0 in
    let q = and_parts (is_some (expr_column e.expr)) (are_columns es) k in
    (ap₂ (λ (x y : Bool). x && y) p.0 q.0, formed_columns plain es h.1 q.1)

module _ (left_on right_on : List Named) (stored : Columns) (told : Told) (wanted : List Name) (s t : Columns) (g : JoinGood left_on right_on stored told s t) where
  abbrev by : Name → Option (Side × Name)
  by = origin_of left_on right_on told s t

  abbrev rk : List Name
  rk = column_keys right_on

  abbrev own : JoinArgs
  own = told.args

  kept_same : Kept own own right_on by (needed_of told wanted)
  kept_same = record { how = refl; suffix = refl; nulls = refl; order = refl; slice = refl; left_drops = refl; filled = refl; right_less = λ b i. i; right_kept = λ a b n o i. i; right_formed = g.right_formed }

  -- the options of a join that is built fit its kind
  fits : is_built_join (length left_on) (length right_on) told ≡ true → fits_kind own.how (length left_on) told.options ≡ true
  unfolding is_built_join
  fits h = (and_parts (are_paired own.how (length left_on) (length right_on)) (fits_kind own.how (length left_on) told.options) (and_parts (is_none own.slice) (are_paired own.how (length left_on) (length right_on) && fits_kind own.how (length left_on) told.options) h).1).1

  kept_coalesced : may_coalesce own wanted right_on s ≡ true → Kept own (record own { coalesce = CoalesceColumns }) right_on by (needed_of told wanted)
  kept_coalesced e =
      let p = and_parts (may_drop_right own.how && keeps_both own.coalesce) (are_columns right_on && keys_unasked own wanted rk s) e in
      let q = and_parts (are_columns right_on) (keys_unasked own wanted rk s) p.1 in
      let c = coalesced own.how own.coalesce p.0 in
      let none : needed_of told wanted ≡ wanted = ap (λ es. all_leaves es ++ wanted) (c.none (length left_on) told.options (fits g.built)) in
      let whole : left_rest own (column_keys left_on) s ≡ s = ap (λ (b : Bool). cond b (but_for (column_keys left_on) s) s) c.whole in
      record {
        how = refl;
        suffix = refl;
        nulls = refl;
        order = refl;
        slice = refl;
        left_drops = c.drops;
        filled = c.fill;
        right_less = λ b i. c.put (has rk b);
        right_kept = λ a b n o i. c.rest (has rk b) (false_from_ne_true (has rk b) (λ k.
            let asked : has wanted a ≡ true = ap (λ (l : List Name). has l a) (sym none) ∙ n in
            let is : right_name (suffix_of own) (names_of s) b ≡ a = ap (λ (u : Columns). right_name (suffix_of own) (names_of u) b) (sym whole) ∙ origin_called own (column_keys left_on) rk s t a (sides.Right, b) o in
            both_ways (has wanted (right_name (suffix_of own) (names_of s) b))
            (not-true (has wanted (right_name (suffix_of own) (names_of s) b)) (all_in (λ (x : Name). not (has wanted (right_name (suffix_of own) (names_of s) x))) rk b q.1 k))
            (ap (has wanted) is ∙ asked)));
        right_formed = subst (λ (b : Bool). AllByRecursion (λ (x : Named). is_formed_key b x ≡ true) right_on) (sym c.plain) (formed_columns (right_keys_plain own) right_on g.right_formed q.0);
      }

  -- a narrowed join keeps what it must
  pub kept_args : Kept own (narrowed_args own wanted right_on s) right_on by (needed_of told wanted)
  kept_args = at (may_coalesce own wanted right_on s) refl
    where
      at : (b : Bool) → may_coalesce own wanted right_on s ≡ b → Kept own (cond b (record own { coalesce = CoalesceColumns }) own) right_on by (needed_of told wanted)
      at true e = kept_coalesced e
      at false e = kept_same
