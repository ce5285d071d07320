-- What a cross join becomes, by what its minterms were split into.
use Rattle.std.proofs.Common.{◌≡◌, ◌∙◌, ◌++◌, ◌<◌, ◌≤◌, true, false, List, [], ◌∷◌, length, map, Option, None, option_map, refl, sym, ap, ap₂, arith}
use Rattle.std.proofs.lemmas.List.{length-map, nil_from_length}
use Rattle.plan_core.specs.declared.arena.Node.{Node}
use Rattle.plan_core.specs.Columns.{Columns}
use Rattle.plan_options.specs.declared.join.IEJoinOptions.{IEJoinOptions}
use Rattle.plan_options.specs.declared.join.JoinType.TheVariants.{IEJoin, Inner}
use Rattle.plan_options.specs.declared.join.MaintainOrderJoin.{MaintainOrderJoin}
use Rattle.plan_options.specs.declared.join.MaintainOrderJoin.TheVariants as orders
use Rattle.plan_tree.specs.Rose.{Roses, rose}
use Rattle.plan_expr.specs.declared.aexpr.AExpr.{AExpr}
use Rattle.plan_expr.specs.Exprs.{Expr, Named, expr_at}
use Rattle.plan_ir.specs.Plans.{Op, join}
use Rattle.plan_join.specs.Told.{inequalities, Told}
use Rattle.plan_meaning.specs.JoinChecks.{conditions}
use Rattle.plan_collapse_laws.specs.Collapsed.{by_condition, collapsed_by, free_join, on_keys, under}
use Rattle.plan_collapse_laws.specs.CrossKeys.{all_minterms, Crossed, equality_keys, inequality_keys, KeyPair}
use Rattle.plan_collapse_laws.specs.TakenKeys.{and_all, operators_of, taken, untaken}
use Rattle.plan_collapse.specs.declared.keys.KeyNodes.{KeyNodes}
use Rattle.plan_collapse.specs.declared.split.Split.{Split}
use Rattle.plan_collapse.specs.KeysAt.{IsSplit, pair_at}
use Rattle.plan_collapse.specs.Ways.{by_minterms, is_free_order}

module _ (ex : List AExpr) (j : Crossed) (minterms : List Node) (run : List Named) (schema : Columns) (told : Told) (inputs : Roses (Unit {0}) Op) where
  abbrev es : List Expr
  es = map (expr_at ex) minterms

  -- as many expressions as numbers
  abbrev Equal : Split → Type 0
  Equal split = IsSplit ex j (length minterms) (equality_keys j) minterms split

  abbrev Unequal : Split → Type 0
  Unequal split = IsSplit ex j 2 (inequality_keys j) minterms split

  many : length es ≡ length minterms
  many = length-map minterms (expr_at ex)

  equal-keys : (split : Split) → Equal split → taken (length es) (equality_keys j) es ≡ map (pair_at ex j) split.keys
  equal-keys split h = rw many (sym h.0)

  equal-rest : (split : Split) → Equal split → untaken (length es) (equality_keys j) es ≡ map (expr_at ex) split.rest
  equal-rest split h = rw many (sym h.1)

  -- on equalities
  pub equal-way : (split : Split) → Equal split → 0 < length split.keys → by_minterms j es run schema told inputs ≡ on_keys Inner None (map (pair_at ex j) split.keys) (map (expr_at ex) split.rest) schema told inputs
  equal-way split h some =
      ap₂ (λ (ks : List KeyPair) (rest : List Expr). collapsed_by ks (taken 2 (inequality_keys j) es) rest (untaken 2 (inequality_keys j) es) run schema told inputs) (equal-keys split h) (equal-rest split h)
      ∙ of split.keys some
    where
      of : (ks : List KeyNodes) → 0 < length ks → collapsed_by (map (pair_at ex j) ks) (taken 2 (inequality_keys j) es) (map (expr_at ex) split.rest) (untaken 2 (inequality_keys j) es) run schema told inputs ≡ on_keys Inner None (map (pair_at ex j) ks) (map (expr_at ex) split.rest) schema told inputs
      of [] lt = absurd (omega (arith, lt))
      of (k ∷ ks) lt = refl

  none-left : (split : Split) → Equal split → length split.keys ≤ 0 → taken (length es) (equality_keys j) es ≡ []
  none-left split h none = equal-keys split h ∙ ap (map (pair_at ex j)) (nil_from_length split.keys (omega (arith, none)))

  -- on inequalities
  pub unequal-way : (equal split : Split) (operators : Option IEJoinOptions) → Equal equal → length equal.keys ≤ 0 → Unequal split → 0 < length split.keys → operators ≡ operators_of (map (pair_at ex j) split.keys) → by_minterms j es run schema told inputs ≡ on_keys IEJoin (option_map inequalities operators) (map (pair_at ex j) split.keys) (map (expr_at ex) split.rest) schema told inputs
  unequal-way equal split operators h none u some is =
      ap (λ (ks : List KeyPair). collapsed_by ks (taken 2 (inequality_keys j) es) (untaken (length es) (equality_keys j) es) (untaken 2 (inequality_keys j) es) run schema told inputs) (none-left equal h none)
      ∙ ap₂ (λ (ks : List KeyPair) (others : List Expr). collapsed_by [] ks (untaken (length es) (equality_keys j) es) others run schema told inputs) (sym u.0) (sym u.1)
      ∙ of split.keys some
      ∙ ap (λ (o : Option IEJoinOptions). on_keys IEJoin (option_map inequalities o) (map (pair_at ex j) split.keys) (map (expr_at ex) split.rest) schema told inputs) (sym is)
    where
      of : (ks : List KeyNodes) → 0 < length ks → collapsed_by [] (map (pair_at ex j) ks) (untaken (length es) (equality_keys j) es) (map (expr_at ex) split.rest) run schema told inputs ≡ on_keys IEJoin (option_map inequalities (operators_of (map (pair_at ex j) ks))) (map (pair_at ex j) ks) (map (expr_at ex) split.rest) schema told inputs
      of [] lt = absurd (omega (arith, lt))
      of (k ∷ ks) lt = refl

  -- where no minterm is eligible
  no-keys : (equal split : Split) → Equal equal → length equal.keys ≤ 0 → Unequal split → length split.keys ≤ 0 → by_minterms j es run schema told inputs ≡ free_join told.args.maintain_order run schema told inputs
  no-keys equal split h none u over =
      ap₂ (λ (ks us : List KeyPair). collapsed_by ks us (untaken (length es) (equality_keys j) es) (untaken 2 (inequality_keys j) es) run schema told inputs) (none-left equal h none) (sym u.0 ∙ ap (map (pair_at ex j)) (nil_from_length split.keys (omega (arith, over))))

  pub free-way : (equal split : Split) (order : MaintainOrderJoin) → Equal equal → length equal.keys ≤ 0 → Unequal split → length split.keys ≤ 0 → is_free_order order ≡ true → told.args.maintain_order ≡ order → by_minterms j es run schema told inputs ≡ by_condition (and_all (all_minterms run ++ map (λ (e : Named). e.expr) (conditions told.options))) schema told inputs
  free-way equal split order h none u over free is = no-keys equal split h none u over ∙ ap (λ (o : MaintainOrderJoin). free_join o run schema told inputs) is ∙ of order free
    where
      of : (o : MaintainOrderJoin) → is_free_order o ≡ true → free_join o run schema told inputs ≡ by_condition (and_all (all_minterms run ++ map (λ (e : Named). e.expr) (conditions told.options))) schema told inputs
      of orders.None e = refl
      of orders.Left e = cc
      of orders.Right e = cc
      of orders.LeftRight e = cc
      of orders.RightLeft e = cc

  pub ordered-way : (equal split : Split) (order : MaintainOrderJoin) → Equal equal → length equal.keys ≤ 0 → Unequal split → length split.keys ≤ 0 → is_free_order order ≡ false → told.args.maintain_order ≡ order → by_minterms j es run schema told inputs ≡ under run (rose tt (join [] [] schema told) inputs)
  ordered-way equal split order h none u over bound is = no-keys equal split h none u over ∙ ap (λ (o : MaintainOrderJoin). free_join o run schema told inputs) is ∙ of order bound
    where
      of : (o : MaintainOrderJoin) → is_free_order o ≡ false → free_join o run schema told inputs ≡ under run (rose tt (join [] [] schema told) inputs)
      of orders.None e = cc
      of orders.Left e = refl
      of orders.Right e = refl
      of orders.LeftRight e = refl
      of orders.RightLeft e = refl
