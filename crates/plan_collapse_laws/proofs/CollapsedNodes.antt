-- A collapsed plan has no more nodes than the plan.
use Rattle.std.proofs.Common.{◌≡◌, ◌++◌, ◌+◌, ◌≤◌, ℕ, suc, Bool, true, false, List, [], ◌∷◌, map, length, Option, Some, None, refl, ap, arith}
use Rattle.std.proofs.lemmas.Bool.{both_ways}
use Rattle.plan_core.specs.Columns.{Columns}
use Rattle.plan_tree.specs.Rose.{Roses, rose, no_roses, more, size}
use Rattle.plan_expr.specs.Exprs.{Expr, Named}
use Rattle.plan_join.specs.Told.{Told}
use Rattle.plan_ir.specs.Plans.{Op, filter, join, Plan}
use Rattle.plan_meaning.specs.JoinChecks.{conditions, is_elementwise}
use Rattle.plan_meaning.specs.Scans.{nodes}
use Rattle.plan_meaning.specs.Steps.{IsValid}
use Rattle.plan_meaning.specs.Typing.{AllValid}
use Rattle.plan_schema.specs.Stored.{stored_all}
use Rattle.plan_collapse_laws.specs.TakenKeys.{and_all, told_now, left_keys, right_keys}
use Rattle.plan_collapse_laws.specs.Collapsed.{at_filter, at_join, collapsed, collapsed_all, collapsed_at, collapsed_cross, collapsed_under, filtered_by, first_under, keeping, under}
use Rattle.plan_collapse_laws.specs.Sites.{is_cross}
use Rattle.plan_collapse_laws.proofs.Filters.{one}
use Rattle.plan_collapse_laws.proofs.NodeKinds.{Kind, a_filter, a_join, another, cross_cases, kind_of}

over_size : (op : Op) (ts : Roses (Unit {0}) Op) → nodes (rose tt op ts) ≡ suc (size ts)
over_size op ts = omega arith

over_one : (op : Op) (q : Plan) → nodes (rose tt op (one q)) ≡ suc (nodes q)
over_one op q = over_size op (one q)

under_nodes : (run : List Named) (q : Plan) → nodes (under run q) ≡ length run + nodes q
under_nodes [] q = omega arith
under_nodes (e ∷ run) q = let a = under_nodes run q in let b = over_one (filter e) (under run q) in omega (arith, a, b)

filtered_nodes : (o : Option Expr) (q : Plan) → nodes (filtered_by o q) ≤ suc (nodes q)
filtered_nodes None q = omega arith
filtered_nodes (Some e) q = omega arith

cross_nodes : (run : List Named) (stored : Columns) (told : Told) (ss : List Columns) (inputs : Roses (Unit {0}) Op) → nodes (collapsed_cross run stored told ss inputs) ≤ length run + suc (size inputs)
cross_nodes [] stored told ss inputs = omega arith
cross_nodes (e ∷ run) stored told ss inputs = cross_cases (λ (q : Roses (Unit {0}) Op → Plan). nodes (q inputs) ≤ length (e ∷ run) + suc (size inputs)) stored told
    (λ how options ks rest. let a = filtered_nodes (and_all (rest ++ map (λ (d : Named). d.expr) (conditions told.options))) (rose tt (join (left_keys ks) (right_keys ks) stored (told_now (keeping how told.args) options told)) inputs) in let b = over_size (join (left_keys ks) (right_keys ks) stored (told_now (keeping how told.args) options told)) inputs in few (nodes (filtered_by (and_all (rest ++ map (λ (d : Named). d.expr) (conditions told.options))) (rose tt (join (left_keys ks) (right_keys ks) stored (told_now (keeping how told.args) options told)) inputs))) (length run) (size inputs) (omega (arith, a, b)))
    (λ x. omega arith)
    (e ∷ run) ss (let a = under_nodes (e ∷ run) (rose tt (join [] [] stored told) inputs) in omega (arith, a))
  where
    few : (a b c : ℕ) → a ≤ suc (suc c) → a ≤ suc b + suc c
    few a b c h = omega (arith, h)

more_size : (q : Plan) (rest : Roses (Unit {0}) Op) → size (more q rest) ≡ nodes q + size rest
more_size (rose n op ts) rest = omega arith

mutual
  pub run_nodes : (p : Plan) (run : List Named) → IsValid p → nodes (collapsed_under p run) ≤ length run + nodes p
  run_nodes (rose n op ts) run v = at op (kind_of op) (all_nodes ts v.1) (λ e x. first_nodes ts run e x) v
    where
      at : (o : Op) → Kind o → size (collapsed_all ts) ≤ size ts → ((e : Named) → IsValid (rose tt (filter e) ts) → nodes (first_under ts (run ++ e ∷ [])) ≤ suc (length run) + size ts) → IsValid (rose tt o ts) → nodes (collapsed_at o run (stored_all ts) (collapsed_all ts) (λ r. first_under ts r)) ≤ length run + nodes (rose tt o ts)
      at _ (a_filter e) all first x = filters (is_elementwise e.expr)
        where
          filters : (b : Bool) → nodes (at_filter b run e (collapsed_all ts) (λ r. first_under ts r)) ≤ length run + nodes (rose tt (filter e) ts)
          filters true = let a = first e x in let b = over_size (filter e) ts in omega (arith, a, b)
          filters false = let a = under_nodes run (rose tt (filter e) (collapsed_all ts)) in let b = over_size (filter e) ts in let c = over_size (filter e) (collapsed_all ts) in omega (arith, a, b, c, all)
      at _ (a_join left_on right_on stored told) all first x = joins (is_cross told.args.how)
        where
          joins : (b : Bool) → nodes (at_join b run left_on right_on stored told (stored_all ts) (collapsed_all ts)) ≤ length run + nodes (rose tt (join left_on right_on stored told) ts)
          joins true = let a = cross_nodes run stored told (stored_all ts) (collapsed_all ts) in let b = over_size (join left_on right_on stored told) ts in omega (arith, a, b, all)
          joins false = let a = under_nodes run (rose tt (join left_on right_on stored told) (collapsed_all ts)) in let b = over_size (join left_on right_on stored told) ts in let c = over_size (join left_on right_on stored told) (collapsed_all ts) in omega (arith, a, b, c, all)
      at _ (another o k) all first x =
          let same = ap nodes (k.stays run (stored_all ts) (collapsed_all ts) (λ r. first_under ts r)) in
          let a = under_nodes run (rose tt o (collapsed_all ts)) in
          let b = over_size o ts in
          let c = over_size o (collapsed_all ts) in
          omega (arith, same, a, b, c, all)

  all_nodes : (ts : Roses (Unit {0}) Op) → AllValid ts → size (collapsed_all ts) ≤ size ts
  all_nodes no_roses v = omega arith
  all_nodes (more (rose n op ts) rest) v =
      let a = run_nodes (rose n op ts) [] (v.0, v.1) in
      let b = all_nodes rest v.2 in
      let c = more_size (collapsed_under (rose n op ts) []) (collapsed_all rest) in
      let d = more_size (rose n op ts) rest in
      omega (arith, a, b, c, d)

  first_nodes : (ts : Roses (Unit {0}) Op) (run : List Named) (e : Named) → IsValid (rose tt (filter e) ts) → nodes (first_under ts (run ++ e ∷ [])) ≤ suc (length run) + size ts
  first_nodes no_roses run e v = absurd (both_ways false refl v.0.0)
  first_nodes (more (rose n op ts) no_roses) run e v =
      let a = run_nodes (rose n op ts) (run ++ e ∷ []) (v.1.0, v.1.1) in
      let b = last_more run in
      omega (arith, a, b)
    where
      last_more : (run : List Named) → length (run ++ e ∷ []) ≡ suc (length run)
      last_more [] = refl
      last_more (d ∷ run) = ap (λ (k : ℕ). suc k) (last_more run)
  first_nodes (more (rose n op ts) (more (rose m o us) rest)) run e v = absurd (both_ways false refl v.0.0)

pub collapsed_few : (p : Plan) → IsValid p → nodes (collapsed p) ≤ nodes p
collapsed_few p v = let a = run_nodes p [] v in omega (arith, a)
