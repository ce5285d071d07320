-- A cross join under its run, collapsed, refines it.
use Rattle.std.proofs.Common.{◌≡◌, ◌∙◌, ◌++◌, ◌<◌, ◌≤◌, ◌==◌, ℕ, suc, Bool, true, false, not, ◌&&◌, cond, List, [], ◌∷◌, map, length, fold, Option, Some, None, refl, sym, ap, ap₂, subst, arith}
use Rattle.std.specs.Prelude.{option_map}
use Rattle.std.specs.List.{AllByRecursion, list_all}
use Rattle.std.proofs.lemmas.Bool.{and_parts as parts_of}
use Rattle.std.proofs.lemmas.Bool.Decides.{nat_tests}
use Rattle.plan_core.specs.declared.data_type.DataType.{DataType}
use Rattle.plan_core.specs.Columns.{Columns, names_of}
use Rattle.plan_options.specs.declared.join.IEJoinOptions.{IEJoinOptions}
use Rattle.plan_options.specs.declared.join.JoinArgs.{JoinArgs}
use Rattle.plan_options.specs.declared.join.JoinCoalesce.TheVariants.{KeepColumns}
use Rattle.plan_options.specs.declared.join.JoinType.{JoinType}
use Rattle.plan_options.specs.declared.join.JoinType.TheVariants.{Cross, IEJoin, Inner}
use Rattle.plan_options.specs.declared.join.MaintainOrderJoin.{MaintainOrderJoin}
use Rattle.plan_options.specs.declared.join.MaintainOrderJoin.TheVariants as orders
use Rattle.plan_tree.specs.Rose.{Roses, rose, no_roses, more}
use Rattle.plan_expr.specs.Exprs.{Expr, Named}
use Rattle.plan_join.specs.Told.{KindOptions, condition, inequalities, Told, operators}
use Rattle.plan_ir.specs.Plans.{Op, join, Plan}
use Rattle.plan_frame.specs.Frames.{Frame, HasSchema}
use Rattle.plan_frame.specs.Exprs.{expr_type}
use Rattle.plan_frame.proofs.FrameLemmas.{length-map}
use Rattle.plan_join.specs.Pairs.{both}
use Rattle.plan_join.specs.Matching.{join_test}
use Rattle.plan_meaning.specs.JoinChecks.{are_paired, conditions, fits_kind, is_built_join, is_elementwise, is_key_type}
use Rattle.plan_meaning.specs.Checks.{is_none, is_plain_type}
use Rattle.plan_meaning.specs.Typing.{schema, schema_by, schemas}
use Rattle.plan_meaning.specs.Steps.{IsValid}
use Rattle.plan_meaning.specs.Relating.{Refines}
use Rattle.plan_meaning.proofs.JoinLemmas.{JoinGood, differ_distinct, join_good}
use Rattle.plan_meaning.proofs.Refining.{refines_refl}
use Rattle.plan_collapse_laws.specs.FilteredPairs.{GivesPairs, more_by}
use Rattle.plan_collapse_laws.specs.FilteredFrames.{holds, PutsOutAll, all_hold}
use Rattle.plan_meaning.specs.Minterms.{is_and, minterms}
use Rattle.plan_collapse_laws.specs.CrossKeys.{Crossed, KeyPair, all_minterms, equality_keys, inequality_keys, equal_at, meets_at}
use Rattle.plan_collapse_laws.specs.TakenKeys.{and_all, and_expr, operators_of, self_named, taken, told_now, untaken, exprs_of, left_keys, right_keys, some_expr}
use Rattle.plan_collapse_laws.specs.Collapsed.{by_condition, collapsed_by, collapsed_cross, filtered_by, free_join, keeping, on_keys, under}
use Rattle.plan_collapse_laws.proofs.JoinFrames.{cross_all}
use Rattle.plan_collapse_laws.proofs.CrossStep.{step_refines}
use Rattle.plan_collapse_laws.proofs.Filters.{under_valid}
use Rattle.plan_collapse_laws.proofs.JoinChecked.{conditioned_good, keyed_good, own_predicates, rest_good, run_predicates}
use Rattle.plan_collapse_laws.proofs.JoinTests.{conditioned_tests, keyed_tests}
use Rattle.plan_collapse_laws.proofs.KeyTests.{equality_good, equality_holds, inequality_good, inequality_holds}
use Rattle.plan_collapse_laws.specs.Predicates.{IsPredicate, KeyGood, MeetGood}
use Rattle.plan_meaning.proofs.KeptExprs.{all_append}
use Rattle.plan_collapse_laws.proofs.Predicates.{all_minterms_good, and_all_good, both_hold}
use Rattle.plan_collapse_laws.proofs.Splits.{AreOf, as_many, match_keys, meet_keys, taken_all, taken_few, told_operators, untaken_all}

-- kinds of joins

gives_inner : GivesPairs Inner
gives_inner = record { pairs = refl; lefts = λ b. refl; rights = λ b. refl }

gives_unequal : GivesPairs IEJoin
gives_unequal = record { pairs = refl; lefts = λ b. refl; rights = λ b. refl }

gives_cross : GivesPairs Cross
gives_cross = record { pairs = refl; lefts = λ b. refl; rights = λ b. refl }

inner_all : (args : JoinArgs) → PutsOutAll (keeping Inner args)
inner_all args = record { keeps = refl; rights = refl; filled = refl }

unequal_all : (args : JoinArgs) → PutsOutAll (keeping IEJoin args)
unequal_all args = record { keeps = refl; rights = refl; filled = refl }

same_number : (n : ℕ) → (n == n) ≡ true
same_number n = grind (arith, nat_tests)

pub not_zero : (n : ℕ) → not (suc n == 0) ≡ true
not_zero n = grind (arith, nat_tests)

counts_paired : (n : ℕ) → (not (suc n == 0) && (suc n == suc n)) ≡ true
counts_paired n = both_hold (not (suc n == 0)) (suc n == suc n) (not_zero n) (same_number (suc n))

as_lefts : (ks : List KeyPair) → length (left_keys ks) ≡ length ks
as_lefts ks = length-map (λ (k : KeyPair). self_named k.left_key) ks

as_rights : (ks : List KeyPair) → length (right_keys ks) ≡ length ks
as_rights ks = length-map (λ (k : KeyPair). self_named k.right_key) ks

-- lists of expressions

pub some_minterm : (e : Expr) → (x : Expr) × (xs : List Expr) × (minterms e ≡ x ∷ xs)
some_minterm (rose n op no_roses) = (rose n op no_roses, [], refl)
some_minterm (rose n op (more l no_roses)) = (rose n op (more l no_roses), [], refl)
some_minterm (rose n op (more l (more r (more d es)))) = (rose n op (more l (more r (more d es))), [], refl)
some_minterm (rose n op (more l (more r no_roses))) = at (is_and op) (some_minterm l)
  where
    at : (b : Bool) → ((x : Expr) × (xs : List Expr) × (minterms l ≡ x ∷ xs)) → (x : Expr) × (xs : List Expr) × (cond b (minterms l ++ minterms r) (rose n op (more l (more r no_roses)) ∷ []) ≡ x ∷ xs)
    at true y = (y.0, y.1 ++ minterms r, ap (λ (es : List Expr). es ++ minterms r) y.2)
    at false y = (rose n op (more l (more r no_roses)), [], refl)

by_rows : (s : Columns) (es : List Expr) → AllByRecursion (IsPredicate s) es → AllByRecursion (λ (e : Expr). is_elementwise e ≡ true) es
by_rows s [] h = tt
by_rows s (e ∷ es) h = (h.0.by_row, by_rows s es h.1)

one_good : (s : Columns) (es : List Expr) → AllByRecursion (IsPredicate s) es → AllByRecursion (IsPredicate s) (some_expr (and_all es))
one_good s [] h = tt
one_good s (e ∷ es) h = (and_all_good s e es h.0 h.1, tt)

rest_by_rows : (s : Columns) (o : Option Expr) → AllByRecursion (IsPredicate s) (some_expr o) → AllByRecursion (λ (e : Named). is_elementwise e.expr ≡ true) (map self_named (some_expr o))
rest_by_rows s None h = tt
rest_by_rows s (Some e) h = (h.0.by_row, tt)

rest_exprs : (o : Option Expr) → exprs_of (map self_named (some_expr o)) ≡ some_expr o
rest_exprs None = refl
rest_exprs (Some e) = refl

filtered_under : (o : Option Expr) (p : Plan) → under (map self_named (some_expr o)) p ≡ filtered_by o p
filtered_under None p = refl
filtered_under (Some e) p = refl

each_taken : {P : Expr → Type 0} {Q : Expr → Type 0} → ((e : Expr) → P e → Q e) → (es : List Expr) → AllByRecursion P es → AllByRecursion Q es
each_taken by [] h = tt
each_taken by (e ∷ es) h = (by e h.0, each_taken by es h.1)

module _ (stored : Columns) (told : Told) (run : List Named) (n : Unit {0}) (op : Op) (ts : Roses (Unit {0}) Op) (m : Unit {0}) (o : Op) (us : Roses (Unit {0}) Op) where
  abbrev inputs : Roses (Unit {0}) Op
  inputs = more (rose n op ts) (more (rose m o us) no_roses)

  abbrev s : Columns
  s = schema_by op (schemas ts)

  abbrev t : Columns
  t = schema_by o (schemas us)

  abbrev given : Plan
  given = rose tt (join [] [] stored told) inputs

  abbrev crossed : Crossed
  crossed = record { args = told.args; left = s; right = t }

  abbrev es : List Expr
  es = all_minterms run

  abbrev own_exprs : List Expr
  own_exprs = exprs_of (conditions told.options)

  module _ (cross : told.args.how ≡ Cross) (v : IsValid (under run given)) (w : AllByRecursion (λ (e : Named). is_elementwise e.expr ≡ true) run) where
    all : PutsOutAll told.args
    all = cross_all told.args cross

    good : JoinGood [] [] stored told s t
    good = join_good [] [] stored told s t (under_valid run given v).0.0

    gives_given : GivesPairs told.args.how
    gives_given = subst GivesPairs (sym cross) gives_cross

    fits : fits_kind Cross 0 told.options ≡ true
    unfolding is_built_join
    fits = sym (ap (λ (h : JoinType). fits_kind h 0 told.options) cross) ∙ (parts_of (are_paired told.args.how 0 0) (fits_kind told.args.how 0 told.options) (parts_of (is_none told.args.slice) (are_paired told.args.how 0 0 && fits_kind told.args.how 0 told.options) good.built).1).1

    minterms_are : AllByRecursion (IsPredicate (schema given)) es
    minterms_are = all_minterms_good (schema given) run (run_predicates stored told s t good all run (under_valid run given v).1 w)

    own_are : AllByRecursion (IsPredicate (schema given)) own_exprs
    own_are = own_predicates stored told s t good all

    -- a join on keys that are taken from so many minterms
    module _ (how : JoinType) (options : Option KindOptions) (keys : Expr → Option KeyPair) (most : ℕ) (own : KeyPair → Frame → Frame → ℕ → ℕ → Bool)
        (kept : PutsOutAll (keeping how told.args)) (gives_now : GivesPairs how) (none : conditions options ≡ [])
        (built : (are_paired how (length (left_keys (taken most keys es))) (length (right_keys (taken most keys es))) && fits_kind how (length (left_keys (taken most keys es))) options) ≡ true)
        (keys_good : AllByRecursion (λ (k : KeyPair). KeyGood s t k × (is_key_type how (expr_type k.right_key t) ≡ true)) (taken most keys es))
        (hold : (f g : Frame) → HasSchema f s → HasSchema g t → (i j : ℕ) → i < f.height → j < g.height → AllByRecursion (λ (e : Expr). (k : KeyPair) → keys e ≡ Some k → holds told.args [] [] f g e (both i j) ≡ own k f g i j) es)
        (tests : (f g : Frame) (i j : ℕ) → join_test (told_now (keeping how told.args) options told) (left_keys (taken most keys es)) (right_keys (taken most keys es)) f g i j ≡ list_all (λ (k : KeyPair). own k f g i j) (taken most keys es)) where
      abbrev rest : List Expr
      rest = untaken most keys es ++ own_exprs

      rest_are : AllByRecursion (IsPredicate (schema given)) rest
      rest_are = all_append (IsPredicate (schema given)) (untaken most keys es) own_exprs (untaken_all keys (IsPredicate (schema given)) most es minterms_are) own_are

      keyed_refines : Refines (on_keys how options (taken most keys es) (untaken most keys es) stored told inputs) (under run given)
      keyed_refines =
          let one = one_good (schema given) rest rest_are in
          subst (λ (q : Plan). Refines q (under run given))
          (filtered_under (and_all rest) (rose tt (join (left_keys (taken most keys es)) (right_keys (taken most keys es)) stored (told_now (keeping how told.args) options told)) inputs))
          (step_refines stored told (told_now (keeping how told.args) options told) (left_keys (taken most keys es)) (right_keys (taken most keys es)) run (map self_named (some_expr (and_all rest))) n op ts m o us
          v all kept refl refl gives_given gives_now
          (keyed_good stored told s t good all how options (taken most keys es) kept none built keys_good)
          (rest_good (schema given) (and_all rest) one)
          w (rest_by_rows (schema given) (and_all rest) one)
          (λ f g hf hg i j li lj.
          keyed_tests told f g i j fits run w keys (λ (k : KeyPair). own k f g i j) most (join_test (told_now (keeping how told.args) options told) (left_keys (taken most keys es)) (right_keys (taken most keys es)) f g) (hold f g hf hg i j li lj) (by_rows (schema given) rest rest_are) (tests f g i j)
          ∙ ap (λ (xs : List Expr). more_by (join_test (told_now (keeping how told.args) options told) (left_keys (taken most keys es)) (right_keys (taken most keys es)) f g) (all_hold told.args [] [] f g xs) i j) (sym (rest_exprs (and_all rest)))))

    -- by equalities
    equal_are : AllByRecursion (λ (e : Expr). (k : KeyPair) → equality_keys crossed e ≡ Some k → KeyGood s t k × (is_key_type Inner (expr_type k.right_key t) ≡ true)) es
    equal_are = each_taken (λ e p k q. let g = equality_good told.args all s t (differ_distinct (names_of (schema given)) good.differ) e k p q in (g, ap is_plain_type g.right_typed ∙ g.plain)) es minterms_are

    abbrev equals : List KeyPair
    equals = taken (length es) (equality_keys crossed) es

    by_equalities : (k : KeyPair) (ks : List KeyPair) → equals ≡ k ∷ ks → Refines (on_keys Inner None equals (untaken (length es) (equality_keys crossed) es) stored told inputs) (under run given)
    by_equalities k ks is = keyed_refines Inner None (equality_keys crossed) (length es) equal_at (inner_all told.args) gives_inner refl
        (ap₂ (λ (a b : ℕ). are_paired Inner a b && true) (as_lefts equals) (as_rights equals) ∙ ap (λ (ks : List KeyPair). are_paired Inner (length ks) (length ks) && true) is ∙ both_hold (not (suc (length ks) == 0) && (suc (length ks) == suc (length ks))) true (counts_paired (length ks)) refl)
        (taken_all (equality_keys crossed) (λ (k : KeyPair). KeyGood s t k × (is_key_type Inner (expr_type k.right_key t) ≡ true)) (length es) es equal_are)
        (λ f g hf hg i j li lj. each_taken (λ e p k q. equality_holds told.args all s t (differ_distinct (names_of (schema given)) good.differ) (differ_distinct (names_of s) good.left_differ) (differ_distinct (names_of t) good.right_differ) f g hf hg i j li lj e k p q) es minterms_are)
        (λ f g i j. match_keys f g i j equals)

    -- by inequalities
    unequal_are : AllByRecursion (λ (e : Expr). (k : KeyPair) → inequality_keys crossed e ≡ Some k → MeetGood s t k) es
    unequal_are = each_taken (λ e p k q. inequality_good told.args all s t (differ_distinct (names_of (schema given)) good.differ) e k p q) es minterms_are

    abbrev unequals : List KeyPair
    unequals = taken 2 (inequality_keys crossed) es

    meets_are : AllByRecursion (MeetGood s t) unequals
    meets_are = taken_all (inequality_keys crossed) (MeetGood s t) 2 es unequal_are

    each_key : {P : KeyPair → Type 0} {Q : KeyPair → Type 0} → ((k : KeyPair) → P k → Q k) → (ks : List KeyPair) → AllByRecursion P ks → AllByRecursion Q ks
    each_key by [] h = tt
    each_key by (k ∷ ks) h = (by k h.0, each_key by ks h.1)

    told_pairs : (k : KeyPair) (ks : List KeyPair) → unequals ≡ k ∷ ks → (x : IEJoinOptions) × (operators_of unequals ≡ Some x) × AreOf (operators x) unequals
    told_pairs k ks is =
        let few : length (k ∷ ks) ≤ 2 = subst (λ (xs : List KeyPair). length xs ≤ 2) is (taken_few (inequality_keys crossed) 2 es) in
        let x = told_operators k ks (each_key (λ k g. g.unequal) (k ∷ ks) (subst (AllByRecursion (MeetGood s t)) is meets_are)) few in
        (x.0, ap operators_of is ∙ x.1, subst (AreOf (operators x.0)) (sym is) x.2)

    by_inequalities : (k : KeyPair) (ks : List KeyPair) → unequals ≡ k ∷ ks → Refines (on_keys IEJoin (option_map inequalities (operators_of unequals)) unequals (untaken 2 (inequality_keys crossed) es) stored told inputs) (under run given)
    by_inequalities k ks is =
        let x = told_pairs k ks is in
        let many : length (operators x.0) ≡ length unequals = as_many (operators x.0) unequals x.2 in
        subst (λ (p : Option KindOptions). Refines (on_keys IEJoin p unequals (untaken 2 (inequality_keys crossed) es) stored told inputs) (under run given)) (sym (ap (option_map inequalities) x.1))
        (keyed_refines IEJoin (Some (inequalities x.0)) (inequality_keys crossed) 2 meets_at (unequal_all told.args) gives_unequal refl
        (ap₂ (λ (a b : ℕ). are_paired IEJoin a b && (length (operators x.0) == a)) (as_lefts unequals) (as_rights unequals)
        ∙ both_hold (are_paired IEJoin (length unequals) (length unequals)) (length (operators x.0) == length unequals)
        (ap (λ (ks : List KeyPair). are_paired IEJoin (length ks) (length ks)) is ∙ counts_paired (length ks))
        (ap (λ (a : ℕ). a == length unequals) many ∙ same_number (length unequals)))
        (each_key (λ k g. (g.good, ap (is_key_type IEJoin) (g.good.right_typed ∙ ap (λ (d : DataType). Some d) g.whole))) unequals meets_are)
        (λ f g hf hg i j li lj. each_taken (λ e p k q. inequality_holds told.args all s t (differ_distinct (names_of (schema given)) good.differ) (differ_distinct (names_of s) good.left_differ) (differ_distinct (names_of t) good.right_differ) f g hf hg i j li lj e k p q) es minterms_are)
        (λ f g i j. meet_keys f g i j (operators x.0) unequals x.2))

    -- by a condition
    conditioned : (x : Expr) → and_all (es ++ own_exprs) ≡ Some x → IsPredicate (schema given) x → Refines (by_condition (Some x) stored told inputs) (under run given)
    conditioned x is p =
        let free : JoinArgs = record told.args { coalesce = KeepColumns } in
        step_refines stored told (told_now free (Some (condition (self_named x))) told) [] [] run [] n op ts m o us
        v all (cross_all free cross) refl refl gives_given gives_given
        (conditioned_good stored told s t good all cross x p)
        tt w tt
        (λ f g hf hg i j li lj. conditioned_tests told f g i j fits run w free all (cross_all free cross) refl x is (by_rows (schema given) (es ++ own_exprs) (all_append (IsPredicate (schema given)) es own_exprs minterms_are own_are)))

    free_refines : (order : MaintainOrderJoin) (x : Expr) (xs : List Expr) → es ≡ x ∷ xs → Refines (free_join order run stored told inputs) (under run given)
    free_refines orders.None x xs is =
        let whole : es ++ own_exprs ≡ x ∷ (xs ++ own_exprs) = ap (λ (ys : List Expr). ys ++ own_exprs) is in
        let are = subst (AllByRecursion (IsPredicate (schema given))) whole (all_append (IsPredicate (schema given)) es own_exprs minterms_are own_are) in
        subst (λ (p : Option Expr). Refines (by_condition p stored told inputs) (under run given)) (sym (ap and_all whole))
        (conditioned (fold and_expr x (xs ++ own_exprs)) (ap and_all whole) (and_all_good (schema given) x (xs ++ own_exprs) are.0 are.1))
    free_refines orders.Left x xs is = refines_refl (under run given) v
    free_refines orders.Right x xs is = refines_refl (under run given) v
    free_refines orders.LeftRight x xs is = refines_refl (under run given) v
    free_refines orders.RightLeft x xs is = refines_refl (under run given) v

    by_keys : (x : Expr) (xs : List Expr) → es ≡ x ∷ xs → (equal unequal : List KeyPair) → equals ≡ equal → unequals ≡ unequal
        → Refines (collapsed_by equal unequal (untaken (length es) (equality_keys crossed) es) (untaken 2 (inequality_keys crossed) es) run stored told inputs) (under run given)
    by_keys x xs is (k ∷ ks) us p q = subst (λ (ys : List KeyPair). Refines (on_keys Inner None ys (untaken (length es) (equality_keys crossed) es) stored told inputs) (under run given)) p (by_equalities k ks p)
    by_keys x xs is [] (k ∷ ks) p q = subst (λ (ys : List KeyPair). Refines (on_keys IEJoin (option_map inequalities (operators_of ys)) ys (untaken 2 (inequality_keys crossed) es) stored told inputs) (under run given)) q (by_inequalities k ks q)
    by_keys x xs is [] [] p q = free_refines told.args.maintain_order x xs is

-- a cross join under its run, collapsed, refines it
pub cross_refines : (run : List Named) (stored : Columns) (told : Told) (n : Unit {0}) (op : Op) (ts : Roses (Unit {0}) Op) (m : Unit {0}) (o : Op) (us : Roses (Unit {0}) Op) → told.args.how ≡ Cross
    → IsValid (under run (rose tt (join [] [] stored told) (more (rose n op ts) (more (rose m o us) no_roses)))) → AllByRecursion (λ (e : Named). is_elementwise e.expr ≡ true) run
    → Refines (collapsed_cross run stored told (schemas (more (rose n op ts) (more (rose m o us) no_roses))) (more (rose n op ts) (more (rose m o us) no_roses))) (under run (rose tt (join [] [] stored told) (more (rose n op ts) (more (rose m o us) no_roses))))
cross_refines [] stored told n op ts m o us cross v w = refines_refl (rose tt (join [] [] stored told) (more (rose n op ts) (more (rose m o us) no_roses))) v
cross_refines (e ∷ run) stored told n op ts m o us cross v w =
    let x = some_minterm e.expr in
    by_keys stored told (e ∷ run) n op ts m o us cross v w x.0 (x.1 ++ all_minterms run) (ap (λ (ys : List Expr). ys ++ all_minterms run) x.2)
    (taken (length (all_minterms (e ∷ run))) (equality_keys (record { args = told.args; left = schema_by op (schemas ts); right = schema_by o (schemas us) })) (all_minterms (e ∷ run)))
    (taken 2 (inequality_keys (record { args = told.args; left = schema_by op (schemas ts); right = schema_by o (schemas us) })) (all_minterms (e ∷ run))) refl refl
