-- The rows that a cross join keeps with its condition under its run are those that the collapsed join keeps with what is left.
use Rattle.std.proofs.Common.{◌≡◌, ◌∙◌, ◌++◌, ℕ, Bool, true, false, ◌&&◌, List, [], ◌∷◌, Option, Some, None, refl, sym, ap, ap₂}
use Rattle.std.specs.List.{AllByRecursion, list_all}
use Rattle.std.proofs.lemmas.List.Folds.{list_all-append}
use Rattle.std.proofs.Math.Bool.{and_comm, and-true}
use Rattle.plan_options.specs.declared.join.JoinArgs.{JoinArgs}
use Rattle.plan_options.specs.declared.join.JoinType.TheVariants.{Cross}
use Rattle.plan_options.specs.Join.{suffix_of}
use Rattle.plan_expr.specs.Exprs.{Expr, Named}
use Rattle.plan_join.specs.Told.{KindOptions, inequalities, condition, Told}
use Rattle.plan_frame.specs.Values.{is_true}
use Rattle.plan_frame.specs.Frames.{Frame}
use Rattle.plan_frame.specs.Meaning.{val, value_at}
use Rattle.plan_join.specs.Pairs.{Test, both}
use Rattle.plan_join.specs.Joined.{joined}
use Rattle.plan_join.specs.Matching.{join_test, matches_by}
use Rattle.plan_meaning.specs.JoinChecks.{conditions, fits_kind, is_elementwise}
use Rattle.plan_collapse_laws.specs.FilteredPairs.{more_by}
use Rattle.plan_collapse_laws.proofs.FilteredJoins.{even-joined}
use Rattle.plan_collapse_laws.specs.FilteredFrames.{holds, PutsOutAll, all_hold}
use Rattle.plan_collapse_laws.specs.CrossKeys.{KeyPair, all_minterms}
use Rattle.plan_collapse_laws.specs.TakenKeys.{and_all, self_named, taken, untaken, told_now, exprs_of, some_expr}
use Rattle.plan_collapse_laws.proofs.JoinFrames.{same-joined}
use Rattle.plan_collapse_laws.proofs.Splits.{and_holds, run_holds, split_holds}

rest_last : (c t u : Bool) → (c && (t && u)) ≡ (t && (u && c))
rest_last true t u = ap (λ (b : Bool). t && b) (sym (and-true u))
rest_last false true true = refl
rest_last false true false = refl
rest_last false false u = refl

module _ (told : Told) (f g : Frame) (i j : ℕ) where
  abbrev test : Expr → Bool
  test e = holds told.args [] [] f g e (both i j)

  -- a cross join takes all pairs, but for its condition
  own_holds : fits_kind Cross 0 told.options ≡ true → join_test told [] [] f g i j ≡ list_all test (exprs_of (conditions told.options))
  own_holds h = at told.options h
    where
      at : (o : Option KindOptions) → fits_kind Cross 0 o ≡ true → matches_by told [] [] f g o i j ≡ list_all test (exprs_of (conditions o))
      at None k = refl
      at (Some (inequalities x)) k = cc
      at (Some (condition e)) k = sym (and-true (test e.expr))

  module _ (fits : fits_kind Cross 0 told.options ≡ true) (run : List Named) (w : AllByRecursion (λ (e : Named). is_elementwise e.expr ≡ true) run) where
    abbrev own_exprs : List Expr
    own_exprs = exprs_of (conditions told.options)

    -- the run and the condition hold where all minterms and the condition do
    given_holds : more_by (join_test told [] [] f g) (all_hold told.args [] [] f g (exprs_of run)) i j ≡ (list_all test own_exprs && list_all test (all_minterms run))
    given_holds = ap₂ (λ (a b : Bool). a && b) (own_holds fits) (run_holds (joined told.args [] [] (both i j ∷ []) f g) (even-joined told.args [] [] f g (both i j ∷ [])) 0 run w)

    left_holds : (es : List Expr) → AllByRecursion (λ (e : Expr). is_elementwise e ≡ true) (es ++ own_exprs) → list_all test (some_expr (and_all (es ++ own_exprs))) ≡ (list_all test es && list_all test own_exprs)
    left_holds es h =
        and_holds (joined told.args [] [] (both i j ∷ []) f g) (even-joined told.args [] [] f g (both i j ∷ [])) 0 (es ++ own_exprs) h
        ∙ list_all-append test es own_exprs

    -- a join on keys under what is left
    pub keyed_tests : (keys : Expr → Option KeyPair) (own : KeyPair → Bool) (n : ℕ) (now : Test)
        → AllByRecursion (λ (e : Expr). (k : KeyPair) → keys e ≡ Some k → test e ≡ own k) (all_minterms run)
        → AllByRecursion (λ (e : Expr). is_elementwise e ≡ true) (untaken n keys (all_minterms run) ++ own_exprs)
        → now i j ≡ list_all own (taken n keys (all_minterms run))
        → more_by (join_test told [] [] f g) (all_hold told.args [] [] f g (exprs_of run)) i j ≡ more_by now (all_hold told.args [] [] f g (some_expr (and_all (untaken n keys (all_minterms run) ++ own_exprs)))) i j
    keyed_tests keys own n now by elementwise is =
        let es = all_minterms run in
        given_holds
        ∙ ap (λ (b : Bool). list_all test own_exprs && b) (split_holds keys test own n es by)
        ∙ rest_last (list_all test own_exprs) (list_all own (taken n keys es)) (list_all test (untaken n keys es))
        ∙ sym (ap₂ (λ (a b : Bool). a && b) is (left_holds (untaken n keys es) elementwise))

    -- a cross join by a condition
    pub conditioned_tests : (now : JoinArgs) → PutsOutAll told.args → PutsOutAll now → suffix_of now ≡ suffix_of told.args → (x : Expr) → and_all (all_minterms run ++ own_exprs) ≡ Some x
        → AllByRecursion (λ (e : Expr). is_elementwise e ≡ true) (all_minterms run ++ own_exprs)
        → more_by (join_test told [] [] f g) (all_hold told.args [] [] f g (exprs_of run)) i j ≡ more_by (join_test (told_now now (Some (condition (self_named x))) told) [] [] f g) (all_hold told.args [] [] f g []) i j
    conditioned_tests now all kept suffix x is elementwise =
        given_holds
        ∙ and_comm (list_all test own_exprs) (list_all test (all_minterms run))
        ∙ sym (left_holds (all_minterms run) elementwise)
        ∙ ap (λ (o : Option Expr). list_all test (some_expr o)) is
        ∙ ap (λ (h : Frame). is_true (value_at (val x h) 0) && true) (same-joined told.args now all kept (sym suffix) [] [] [] [] (both i j ∷ []) f g)
