-- The inequalities that are told of keys, one pair after another.
use Rattle.std.proofs.Common.{◌≡◌, ◌∙◌, ◌++◌, List, [], ◌∷◌, Option, Some, None, unwrap_or, refl, sym, ap, append-nil}
use Rattle.std.specs.List.{cons_option, filter_map}
use Rattle.std.proofs.lemmas.List.Elements.{filter_map-append}
use Rattle.plan_options.specs.declared.join.IEJoinOptions.{IEJoinOptions}
use Rattle.plan_options.specs.declared.join.InequalityOperator.{InequalityOperator}
use Rattle.plan_expr.specs.declared.operator.Operator.{Operator}
use Rattle.plan_collapse_laws.specs.CrossKeys.{inequality_of, KeyPair}
use Rattle.plan_collapse_laws.specs.TakenKeys.{operators_of}

-- the first, if there is one
abbrev first_of : List InequalityOperator → Option InequalityOperator
first_of [] = None
first_of (o ∷ os) = Some o

-- inequalities as a join is told them
abbrev options : List InequalityOperator → Option IEJoinOptions
options [] = None
options (o ∷ os) = Some (record { operator1 = o; operator2 = first_of os })

abbrev all_of : List KeyPair → List InequalityOperator
all_of ks = filter_map (λ (k : KeyPair). inequality_of k.op) ks

are : (ks : List KeyPair) → operators_of ks ≡ options (all_of ks)
are ks = of (all_of ks)
  where
    of : (os : List InequalityOperator) → elim os as (λ _. Option IEJoinOptions) [ [] ↦ None | o ∷ rest ↦ Some (record { operator1 = o; operator2 = elim rest as (λ _. Option InequalityOperator) [ [] ↦ None | b ∷ bs ↦ Some b ] }) ] ≡ options os
    of [] = refl
    of (o ∷ []) = refl
    of (o ∷ b ∷ rest) = refl

one-more : (ks : List KeyPair) (k : KeyPair) → all_of (ks ++ k ∷ []) ≡ all_of ks ++ cons_option (inequality_of k.op) []
one-more ks k = filter_map-append (λ (x : KeyPair). inequality_of x.op) ks (k ∷ [])

module _ (ks : List KeyPair) (k : KeyPair) (op : Operator) (told : Option IEJoinOptions) (is : k.op ≡ op) (h : told ≡ operators_of ks) where
  with-it : operators_of (ks ++ k ∷ []) ≡ options (all_of ks ++ cons_option (inequality_of op) [])
  with-it = are (ks ++ k ∷ []) ∙ ap options (one-more ks k ∙ ap (λ (x : Operator). all_of ks ++ cons_option (inequality_of x) []) is)

  -- no inequality more
  pub told-same : inequality_of op ≡ None → told ≡ operators_of (ks ++ k ∷ [])
  told-same none =
      let same : all_of ks ++ cons_option (inequality_of op) [] ≡ all_of ks = ap (λ (o : Option InequalityOperator). all_of ks ++ cons_option o []) none ∙ append-nil (all_of ks) in
      h ∙ are ks ∙ ap options (sym same) ∙ sym with-it

  module _ (o : InequalityOperator) (some : inequality_of op ≡ Some o) where
    now : operators_of (ks ++ k ∷ []) ≡ options (all_of ks ++ o ∷ [])
    now = with-it ∙ ap (λ (x : Option InequalityOperator). options (all_of ks ++ cons_option x [])) some

    -- the first
    pub told-first : told ≡ None → Some (record { operator1 = o; operator2 = None }) ≡ operators_of (ks ++ k ∷ [])
    told-first none = of (all_of ks) (sym (are ks) ∙ sym h ∙ none) ∙ sym now
      where
        of : (os : List InequalityOperator) → options os ≡ None → Some (record { operator1 = o; operator2 = None }) ≡ options (os ++ o ∷ [])
        of [] e = refl
        of (a ∷ os) e = cc

    -- the second, or one more
    pub told-next : (t : IEJoinOptions) → told ≡ Some t → Some (record { operator1 = t.operator1; operator2 = Some (unwrap_or t.operator2 o) }) ≡ operators_of (ks ++ k ∷ [])
    told-next t there = of (all_of ks) (sym (are ks) ∙ sym h ∙ there) ∙ sym now
      where
        of : (os : List InequalityOperator) → options os ≡ Some t → Some (record { operator1 = t.operator1; operator2 = Some (unwrap_or t.operator2 o) }) ≡ options (os ++ o ∷ [])
        of [] e = cc
        of (a ∷ []) e = (let same : record { operator1 = a; operator2 = None } ≡ t = cc in ap (λ (x : IEJoinOptions). Some (record { operator1 = x.operator1; operator2 = Some (unwrap_or x.operator2 o) })) (sym same))
        of (a ∷ b ∷ os) e = (let same : record { operator1 = a; operator2 = Some b } ≡ t = cc in ap (λ (x : IEJoinOptions). Some (record { operator1 = x.operator1; operator2 = Some (unwrap_or x.operator2 o) })) (sym same))
