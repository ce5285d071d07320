-- What a predicate must be, and that minterms of predicates and And of them are predicates, which may be named as they name themselves.
use Rattle.std.proofs.Common.{◌≡◌, ◌∙◌, ◌++◌, Bool, true, false, ◌&&◌, cond, List, [], ◌∷◌, fold, Option, Some, None, is_some, unwrap_or, refl, sym, ap, ap₂, subst}
use Rattle.std.specs.Prelude.{option_and_then}
use Rattle.std.specs.List.{AllByRecursion}
use Rattle.std.proofs.lemmas.Bool.{and_parts as parts_of}
use Rattle.plan_core.specs.declared.data_type.DataType.{DataType}
use Rattle.plan_core.specs.declared.data_type.DataType.TheVariants as types
use Rattle.plan_core.specs.Columns.{Columns}
use Rattle.plan_tree.specs.Rose.{rose, no_roses, more}
use Rattle.plan_expr.specs.declared.expr_ir.OutputName.TheVariants as output
use Rattle.plan_expr.specs.declared.operator.Operator.TheVariants.{And}
use Rattle.plan_expr.specs.Exprs.{ExprOp, column as column_of, literal, alias, binary, ternary, aggregate, call, window, len, Expr, Named}
use Rattle.plan_expr.specs.Forms.{has_form}
use Rattle.plan_expr.specs.Leaves.{Name, leaves}
use Rattle.plan_expr.specs.Naming.{Naming, by_column, by_literal, by_alias, unnamed, first_named, may_be_named, named_part, naming, namings, or_naming, own_naming, own_output_name}
use Rattle.plan_expr.specs.Types.{all_of, both_are, same_type}
use Rattle.plan_frame.specs.Exprs.{all_known, expr_type, expr_types, is_type, op_type}
use Rattle.plan_frame.proofs.FrameLemmas.{is_type_some, some_type_is}
use Rattle.plan_frame.proofs.NameSets.{same_named}
use Rattle.plan_meaning.specs.JoinChecks.{is_elementwise}
use Rattle.plan_meaning.specs.Typing.{AllHold, filter_checks}
use Rattle.plan_meaning.proofs.KeptExprs.{all_append}
use Rattle.plan_meaning.specs.Minterms.{is_and, minterms}
use Rattle.plan_collapse_laws.specs.CrossKeys.{all_minterms}
use Rattle.plan_collapse_laws.specs.TakenKeys.{and_expr, self_named}
use Rattle.plan_collapse_laws.specs.Predicates.{IsPredicate}

pub both_hold : (a b : Bool) → a ≡ true → b ≡ true → (a && b) ≡ true
both_hold true b p q = q
both_hold false b p q = cc

pub known_both : (xs ys : List Name) (s : Columns) → all_known (xs ++ ys) s ≡ (all_known xs s && all_known ys s)
known_both [] ys s = refl
known_both (x ∷ xs) ys s = at (is_some _) (known_both xs ys s)
  where
    at : (b : Bool) → all_known (xs ++ ys) s ≡ (all_known xs s && all_known ys s) → (b && all_known (xs ++ ys) s) ≡ ((b && all_known xs s) && all_known ys s)
    at true r = r
    at false r = refl

-- minterms

is_and_op : (op : ExprOp) → is_and op ≡ true → op ≡ binary And
is_and_op (binary And) e = refl
is_and_op op e = cc

-- operands that And takes are Boolean
and_types : (t u : Option DataType) → is_type (option_and_then (op_type (binary And) []) (all_of (t ∷ u ∷ []))) types.Boolean ≡ true → (is_type t types.Boolean ≡ true) × (is_type u types.Boolean ≡ true)
and_types None u h = cc
and_types (Some t) None h = cc
and_types (Some t) (Some u) h = at (both_are types.Boolean t u) refl h
  where
    turned : (v : DataType) → same_type types.Boolean v ≡ true → same_type v types.Boolean ≡ true
    turned v e = subst (λ (o : Option DataType). is_type o types.Boolean ≡ true) (is_type_some (Some types.Boolean) v e) (some_type_is types.Boolean)

    at : (b : Bool) → both_are types.Boolean t u ≡ b → is_type (cond b (Some types.Boolean) None) types.Boolean ≡ true → (same_type t types.Boolean ≡ true) × (same_type u types.Boolean ≡ true)
    at true e k = let p = parts_of (same_type types.Boolean t) (same_type types.Boolean u) e in (turned t p.0, turned u p.1)
    at false e k = cc

module _ (s : Columns) where
  of_and : (l r : Expr) → IsPredicate s (and_expr l r) → IsPredicate s l × IsPredicate s r
  of_and l r p =
      let f = parts_of (has_form l) (has_form r && true) p.formed in
      let g = parts_of (has_form r) true f.1 in
      let known : (all_known (leaves l) s && (all_known (leaves r) s && true)) ≡ true = sym (known_both (leaves l) (leaves r ++ []) s ∙ ap (λ (b : Bool). all_known (leaves l) s && b) (known_both (leaves r) [] s)) ∙ p.known in
      let k = parts_of (all_known (leaves l) s) (all_known (leaves r) s && true) known in
      let m = parts_of (all_known (leaves r) s) true k.1 in
      let t = and_types (expr_type l s) (expr_type r s) p.truth in
      let w = parts_of (is_elementwise l) (is_elementwise r && true) p.by_row in
      let v = parts_of (is_elementwise r) true w.1 in
      (record { formed = f.0; known = k.0; truth = t.0; by_row = w.0 }, record { formed = g.0; known = m.0; truth = t.1; by_row = v.0 })

  -- the minterms of a predicate are predicates
  pub minterms_good : (e : Expr) → IsPredicate s e → AllByRecursion (IsPredicate s) (minterms e)
  minterms_good (rose n op no_roses) p = (p, tt)
  minterms_good (rose n op (more l no_roses)) p = (p, tt)
  minterms_good (rose n op (more l (more r (more e es)))) p = (p, tt)
  minterms_good (rose n op (more l (more r no_roses))) p = at (is_and op) refl (λ k. minterms_good l k) (λ k. minterms_good r k)
    where
      at : (b : Bool) → is_and op ≡ b → (IsPredicate s l → AllByRecursion (IsPredicate s) (minterms l)) → (IsPredicate s r → AllByRecursion (IsPredicate s) (minterms r)) → AllByRecursion (IsPredicate s) (cond b (minterms l ++ minterms r) (rose n op (more l (more r no_roses)) ∷ []))
      at true e left right =
          let both = of_and l r (subst (λ (o : ExprOp). IsPredicate s (rose n o (more l (more r no_roses)))) (is_and_op op e) p) in
          all_append (IsPredicate s) (minterms l) (minterms r) (left both.0) (right both.1)
      at false e left right = (p, tt)

  pub all_minterms_good : (run : List Named) → AllByRecursion (λ (e : Named). IsPredicate s e.expr) run → AllByRecursion (IsPredicate s) (all_minterms run)
  all_minterms_good [] p = tt
  all_minterms_good (e ∷ run) p = all_append (IsPredicate s) (minterms e.expr) (all_minterms run) (minterms_good e.expr p.0) (all_minterms_good run p.1)

  -- And of two predicates is one
  and_truth : (t u : Option DataType) → is_type t types.Boolean ≡ true → is_type u types.Boolean ≡ true → is_type (option_and_then (op_type (binary And) s) (all_of (t ∷ u ∷ []))) types.Boolean ≡ true
  and_truth t u h k = sym (ap₂ (λ (x y : Option DataType). is_type (option_and_then (op_type (binary And) s) (all_of (x ∷ y ∷ []))) types.Boolean) (sym (is_type_some t types.Boolean h)) (sym (is_type_some u types.Boolean k)))

  and_good : (l r : Expr) → IsPredicate s l → IsPredicate s r → IsPredicate s (and_expr l r)
  and_good l r p q = record {
    formed = both_hold (has_form l) (has_form r && true) p.formed (both_hold (has_form r) true q.formed refl);
    known = known_both (leaves l) (leaves r ++ []) s ∙ both_hold (all_known (leaves l) s) (all_known (leaves r ++ []) s) p.known (known_both (leaves r) [] s ∙ both_hold (all_known (leaves r) s) true q.known refl);
    truth = and_truth (expr_type l s) (expr_type r s) p.truth q.truth;
    by_row = both_hold (is_elementwise l) (is_elementwise r && true) p.by_row (both_hold (is_elementwise r) true q.by_row refl);
  }

  pub and_all_good : (e : Expr) (es : List Expr) → IsPredicate s e → AllByRecursion (IsPredicate s) es → IsPredicate s (fold and_expr e es)
  and_all_good e [] p ps = p
  and_all_good e (d ∷ es) p ps = and_all_good (and_expr e d) es (and_good e d p ps.0) ps.1

-- what has a type names itself

abbrev gives_name : Naming → Type 0
gives_name m = may_be_named (unwrap_or (own_output_name m) output.None) m ≡ true

own_name_good : (m : Naming) → (m ≡ unnamed → ⊥) → gives_name m
own_name_good (by_column a) h = same_named a
own_name_good (by_literal a) h = same_named a
own_name_good (by_alias a) h = same_named a
own_name_good unnamed h = absurd (h refl)

front_named : (m n : Naming) → (m ≡ unnamed → ⊥) → or_naming m n ≡ unnamed → ⊥
front_named (by_column a) n h = λ e. cc
front_named (by_literal a) n h = λ e. cc
front_named (by_alias a) n h = λ e. cc
front_named unnamed n h = absurd (h refl)

pub typed_named : (s : Columns) (e : Expr) → is_some (expr_type e s) ≡ true → naming e ≡ unnamed → ⊥
typed_named s (rose n (column_of a) es) h = λ e. cc
typed_named s (rose n (literal v) es) h = λ e. cc
typed_named s (rose n (alias a) es) h = λ e. cc
typed_named s (rose n len es) h = λ e. cc
typed_named s (rose n op no_roses) h = none op h
  where
    none : (op : ExprOp) → is_some (op_type op s []) ≡ true → or_naming (own_naming op) (first_named (named_part op [])) ≡ unnamed → ⊥
    none (column_of a) h = λ e. cc
    none (literal v) h = λ e. cc
    none len h = λ e. cc
    none op h = cc
typed_named s (rose n op (more d es)) h = some op (first (expr_type d s) h (λ k. typed_named s d k))
  where
    first : (t : Option DataType) → is_some (option_and_then (op_type op s) (all_of (t ∷ expr_types es s))) ≡ true → (is_some t ≡ true → naming d ≡ unnamed → ⊥) → naming d ≡ unnamed → ⊥
    first None k by = cc
    first (Some t) k by = by refl

    some : (o : ExprOp) → (naming d ≡ unnamed → ⊥) → or_naming (own_naming o) (first_named (named_part o (naming d ∷ namings es))) ≡ unnamed → ⊥
    some (column_of a) k = λ e. cc
    some (literal v) k = λ e. cc
    some (alias a) k = λ e. cc
    some len k = λ e. cc
    some (binary o) k = front_named (naming d) (first_named (namings es)) k
    some ternary k = front_named (naming d) (first_named (namings es)) k
    some (aggregate o) k = front_named (naming d) (first_named (namings es)) k
    some (call c o) k = front_named (naming d) (first_named (namings es)) k
    some window k = front_named (naming d) (first_named []) k

pub named_well : (s : Columns) (e : Expr) → is_some (expr_type e s) ≡ true → may_be_named (self_named e).name (naming e) ≡ true
named_well s e h = own_name_good (naming e) (typed_named s e h)

pub some_typed : (o : Option DataType) (t : DataType) → is_type o t ≡ true → is_some o ≡ true
some_typed None t h = cc
some_typed (Some u) t h = refl

-- a predicate under its own name passes the checks of a filter
pub filter_good : (s : Columns) (e : Expr) → IsPredicate s e → AllHold (filter_checks (self_named e) s)
filter_good s e p = (p.formed, (p.known, (p.truth, (named_well s e (some_typed (expr_type e s) types.Boolean p.truth), tt))))
