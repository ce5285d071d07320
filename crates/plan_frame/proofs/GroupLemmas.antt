-- Groupings: aggregates with one value for a group, their names, leaves and types.
use Rattle.std.proofs.Common.{◌≡◌, Bool, true, false, cond, List, [], ◌∷◌, ◌++◌, map, Option, Some, None, is_some, unwrap_or, refl, sym, ap, ap₂, ◌∙◌, subst, append-nil, append_assoc, inl, inr, ◌⊎◌, ⊎_elim}
use Rattle.std.specs.Prelude.{option_and_then}
use Rattle.std.specs.List.{AllByRecursion}
use Rattle.std.proofs.lemmas.List.{map-append}
use Rattle.plan_core.specs.declared.data_type.DataType.{DataType}
use Rattle.plan_core.specs.declared.data_type.DataType.TheVariants as types
use Rattle.plan_core.specs.Columns.{Columns, with_types}
use Rattle.plan_core.specs.Names.{has}
use Rattle.plan_tree.specs.Rose.{rose, no_roses, more}
use Rattle.plan_expr.specs.declared.agg.Aggregate.TheVariants.{Implode}
use Rattle.plan_expr.specs.Exprs.{aggregate, window, Expr, Named}
use Rattle.plan_expr.specs.Leaves.{Name, leaves, leaves_all}
use Rattle.plan_expr.specs.Naming.{name_of}
use Rattle.plan_expr.specs.Scalars.{is_scalar}
use Rattle.plan_expr.specs.Types.{all_of}
use Rattle.plan_frame.specs.Exprs.{all_known, expr_type, expr_types, op_type}
use Rattle.plan_frame.specs.Grouping.{gathered, gathered_expr, group_exprs, nameless, over_keys, row_exprs}
use Rattle.plan_frame.specs.Made.{made_column, made_schema}
use Rattle.plan_frame.specs.ExprLists.{out_names, all_leaves}
use Rattle.plan_frame.proofs.NameSets.{has_front, has_back, has_either}

-- what holds of each of two lists' items holds of each list's
pub all_front : {X : Type 0} (P : X → Type 0) (xs ys : List X) → AllByRecursion P (xs ++ ys) → AllByRecursion P xs
all_front P [] ys h = tt
all_front P (x ∷ xs) ys h = (h.0, all_front P xs ys h.1)

pub all_back : {X : Type 0} (P : X → Type 0) (xs ys : List X) → AllByRecursion P (xs ++ ys) → AllByRecursion P ys
all_back P [] ys h = h
all_back P (x ∷ xs) ys h = all_back P xs ys h.1

-- leaves

pub gathered-leaves : (e : Expr) → leaves (gathered_expr e) ≡ leaves e
gathered-leaves e = at (is_scalar e)
  where
    at : (b : Bool) → leaves (cond b e (rose tt (aggregate Implode) (more e no_roses))) ≡ leaves e
    at true = refl
    at false = append-nil (leaves e)

-- what is known of the leaves of gathered aggregates is known of the aggregates
pub gathered_known : (aggs : List Named) (s : Columns) → AllByRecursion (λ (e : Named). all_known (leaves e.expr) s ≡ true) (map gathered aggs) → AllByRecursion (λ (e : Named). all_known (leaves e.expr) s ≡ true) aggs
gathered_known [] s h = tt
gathered_known (e ∷ aggs) s h = (ap (λ (l : List Name). all_known l s) (sym (gathered-leaves e.expr)) ∙ h.0, gathered_known aggs s h.1)

-- the leaves of two lists of expressions, one after the other
pub leaves-join : (xs ys : List Named) → all_leaves (xs ++ ys) ≡ all_leaves xs ++ all_leaves ys
leaves-join [] ys = refl
leaves-join (e ∷ xs) ys = ap (λ (l : List Name). leaves e.expr ++ l) (leaves-join xs ys) ∙ sym (append_assoc (leaves e.expr) (all_leaves xs) (all_leaves ys))

all-gathered : (aggs : List Named) → all_leaves (map gathered aggs) ≡ all_leaves aggs
all-gathered [] = refl
all-gathered (e ∷ aggs) = ap₂ (λ (l m : List Name). l ++ m) (gathered-leaves e.expr) (all-gathered aggs)

-- what a grouping's expressions read, its keys and its aggregates read
pub group_reads : (keys aggs : List Named) (b : Name) → has (all_leaves (group_exprs keys aggs)) b ≡ true → has (all_leaves (aggs ++ keys)) b ≡ true
group_reads keys aggs b i =
    subst (λ (l : List Name). has l b ≡ true) (sym (leaves-join aggs keys))
    (⊎_elim
    (λ (j : has (all_leaves keys) b ≡ true). has_back (all_leaves aggs) (all_leaves keys) b j)
    (λ (j : has (all_leaves (map gathered aggs)) b ≡ true). has_front (all_leaves aggs) (all_leaves keys) b (subst (λ (l : List Name). has l b ≡ true) (all-gathered aggs) j))
    (has_either (all_leaves keys) (all_leaves (map gathered aggs)) b (subst (λ (l : List Name). has l b ≡ true) (leaves-join keys (map gathered aggs)) i)))

nameless-leaves : (keys : List Named) → leaves_all (nameless keys) ≡ all_leaves keys
nameless-leaves [] = refl
nameless-leaves (e ∷ keys) = ap (λ (l : List Name). leaves e.expr ++ l) (nameless-leaves keys)

over_reads : (keys aggs : List Named) (b : Name) → has (all_leaves (map (over_keys keys) aggs)) b ≡ true → (has (all_leaves aggs) b ≡ true) ⊎ (has (all_leaves keys) b ≡ true)
over_reads keys [] b i = cc
over_reads keys (e ∷ aggs) b i = ⊎_elim
    (λ (j : has (leaves (gathered_expr e.expr) ++ leaves_all (nameless keys)) b ≡ true). ⊎_elim
    (λ (k : has (leaves (gathered_expr e.expr)) b ≡ true). inl (has_front (leaves e.expr) (all_leaves aggs) b (subst (λ (l : List Name). has l b ≡ true) (gathered-leaves e.expr) k)))
    (λ (k : has (leaves_all (nameless keys)) b ≡ true). inr (subst (λ (l : List Name). has l b ≡ true) (nameless-leaves keys) k))
    (has_either (leaves (gathered_expr e.expr)) (leaves_all (nameless keys)) b j))
    (λ (j : has (all_leaves (map (over_keys keys) aggs)) b ≡ true). ⊎_elim
    (λ (k : has (all_leaves aggs) b ≡ true). inl (has_back (leaves e.expr) (all_leaves aggs) b k))
    (λ (k : has (all_leaves keys) b ≡ true). inr k)
    (over_reads keys aggs b j))
    (has_either (leaves (gathered_expr e.expr) ++ leaves_all (nameless keys)) (all_leaves (map (over_keys keys) aggs)) b i)

-- and no more is read in each row
pub row_reads : (keys aggs : List Named) (b : Name) → has (all_leaves (row_exprs keys aggs)) b ≡ true → has (all_leaves (aggs ++ keys)) b ≡ true
row_reads keys aggs b i =
    subst (λ (l : List Name). has l b ≡ true) (sym (leaves-join aggs keys))
    (⊎_elim
    (λ (j : has (all_leaves keys) b ≡ true). has_back (all_leaves aggs) (all_leaves keys) b j)
    (λ (j : has (all_leaves (map (over_keys keys) aggs)) b ≡ true). ⊎_elim
    (λ (k : has (all_leaves aggs) b ≡ true). has_front (all_leaves aggs) (all_leaves keys) b k)
    (λ (k : has (all_leaves keys) b ≡ true). has_back (all_leaves aggs) (all_leaves keys) b k)
    (over_reads keys aggs b j))
    (has_either (all_leaves keys) (all_leaves (map (over_keys keys) aggs)) b (subst (λ (l : List Name). has l b ≡ true) (leaves-join keys (map (over_keys keys) aggs)) i)))

-- names

pub gathered-names : (aggs : List Named) → out_names (map gathered aggs) ≡ out_names aggs
gathered-names [] = refl
gathered-names (e ∷ aggs) = ap (λ (l : List Name). name_of e.name ∷ l) (gathered-names aggs)

-- types

-- keys that have types have them together
keys_typed : (keys : List Named) (s : Columns) → AllByRecursion (λ (e : Named). is_some (expr_type e.expr s) ≡ true) keys → (ts : List DataType) × (all_of (expr_types (nameless keys) s) ≡ Some ts)
keys_typed [] s h = ([], refl)
keys_typed (e ∷ keys) s h = at (expr_type e.expr s) h.0 (keys_typed keys s h.1)
  where
    at : (o : Option DataType) → is_some o ≡ true → (ts : List DataType) × (all_of (expr_types (nameless keys) s) ≡ Some ts) → (ts : List DataType) × (all_of (o ∷ expr_types (nameless keys) s) ≡ Some ts)
    at None e r = cc
    at (Some t) e r = (t ∷ r.0, ap (λ (o : Option (List DataType)). option_and_then (λ (xs : List DataType). Some (t ∷ xs)) o) r.1)

-- an aggregate over the rows of the keys has the type that it has for a group
pub over-type : (keys : List Named) (e : Named) (s : Columns) → AllByRecursion (λ (k : Named). is_some (expr_type k.expr s) ≡ true) keys → expr_type (over_keys keys e).expr s ≡ expr_type (gathered e).expr s
over-type keys e s h = at (expr_type (gathered_expr e.expr) s) (all_of (expr_types (nameless keys) s)) (keys_typed keys s h).0 (keys_typed keys s h).1
  where
    at : (o : Option DataType) (all : Option (List DataType)) (ts : List DataType) → all ≡ Some ts → option_and_then (op_type window s) (option_and_then (λ (x : DataType). option_and_then (λ (xs : List DataType). Some (x ∷ xs)) all) o) ≡ o
    at None all ts q = refl
    at (Some t) None ts q = cc
    at (Some t) (Some us) ts q = refl

module _ (keys : List Named) (s : Columns) (typed : AllByRecursion (λ (e : Named). is_some (expr_type e.expr s) ≡ true) keys) where
  over_columns : (aggs : List Named) → map (made_column s) (map (over_keys keys) aggs) ≡ map (made_column s) (map gathered aggs)
  over_columns [] = refl
  over_columns (e ∷ aggs) = ap₂ (λ (c : Name × DataType) (cs : Columns). c ∷ cs) (ap (λ (o : Option DataType). (name_of e.name, unwrap_or o types.Int64)) (over-type keys e s typed)) (over_columns aggs)

  -- in each row the columns of a grouping have the types that they have for a group
  pub row-schema : (base : Columns) (aggs : List Named) → made_schema base (row_exprs keys aggs) s ≡ made_schema base (group_exprs keys aggs) s
  row-schema base aggs = ap (λ (cs : Columns). with_types base cs) (map-append (made_column s) keys (map (over_keys keys) aggs) ∙ ap (λ (cs : Columns). map (made_column s) keys ++ cs) (over_columns aggs) ∙ sym (map-append (made_column s) keys (map gathered aggs)))

  over_typed : (aggs : List Named) → AllByRecursion (λ (e : Named). is_some (expr_type e.expr s) ≡ true) (map gathered aggs) → AllByRecursion (λ (e : Named). is_some (expr_type e.expr s) ≡ true) (map (over_keys keys) aggs)
  over_typed [] h = tt
  over_typed (e ∷ aggs) h = (ap is_some (over-type keys e s typed) ∙ h.0, over_typed aggs h.1)

-- the expressions of a grouping that have types have them in each row
pub rows_typed : (keys aggs : List Named) (s : Columns) → AllByRecursion (λ (e : Named). is_some (expr_type e.expr s) ≡ true) (group_exprs keys aggs) → AllByRecursion (λ (e : Named). is_some (expr_type e.expr s) ≡ true) (row_exprs keys aggs)
rows_typed keys aggs s h =
    let P : Named → Type 0 = λ e. is_some (expr_type e.expr s) ≡ true in
    let typed = all_front P keys (map gathered aggs) h in
    all_join P keys (map (over_keys keys) aggs) typed (over_typed keys s typed aggs (all_back P keys (map gathered aggs) h))
  where
    all_join : {X : Type 0} (P : X → Type 0) (xs ys : List X) → AllByRecursion P xs → AllByRecursion P ys → AllByRecursion P (xs ++ ys)
    all_join P [] ys h k = k
    all_join P (x ∷ xs) ys h k = (h.0, all_join P xs ys h.1 k)
