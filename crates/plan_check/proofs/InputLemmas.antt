-- The columns of the inputs of a node, found from first to last.
use Rattle.std.proofs.Common.{◌≡◌, ◌∙◌, ℕ, ◌+◌, ◌<◌, ◌≤◌, arith, List, [], ◌∷◌, ◌++◌, length, take, drop, get_or, Option, Some, None, Err, Ok, refl, sym, ap, ap₂, subst, take-append-drop}
use Rattle.std.proofs.lemmas.List.{length-append, take_all, take_more, drop_more}
use Rattle.plan_core.specs.declared.arena.Node.{Node}
use Rattle.plan_core.specs.declared.error.PolarsError.{PolarsError}
use Rattle.plan_core.specs.declared.error.PolarsError.TheVariants.{SchemaFieldNotFound, Duplicate, SchemaMismatch, InvalidOperation, ComputeError, OutOfMemory}
use Rattle.plan_core.specs.Columns.{Columns}
use Rattle.plan_tree.specs.Rose.{Roses, rose, no_roses, more, join}
use Rattle.plan_expr.specs.declared.aexpr.AExpr.{AExpr}
use Rattle.plan_ir.specs.declared.ir.IR.{IR}
use Rattle.plan_ir.specs.Plans.{Op, plans_at}
use Rattle.plan_meaning.specs.Typing.{faults, schemas, checks, first_fault, or_fault}
use Rattle.plan_meaning.specs.Typed.{IsPlanTyped}
use Rattle.plan_meaning.proofs.SideLemmas.{plans_at-append, schemas-join}

-- the first of three faults
or_fault-assoc : (a b c : Option PolarsError) → or_fault (or_fault a b) c ≡ or_fault a (or_fault b c)
or_fault-assoc None b c = refl
or_fault-assoc (Some f) b c = refl

-- the faults of plans side by side
faults-join : (f g : Roses Node Op) → faults (join f g) ≡ or_fault (faults f) (faults g)
faults-join no_roses g = refl
faults-join (more (rose n op ts) rest) g =
    let here : Option PolarsError = or_fault (faults ts) (first_fault n (checks op (schemas ts))) in
    ap (or_fault here) (faults-join rest g) ∙ sym (or_fault-assoc here (faults rest) (faults g))

module _ (lp : List IR) (ex : List AExpr) where
  faults-append : (ns ms : List Node) → faults (plans_at lp ex (ns ++ ms)) ≡ or_fault (faults (plans_at lp ex ns)) (faults (plans_at lp ex ms))
  faults-append ns ms = ap faults (plans_at-append lp ex ns ms) ∙ faults-join (plans_at lp ex ns) (plans_at lp ex ms)

  schemas-append : (ns ms : List Node) → schemas (plans_at lp ex (ns ++ ms)) ≡ schemas (plans_at lp ex ns) ++ schemas (plans_at lp ex ms)
  schemas-append ns ms = ap schemas (plans_at-append lp ex ns ms) ∙ schemas-join (plans_at lp ex ns) (plans_at lp ex ms)

  -- the plans at numbers have no fault, and these columns
  pub record AllTyped (ns : List Node) (ss : List Columns) : Type 0 where
    pub good : faults (plans_at lp ex ns) ≡ None
    pub are : schemas (plans_at lp ex ns) ≡ ss
    pub as_many : length ss ≡ length ns

  -- and those at all numbers, once the last was passed
  pub typed-end : (ns : List Node) (i : ℕ) (ss : List Columns) → AllTyped (take i ns) ss → length ns ≤ i → AllTyped ns ss
  typed-end ns i ss a h = subst (λ (l : List Node). AllTyped l ss) (take_all i ns h) a

  module _ (ns : List Node) (i : ℕ) (d : Node) (ss : List Columns) (before : AllTyped (take i ns) ss) (lt : i < length ns) where
    split : ns ≡ take i ns ++ (get_or ns i d ∷ [] ++ drop (i + 1) ns)
    split = sym (take-append-drop i ns) ∙ ap (λ (l : List Node). take i ns ++ l) (drop_more ns i d lt)

    -- with the columns of one plan more
    pub typed-next : (s : Columns) → IsPlanTyped (Ok s) (plans_at lp ex (get_or ns i d ∷ [])) → AllTyped (take (i + 1) ns) (ss ++ s ∷ [])
    typed-next s a =
        let next = take_more ns i d lt in
        record {
          good = ap (λ (l : List Node). faults (plans_at lp ex l)) next ∙ faults-append (take i ns) (get_or ns i d ∷ []) ∙ ap₂ or_fault before.good a.0;
          are = ap (λ (l : List Node). schemas (plans_at lp ex l)) next ∙ schemas-append (take i ns) (get_or ns i d ∷ []) ∙ ap₂ (λ (x y : List Columns). x ++ y) before.are a.1;
          as_many =
              let left = length-append ss (s ∷ []) in
              let right = ap (λ (l : List Node). length l) next ∙ length-append (take i ns) (get_or ns i d ∷ []) in
              omega (arith, left, right, before.as_many);
        }

    fault_is : (f : PolarsError) → faults (plans_at lp ex (get_or ns i d ∷ [])) ≡ Some f → faults (plans_at lp ex ns) ≡ Some f
    fault_is f e =
        let rest : Option PolarsError = faults (plans_at lp ex (drop (i + 1) ns)) in
        ap (λ (l : List Node). faults (plans_at lp ex l)) split
        ∙ faults-append (take i ns) (get_or ns i d ∷ [] ++ drop (i + 1) ns)
        ∙ ap₂ or_fault before.good (faults-append (get_or ns i d ∷ []) (drop (i + 1) ns) ∙ ap (λ (o : Option PolarsError). or_fault o rest) e)

    -- the first fault of one plan is that of all, where those before it have none
    pub fault-among : (e : PolarsError) → IsPlanTyped (Err e) (plans_at lp ex (get_or ns i d ∷ [])) → IsPlanTyped (Err e) (plans_at lp ex ns)
    fault-among OutOfMemory f = tt
    fault-among (SchemaFieldNotFound a) f = fault_is _ f
    fault-among (Duplicate a) f = fault_is _ f
    fault-among (SchemaMismatch a) f = fault_is _ f
    fault-among (InvalidOperation a) f = fault_is _ f
    fault-among (ComputeError a) f = fault_is _ f
