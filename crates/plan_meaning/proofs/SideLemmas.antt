-- Plans side by side: one of them, those before it, and those after it.
use Rattle.std.proofs.Common.{◌≡◌, ◌∙◌, ◌++◌, ◌+◌, ◌<◌, ℕ, List, [], ◌∷◌, take, drop, get_or, length, refl, sym, ap, take-append-drop}
use Rattle.std.proofs.lemmas.List.{take_more, drop_more}
use Rattle.plan_core.specs.declared.arena.Node.{Node}
use Rattle.plan_core.specs.Columns.{Columns}
use Rattle.plan_tree.specs.Rose.{Roses, rose, no_roses, more, join}
use Rattle.plan_tree.specs.Stands.{Trees}
use Rattle.plan_tree.specs.Read.{tree_at}
use Rattle.plan_tree.proofs.SplitLemmas.{gather-append}
use Rattle.plan_expr.specs.declared.aexpr.AExpr.{AExpr}
use Rattle.plan_ir.specs.declared.ir.IR.{IR}
use Rattle.plan_ir.specs.Parts.{plan_shape}
use Rattle.plan_ir.specs.Plans.{Op, op_at, plans_of, plans_at}
use Rattle.plan_meaning.specs.Typing.{schemas, schema_by}

-- the columns of plans side by side
pub schemas-join : (f g : Roses Node Op) → schemas (join f g) ≡ schemas f ++ schemas g
schemas-join no_roses g = refl
schemas-join (more (rose n op ts) rest) g = ap (λ (ss : List Columns). schema_by op (schemas ts) ∷ ss) (schemas-join rest g)

-- the plans that trees side by side are
plans_of-join : (ex : List AExpr) (f g : Trees IR) → plans_of ex (join f g) ≡ join (plans_of ex f) (plans_of ex g)
plans_of-join ex no_roses g = refl
plans_of-join ex (more (rose n p kids) rest) g = ap (λ (t : Roses Node Op). more (rose n (op_at ex p) (plans_of ex kids)) t) (plans_of-join ex rest g)

module _ (lp : List IR) (ex : List AExpr) where
  -- the plans of two lists of numbers
  pub plans_at-append : (ns ms : List Node) → plans_at lp ex (ns ++ ms) ≡ join (plans_at lp ex ns) (plans_at lp ex ms)
  plans_at-append ns ms = ap (plans_of ex) (gather-append plan_shape (tree_at plan_shape lp) ns ms) ∙ plans_of-join ex _ _

  module _ (ns : List Node) (i : ℕ) (d : Node) (lt : i < length ns) where
    -- all plans are those before one, it, and those after it
    pub whole : plans_at lp ex ns ≡ join (plans_at lp ex (take i ns)) (join (plans_at lp ex (get_or ns i d ∷ [])) (plans_at lp ex (drop (i + 1) ns)))
    whole =
        ap (plans_at lp ex) (sym (take-append-drop i ns) ∙ ap (λ (l : List Node). take i ns ++ l) (drop_more ns i d lt))
        ∙ plans_at-append (take i ns) (get_or ns i d ∷ [] ++ drop (i + 1) ns)
        ∙ ap (join (plans_at lp ex (take i ns))) (plans_at-append (get_or ns i d ∷ []) (drop (i + 1) ns))

    -- the plans up to one are those before it, and it
    pub next : plans_at lp ex (take (i + 1) ns) ≡ join (plans_at lp ex (take i ns)) (plans_at lp ex (get_or ns i d ∷ []))
    next = ap (plans_at lp ex) (take_more ns i d lt) ∙ plans_at-append (take i ns) (get_or ns i d ∷ [])
