-- Plans side by side: what fits each, and what fits all.
use Rattle.std.proofs.Common.{◌≡◌, ◌∙◌, ◌++◌, ◌+◌, ◌<◌, ℕ, List, [], ◌∷◌, take, drop, get_or, length, refl, sym, ap, subst, append_assoc}
use Rattle.std.specs.List.{AllByRecursion}
use Rattle.plan_core.specs.declared.arena.Node.{Node}
use Rattle.plan_tree.specs.Rose.{Roses, rose, no_roses, more, join}
use Rattle.plan_expr.specs.declared.aexpr.AExpr.{AExpr}
use Rattle.plan_ir.specs.declared.ir.IR.{IR}
use Rattle.plan_ir.specs.Plans.{Op, bare, plans_at}
use Rattle.plan_meaning.specs.Contents.{Contents, FitsAll}
use Rattle.plan_table.specs.declared.source_key.SourceKey.{SourceKey}
use Rattle.plan_table.specs.declared.table.Table.{Table}
use Rattle.plan_meaning.proofs.SideLemmas.{next, whole}
use Rattle.plan_fit.specs.Fitting.{IsMet, Need, TablesFit, needs, needs_by}
use Rattle.plan_fit.proofs.FitLemmas.{all-both, all-first, all-second}

-- The plans of two lists, side by side

needs-join : (f g : Roses Node Op) → needs (join f g) ≡ needs f ++ needs g
needs-join no_roses g = refl
needs-join (more (rose n op ts) rest) g =
    ap (λ (l : List Need). needs_by op ++ (needs ts ++ l)) (needs-join rest g)
    ∙ ap (λ (l : List Need). needs_by op ++ l) (sym (append_assoc (needs ts) (needs rest) (needs g)))
    ∙ sym (append_assoc (needs_by op) (needs ts ++ needs rest) (needs g))

frames-both : (c : Contents) (f g : Roses Node Op) → FitsAll c (bare f) → FitsAll c (bare g) → FitsAll c (bare (join f g))
frames-both c no_roses g h k = k
frames-both c (more (rose n op ts) rest) g h k = (h.0, h.1, frames-both c rest g h.2 k)

frames-first : (c : Contents) (f g : Roses Node Op) → FitsAll c (bare (join f g)) → FitsAll c (bare f)
frames-first c no_roses g h = tt
frames-first c (more (rose n op ts) rest) g h = (h.0, h.1, frames-first c rest g h.2)

frames-second : (c : Contents) (f g : Roses Node Op) → FitsAll c (bare (join f g)) → FitsAll c (bare g)
frames-second c no_roses g h = h
frames-second c (more (rose n op ts) rest) g h = frames-second c rest g h.2

module _ (lp : List IR) (ex : List AExpr) where
  -- One plan of many, and those before it

  module _ (ns : List Node) (i : ℕ) (d : Node) (lt : i < length ns) where
    abbrev before : Roses Node Op
    before = plans_at lp ex (take i ns)

    abbrev this : Roses Node Op
    this = plans_at lp ex (get_or ns i d ∷ [])

    abbrev after : Roses Node Op
    after = plans_at lp ex (drop (i + 1) ns)

    pub one-frames : (c : Contents) → FitsAll c (bare (plans_at lp ex ns)) → FitsAll c (bare this)
    one-frames c h = frames-first c this after (frames-second c before (join this after) (subst (λ (r : Roses Node Op). FitsAll c (bare r)) (whole lp ex ns i d lt) h))

    pub frames-next : (c : Contents) → FitsAll c (bare before) → FitsAll c (bare this) → FitsAll c (bare (plans_at lp ex (take (i + 1) ns)))
    frames-next c h k = subst (λ (r : Roses Node Op). FitsAll c (bare r)) (sym (next lp ex ns i d lt)) (frames-both c before this h k)

    pub one-fit : (ts : List (SourceKey × Table)) → TablesFit ts (plans_at lp ex ns) → TablesFit ts this
    one-fit ts h =
        let all : AllByRecursion (IsMet ts) (needs before ++ (needs this ++ needs after)) =
        subst (AllByRecursion (IsMet ts)) (ap needs (whole lp ex ns i d lt) ∙ needs-join before (join this after) ∙ ap (λ (l : List Need). needs before ++ l) (needs-join this after)) h
        in
        all-first (IsMet ts) (needs this) (needs after) (all-second (IsMet ts) (needs before) (needs this ++ needs after) all)

    pub fit-next : (ts : List (SourceKey × Table)) → TablesFit ts before → TablesFit ts this → TablesFit ts (plans_at lp ex (take (i + 1) ns))
    fit-next ts h k = subst (AllByRecursion (IsMet ts)) (sym (ap needs (next lp ex ns i d lt) ∙ needs-join before this)) (all-both (IsMet ts) (needs before) (needs this) h k)
