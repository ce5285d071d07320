-- Plans side by side: what each is and gives, and what all are and give.
use Rattle.std.proofs.Common.{◌∙◌, ◌++◌, ◌+◌, ◌<◌, ◌≤◌, ℕ, List, [], ◌∷◌, map, take, drop, get_or, length, sym, ap₂, subst}
use Rattle.std.proofs.lemmas.List.{map-append, take_all}
use Rattle.plan_core.specs.declared.arena.Node.{Node}
use Rattle.plan_core.specs.Columns.{Columns}
use Rattle.plan_tree.specs.Rose.{Roses, rose, no_roses, more, join}
use Rattle.plan_expr.specs.declared.aexpr.AExpr.{AExpr}
use Rattle.plan_ir.specs.declared.ir.IR.{IR}
use Rattle.plan_ir.specs.Plans.{Op, bare, plans_at}
use Rattle.plan_meaning.specs.Contents.{Contents}
use Rattle.plan_frame.specs.Frames.{Frame}
use Rattle.plan_meaning.specs.Typing.{AllValid}
use Rattle.plan_meaning.proofs.SideLemmas.{next, schemas-join, whole}
use Rattle.plan_table.specs.declared.source_key.SourceKey.{SourceKey}
use Rattle.plan_table.specs.declared.table.Table.{Table}
use Rattle.plan_value.specs.Shown.{frame_of, schema_of}
use Rattle.plan_fit.specs.Sources.{contents_of}
use Rattle.plan_meaning.specs.Choices.{ChooseAll}
use Rattle.plan_function_tables.specs.Given.{GiveAll}

-- The plans of two lists, side by side

valid-first : (f g : Roses Node Op) → AllValid (join f g) → AllValid f
valid-first no_roses g h = tt
valid-first (more (rose n op ts) rest) g h = (h.0, h.1, valid-first rest g h.2)

valid-second : (f g : Roses Node Op) → AllValid (join f g) → AllValid g
valid-second no_roses g h = h
valid-second (more (rose n op ts) rest) g h = valid-second rest g h.2

chosen-both : (c : Contents) (f g : Roses Node Op) (xs ys : List Frame) → ChooseAll c (bare f) xs → ChooseAll c (bare g) ys → ChooseAll c (bare (join f g)) (xs ++ ys)
chosen-both c no_roses g [] ys h k = k
chosen-both c no_roses g (x ∷ xs) ys h k = absurd h
chosen-both c (more (rose n op ts) rest) g [] ys h k = absurd h
chosen-both c (more (rose n op ts) rest) g (x ∷ xs) ys h k = (h.0, chosen-both c rest g xs ys h.1 k)

module _ (lp : List IR) (ex : List AExpr) where
  -- tables for all plans, once the last was passed
  pub give-end : (ts : List (SourceKey × Table)) (ns : List Node) (i : ℕ) (tables : List Table) → GiveAll ts (plans_at lp ex (take i ns)) tables → length ns ≤ i → GiveAll ts (plans_at lp ex ns) tables
  give-end ts ns i tables h le = subst (λ (l : List Node). GiveAll ts (plans_at lp ex l) tables) (take_all i ns le) h

  -- One plan of many, and those before it

  module _ (ns : List Node) (i : ℕ) (d : Node) (lt : i < length ns) where
    abbrev before : Roses Node Op
    before = plans_at lp ex (take i ns)

    abbrev this : Roses Node Op
    this = plans_at lp ex (get_or ns i d ∷ [])

    abbrev after : Roses Node Op
    after = plans_at lp ex (drop (i + 1) ns)

    pub one-valid : AllValid (plans_at lp ex ns) → AllValid this
    one-valid h = valid-first this after (valid-second before (join this after) (subst (λ (r : Roses Node Op). AllValid r) (whole lp ex ns i d lt) h))

    -- with the table of one plan more
    pub give-next : (ts : List (SourceKey × Table)) (tables : List Table) (t : Table) → GiveAll ts before tables → GiveAll ts this (t ∷ []) → GiveAll ts (plans_at lp ex (take (i + 1) ns)) (tables ++ t ∷ [])
    give-next ts tables t h k = subst (λ (r : Roses Node Op). GiveAll ts r (tables ++ t ∷ [])) (sym (next lp ex ns i d lt)) (record {
      chosen = subst (ChooseAll (contents_of ts) (bare (join before this))) (sym (map-append frame_of tables (t ∷ []))) (chosen-both (contents_of ts) before this (map frame_of tables) (map frame_of (t ∷ [])) h.chosen k.chosen);
      types = map-append schema_of tables (t ∷ []) ∙ ap₂ (λ (x y : List Columns). x ++ y) h.types k.types ∙ sym (schemas-join before this);
    })
