use Rattle.std.proofs.Common.{◌≡◌, ◌∙◌, ◌⊎◌, List, [], ◌∷◌, length, inl, inr, refl, ap, sym, subst, fold, map, arith}
use Rattle.plan_core.specs.Columns.{HasDistinctNames}
use Rattle.plan_frame.specs.Frames.{Frame}
use Rattle.plan_table.specs.declared.table.Table.{Table}
use Rattle.plan_value.specs.Shown.{frame_of, schema_of}
use Rattle.plan_eval.specs.Stacks.{with_below}
use Rattle.plan_eval.proofs.union.above_all.Goals as goal

pub loop-other-preserved : goal.loop-other-preserved
loop-other-preserved c =
    let rest = c.next.new.self.rest.items in
    let inv = c.loop-other.invariant in
    let made = c.in_ok-table.ensures in
    record {
      frame =
          ap (λ (f : Frame). fold with_below f (map frame_of rest)) made.frame
          ∙ sym (ap (λ (ts : List Table). fold with_below (frame_of c.loop-other.table) (map frame_of ts)) c.in-Some.ensures.steps.0)
          ∙ inv.frame;
      distinct = inr (subst HasDistinctNames inv.types made.distinct);
      types = made.types ∙ inv.types;
    }

empty : (ts : List Table) → length ts ≡ 0 → ts ≡ []
empty [] e = refl
empty (t ∷ ts) e = absurd (omega (arith, e))

ended : (left all : List Table) (first : Table) → left ≡ [] → (left ≡ all) ⊎ HasDistinctNames (schema_of first) → (all ≡ []) ⊎ HasDistinctNames (schema_of first)
ended left all first none (inl same) = inl (sym same ∙ none)
ended left all first none (inr d) = inr d

pub returns-clause-distinct : goal.returns-clause-distinct
returns-clause-distinct c = ended c.loop-other.other-iterator.rest.items c.args.others.items c.args.first (empty c.loop-other.other-iterator.rest.items (omega (arith, c.in-None.ensures.steps.0, c.loop-other.other-iterator.rest.ok.0))) c.loop-other.invariant.distinct
