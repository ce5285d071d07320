use Rattle.std.proofs.Common.{◌∙◌, ◌∷◌, [], arith, subst, sym}
use Rattle.plan_core.specs.Columns.{names_of}
use Rattle.plan_frame.specs.Frames.{names_or}
use Rattle.plan_prune_parts.specs.Said.{columns_at}
use Rattle.plan_prune_names.specs.declared.known_columns.KnownColumns.{KnownColumns}
use Rattle.plan_prune_names.specs.Known.{KnowsAt}
use Rattle.plan_prune_steps.proofs.AskedParts.{with-none, with-some}
use Rattle.plan_prune_steps.proofs.distinct.asks.Goals.{then-len-gt0+in_ok-add_subset, else-len-gt0}
use Rattle.plan_prune_steps.proofs.distinct.asks.Goals as goal

pub returns-clause-names : goal.returns-clause-names
returns-clause-names c = λ ex. elim c.if-len-gt0.branch [
  | then-len-gt0+in_ok-add_subset w ↦
      w.names-is ∙ w.in_ok-add_subset.ensures.names ex
      ∙ with-some c.args.asked (names_or c.args.subset.now (names_of (columns_at c.args.lp.now ex c.args.input))) (λ z. omega (arith, z, c.len.ensures.value, w.if-len-gt0.true))
  | else-len-gt0 w ↦
      w.names-is ∙ with-none c.args.asked (names_or c.args.subset.now (names_of (columns_at c.args.lp.now ex c.args.input))) (omega (arith, c.len.ensures.value, w.if-len-gt0.false))
]

pub returns-clause-known : goal.returns-clause-known
returns-clause-known c = elim c.if-len-gt0.branch [
  | then-len-gt0+in_ok-add_subset w ↦ subst (λ (k : KnownColumns). KnowsAt k c.args.lp.now (c.args.input ∷ [])) (sym w.columns-is) w.in_ok-add_subset.ensures.known
  | else-len-gt0 w ↦ subst (λ (k : KnownColumns). KnowsAt k c.args.lp.now (c.args.input ∷ [])) (sym w.columns-is) c.requires.known
]
