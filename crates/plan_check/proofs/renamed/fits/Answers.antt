use Rattle.std.proofs.Common.{◌≡◌, ◌∙◌, ◌&&◌, ◌==◌, Bool, false, List, ℕ, length, ap, sym}
use Rattle.std.proofs.lemmas.Bool.{eq-eqb, ne_eqb}
use Rattle.plan_expr.specs.Leaves.{Name}
use Rattle.plan_check.specs.Renamed.{all_free, is_once}
use Rattle.plan_check.proofs.RenamedLemmas.{can_rename-is}
use Rattle.plan_check.proofs.renamed.fits.Goals.{then-len-existing+in_ok-once, else-len-existing, then-once, else-once}
use Rattle.plan_check.proofs.renamed.fits.Goals as goal

pub returns : goal.returns
returns c =
    let old_names : List Name = c.in_ok-old_names.old_names in
    let existing : List Name = c.args.existing.now in
    let new : List Name = c.args.new.now in
    let free : Bool = all_free old_names c.args.columns.now existing new in
    let two : c.if-len-existing.once ≡ ((length old_names == length existing) && is_once new) = elim c.if-len-existing.branch [
      | then-len-existing+in_ok-once w ↦
          w.once-is ∙ w.in_ok-once.ensures
          ∙ ap (λ (t : Bool). t && is_once new) (sym (eq-eqb (length old_names) (length existing) (sym c.len.ensures.value ∙ w.if-len-existing.true)))
      | else-len-existing w ↦
          let no : (length old_names == length existing) ≡ false = ap (λ (n : ℕ). n == length existing) (sym c.len.ensures.value) ∙ ne_eqb c.len.result (length existing) w.if-len-existing.false in
          w.once-is ∙ ne_eqb c.len.result (length existing) w.if-len-existing.false ∙ ap (λ (t : Bool). t && is_once new) (sym no)
    ] in
    let is : c.if-once.result ≡ (c.if-len-existing.once && free) = elim c.if-once.branch [
      | then-once w ↦ w.result-is ∙ w.all_free.ensures ∙ ap (λ (t : Bool). t && free) (sym w.if-once.true)
      | else-once w ↦ w.result-is ∙ w.if-once.false ∙ ap (λ (t : Bool). t && free) (sym w.if-once.false)
    ] in
    can_rename-is existing new old_names c.args.columns.now c.if-len-existing.once c.if-once.result c.if-existing-new.false c.in_ok-old_names.ensures two is
