use Rattle.std.proofs.Common.{◌≡◌, ℕ, suc, ◌-◌, Some, None, inl, inr, drop, length, sym, ap, ◌∙◌, subst, arith}
use Rattle.std.specs.List.{slice_get}
use Rattle.std.specs.Prelude.{string_bytes}
use Rattle.plan_expr.specs.Leaves.{Name}
use Rattle.plan_meaning.specs.Functions.{name_in, new_name}
use Rattle.plan_frame.proofs.ScalarExprs.{item_here}
use Rattle.plan_schema.proofs.RenameLemmas.{Entries, seen, new_name-end, paired-next}
use Rattle.plan_schema.proofs.renaming.Renaming.new.Goals.{then-existing-new, else-existing-new}
use Rattle.plan_schema.proofs.renaming.Renaming.new.Goals as goal

pub loop-left-preserved : goal.loop-left-preserved
loop-left-preserved c =
    let i : ℕ = c.loop-left.left - 1 in
    let up : c.loop-left.left ≡ suc i = omega (arith, c.loop-left-test.true) in
    let before : (a : Name) → name_in (seen c.loop-left.names.entries) a ≡ new_name (drop (suc i) c.args.existing.now) (drop (suc i) c.args.new.now) a =
    subst (λ (k : ℕ). (a : Name) → name_in (seen c.loop-left.names.entries) a ≡ new_name (drop k c.args.existing.now) (drop k c.args.new.now) a) up c.loop-left.invariant.2 in
    let within = c.loop-left.invariant.0 in
    let new_within = c.loop-left.invariant.1 in
    let key : slice_get c.args.existing.now i ≡ Some (string_bytes c.in_ok-name.name) = item_here c.args.existing.now i c.index-existing-left.result (omega (arith, within, up)) c.index-existing-left.is ∙ ap (λ (a : Name). Some a) (sym (c.in_ok-name.ensures.ok ∙ c.as_str.ensures)) in
    let value : slice_get c.args.new.now i ≡ Some (string_bytes c.in_ok-from_str.field-0) = item_here c.args.new.now i c.index-new-left.result (omega (arith, new_within, up)) c.index-new-left.is ∙ ap (λ (a : Name). Some a) (sym (c.in_ok-from_str.ensures.ok ∙ c.as_str-in-loop-left.ensures)) in (
      omega (arith, within),
      omega (arith, new_within),
      λ a. ap (λ (es : Entries). name_in (seen es) a) c.in_ok-insert.ensures.entries ∙ paired-next c.loop-left.names.entries c.args.existing.now c.args.new.now c.in_ok-name.name c.in_ok-from_str.field-0 i before key value a,
    )

pub loop-left-preserved-in_ok-insert : goal.loop-left-preserved-in_ok-insert
loop-left-preserved-in_ok-insert c =
    let i : ℕ = c.loop-left.left - 1 in
    let up : c.loop-left.left ≡ suc i = omega (arith, c.loop-left-test.true) in
    let before : (a : Name) → name_in (seen c.loop-left.names.entries) a ≡ new_name (drop (suc i) c.args.existing.now) (drop (suc i) c.args.new.now) a =
    subst (λ (k : ℕ). (a : Name) → name_in (seen c.loop-left.names.entries) a ≡ new_name (drop k c.args.existing.now) (drop k c.args.new.now) a) up c.loop-left.invariant.2 in
    let within = c.loop-left.invariant.0 in
    let new_within = c.loop-left.invariant.1 in
    let key : slice_get c.args.existing.now i ≡ Some (string_bytes c.in_ok-name.name) = item_here c.args.existing.now i c.index-existing-left.result (omega (arith, within, up)) c.index-existing-left.is ∙ ap (λ (a : Name). Some a) (sym (c.in_ok-name.ensures.ok ∙ c.as_str.ensures)) in
    let value : slice_get c.args.new.now i ≡ Some (string_bytes c.in_ok-from_str.field-0) = item_here c.args.new.now i c.index-new-left.result (omega (arith, new_within, up)) c.index-new-left.is ∙ ap (λ (a : Name). Some a) (sym (c.in_ok-from_str.ensures.ok ∙ c.as_str-in-loop-left.ensures)) in (
      omega (arith, within),
      omega (arith, new_within),
      λ a. ap (λ (es : Entries). name_in (seen es) a) c.in_ok-insert.ensures.entries ∙ paired-next c.loop-left.names.entries c.args.existing.now c.args.new.now c.in_ok-name.name c.in_ok-from_str.field-0 i before key value a,
    )

pub loop-left-init : goal.loop-left-init
loop-left-init c =
    let none : (a : Name) → name_in (seen c.new-names.result.entries) a ≡ None = λ a. ap (λ (es : Entries). name_in (seen es) a) c.new-names.ensures.empty in
    let left : ℕ = c.if-existing-new.left in
    elim c.if-existing-new.branch [
      | then-existing-new w ↦
          (let is : left ≡ length c.args.existing.now = w.left-is in
          let shorter = w.if-existing-new.true in
          (omega (arith, is), omega (arith, is, shorter), λ a. none a ∙ sym (new_name-end c.args.existing.now c.args.new.now left a (inl (omega (arith, is))))))
      | else-existing-new w ↦
          (let is : left ≡ length c.args.new.now = w.left-is in
          let shorter = w.if-existing-new.false in
          (omega (arith, is, shorter), omega (arith, is), λ a. none a ∙ sym (new_name-end c.args.existing.now c.args.new.now left a (inr (omega (arith, is))))))
    ]
