use Rattle.std.proofs.Common.{◌≡◌, ℕ, suc, ◌-◌, Some, List, drop, map, sym, ap, ◌∙◌, subst, arith}
use Rattle.std.specs.List.{slice_get}
use Rattle.std.specs.Prelude.{string_bytes}
use Rattle.plan_core.specs.Columns.{names_of}
use Rattle.plan_expr.specs.Leaves.{Name}
use Rattle.plan_meaning.specs.Functions.{name_in, names_now, new_name}
use Rattle.plan_schema.proofs.RenameLemmas.{Entries, seen, paired-next, name-at, now-at}
use Rattle.plan_schema.proofs.renaming.Renaming.back.Goals as goal

pub loop-left-preserved-in_ok-insert : goal.loop-left-preserved-in_ok-insert
loop-left-preserved-in_ok-insert c =
    let i : ℕ = c.loop-left.left - 1 in
    let now : Name → Name = names_now c.args.self.now in
    let names : List Name = names_of c.args.schema.now in
    let up : c.loop-left.left ≡ suc i = omega (arith, c.loop-left-test.true) in
    let before : (a : Name) → name_in (seen c.loop-left.names.entries) a ≡ new_name (drop (suc i) (map now names)) (drop (suc i) names) a =
    subst (λ (k : ℕ). (a : Name) → name_in (seen c.loop-left.names.entries) a ≡ new_name (drop k (map now names)) (drop k names) a) up c.loop-left.invariant.1 in
    let key : slice_get (map now names) i ≡ Some (string_bytes c.in_ok-now.now) = now-at now c.args.schema.now i c.in-Some.name.now c.in-Some.field-0-1.now c.in-Some.ensures.found ∙ ap (λ (a : Name). Some a) (sym (c.in_ok-now.ensures.ok ∙ c.now.ensures)) in
    let value : slice_get names i ≡ Some (string_bytes c.in_ok-from_str.field-0) = name-at c.args.schema.now i c.in-Some.name.now c.in-Some.field-0-1.now c.in-Some.ensures.found ∙ ap (λ (a : Name). Some a) (sym c.in_ok-from_str.ensures.ok) in
    let within = c.loop-left.invariant.0 in (
      omega (arith, within),
      λ a. ap (λ (es : Entries). name_in (seen es) a) c.in_ok-insert.ensures.entries ∙ paired-next c.loop-left.names.entries (map now names) names c.in_ok-now.now c.in_ok-from_str.field-0 i before key value a,
    )

pub loop-left-preserved-in_ok-insert-2 : goal.loop-left-preserved-in_ok-insert-2
loop-left-preserved-in_ok-insert-2 c =
    let i : ℕ = c.loop-left.left - 1 in
    let now : Name → Name = names_now c.args.self.now in
    let names : List Name = names_of c.args.schema.now in
    let up : c.loop-left.left ≡ suc i = omega (arith, c.loop-left-test.true) in
    let before : (a : Name) → name_in (seen c.loop-left.names.entries) a ≡ new_name (drop (suc i) (map now names)) (drop (suc i) names) a =
    subst (λ (k : ℕ). (a : Name) → name_in (seen c.loop-left.names.entries) a ≡ new_name (drop k (map now names)) (drop k names) a) up c.loop-left.invariant.1 in
    let key : slice_get (map now names) i ≡ Some (string_bytes c.in_ok-now.now) = now-at now c.args.schema.now i c.in-Some.name.now c.in-Some.field-0-1.now c.in-Some.ensures.found ∙ ap (λ (a : Name). Some a) (sym (c.in_ok-now.ensures.ok ∙ c.now.ensures)) in
    let value : slice_get names i ≡ Some (string_bytes c.in_ok-from_str.field-0) = name-at c.args.schema.now i c.in-Some.name.now c.in-Some.field-0-1.now c.in-Some.ensures.found ∙ ap (λ (a : Name). Some a) (sym c.in_ok-from_str.ensures.ok) in
    let within = c.loop-left.invariant.0 in (
      omega (arith, within),
      λ a. ap (λ (es : Entries). name_in (seen es) a) c.in_ok-insert.ensures.entries ∙ paired-next c.loop-left.names.entries (map now names) names c.in_ok-now.now c.in_ok-from_str.field-0 i before key value a,
    )
