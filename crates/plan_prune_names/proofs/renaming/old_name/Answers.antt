use Rattle.std.proofs.Common.{◌≡◌, ◌∙◌, ap, ap₂, sym, is_some, true, false, cond, Bool, None, Option, List, ℕ}
use Rattle.std.specs.Option.{option_or}
use Rattle.std.proofs.lemmas.Option.{IfSome_then}
use Rattle.plan_core.specs.Names.{has}
use Rattle.plan_expr.specs.Leaves.{Name}
use Rattle.plan_prune_names.specs.Known.{type_in}
use Rattle.plan_prune_names.specs.Renaming.{own_in}
use Rattle.plan_prune_names.proofs.RenamingParts.{placed}
use Rattle.plan_prune_names.proofs.renaming.old_name.Goals as goal

pub returns-then-is_some-clause-none : goal.returns-then-is_some-clause-none
returns-then-is_some-clause-none c =
    let gone : has c.args.existing.now c.args.name.now ≡ true = ap (λ (l : List Name). has l c.args.name.now) (sym c.requires.old) ∙ sym (placed c.args.old.now c.args.name.now) ∙ ap (λ (o : Option ℕ). is_some o) (sym c.get.ensures) ∙ sym c.is_some.ensures ∙ c.if-is_some.true in
    ap₂ (λ (o : Option Name) (t : Bool). option_or o (cond t None (own_in (type_in c.args.columns.now) c.args.name.now))) c.in_default.ensures.none gone

pub returns-clause-some : goal.returns-clause-some
returns-clause-some c =
    let stays : has c.args.existing.now c.args.name.now ≡ false = ap (λ (l : List Name). has l c.args.name.now) (sym c.requires.old) ∙ sym (placed c.args.old.now c.args.name.now) ∙ ap (λ (o : Option ℕ). is_some o) (sym c.get.ensures) ∙ sym c.is_some.ensures ∙ c.if-is_some.false in
    IfSome_then c.own.result c.own.ensures.some (λ a same.
    ap₂ (λ (o : Option Name) (t : Bool). option_or o (cond t None (own_in (type_in c.args.columns.now) c.args.name.now))) c.in_default.ensures.none stays ∙ same)
