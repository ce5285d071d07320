use Rattle.std.proofs.Common.{◌≡◌, ◌<◌, ◌∙◌, ap, sym, arith, length, option_map, unwrap_or, None, Some, Option}
use Rattle.std.specs.List.{slice_get}
use Rattle.std.proofs.lemmas.Option.{IfSome_then}
use Rattle.plan_expr.specs.Leaves.{Name}
use Rattle.plan_frame.proofs.ScalarExprs.{item_here}
use Rattle.plan_prune_names.specs.ByName.{at_name}
use Rattle.plan_prune_names.specs.Known.{type_in}
use Rattle.plan_prune_names.specs.Renaming.{own_in}
use Rattle.plan_prune_names.proofs.RenamingParts.{at-none, at-some, if_none, place-within}
use Rattle.plan_prune_names.proofs.renaming.moved_from.Goals as goal

pub returns-in-None-clause-none : goal.returns-in-None-clause-none
returns-in-None-clause-none c =
    ap (λ (o : Option Name). unwrap_or (option_map (own_in (type_in c.args.columns.now)) o) None)
    (at-none c.args.existing.now c.args.new.now c.args.name.now (sym c.get.ensures ∙ c.in-None.is))

pub returns-in-Some-clause-some : goal.returns-in-Some-clause-some
returns-in-Some-clause-some c =
    let place = c.in-Some.place in
    let within = (place-within c.args.new.now c.args.name.now place (sym c.get.ensures ∙ c.in-Some.is)).1 in
    let lower : place < length c.args.existing.now = omega (arith, within, c.requires) in
    let here : slice_get c.args.existing.now place ≡ Some c.as_str.result.now = item_here c.args.existing.now place c.index-existing-place.result lower c.index-existing-place.is ∙ ap (λ (a : Name). Some a) (sym c.as_str.ensures) in
    let at : at_name c.args.new.now c.args.existing.now c.args.name.now ≡ Some c.as_str.result.now = at-some c.args.existing.now c.args.new.now c.args.name.now place c.as_str.result.now (sym c.get.ensures ∙ c.in-Some.is) here in
    IfSome_then c.own.result c.own.ensures.some (λ a same. ap (λ (o : Option Name). unwrap_or (option_map (own_in (type_in c.args.columns.now)) o) None) at ∙ same)

pub returns-in-Some-clause-none : goal.returns-in-Some-clause-none
returns-in-Some-clause-none c =
    let place = c.in-Some.place in
    let within = (place-within c.args.new.now c.args.name.now place (sym c.get.ensures ∙ c.in-Some.is)).1 in
    let lower : place < length c.args.existing.now = omega (arith, within, c.requires) in
    let here : slice_get c.args.existing.now place ≡ Some c.as_str.result.now = item_here c.args.existing.now place c.index-existing-place.result lower c.index-existing-place.is ∙ ap (λ (a : Name). Some a) (sym c.as_str.ensures) in
    let at : at_name c.args.new.now c.args.existing.now c.args.name.now ≡ Some c.as_str.result.now = at-some c.args.existing.now c.args.new.now c.args.name.now place c.as_str.result.now (sym c.get.ensures ∙ c.in-Some.is) here in
    if_none c.own.result c.own.ensures.none (λ same. ap (λ (o : Option Name). unwrap_or (option_map (own_in (type_in c.args.columns.now)) o) None) at ∙ same)
