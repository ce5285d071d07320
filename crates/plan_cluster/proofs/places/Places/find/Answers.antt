use Rattle.std.proofs.Common.{◌≡◌, ◌∙◌, ap, sym, position, None, Some}
use Rattle.std.specs.Str.{bytes_eq}
use Rattle.plan_frame.proofs.ScalarExprs.{item_here}
use Rattle.plan_cluster.specs.ExprNames.{expr_names}
use Rattle.plan_cluster.proofs.NameLemmas.{found-at, found-none, found-within}
use Rattle.plan_cluster.proofs.places.Places.find.Goals as goal

pub returns-in-Some-clause-found : goal.returns-in-Some-clause-found
returns-in-Some-clause-found c =
    let at : position (bytes_eq c.args.name.now) (expr_names c.args.exprs.now) ≡ Some c.in-Some.place = ap (position (bytes_eq c.args.name.now)) (sym c.requires) ∙ sym c.get.ensures ∙ c.in-Some.is in
    found-at c.args.exprs.now c.args.name.now c.in-Some.place at
    ∙ item_here c.args.exprs.now c.in-Some.place c.index-exprs-place.result (found-within c.args.exprs.now c.args.name.now c.in-Some.place at) c.index-exprs-place.is

pub returns-in-None-clause-none : goal.returns-in-None-clause-none
returns-in-None-clause-none c =
    let none : position (bytes_eq c.args.name.now) (expr_names c.args.exprs.now) ≡ None = ap (position (bytes_eq c.args.name.now)) (sym c.requires) ∙ sym c.get.ensures ∙ c.in-None.is in
    found-none c.args.exprs.now c.args.name.now none
