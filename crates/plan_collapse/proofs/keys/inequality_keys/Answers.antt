use Rattle.std.proofs.Common.{◌∙◌, [], ◌∷◌, ap, option_and_then, sym, subst}
use Rattle.plan_expr.specs.Operands.{operands_of}
use Rattle.plan_prune_parts.specs.Places.{StandExprs}
use Rattle.plan_prune_parts.proofs.PlaceLemmas.{place_alone}
use Rattle.plan_collapse_laws.specs.CrossKeys.{whole_only}
use Rattle.plan_collapse.proofs.KeyLemmas.{inequality-keys, left-stands, minterm-place, no-inequality, operands-place, operands-stand, whole-keys, whole-place}
use Rattle.plan_collapse.proofs.keys.inequality_keys.Goals as goal

pub paired-requires-clause-left : goal.paired-requires-clause-left
paired-requires-clause-left c = (operands-stand c.args.ex.now c.args.node c.get.result.now c.requires c.get.ensures.entry c.in-Some.first c.in-Some.second c.in-Some.op c.in-Some.ensures.some).0

pub paired-requires-clause-right : goal.paired-requires-clause-right
paired-requires-clause-right c = (operands-stand c.args.ex.now c.args.node c.get.result.now c.requires c.get.ensures.entry c.in-Some.first c.in-Some.second c.in-Some.op c.in-Some.ensures.some).1

pub whole_only-requires : goal.whole_only-requires
whole_only-requires c =
    let both : StandExprs c.args.ex.now (c.in-Some.first ∷ c.in-Some.second ∷ []) = subst (StandExprs c.args.ex.now) (ap operands_of c.in-Some.ensures.some) (place_alone c.args.ex.now c.args.ex.now (operands_of c.get.result.now) (c.args.node ∷ []) (operands-place c.args.ex.now c.args.node c.get.result.now c.requires c.get.ensures.entry) c.requires) in
    left-stands c.args.ex.now c.in-Some.first c.in-Some.second c.in_ok-found-in-Some.found both c.in_ok-found-in-Some.ensures.place

pub returns-in_ok-found-in-Some-clause-keys : goal.returns-in_ok-found-in-Some-clause-keys
returns-in_ok-found-in-Some-clause-keys c = λ j h same.
    whole-keys c.args.ex.now j c.args.left.now c.in_ok-found-in-Some.found c.whole_only.result same c.whole_only.ensures.whole c.whole_only.ensures.none
    ∙ ap (option_and_then (whole_only j.left)) (c.in_ok-found-in-Some.ensures.keys j h)
    ∙ sym (inequality-keys c.args.ex.now c.args.node c.get.result.now c.requires c.get.ensures.entry j c.in-Some.first c.in-Some.second c.in-Some.op c.in-Some.ensures.some c.in-Some.ensures.unequal)

pub returns-in_ok-found-in-Some-clause-place : goal.returns-in_ok-found-in-Some-clause-place
returns-in_ok-found-in-Some-clause-place c =
    whole-place c.args.ex.now (c.args.node ∷ []) c.args.left.now c.in_ok-found-in-Some.found c.whole_only.result c.whole_only.ensures.whole
    (minterm-place c.args.ex.now c.args.node c.get.result.now c.requires c.get.ensures.entry c.in-Some.first c.in-Some.second c.in-Some.op c.in_ok-found-in-Some.found c.in-Some.ensures.some c.in_ok-found-in-Some.ensures.place)

pub returns-in-None-clause-keys : goal.returns-in-None-clause-keys
returns-in-None-clause-keys c = λ j h same. sym (no-inequality c.args.ex.now c.args.node c.get.result.now c.requires c.get.ensures.entry j c.in-None.ensures.none)
