use Rattle.std.proofs.Common.{◌∙◌, ◌++◌, ap}
use Rattle.plan_ir.specs.Parts.{list_of}
use Rattle.plan_prune_parts.proofs.LongerLemmas.{exprs_longer, first_exprs, last_exprs}
use Rattle.plan_prune_parts.proofs.PlaceLemmas.{place_alone, place_behind, place_both}
use Rattle.plan_collapse_laws.specs.TakenKeys.{and_all}
use Rattle.plan_collapse.specs.KeysAt.{left_nodes, right_nodes}
use Rattle.plan_collapse.proofs.LongerExprs.{map-longer}
use Rattle.plan_collapse.proofs.cross.add_exprs.Goals as goal

pub right_copies-requires : goal.right_copies-requires
right_copies-requires c = first_exprs c.args.ex.now (right_nodes c.args.keys.now) c.args.remaining.now (last_exprs c.args.ex.now (left_nodes c.args.keys.now) (right_nodes c.args.keys.now ++ c.args.remaining.now) c.requires)

pub and_all-requires : goal.and_all-requires
and_all-requires c = exprs_longer c.args.ex.now c.right_copies.new.ex c.in_ok-copies.ensures.longer c.args.remaining.now (last_exprs c.args.ex.now (right_nodes c.args.keys.now) c.args.remaining.now (last_exprs c.args.ex.now (left_nodes c.args.keys.now) (right_nodes c.args.keys.now ++ c.args.remaining.now) c.requires))

pub returns-clause-copies : goal.returns-clause-copies
returns-clause-copies c = λ j h.
    map-longer c.right_copies.new.ex c.and_all.new.ex c.in_ok-copies.copies c.in_ok-all.ensures.longer (place_alone c.args.ex.now c.right_copies.new.ex c.in_ok-copies.copies (right_nodes c.args.keys.now) c.in_ok-copies.ensures.place (first_exprs c.args.ex.now (right_nodes c.args.keys.now) c.args.remaining.now (last_exprs c.args.ex.now (left_nodes c.args.keys.now) (right_nodes c.args.keys.now ++ c.args.remaining.now) c.requires)))
    ∙ c.in_ok-copies.ensures.exprs j h

pub returns-clause-all : goal.returns-clause-all
returns-clause-all c =
    c.in_ok-all.ensures.expr
    ∙ ap and_all (map-longer c.args.ex.now c.right_copies.new.ex c.args.remaining.now c.in_ok-copies.ensures.longer (last_exprs c.args.ex.now (right_nodes c.args.keys.now) c.args.remaining.now (last_exprs c.args.ex.now (left_nodes c.args.keys.now) (right_nodes c.args.keys.now ++ c.args.remaining.now) c.requires)))

pub returns-clause-place : goal.returns-clause-place
returns-clause-place c =
    place_behind c.args.ex.now c.and_all.new.ex (left_nodes c.args.keys.now) (c.in_ok-copies.copies ++ list_of c.in_ok-all.all) (right_nodes c.args.keys.now ++ c.args.remaining.now)
    (place_both c.args.ex.now c.right_copies.new.ex c.and_all.new.ex c.in_ok-copies.copies (right_nodes c.args.keys.now) (list_of c.in_ok-all.all) c.args.remaining.now c.in_ok-copies.ensures.place c.in_ok-all.ensures.place)
