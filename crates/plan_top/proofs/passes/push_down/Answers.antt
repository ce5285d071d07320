use Rattle.std.proofs.Common.{[], refl}
use Rattle.plan_top.proofs.PrunedPlaces.{pruned_in_place, pruned_is}
use Rattle.plan_top.proofs.passes.push_down.Goals as goal

pub returns-clause-is_valid : goal.returns-clause-is_valid
returns-clause-is_valid c = (c.in_ok-optimize.ensures.refines c.requires.valid).valid

pub returns-clause-passed : goal.returns-clause-passed
returns-clause-passed c = λ flags boxes.
    let e = c.in_ok-optimize.ensures in
    record {
      follows = (
        record {
          refines = e.refines c.requires.valid;
          reads = e.reads c.requires.valid;
          made = e.work c.requires.valid;
          nodes = e.nodes c.requires.valid;
          shared = e.cached;
          exact = pruned_is c.args.lp.now c.optimize.new.lp c.args.ex.now c.optimize.new.ex c.args.root c.requires.plan (rw c.new-pushdown.ensures at e.pruned);
        },
        refl,
      );
      in_place = pruned_in_place _ [] _ _ _ _ c.args.root c.optimize.ensures.longer e.in_place;
    }
