use Rattle.std.proofs.Common.{◌≡◌, Bool, true, false, refl, rules, sym, subst}
use Rattle.plan_top.specs.declared.trail.Pass.TheVariants.{Cluster}
use Rattle.plan_top.specs.Chains.{is_clustering}
use Rattle.plan_top.specs.Trails.{RanIf}
use Rattle.plan_top.proofs.passes.cluster.Goals as goal

pub returns-in_ok-optimize-clause-is_valid : goal.returns-in_ok-optimize-clause-is_valid
returns-in_ok-optimize-clause-is_valid c = c.in_ok-optimize.ensures.refines.valid

pub returns-in_ok-optimize-clause-passed : goal.returns-in_ok-optimize-clause-passed
returns-in_ok-optimize-clause-passed c = λ boxes.
    let on : is_clustering c.args.flags ≡ true = search rules in
    let e = c.in_ok-optimize.ensures in
    subst (λ (ran : Bool). RanIf ran c.args.flags boxes Cluster c.args.lp.now c.optimize.new.lp c.args.ex.now c.args.ex.now c.args.root 0) (sym on)
    (record {
      follows = (record { refines = e.refines; keeps = e.keeps; clustered = e.at_rest; stays = e.stays; few = e.few; shared = e.shared; exact = e.clustered }, refl);
      in_place = e.in_place;
    })

pub returns-else-cluster_with_columns-clause-passed : goal.returns-else-cluster_with_columns-clause-passed
returns-else-cluster_with_columns-clause-passed c = λ boxes.
    let off : is_clustering c.args.flags ≡ false = search rules in
    subst (λ (ran : Bool). RanIf ran c.args.flags boxes Cluster c.args.lp.now c.args.lp.now c.args.ex.now c.args.ex.now c.args.root 0) (sym off) (refl, refl)
