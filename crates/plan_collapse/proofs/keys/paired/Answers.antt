use Rattle.std.proofs.Common.{◌∙◌, ap, option_map}
use Rattle.plan_collapse.specs.KeysAt.{pair_at}
use Rattle.plan_collapse.proofs.KeyLemmas.{keys-places, paired-by}
use Rattle.plan_collapse.proofs.keys.paired.Goals as goal

pub returns-clause-keys : goal.returns-clause-keys
returns-clause-keys c = λ j h.
    ap (option_map (pair_at c.args.ex.now j)) c.pair_of.ensures
    ∙ paired-by c.args.ex.now j c.in_ok-first.first c.in_ok-second.second c.args.left c.args.right c.args.op (c.in_ok-first.ensures j h) (c.in_ok-second.ensures j h)

pub returns-clause-place : goal.returns-clause-place
returns-clause-place c = keys-places c.args.ex.now c.in_ok-first.first c.in_ok-second.second c.args.left c.args.right c.args.op c.pair_of.result c.pair_of.ensures
