use Rattle.std.proofs.Common.{◌∙◌, ◌∷◌, [], ap, get_or, map, refl, sym, take}
use Rattle.std.proofs.lemmas.List.{map-append, take_more}
use Rattle.plan_collapse_laws.specs.TakenKeys.{operators_of}
use Rattle.plan_collapse.specs.KeysAt.{pair_at}
use Rattle.plan_collapse.proofs.named.operators_of.Goals as goal

pub loop-key-preserved : goal.loop-key-preserved
loop-key-preserved c = λ ex j.
    c.with_one-told.ensures (map (pair_at ex j) (take c.loop-key.key-index c.args.keys.now)) (pair_at ex j (get_or c.args.keys.now c.loop-key.key-index _)) refl (c.loop-key.invariant ex j)
    ∙ ap operators_of (sym (ap (map (pair_at ex j)) (take_more c.args.keys.now c.loop-key.key-index _ c.loop-key-test.true) ∙ map-append (pair_at ex j) (take c.loop-key.key-index c.args.keys.now) (get_or c.args.keys.now c.loop-key.key-index _ ∷ [])))
