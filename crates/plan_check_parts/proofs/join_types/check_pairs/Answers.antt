use Rattle.std.proofs.Common.{◌≡◌, ◌∙◌, ◌+◌, List, length, ap, sym, true, false, Some}
use Rattle.plan_core.specs.declared.error.At.{At}
use Rattle.plan_core.specs.declared.error.PolarsError.TheVariants.{SchemaMismatch}
use Rattle.plan_expr.specs.Exprs.{all_named_at, named_at, Named}
use Rattle.plan_schema.proofs.CheckLemmas.{at-capped}
use Rattle.plan_check_parts.proofs.MadeLemmas.{stands_here}
use Rattle.plan_check_parts.proofs.PairFaults.{are_typed, key_here, keys_behind, pairs-alone, pairs-bad, pairs-end, pairs-next}
use Rattle.plan_check_parts.proofs.join_types.check_pairs.Goals.{in-Some+else-not-is_typed_pair, in_default}
use Rattle.plan_check_parts.proofs.join_types.check_pairs.Goals as goal

pub is_typed_pair-requires-clause-left_key : goal.is_typed_pair-requires-clause-left_key
is_typed_pair-requires-clause-left_key c = stands_here c.args.ex.now c.args.left_on.now c.loop-i.i c.in-Some.key.now c.requires.left_keys c.in-Some.ensures.lookup.3.0 c.in-Some.ensures.lookup.1

pub is_typed_pair-requires-clause-right_key : goal.is_typed_pair-requires-clause-right_key
is_typed_pair-requires-clause-right_key c = stands_here c.args.ex.now c.args.right_on.now c.loop-i.i c.index-right_on-i.result c.requires.right_keys c.loop-i-test.true c.index-right_on-i.is

pub returns-then-not-is_typed_pair : goal.returns-then-not-is_typed_pair
returns-then-not-is_typed_pair c =
    let ex = c.args.ex.now in
    let place = 1 + length c.args.left_on.now in
    let left = key_here ex c.args.left_on.now c.loop-i.i c.in-Some.key.now c.in-Some.ensures.lookup.3.0 c.in-Some.ensures.lookup.1 in
    let right = key_here ex c.args.right_on.now c.loop-i.i c.index-right_on-i.result c.loop-i-test.true c.index-right_on-i.is in
    let bad : are_typed c.args.how c.args.left.now c.args.right.now (named_at ex c.in-Some.key.now) (named_at ex c.index-right_on-i.result) ≡ false = sym {b = are_typed c.args.how c.args.left.now c.args.right.now (named_at ex c.in-Some.key.now) (named_at ex c.index-right_on-i.result)} c.is_typed_pair.ensures ∙ c.if-not-is_typed_pair.true in
    pairs-bad c.args.node c.args.how place c.args.left.now c.args.right.now (all_named_at ex c.args.left_on.now) (all_named_at ex c.args.right_on.now) c.loop-i.i (named_at ex c.in-Some.key.now) (named_at ex c.index-right_on-i.result) c.loop-i.invariant left right bad
    ∙ ap (λ (a : At). Some (SchemaMismatch a)) (sym (c.at.ensures ∙ at-capped c.args.node c.saturating_add.result (place + c.loop-i.i) c.saturating_add.ensures))

pub loop-i-preserved : goal.loop-i-preserved
loop-i-preserved c =
    let ex = c.args.ex.now in
    let place = 1 + length c.args.left_on.now in
    let ls : List Named = all_named_at ex c.args.left_on.now in
    let rs : List Named = all_named_at ex c.args.right_on.now in
    elim c.match-get.branch [
      | in-Some+else-not-is_typed_pair w ↦
          (let left = key_here ex c.args.left_on.now c.loop-i.i w.in-Some.key.now w.in-Some.ensures.lookup.3.0 w.in-Some.ensures.lookup.1 in
          let right = key_here ex c.args.right_on.now c.loop-i.i c.index-right_on-i.result c.loop-i-test.true c.index-right_on-i.is in
          let good : are_typed c.args.how c.args.left.now c.args.right.now (named_at ex w.in-Some.key.now) (named_at ex c.index-right_on-i.result) ≡ true = sym {b = are_typed c.args.how c.args.left.now c.args.right.now (named_at ex w.in-Some.key.now) (named_at ex c.index-right_on-i.result)} w.is_typed_pair.ensures ∙ w.if-not-is_typed_pair.false in
          pairs-next c.args.node c.args.how place c.args.left.now c.args.right.now ls rs c.loop-i.i (named_at ex w.in-Some.key.now) (named_at ex c.index-right_on-i.result) c.loop-i.invariant left right good)
      | in_default w ↦ pairs-alone c.args.node c.args.how place c.args.left.now c.args.right.now ls rs c.loop-i.i c.loop-i.invariant (keys_behind ex c.args.left_on.now c.loop-i.i w.in_default.ensures.lookup.3)
    ]

pub returns : goal.returns
returns c =
    let ex = c.args.ex.now in
    pairs-end c.args.node c.args.how (1 + length c.args.left_on.now) c.args.left.now c.args.right.now (all_named_at ex c.args.left_on.now) (all_named_at ex c.args.right_on.now) c.loop-i.i c.loop-i.invariant (keys_behind ex c.args.right_on.now c.loop-i.i c.loop-i-test.false)
