use Rattle.plan_collapse_laws.proofs.Splits.{split_holds, taken_few}
use Rattle.plan_collapse_laws.proofs.join_laws.expressions_hold_where_taken_keys_match.Goals as goal

pub returns-clause-split : goal.returns-clause-split
returns-clause-split c = λ keys test own n es h. split_holds keys test own n es h

pub returns-clause-few : goal.returns-clause-few
returns-clause-few c = λ keys n es. taken_few keys n es
