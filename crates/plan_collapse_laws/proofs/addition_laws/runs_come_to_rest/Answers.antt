use Rattle.plan_collapse_laws.proofs.Links.{look_moves, rested_end, rested_look, rested_still}
use Rattle.plan_collapse_laws.proofs.addition_laws.runs_come_to_rest.Goals as goal

pub returns-clause-moves : goal.returns-clause-moves
returns-clause-moves c = λ ks. look_moves ks

pub returns-clause-still : goal.returns-clause-still
returns-clause-still c = λ ks e. rested_still ks e

pub returns-clause-ends : goal.returns-clause-ends
returns-clause-ends c = λ ks. rested_end ks

pub returns-clause-first : goal.returns-clause-first
returns-clause-first c = λ ks. rested_look ks
