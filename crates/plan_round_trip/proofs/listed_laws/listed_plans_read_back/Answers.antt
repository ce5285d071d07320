use Rattle.plan_round_trip.proofs.Documents.{text_said}
use Rattle.plan_round_trip.proofs.Plans.{plan_again}
use Rattle.plan_round_trip.proofs.Renumbered.{plan_told, told_said}
use Rattle.plan_round_trip.proofs.Listed.{told_answer}
use Rattle.plan_round_trip.proofs.listed_laws.listed_plans_read_back.Goals as goal

pub returns : goal.returns
returns c = λ boxes bytes text doc listing own read plan.
    let copy = listing.lists.plan in
    let anew = listing.lists.renumbered in
    let given = plan_told doc.lp doc.ex doc.root plan (text_said bytes doc read) in
    let told = told_answer doc.flags boxes doc.lp listing.nodes doc.ex listing.exprs doc.root copy listing.steps own given listing.chain anew listing.promised.refines.valid in
    plan_again copy.lp copy.ex copy.root (told_said listing.nodes listing.exprs doc.root copy anew listing.lists.few_nodes listing.lists.few_exprs told)
