use Rattle.plan_round_trip.proofs.Documents.{text_said}
use Rattle.plan_round_trip.proofs.Plans.{plan_again}
use Rattle.plan_round_trip.proofs.Renumbered.{renumbered_said}
use Rattle.plan_round_trip.proofs.laws.renumbered_plans_of_documents_read_back.Goals as goal

pub returns : goal.returns
returns c = λ bytes doc copy read plan anew few_nodes few_exprs. plan_again copy.lp copy.ex copy.root (renumbered_said doc.lp doc.ex doc.root copy plan anew few_nodes few_exprs (text_said bytes doc read))
