use Rattle.cases.proofs.WordLemmas.{cut_first, lacks_mark}
use Rattle.cases.proofs.words.cut.Goals as goal

pub returns-clause-parts : goal.returns-clause-parts
returns-clause-parts c = cut_first c.args.mark.now c.args.text.now c.split_once.result c.split_once.ensures.cases

pub returns-clause-none : goal.returns-clause-none
returns-clause-none c = lacks_mark c.args.mark.now c.args.text.now c.split_once.result c.split_once.ensures.cases
