use Rattle.cases.specs.Words.IsSet.{defined}
use Rattle.cases.proofs.words.Words.set_line.Goals as goal

pub returns-in-Some : goal.returns-in-Some
returns-in-Some c = defined c.in-Some.word.now c.in-Some.text.now c.in-Some.ensures.parts c.set.ensures.known c.set.ensures.texts
