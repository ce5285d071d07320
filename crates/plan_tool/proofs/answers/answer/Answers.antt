use Rattle.std.proofs.Common.{◌≡◌, rules}
use Rattle.plan_doc.specs.Document.{doc_of, document}
use Rattle.plan_tool.specs.declared.command.Command.TheVariants.{Check}
use Rattle.plan_tool.proofs.AnswerLemmas.{said}
use Rattle.plan_tool.proofs.answers.answer.Goals as goal

pub returns-in-Check-clause-says : goal.returns-in-Check-clause-says
returns-in-Check-clause-says g c =
    let read : doc_of c.args.bytes.now ≡ document c.in_ok-document.document = search rules in
    rw c.in-Check.is (said _ Check c.in_ok-document.document c.args.bytes.now c.schema.result read (c.schema.ensures _))
