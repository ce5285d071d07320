use Rattle.std.proofs.Common.{◌≡◌, rules}
use Rattle.plan_text.specs.Written.{error_text}
use Rattle.plan_tool.specs.Answers.{AnswersBytes}
use Rattle.plan_tool.proofs.AnswerLemmas.{answered_bytes, told}
use Rattle.plan_tool.proofs.program.obey.Goals as goal

pub returns-in-Ok-write_fault-clause-follows : goal.returns-in-Ok-write_fault-clause-follows
returns-in-Ok-write_fault-clause-follows g c =
    let says : c.as_bytes-in-Ok-write_fault.result.now ≡ error_text c.in-Err-Fault.fault = search rules in
    told _ _ _ c.in-Ok.bytes.items c.as_bytes-in-Ok-write_fault.result.now c.in-Err-Fault.fault c.finish-in-Ok-write_fault.result (c.in-Ok.ensures.ended, c.in-Ok.ensures.unfailed (search rules)) c.in-Ok.ensures.whole c.in-Ok.ensures.fits (search rules) says c.finish-in-Ok-write_fault.ensures

pub returns-in-Ok-answer-clause-follows : goal.returns-in-Ok-answer-clause-follows
returns-in-Ok-answer-clause-follows g c =
    let answers : AnswersBytes _ c.args.command c.in-Ok.bytes.items c.as_bytes.result.now = search rules in
    answered_bytes _ _ _ c.in-Ok.bytes.items c.as_bytes.result.now c.finish.result (c.in-Ok.ensures.ended, c.in-Ok.ensures.unfailed (search rules)) c.in-Ok.ensures.whole c.in-Ok.ensures.fits answers c.finish.ensures
