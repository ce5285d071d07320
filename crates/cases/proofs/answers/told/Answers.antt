use Rattle.std.proofs.Common.{◌≡◌, ◌≢◌, ℕ, List, [], ◌∷◌, ap, refl, rules, string_bytes}
use Rattle.plan_tool.specs.declared.status.Status.TheVariants.{OutOfMemory, WriteFault}
use Rattle.plan_tool.specs.Statuses.{code_of}
use Rattle.cases.proofs.EndingLemmas.{may_end}
use Rattle.cases.proofs.answers.told.Goals as goal

pub returns : goal.returns
returns c =
    let coded : c.code.result ≡ code_of c.run.result = search rules in
    let memory : c.run.result ≢ OutOfMemory = search rules in
    let room : c.run.result ≢ WriteFault = search rules in
    let word : string_bytes c.in_ok-from_str.field-0 ≡ c.args.command.now = search rules in
    let given : c.new-source.result.left ≡ c.args.document.now = search rules in
    let held : c.in_ok-sink.sink.held ≡ [] = search rules in
    let before : c.in_ok-sink.sink.faults ≡ 0 = search rules in
    let none : c.new-extra.result.items ≡ [] = search rules in
    may_end _ c.args.command.now c.args.document.now c.run.result c.code.result (string_bytes c.in_ok-from_str.field-0 ∷ [])
    c.new-source.result.left c.run.new.source.left c.in_ok-sink.sink.held c.run.new.sink.held c.run.new.sink.clean c.in_ok-sink.sink.faults c.run.new.sink.faults
    coded memory room (ap (λ (b : List ℕ). b ∷ []) word) given held before (rw none refl) c.run.ensures.comes
