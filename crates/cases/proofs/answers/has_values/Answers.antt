use Rattle.std.proofs.Common.{◌≡◌, ◌↔◌, IsTrue, subst, List, ℕ}
use Rattle.std.proofs.lemmas.Result.{IfOk-weaker}
use Rattle.cases.specs.Endings.{HasText, rows_text}
use Rattle.cases.proofs.answers.has_values.Goals as goal

-- the ending is that of the call, and its bytes are those of the sink
pub returns : goal.returns
returns c =
    IfOk-weaker c.has_rows.result _ _ (λ right h.
    (c.in_ok-code.code, c.in_ok-code.sink.held, c.in_ok-code.ensures, subst (λ (bytes : List ℕ). IsTrue right ↔ (c.in_ok-code.code ≡ 0) × HasText bytes (rows_text c.args.dtype.now c.args.values.now)) c.bytes.ensures h)) c.has_rows.ensures
