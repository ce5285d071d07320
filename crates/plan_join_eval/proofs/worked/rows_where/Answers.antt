use Rattle.std.proofs.Common.{◌≡◌, ◌∙◌, List, ℕ, ap}
use Rattle.std.proofs.lemmas.Result.{IfOk-weaker}
use Rattle.plan_expr.specs.Exprs.{expr_at}
use Rattle.plan_frame.specs.Meaning.{Cell, val, value_at}
use Rattle.plan_frame.specs.Values.{is_true}
use Rattle.plan_join.specs.declared.pairs.RowPair.{RowPair}
use Rattle.plan_join.specs.Pairs.{passing}
use Rattle.plan_value.specs.Cells.{cell_of}
use Rattle.plan_join_eval.specs.Reads.{all_beside, is_beside_true, read_frame}
use Rattle.plan_join_eval.proofs.worked.rows_where.Goals as goal

pub returns : goal.returns
returns c =
    let e = expr_at c.args.ex.now c.args.condition in
    let reads = c.args.reads.now in
    let n = c.args.others in
    let of : Cell → List ℕ = λ (v : Cell). passing (λ i. is_true (value_at v i)) n in
    let pairs : c.as_slice.result.now ≡ all_beside c.args.by_right c.args.row n = c.as_slice.ensures ∙ c.in_ok-pairs.ensures in
    IfOk-weaker c.true_rows.result (λ (rows : List ℕ). rows ≡ of (cell_of c.in_ok-values.values)) (λ (rows : List ℕ). rows ≡ passing (is_beside_true c.args.by_right e reads c.args.row n) n)
    (λ rows is. is ∙ ap of (c.in_ok-values.ensures ∙ ap (λ (ps : List RowPair). val e (read_frame ps reads)) pairs))
    c.true_rows.ensures
