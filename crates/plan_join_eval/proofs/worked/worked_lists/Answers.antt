use Rattle.std.proofs.Common.{◌≡◌, ◌∙◌, [], ℕ, Bool, List, map, ap}
use Rattle.std.specs.List.{filter as only_where}
use Rattle.std.proofs.lemmas.Result.{IfOk-weaker}
use Rattle.plan_core.specs.Names.{with_names}
use Rattle.plan_expr.specs.Exprs.{expr_at}
use Rattle.plan_expr.specs.Leaves.{leaves}
use Rattle.plan_join.specs.Joined.{joined}
use Rattle.plan_join.specs.declared.pairs.RowPair.{RowPair}
use Rattle.plan_value.specs.Shown.{frame_of}
use Rattle.plan_join_eval.specs.Compared.{condition_test, sided}
use Rattle.plan_join_eval.specs.Reads.{is_beside_true, is_read, read_column}
use Rattle.plan_join_eval.proofs.CompareLemmas.{lists-same}
use Rattle.plan_join_eval.proofs.ReadLemmas.{worked-same}
use Rattle.plan_join_eval.proofs.worked.worked_lists.Goals as goal

pub returns : goal.returns
returns c =
    let ex = c.args.ex.now in
    let args = c.args.args.now in
    let f = frame_of c.args.left.now in
    let g = frame_of c.args.right.now in
    let b = c.args.by_right in
    let k = c.args.others in
    let e = expr_at ex c.args.condition in
    let reads = c.as_slice.result.now in
    let p : ℕ → ℕ → Bool = λ (i : ℕ). is_beside_true b e reads i k in
    let q : ℕ → ℕ → Bool = sided b (condition_test ex args c.args.condition f g) in
    let columns : (ps : List RowPair) → map (read_column ps) reads ≡ only_where (is_read (with_names [] (leaves e))) (joined args [] [] ps f g).columns =
    λ (ps : List RowPair). ap (map (read_column ps)) c.as_slice.ensures ∙ c.in_ok-reads.ensures.columns ps
    in
    IfOk-weaker c.lists_where.result _ _
    (λ lists are. lists-same p q c.args.height k lists.items (λ i j below. worked-same ex args c.args.condition f g reads c.requires.by_row columns b i k j below) are)
    c.lists_where.ensures
