use Rattle.std.proofs.Common.{◌∙◌, ap, ap₂, sym, List, []}
use Rattle.std.specs.List.{filter as only_where}
use Rattle.plan_core.specs.Names.{with_names}
use Rattle.plan_expr.specs.Exprs.{all_named_at}
use Rattle.plan_expr.specs.Leaves.{Name}
use Rattle.plan_frame.specs.ExprLists.{all_leaves, out_names}
use Rattle.plan_collapse_laws.specs.Staying.{reads_one}
use Rattle.plan_cluster.specs.ExprNames.{expr_names}
use Rattle.plan_cluster.specs.Found.{remade_and_read}
use Rattle.plan_cluster.proofs.NameLemmas.{names-read}
use Rattle.plan_cluster.proofs.staying.first_found.Goals as goal

pub returns : goal.returns
returns c =
    let ex = c.args.ex.now in
    let lower = c.args.lower.now in
    let es = all_named_at ex c.args.upper.now in
    let readers = out_names (only_where (reads_one lower) es) in
    c.in_ok-add_remakers.ensures
    ∙ ap₂ (λ (f r : List Name). with_names f (only_where (remade_and_read lower r) (expr_names c.args.upper.now)))
    (c.in_ok-add_readers.ensures.found ∙ ap (λ (l : List Name). with_names l readers) c.new-found.ensures)
    (c.in_ok-add_readers.ensures.read ∙ ap (λ (l : List Name). with_names l (all_leaves es)) c.new-read.ensures)
    ∙ ap (λ (l : List Name). with_names (with_names [] readers) (only_where (remade_and_read lower (with_names [] (all_leaves es))) l)) (sym (names-read ex c.args.upper.now))
