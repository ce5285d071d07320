use Rattle.std.proofs.Common.{◌≡◌, ◌<◌, ◌||◌, length, Some, List}
use Rattle.std.specs.List.{AllByRecursion, list_any}
use Rattle.plan_core.specs.declared.arena.Node.{Node}
use Rattle.plan_expr.specs.declared.aexpr.AExpr.{AExpr}
use Rattle.plan_ir.specs.declared.ir.IR.{IR}
use Rattle.plan_ir.specs.Plans.{op_at}
use Rattle.plan_ir.specs.Walks.{nodes_from}
use Rattle.plan_order.specs.Members.{is_cache, filtered, filters_cross, is_group_by, is_join_or_union, is_sort, is_distinct}
use Rattle.plan_order.proofs.members.MemberCollector.collect.Given as goal

-- what was noted, with what is left, is what was there before, with all nodes
abbrev pub invariant-loop-entry : goal.invariant-loop-entry
invariant-loop-entry l =
    (goal.iterator-loop-entry).can_next l.entry-iterator
    × (goal.iterator-loop-entry).is_finite l.entry-iterator
    × AllByRecursion (λ (q : Node × IR). (i : Node) → filtered q.1 ≡ Some i → i.0 < length l.lp) l.entry-iterator
    × ((ex : List AExpr) → (l.self.has_joins_or_unions || list_any (λ (q : Node × IR). is_join_or_union (op_at ex q.1)) l.entry-iterator) ≡ (l.initial.self.has_joins_or_unions || list_any (λ (q : Node × IR). is_join_or_union (op_at ex q.1)) (nodes_from l.lp l.fn.root)))
    × ((ex : List AExpr) → (l.self.has_cache || list_any (λ (q : Node × IR). is_cache (op_at ex q.1)) l.entry-iterator) ≡ (l.initial.self.has_cache || list_any (λ (q : Node × IR). is_cache (op_at ex q.1)) (nodes_from l.lp l.fn.root)))
    × ((l.self.has_filter_with_join_input || list_any (λ (q : Node × IR). filters_cross l.lp q.1) l.entry-iterator) ≡ (l.initial.self.has_filter_with_join_input || list_any (λ (q : Node × IR). filters_cross l.lp q.1) (nodes_from l.lp l.fn.root)))
    × ((ex : List AExpr) → (l.self.has_distinct || list_any (λ (q : Node × IR). is_distinct (op_at ex q.1)) l.entry-iterator) ≡ (l.initial.self.has_distinct || list_any (λ (q : Node × IR). is_distinct (op_at ex q.1)) (nodes_from l.lp l.fn.root)))
    × ((ex : List AExpr) → (l.self.has_sort || list_any (λ (q : Node × IR). is_sort (op_at ex q.1)) l.entry-iterator) ≡ (l.initial.self.has_sort || list_any (λ (q : Node × IR). is_sort (op_at ex q.1)) (nodes_from l.lp l.fn.root)))
    × ((ex : List AExpr) → (l.self.has_group_by || list_any (λ (q : Node × IR). is_group_by (op_at ex q.1)) l.entry-iterator) ≡ (l.initial.self.has_group_by || list_any (λ (q : Node × IR). is_group_by (op_at ex q.1)) (nodes_from l.lp l.fn.root)))
