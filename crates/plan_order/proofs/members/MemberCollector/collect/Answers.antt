use Rattle.std.proofs.Common.{◌≡◌, ◌∙◌, ◌||◌, Bool, List, ap, refl, subst, sym}
use Rattle.std.specs.List.{AllByRecursion, list_any}
use Rattle.plan_core.specs.declared.arena.Node.{Node}
use Rattle.plan_tree.specs.Rose.{Roses}
use Rattle.plan_ir.specs.declared.ir.IR.{IR}
use Rattle.plan_ir.specs.Plans.{Op, op_at}
use Rattle.plan_ir.specs.Walks.{nodes_from}
use Rattle.plan_order.specs.Members.{is_cache, is_filter_on_cross, filters_cross, is_group_by, is_join_or_union, is_sort, is_distinct}
use Rattle.plan_order.proofs.MemberLemmas.{Within, any-members, filters-same, noted, noted-all, within-walk}
use Rattle.plan_order.proofs.members.MemberCollector.collect.Goals as goal

pub loop-entry-init : goal.loop-entry-init
loop-entry-init c =
    let is : c.into_iter-entry-iterator.result ≡ nodes_from c.args.lp.now c.args.root = c.into_iter-entry-iterator.ensures.into_iter_gives ∙ c.in_ok-items.ensures.walk in (
      tt,
      tt,
      subst (AllByRecursion (Within c.args.lp.now)) (sym is) (within-walk c.args.lp.now c.args.root c.requires),
      λ ex. ap (λ (qs : List (Node × IR)). c.args.self.now.has_joins_or_unions || list_any (λ (q : Node × IR). is_join_or_union (op_at ex q.1)) qs) is,
      λ ex. ap (λ (qs : List (Node × IR)). c.args.self.now.has_cache || list_any (λ (q : Node × IR). is_cache (op_at ex q.1)) qs) is,
      ap (λ (qs : List (Node × IR)). c.args.self.now.has_filter_with_join_input || list_any (λ (q : Node × IR). filters_cross c.args.lp.now q.1) qs) is,
      λ ex. ap (λ (qs : List (Node × IR)). c.args.self.now.has_distinct || list_any (λ (q : Node × IR). is_distinct (op_at ex q.1)) qs) is,
      λ ex. ap (λ (qs : List (Node × IR)). c.args.self.now.has_sort || list_any (λ (q : Node × IR). is_sort (op_at ex q.1)) qs) is,
      λ ex. ap (λ (qs : List (Node × IR)). c.args.self.now.has_group_by || list_any (λ (q : Node × IR). is_group_by (op_at ex q.1)) qs) is,
    )

pub note-requires : goal.note-requires
note-requires c = (subst (AllByRecursion (Within c.args.lp.now)) c.in-Some.ensures.steps c.loop-entry.invariant.2).0

pub loop-entry-preserved : goal.loop-entry-preserved
loop-entry-preserved c =
    let first : Node × IR = (c.in-Some.field-0-0, c.in-Some.entry.now) in
    let whole = c.in-Some.ensures.steps in (
      tt,
      tt,
      (subst (AllByRecursion (Within c.args.lp.now)) whole c.loop-entry.invariant.2).1,
      λ ex. noted (λ (q : Node × IR). is_join_or_union (op_at ex q.1)) c.loop-entry.self.has_joins_or_unions c.note.new.self.has_joins_or_unions (c.args.self.now.has_joins_or_unions || list_any (λ (q : Node × IR). is_join_or_union (op_at ex q.1)) (nodes_from c.args.lp.now c.args.root)) first c.next.new.self c.loop-entry.entry-iterator whole (c.note.ensures.joins_or_unions ex) (c.loop-entry.invariant.3 ex),
      λ ex. noted (λ (q : Node × IR). is_cache (op_at ex q.1)) c.loop-entry.self.has_cache c.note.new.self.has_cache (c.args.self.now.has_cache || list_any (λ (q : Node × IR). is_cache (op_at ex q.1)) (nodes_from c.args.lp.now c.args.root)) first c.next.new.self c.loop-entry.entry-iterator whole (c.note.ensures.cache ex) (c.loop-entry.invariant.4 ex),
      noted (λ (q : Node × IR). filters_cross c.args.lp.now q.1) c.loop-entry.self.has_filter_with_join_input c.note.new.self.has_filter_with_join_input (c.args.self.now.has_filter_with_join_input || list_any (λ (q : Node × IR). filters_cross c.args.lp.now q.1) (nodes_from c.args.lp.now c.args.root)) first c.next.new.self c.loop-entry.entry-iterator whole c.note.ensures.filter_with_join_input c.loop-entry.invariant.5,
      λ ex. noted (λ (q : Node × IR). is_distinct (op_at ex q.1)) c.loop-entry.self.has_distinct c.note.new.self.has_distinct (c.args.self.now.has_distinct || list_any (λ (q : Node × IR). is_distinct (op_at ex q.1)) (nodes_from c.args.lp.now c.args.root)) first c.next.new.self c.loop-entry.entry-iterator whole (c.note.ensures.distinct ex) (c.loop-entry.invariant.6 ex),
      λ ex. noted (λ (q : Node × IR). is_sort (op_at ex q.1)) c.loop-entry.self.has_sort c.note.new.self.has_sort (c.args.self.now.has_sort || list_any (λ (q : Node × IR). is_sort (op_at ex q.1)) (nodes_from c.args.lp.now c.args.root)) first c.next.new.self c.loop-entry.entry-iterator whole (c.note.ensures.sort ex) (c.loop-entry.invariant.7 ex),
      λ ex. noted (λ (q : Node × IR). is_group_by (op_at ex q.1)) c.loop-entry.self.has_group_by c.note.new.self.has_group_by (c.args.self.now.has_group_by || list_any (λ (q : Node × IR). is_group_by (op_at ex q.1)) (nodes_from c.args.lp.now c.args.root)) first c.next.new.self c.loop-entry.entry-iterator whole (c.note.ensures.group_by ex) (c.loop-entry.invariant.8 ex),
    )

pub returns-clause-joins_or_unions : goal.returns-clause-joins_or_unions
returns-clause-joins_or_unions c = λ ex.
    noted-all (λ (q : Node × IR). is_join_or_union (op_at ex q.1)) c.loop-entry.self.has_joins_or_unions (c.args.self.now.has_joins_or_unions || list_any (λ (q : Node × IR). is_join_or_union (op_at ex q.1)) (nodes_from c.args.lp.now c.args.root)) c.loop-entry.entry-iterator c.in-None.ensures.steps.0 (c.loop-entry.invariant.3 ex)
    ∙ ap (λ (b : Bool). c.args.self.now.has_joins_or_unions || b) (any-members c.args.lp.now ex (λ (p : IR). is_join_or_union (op_at ex p)) (λ (op : Op) (below : Roses (Unit {0}) Op). is_join_or_union op) (λ p kids h. refl) c.args.root c.requires)

pub returns-clause-cache : goal.returns-clause-cache
returns-clause-cache c = λ ex.
    noted-all (λ (q : Node × IR). is_cache (op_at ex q.1)) c.loop-entry.self.has_cache (c.args.self.now.has_cache || list_any (λ (q : Node × IR). is_cache (op_at ex q.1)) (nodes_from c.args.lp.now c.args.root)) c.loop-entry.entry-iterator c.in-None.ensures.steps.0 (c.loop-entry.invariant.4 ex)
    ∙ ap (λ (b : Bool). c.args.self.now.has_cache || b) (any-members c.args.lp.now ex (λ (p : IR). is_cache (op_at ex p)) (λ (op : Op) (below : Roses (Unit {0}) Op). is_cache op) (λ p kids h. refl) c.args.root c.requires)

pub returns-clause-filter_with_join_input : goal.returns-clause-filter_with_join_input
returns-clause-filter_with_join_input c = λ ex.
    noted-all (λ (q : Node × IR). filters_cross c.args.lp.now q.1) c.loop-entry.self.has_filter_with_join_input (c.args.self.now.has_filter_with_join_input || list_any (λ (q : Node × IR). filters_cross c.args.lp.now q.1) (nodes_from c.args.lp.now c.args.root)) c.loop-entry.entry-iterator c.in-None.ensures.steps.0 c.loop-entry.invariant.5
    ∙ ap (λ (b : Bool). c.args.self.now.has_filter_with_join_input || b) (any-members c.args.lp.now ex (filters_cross c.args.lp.now) is_filter_on_cross (filters-same c.args.lp.now ex) c.args.root c.requires)

pub returns-clause-distinct : goal.returns-clause-distinct
returns-clause-distinct c = λ ex.
    noted-all (λ (q : Node × IR). is_distinct (op_at ex q.1)) c.loop-entry.self.has_distinct (c.args.self.now.has_distinct || list_any (λ (q : Node × IR). is_distinct (op_at ex q.1)) (nodes_from c.args.lp.now c.args.root)) c.loop-entry.entry-iterator c.in-None.ensures.steps.0 (c.loop-entry.invariant.6 ex)
    ∙ ap (λ (b : Bool). c.args.self.now.has_distinct || b) (any-members c.args.lp.now ex (λ (p : IR). is_distinct (op_at ex p)) (λ (op : Op) (below : Roses (Unit {0}) Op). is_distinct op) (λ p kids h. refl) c.args.root c.requires)

pub returns-clause-sort : goal.returns-clause-sort
returns-clause-sort c = λ ex.
    noted-all (λ (q : Node × IR). is_sort (op_at ex q.1)) c.loop-entry.self.has_sort (c.args.self.now.has_sort || list_any (λ (q : Node × IR). is_sort (op_at ex q.1)) (nodes_from c.args.lp.now c.args.root)) c.loop-entry.entry-iterator c.in-None.ensures.steps.0 (c.loop-entry.invariant.7 ex)
    ∙ ap (λ (b : Bool). c.args.self.now.has_sort || b) (any-members c.args.lp.now ex (λ (p : IR). is_sort (op_at ex p)) (λ (op : Op) (below : Roses (Unit {0}) Op). is_sort op) (λ p kids h. refl) c.args.root c.requires)

pub returns-clause-group_by : goal.returns-clause-group_by
returns-clause-group_by c = λ ex.
    noted-all (λ (q : Node × IR). is_group_by (op_at ex q.1)) c.loop-entry.self.has_group_by (c.args.self.now.has_group_by || list_any (λ (q : Node × IR). is_group_by (op_at ex q.1)) (nodes_from c.args.lp.now c.args.root)) c.loop-entry.entry-iterator c.in-None.ensures.steps.0 (c.loop-entry.invariant.8 ex)
    ∙ ap (λ (b : Bool). c.args.self.now.has_group_by || b) (any-members c.args.lp.now ex (λ (p : IR). is_group_by (op_at ex p)) (λ (op : Op) (below : Roses (Unit {0}) Op). is_group_by op) (λ p kids h. refl) c.args.root c.requires)
