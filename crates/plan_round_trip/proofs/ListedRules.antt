-- What the rules make of plans is read again of what is written for it, but for their columns.
use Rattle.std.proofs.Common.{◌<◌, ◌^◌, ℕ, true, false, List, [], ◌∷◌, refl, sym, ap, subst, arith}
use Rattle.std.proofs.lemmas.Bool.{lt-ltb}
use Rattle.std.specs.List.{AllByRecursion}
use Rattle.plan_core.specs.declared.options.FileScanOptions.{FileScanOptions}
use Rattle.plan_options.specs.declared.union.UnionOptions.{UnionOptions}
use Rattle.plan_tree.specs.Rose.{Roses, rose, no_roses, more, items}
use Rattle.plan_tree.proofs.JoinLemmas.{items-join}
use Rattle.plan_ir.specs.Plans.{Op, Plan, cache, scan, simple_projection, union}
use Rattle.plan_meaning.specs.Marks.{unmarked, unmarked_all, unmarked_op}
use Rattle.plan_pass_laws.specs.declared.kind.RuleKind.{RuleKind}
use Rattle.plan_pass_laws.specs.AnswerCases.{Answered, projected, on_projection, left_out, on_cache, flattened, unfiltered}
use Rattle.plan_pass_laws.specs.Answers.{all_taken_up, hits_of}
use Rattle.plan_pass_laws.specs.Walks.{AllWalk, Until, UntilAll, Walks, more_walks, no_walk, once_more, still, walks}
use Rattle.plan_pass_laws.proofs.AnswerViews.{answered}
use Rattle.plan_reshape.specs.Walking.{Rounds, no_round, one_more_round}
use Rattle.plan_round_trip.proofs.ListedParts.{RestTold}
use Rattle.plan_round_trip.proofs.ListedTrees.{AreTold, IsTold, first_told, one_more, rest_told}
use Rattle.plan_doc_parts.specs.Parts.{number_of}
use Rattle.plan_round_trip.proofs.Told.{ToldNumber}
use Rattle.plan_round_trip.proofs.Trees.{all_append, all_first, all_second}

-- ---- marks

mark_told : (op : Op) → RestTold op → RestTold (unmarked_op op)
mark_told (scan from info hive predicate output kind options) t = (t.0, t.1, t.2, record { slice = t.3.slice; row = t.3.row; rest = ap (λ (o : FileScanOptions). record o { rechunk = false }) t.3.rest }, t.4)
mark_told (union options) t = (t.0, ap (λ (o : UnionOptions). record o { rechunk = false }) t.1)
mark_told op t = t

unmark_told : (op : Op) → RestTold (unmarked_op op) → RestTold op
unmark_told (scan from info hive predicate output kind options) t = (t.0, t.1, t.2, record { slice = t.3.slice; row = t.3.row; rest = ap (λ (o : FileScanOptions). record o { rechunk = options.rechunk }) t.3.rest }, t.4)
unmark_told (union options) t = (t.0, ap (λ (o : UnionOptions). record o { rechunk = options.rechunk }) t.1)
unmark_told op t = t

all_marks_told : (ts : Roses (Unit {0}) Op) → AreTold ts → AreTold (unmarked_all ts)
all_marks_told no_roses a = tt
all_marks_told (more (rose n op kids) rest) a =
    (mark_told op a.0, all_append RestTold (items (unmarked_all kids)) (items (unmarked_all rest)) (all_marks_told kids (all_first RestTold (items kids) (items rest) a.1)) (all_marks_told rest (all_second RestTold (items kids) (items rest) a.1)))

all_unmarked_told : (ts : Roses (Unit {0}) Op) → AreTold (unmarked_all ts) → AreTold ts
all_unmarked_told no_roses a = tt
all_unmarked_told (more (rose n op kids) rest) a =
    (unmark_told op a.0, all_append RestTold (items kids) (items rest) (all_unmarked_told kids (all_first RestTold (items (unmarked_all kids)) (items (unmarked_all rest)) a.1)) (all_unmarked_told rest (all_second RestTold (items (unmarked_all kids)) (items (unmarked_all rest)) a.1)))

unmarked_told : (p : Plan) → IsTold p → IsTold (unmarked p)
unmarked_told (rose n op ts) t = (mark_told op t.0, all_marks_told ts t.1)

told_unmarked : (p : Plan) → IsTold (unmarked p) → IsTold p
told_unmarked (rose n op ts) t = (unmark_told op t.0, all_unmarked_told ts t.1)

-- ---- answers

few_told : (n : ℕ) → n < 2 ^ 32 → ToldNumber n
unfolding number_of
few_told n h = rw (lt-ltb n (2 ^ 32) h) refl

hits_told : (h k : ℕ) → ToldNumber (hits_of h k)
hits_told h k = few_told (hits_of h k) (omega arith)

taken_told : (ts : Roses (Unit {0}) Op) → AreTold ts → AreTold (all_taken_up ts)
taken_told no_roses a = tt
taken_told (more (rose n (union options) us) rest) a =
    subst (AllByRecursion RestTold) (sym (items-join us (all_taken_up rest)))
    (all_append RestTold (items us) (items (all_taken_up rest)) (first_told (rose n (union options) us) rest a).1 (taken_told rest (rest_told (rose n (union options) us) rest a)))
taken_told (more (rose n op us) rest) a = one_more (rose n op us) (all_taken_up rest) (first_told (rose n op us) rest a) (taken_told rest (rest_told (rose n op us) rest a))

answer_told : (p q : Plan) → Answered p q → IsTold p → IsTold q
answer_told _ _ (projected e) t = (tt, t.1)
answer_told _ _ (on_projection {ds = ds} {us = us}) t = (tt, (first_told (rose tt (simple_projection ds) us) no_roses t.1).1)
answer_told _ _ (left_out {p = p} e) t = first_told p no_roses t.1
answer_told _ _ (on_cache {h = h} {j = j} {k = k} {us = us}) t = let inner = first_told (rose tt (cache j k) us) no_roses t.1 in ((inner.0.0, hits_told h k), inner.1)
answer_told _ _ (flattened {options = options} {ts = ts} e) t = ((t.0.0, ap (λ (o : UnionOptions). record o { flattened_by_opt = true }) t.0.1), taken_told ts t.1)
answer_told _ _ (unfiltered {p = p} e) t = first_told p no_roses t.1

-- ---- walks

until_told : (k : RuleKind) (p q : Plan) → Until k p q → IsTold p → IsTold q
until_told k p _ (still e) t = t
until_told k p q (once_more {r = r} e u) t = until_told k r q u (answer_told p r (answered k p r e) t)

all_until_told : (ks : List RuleKind) (p q : Plan) → UntilAll ks p q → IsTold p → IsTold q
all_until_told [] p q u t = subst IsTold u t
all_until_told (k ∷ ks) p q u t = all_until_told ks u.0 q u.2 (until_told k p u.0 u.1 t)

mutual
  walks_told : (ks : List RuleKind) (p q : Plan) → Walks ks p q → IsTold p → IsTold q
  walks_told ks p _ (walks {op = o} {ts = ts} {us = us} u below) t = let top = all_until_told ks p (rose tt o ts) u t in (top.0, all_walks_told ks ts us below top.1)

  all_walks_told : (ks : List RuleKind) (ps qs : Roses (Unit {0}) Op) → AllWalk ks ps qs → AreTold ps → AreTold qs
  all_walks_told ks _ _ no_walk a = tt
  all_walks_told ks _ _ (more_walks {p = p} {q = q} {ps = ps} {qs = qs} w others) a = one_more q qs (walks_told ks p q w (first_told p ps a)) (all_walks_told ks ps qs others (rest_told p ps a))

pub rounds_told : (ks : List RuleKind) (p q : Plan) → Rounds ks p q → IsTold p → IsTold q
rounds_told ks p _ no_round t = t
rounds_told ks p q (one_more_round {r = r} s w) t = told_unmarked q (walks_told ks (unmarked r) (unmarked q) w (unmarked_told r (rounds_told ks p r s t)))
