-- Passes over two arenas, one after another, and the steps that show what they leave.
use Rattle.std.proofs.Common.{◌≡◌, ℕ, Bool, true, false, ◌&&◌, List, [], ◌∷◌, ◌++◌, refl, sym, ap, ap₂, ◌∙◌, subst, append-nil, append_assoc}
use Rattle.plan_core.specs.declared.arena.Node.{Node}
use Rattle.plan_core.specs.declared.flags.OptFlags.{OptFlags}
use Rattle.plan_expr.specs.declared.aexpr.AExpr.{AExpr}
use Rattle.plan_ir.specs.declared.copy.PlanCopy.{PlanCopy}
use Rattle.plan_ir.specs.declared.ir.IR.{IR}
use Rattle.plan_ir.specs.Copies.{IsRenumbered}
use Rattle.plan_ir.specs.Plans.{Plan}
use Rattle.plan_meaning.specs.Caches.{AreShared}
use Rattle.plan_meaning.specs.Counting.{meets_count}
use Rattle.plan_meaning.specs.PlanAt.{one_plan, plan_at}
use Rattle.plan_meaning.specs.Relating.{Refines}
use Rattle.plan_meaning.specs.Scans.{Keeps}
use Rattle.plan_meaning.specs.Steps.{IsValid}
use Rattle.plan_pass_laws.specs.Becoming.{Becomes}
use Rattle.plan_reshape.proofs.Brings.{become_refl, become_then}
use Rattle.plan_top.specs.declared.trail.Pass.{Pass}
use Rattle.plan_top.specs.declared.trail.Pass.TheVariants as passes_of
use Rattle.plan_top.specs.declared.trail.Step.{Step}
use Rattle.plan_top.specs.Chains.{Boxes, Chain, Left, ReadsAsked, in_order, is_clustering, is_counting, is_ordering, is_pruning, only_if, passes}
use Rattle.plan_top.specs.Trails.{Chained, InPlace, KeptIf, Passed, RanIf, ShowAll, Shows, Trailed}
use Rattle.plan_top.proofs.ChainLaws.{chain_refines, chain_shared, chain_then, kept_unpruned}
use Rattle.plan_top.proofs.ChainReads.{chain_reads}

in_place_refl : (lp : List IR) (ex : List AExpr) (root : Node) → InPlace lp lp ex ex root
in_place_refl lp ex root t e s = become_refl lp ex (root ∷ []) t e (record { nodes = s.nodes; exprs = s.exprs })

in_place_then : (a b c : List IR) (x y z : List AExpr) (root : Node) → InPlace a b x y root → InPlace b c y z root → InPlace a c x z root
in_place_then a b c x y z root f g t e s =
    let p : Becomes a b x y root t e = f t e s in
    become_then a b c x y z (root ∷ []) t e p (g p.nodes p.exprs (record { nodes = p.places.stands; exprs = p.under.stands }))

show_both : (ss : List Step) (ls : List Left) (us : List Step) (ms : List Left) → ShowAll ss ls → ShowAll us ms → ShowAll (ss ++ us) (ls ++ ms)
show_both [] [] us ms h k = k
show_both (s ∷ ss) (l ∷ ls) us ms h k = (h.0, show_both ss ls us ms h.1 k)
show_both [] (l ∷ ls) us ms h k = absurd h
show_both (s ∷ ss) [] us ms h k = absurd h

-- a copy of a plan shows it
pub shows_copy : (lp : List IR) (ex : List AExpr) (root : Node) (pass : Pass) (copy : PlanCopy) (n : ℕ) → IsRenumbered lp ex root copy → Shows (record { pass = pass; plan = copy; replaced = n }) (record { pass = pass; plan = plan_at lp ex root; replaced = n })
shows_copy lp ex root pass copy n h = record {
  pass = refl;
  plan = ap one_plan h.same;
  replaced = refl;
  numbered = record {
    nodes = h.nodes;
    exprs = h.exprs;
    stands = h.stands;
    same = refl;
    first = h.first;
    nodes_in_order = h.nodes_in_order;
    exprs_in_order = h.exprs_in_order;
  };
}

module _ (flags : OptFlags) (boxes : Boxes) (root : Node) where
  -- what a pass left over two arenas
  abbrev pub left_at : Pass → List IR → List AExpr → ℕ → Left
  left_at k new grown n = record { pass = k; plan = plan_at new grown root; replaced = n }

  -- nothing was done yet
  given_passed : (lp : List IR) (ex : List AExpr) → Passed flags boxes passes_of.Given lp lp ex ex root 0
  given_passed lp ex = record { follows = (refl, refl); in_place = in_place_refl lp ex root }

  chained_one : (k : Pass) (lp new : List IR) (ex grown : List AExpr) (n : ℕ) → Passed flags boxes k lp new ex grown root n → Chained flags boxes (k ∷ []) lp new ex grown root
  chained_one k lp new ex grown n p = record { steps = left_at k new grown n ∷ []; chain = (refl, p.follows, refl); in_place = p.in_place }

  pub chained_none : (lp : List IR) (ex : List AExpr) → Chained flags boxes [] lp lp ex ex root
  chained_none lp ex = record { steps = []; chain = refl; in_place = in_place_refl lp ex root }

  chained_then : (ks ls : List Pass) (a b c : List IR) (x y z : List AExpr) → Chained flags boxes ks a b x y root → Chained flags boxes ls b c y z root → Chained flags boxes (ks ++ ls) a c x z root
  chained_then ks ls a b c x y z p q = record {
    steps = p.steps ++ q.steps;
    chain = chain_then flags boxes (plan_at a x root) ks p.steps (plan_at b y root) ls q.steps (plan_at c z root) p.chain q.chain;
    in_place = in_place_then a b c x y z root p.in_place q.in_place;
  }

  -- a pass, if it ran
  ran_chain : (ran : Bool) (k : Pass) (lp new : List IR) (ex grown : List AExpr) (n : ℕ) → RanIf ran flags boxes k lp new ex grown root n → Chained flags boxes (only_if ran k) lp new ex grown root
  ran_chain true k lp new ex grown n p = chained_one k lp new ex grown n p
  ran_chain false k lp new ex grown n p = subst (λ (x : List IR). Chained flags boxes [] lp x ex grown root) (sym p.0) (subst (λ (y : List AExpr). Chained flags boxes [] lp lp ex y root) (sym p.1) (chained_none lp ex))

  -- the given plan, and then what each pass left
  pub whole_chain : (ordering pruning counting clustering : Bool) (a b c d e f : List IR) (x y z : List AExpr) (n : ℕ) → RanIf ordering flags boxes passes_of.Order a b x x root 0 → RanIf pruning flags boxes passes_of.Prune b c x y root 0 → RanIf counting flags boxes passes_of.Count c d y y root 0 → RanIf clustering flags boxes passes_of.Cluster d e y y root 0 → Passed flags boxes passes_of.Rules e f y z root n → Chained flags boxes (in_order ordering pruning counting clustering) a f x z root
  whole_chain ordering pruning counting clustering a b c d e f x y z n o p k l r =
      let last = passes_of.Rules ∷ [] in
      let clustered = only_if clustering passes_of.Cluster ++ last in
      let counted = only_if counting passes_of.Count ++ clustered in
      let pruned = only_if pruning passes_of.Prune ++ counted in
      chained_then (passes_of.Given ∷ []) (only_if ordering passes_of.Order ++ pruned) a a f x x z (chained_one passes_of.Given a a x x 0 (given_passed a x))
      (chained_then (only_if ordering passes_of.Order) pruned a b f x x z (ran_chain ordering passes_of.Order a b x x 0 o)
      (chained_then (only_if pruning passes_of.Prune) counted b c f x y z (ran_chain pruning passes_of.Prune b c x y 0 p)
      (chained_then (only_if counting passes_of.Count) clustered c d f y y z (ran_chain counting passes_of.Count c d y y 0 k)
      (chained_then (only_if clustering passes_of.Cluster) last d e f y y z (ran_chain clustering passes_of.Cluster d e y y 0 l) (chained_one passes_of.Rules e f y z n r)))))

  -- what is promised of the plan that they leave

  pub whole_refines : (lp new : List IR) (ex grown : List AExpr) (ks : List Pass) → IsValid (plan_at lp ex root) → Chained flags boxes ks lp new ex grown root → Refines (plan_at new grown root) (plan_at lp ex root)
  whole_refines lp new ex grown ks v h = chain_refines flags boxes (plan_at lp ex root) ks h.steps (plan_at new grown root) v h.chain

  pub whole_reads : (lp new : List IR) (ex grown : List AExpr) → IsValid (plan_at lp ex root) → Chained flags boxes (passes flags (plan_at lp ex root)) lp new ex grown root → is_pruning flags ≡ true → ReadsAsked flags (plan_at lp ex root) (plan_at new grown root)
  whole_reads lp new ex grown v h on = chain_reads flags boxes (plan_at lp ex root) (plan_at new grown root) h.steps v on h.chain

  pub whole_keeps : (lp new : List IR) (ex grown : List AExpr) → IsValid (plan_at lp ex root) → Chained flags boxes (passes flags (plan_at lp ex root)) lp new ex grown root → is_pruning flags ≡ false → Keeps (plan_at new grown root) (plan_at lp ex root)
  whole_keeps lp new ex grown v h off = kept_unpruned flags boxes (is_ordering flags (plan_at lp ex root)) (is_clustering flags) (plan_at lp ex root) (plan_at new grown root) h.steps v (subst (λ (b : Bool). Chain flags boxes (plan_at lp ex root) (in_order (is_ordering flags (plan_at lp ex root)) b (b && meets_count (plan_at lp ex root)) (is_clustering flags)) h.steps (plan_at new grown root)) off h.chain)

  pub whole_shared : (lp new : List IR) (ex grown : List AExpr) (ks : List Pass) → Chained flags boxes ks lp new ex grown root → boxes.own ≡ true → AreShared (plan_at lp ex root) → AreShared (plan_at new grown root)
  whole_shared lp new ex grown ks h own = chain_shared flags boxes (plan_at lp ex root) ks h.steps (plan_at new grown root) own h.chain

  -- Trails

  pub trailed_one : (k : Pass) (lp new : List IR) (ex grown : List AExpr) (n : ℕ) (step : Step) (before after : List Step) → Passed flags boxes k lp new ex grown root n → after ≡ before ++ step ∷ [] → Shows step (left_at k new grown n) → Trailed flags boxes (k ∷ []) lp new ex grown root before after
  unfolding chained_one
  trailed_one k lp new ex grown n step before after p is s = record { chained = chained_one k lp new ex grown n p; added = step ∷ []; appended = is; shown = (s, tt) }

  trailed_none : (lp : List IR) (ex : List AExpr) (before : List Step) → Trailed flags boxes [] lp lp ex ex root before before
  unfolding chained_none
  trailed_none lp ex before = record { chained = chained_none lp ex; added = []; appended = sym (append-nil before); shown = tt }

  trailed_then : (ks ls : List Pass) (a b c : List IR) (x y z : List AExpr) (before between after : List Step) → Trailed flags boxes ks a b x y root before between → Trailed flags boxes ls b c y z root between after → Trailed flags boxes (ks ++ ls) a c x z root before after
  unfolding chained_then
  trailed_then ks ls a b c x y z before between after p q = record {
    chained = chained_then ks ls a b c x y z p.chained q.chained;
    added = p.added ++ q.added;
    appended = q.appended ∙ ap (λ (ss : List Step). ss ++ q.added) p.appended ∙ append_assoc before p.added q.added;
    shown = show_both p.added p.chained.steps q.added q.chained.steps p.shown q.shown;
  }

  -- a pass, if it ran, with its step
  ran_trail : (ran : Bool) (k : Pass) (lp new : List IR) (ex grown : List AExpr) (before after : List Step) → RanIf ran flags boxes k lp new ex grown root 0 → KeptIf ran (left_at k new grown 0) before after → Trailed flags boxes (only_if ran k) lp new ex grown root before after
  ran_trail true k lp new ex grown before after p s = trailed_one k lp new ex grown 0 s.0 before after p s.1 s.2
  ran_trail false k lp new ex grown before after p s =
      subst (λ (u : List Step). Trailed flags boxes [] lp new ex grown root before u) (sym s)
      (subst (λ (v : List IR). Trailed flags boxes [] lp v ex grown root before before) (sym p.0)
      (subst (λ (w : List AExpr). Trailed flags boxes [] lp lp ex w root before before) (sym p.1) (trailed_none lp ex before)))

  pub whole_trail : (ordering pruning counting clustering : Bool) (a b c d e f : List IR) (x y z : List AExpr) (n : ℕ) (given rules : Step) (s t u v w g r : List Step) → t ≡ s ++ given ∷ [] → Shows given (left_at passes_of.Given a x 0) → RanIf ordering flags boxes passes_of.Order a b x x root 0 → KeptIf ordering (left_at passes_of.Order b x 0) t u → RanIf pruning flags boxes passes_of.Prune b c x y root 0 → KeptIf pruning (left_at passes_of.Prune c y 0) u v → RanIf counting flags boxes passes_of.Count c d y y root 0 → KeptIf counting (left_at passes_of.Count d y 0) v w → RanIf clustering flags boxes passes_of.Cluster d e y y root 0 → KeptIf clustering (left_at passes_of.Cluster e y 0) w g → Passed flags boxes passes_of.Rules e f y z root n → r ≡ g ++ rules ∷ [] → Shows rules (left_at passes_of.Rules f z n) → Trailed flags boxes (in_order ordering pruning counting clustering) a f x z root s r
  whole_trail ordering pruning counting clustering a b c d e f x y z n given rules s t u v w g r at_first first o o_kept p p_kept k k_kept l l_kept at_rules at_last last_shown =
      let last = passes_of.Rules ∷ [] in
      let clustered = only_if clustering passes_of.Cluster ++ last in
      let counted = only_if counting passes_of.Count ++ clustered in
      let pruned = only_if pruning passes_of.Prune ++ counted in
      trailed_then (passes_of.Given ∷ []) (only_if ordering passes_of.Order ++ pruned) a a f x x z s t r (trailed_one passes_of.Given a a x x 0 given s t (given_passed a x) at_first first)
      (trailed_then (only_if ordering passes_of.Order) pruned a b f x x z t u r (ran_trail ordering passes_of.Order a b x x t u o o_kept)
      (trailed_then (only_if pruning passes_of.Prune) counted b c f x y z u v r (ran_trail pruning passes_of.Prune b c x y u v p p_kept)
      (trailed_then (only_if counting passes_of.Count) clustered c d f y y z v w r (ran_trail counting passes_of.Count c d y y v w k k_kept)
      (trailed_then (only_if clustering passes_of.Cluster) last d e f y y z w g r (ran_trail clustering passes_of.Cluster d e y y w g l l_kept) (trailed_one passes_of.Rules e f y z n rules g r at_rules at_last last_shown)))))

  pub trailed_as : (ks ls : List Pass) (lp new : List IR) (ex grown : List AExpr) (before after : List Step) → ks ≡ ls → Trailed flags boxes ks lp new ex grown root before after → Trailed flags boxes ls lp new ex grown root before after
  trailed_as ks ls lp new ex grown before after same t = subst (λ (ms : List Pass). Trailed flags boxes ms lp new ex grown root before after) same t

-- the passes that ran are those that the flags ask for over the given plan
pub asked_passes : (flags : OptFlags) (ordering counting : Bool) (p m : Plan) → ordering ≡ is_ordering flags p → counting ≡ is_counting flags m → meets_count m ≡ meets_count p → in_order ordering (is_pruning flags) counting (is_clustering flags) ≡ passes flags p
asked_passes flags ordering counting p m o c same = ap₂ (λ (a b : Bool). in_order a (is_pruning flags) b (is_clustering flags)) o (c ∙ ap (λ (b : Bool). is_pruning flags && b) same)
