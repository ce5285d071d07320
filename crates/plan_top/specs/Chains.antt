-- Which passes run, what each does to a plan, and what they do one after another.
use Rattle.std.specs.Prelude.{◌≡◌, ℕ, ◌+◌, ◌≤◌, Bool, true, false, not, ◌&&◌, ◌||◌, List, [], ◌∷◌, ◌++◌, if◌then◌else◌}
use Rattle.plan_core.specs.declared.flags.OptFlags.{OptFlags}
use Rattle.plan_core.specs.Flags.{bits_of, has_bits}
use Rattle.plan_tree.specs.Rose.{more, no_roses}
use Rattle.plan_ir.specs.Plans.{Plan}
use Rattle.plan_meaning.specs.Asked.{sites_of}
use Rattle.plan_meaning.specs.Caches.{AreShared}
use Rattle.plan_meaning.specs.Counting.{meets_count}
use Rattle.plan_meaning.specs.Relating.{Refines, all}
use Rattle.plan_meaning.specs.Scans.{Keeps, nodes, scans}
use Rattle.plan_meaning.specs.Work.{kept, made}
use Rattle.plan_pruned.specs.Pruned.{pruned}
use Rattle.plan_pruned.specs.Reads.{ReadWithin, tops}
use Rattle.plan_pass_laws.specs.declared.kind.RuleKind.{RuleKind}
use Rattle.plan_pass_laws.specs.Patterns.{flag_kinds}
use Rattle.plan_pass_laws.specs.Settling.{Settles}
use Rattle.plan_collapse_laws.specs.Clustered.{clustered as clustered_of}
use Rattle.plan_collapse_laws.specs.Clusters.{IsClustered}
use Rattle.plan_collapse_laws.specs.Counts.{placing}
use Rattle.plan_order_laws.specs.Counted.{countable, counted}
use Rattle.plan_order_laws.specs.Demands.{basis, ordered}
use Rattle.plan_order.specs.Members.{has_op, is_distinct, is_group_by, is_sort}
use Rattle.plan_reshape.specs.Walking.{Rounds, all_own}
use Rattle.plan_top.specs.declared.trail.Pass.{Pass}
use Rattle.plan_top.specs.declared.trail.Pass.TheVariants as passes_of

-- whether PROJECTION_PUSHDOWN is set
abbrev pub is_pruning : OptFlags → Bool
is_pruning flags = has_bits (bits_of flags) 1

-- whether flags ask which kinds of nodes a plan has: EAGER isn't set, and COMM_SUBEXPR_ELIM or PROJECTION_PUSHDOWN is
abbrev pub asks_members : OptFlags → Bool
asks_members flags = not (has_bits (bits_of flags) 4096) && (has_bits (bits_of flags) 512 || is_pruning flags)

-- whether a plan has a group-by, a sort or distinct rows
abbrev pub has_order : Plan → Bool
has_order p = has_op is_group_by (more p no_roses) || (has_op is_sort (more p no_roses) || has_op is_distinct (more p no_roses))

-- whether the orders of a plan are looked at: CHECK_ORDER_OBSERVE is set, and the plan, if it is asked for its kinds of nodes, has some for which order counts
abbrev pub is_ordering : OptFlags → Plan → Bool
is_ordering flags p = has_bits (bits_of flags) 65536 && (asks_members flags && has_order p)

-- whether a plan is pruned that counts rows
abbrev pub is_counting : OptFlags → Plan → Bool
is_counting flags p = is_pruning flags && meets_count p

-- whether CLUSTER_WITH_COLUMNS is set
abbrev pub is_clustering : OptFlags → Bool
is_clustering flags = has_bits (bits_of flags) 8

-- the kinds of the rules that flags ask for: those of FAST_PROJECTION and EAGER
abbrev pub kinds_for : OptFlags → List RuleKind
kinds_for flags = flag_kinds (has_bits (bits_of flags) 16384) (has_bits (bits_of flags) 4096)

-- a pass, if it runs
abbrev pub only_if : Bool → Pass → List Pass
only_if runs k = if runs then k ∷ [] else []

-- passes in order, of which some run or not
abbrev pub in_order : (ordering pruning counting clustering : Bool) → List Pass
in_order ordering pruning counting clustering = passes_of.Given ∷ (only_if ordering passes_of.Order ++ (only_if pruning passes_of.Prune ++ (only_if counting passes_of.Count ++ (only_if clustering passes_of.Cluster ++ passes_of.Rules ∷ []))))

-- the passes that flags ask for over a plan, in order
abbrev pub passes : OptFlags → Plan → List Pass
passes flags p = in_order (is_ordering flags p) (is_pruning flags) (is_counting flags p) (is_clustering flags)

-- rules beside those that flags ask for: the kind of each, and whether each is its kind's own
pub record Boxes : Type 0 where
  pub kinds : List RuleKind
  pub own : Bool

-- rules of these kinds, each of which is its kind's own or not
abbrev pub boxes_of : List RuleKind → List Bool → Boxes
boxes_of kinds owns = record { kinds = kinds; own = all_own owns }

-- pruning left q in the place of p
pub record IsPruned (p q : Plan) : Type 0 where
  pub refines : Refines q p
  pub reads : ReadWithin (scans q) (sites_of p)
  pub made : made q ≤ kept p
  pub nodes : nodes q ≤ nodes p + tops p all
  pub shared : AreShared p → AreShared q
  pub exact : q ≡ pruned true [] p

-- clustering left q in the place of p
pub record IsClusteredOf (p q : Plan) : Type 0 where
  pub refines : Refines q p
  pub keeps : Keeps q p
  pub clustered : IsClustered q
  pub stays : IsClustered p → q ≡ p
  pub few : nodes q + placing q ≤ nodes p + placing p
  pub shared : AreShared p → AreShared q
  pub exact : q ≡ clustered_of p

-- the loop over the rules that flags ask for, and then over others, left q in the place of p after so many counted replacements; where each of the others is its kind's own, it did so by walks of the rules
pub record IsSettled (flags : OptFlags) (boxes : Boxes) (p q : Plan) (replaced : ℕ) : Type 0 where
  pub settles : Settles (kinds_for flags ++ boxes.kinds) p q replaced
  pub rounds : boxes.own ≡ true → Rounds (kinds_for flags ++ boxes.kinds) p q

-- a pass left q in the place of p, after so many counted replacements
abbrev pub Follows : OptFlags → Boxes → Pass → Plan → Plan → ℕ → Type 0
Follows flags boxes passes_of.Given p q n = (q ≡ p) × (n ≡ 0)
Follows flags boxes passes_of.Order p q n = (q ≡ ordered true p) × (n ≡ 0)
Follows flags boxes passes_of.Prune p q n = IsPruned p q × (n ≡ 0)
Follows flags boxes passes_of.Count p q n = (q ≡ counted p) × (n ≡ 0)
Follows flags boxes passes_of.Cluster p q n = IsClusteredOf p q × (n ≡ 0)
Follows flags boxes passes_of.Rules p q n = IsSettled flags boxes p q n

-- what a pass left, after so many counted replacements
pub record Left : Type 0 where
  pub pass : Pass
  pub plan : Plan
  pub replaced : ℕ

-- passes, over others beside the rules of the flags, left plans one after another, the first in the place of p and the last of them q
abbrev pub Chain : OptFlags → Boxes → Plan → List Pass → List Left → Plan → Type 0
Chain flags boxes p [] [] q = p ≡ q
Chain flags boxes p [] (l ∷ steps) q = ⊥
Chain flags boxes p (k ∷ ks) [] q = ⊥
Chain flags boxes p (k ∷ ks) (l ∷ steps) q = (k ≡ l.pass) × Follows flags boxes k p l.plan l.replaced × Chain flags boxes l.plan ks steps q

-- what q reads, which passes left of p with its columns pruned: it is a bare count exactly where the pruned plan can be counted, and else its scans stand one for one for the given ones and read only what they may for what is asked of p, sorts aside that nothing observes
pub record ReadsAsked (flags : OptFlags) (p q : Plan) : Type 0 where
  pub pruned : Plan
  pub by : IsPruned (if is_ordering flags p then ordered true p else p) pruned
  pub count : countable pruned ≡ true → q ≡ counted pruned
  pub within : countable pruned ≡ false → ReadWithin (scans q) (sites_of (basis flags p))
