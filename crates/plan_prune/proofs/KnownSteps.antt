-- What is known of columns where a node is taken.
use Rattle.std.proofs.Common.{◌≡◌, ◌∙◌, List, [], ◌∷◌, Some, Result, Ok, Err, OnOk, sym, subst}
use Rattle.std.specs.List.{slice_get, slice_set}
use Rattle.plan_core.specs.declared.arena.Node.{Node}
use Rattle.plan_tree.specs.Read.{trees_at}
use Rattle.plan_tree.specs.Stands.{Trees, StandsOnce}
use Rattle.plan_tree.proofs.ReadLemmas.{trees_at-is}
use Rattle.plan_tree.proofs.Frames.{StandsOnce-set}
use Rattle.plan_tree.proofs.TreeLemmas.{opened}
use Rattle.plan_ir.specs.declared.ir.IR.{IR}
use Rattle.plan_ir.specs.Parts.{inputs_of, plan_shape}
use Rattle.plan_ir.specs.Plans.{bare, plans_of}
use Rattle.plan_prune_names.specs.declared.known_columns.KnownColumns.{KnownColumns}
use Rattle.plan_prune_names.specs.Known.{Knows, KnowsAt, KnowsOver}
use Rattle.plan_prune_names.proofs.KnownLemmas.{knows-over}

-- what is so anyway is so where something was made
pub always : {A E : Type 0} (r : Result A E) {P : Type 0} → P → OnOk r P
always (Ok x) p = p
always (Err e) p = tt

-- of the node that stands at a number
pub known_of : (lp : List IR) (n : Node) (q p : IR) (Known : List Node → Type 0) → slice_get lp n.0 ≡ Some q → slice_get lp n.0 ≡ Some p → Known (inputs_of q) → Known (inputs_of p)
known_of lp n q p Known e f h =
    let both : Some q ≡ Some p = sym e ∙ f in
    let same : q ≡ p = cc in
    subst (λ (r : IR). Known (inputs_of r)) same h

-- what is known of the inputs of a node is known of them once the node is taken
pub known_taken : (k : KnownColumns) (lp new : List IR) (n : Node) (p d : IR) (t : Trees IR) → StandsOnce plan_shape lp (n ∷ []) t → slice_get lp n.0 ≡ Some p → new ≡ slice_set lp n.0 d → KnowsAt k lp (inputs_of p) → KnowsAt k new (inputs_of p)
known_taken k lp new n p d t h e taken known = λ ex. subst (λ (u : Trees IR). Knows k (bare (plans_of ex u))) same (known ex)
  where
    same : trees_at plan_shape lp (inputs_of p) ≡ trees_at plan_shape new (inputs_of p)
    same =
        let o = opened plan_shape lp n p t h e in
        trees_at-is plan_shape lp (inputs_of p) o.kids o.inputs
        ∙ sym (trees_at-is plan_shape new (inputs_of p) o.kids (rw taken (StandsOnce-set plan_shape lp (inputs_of p) o.kids n.0 d o.inputs o.above)))

-- what is known of a plan is known of its node's inputs, once it is made that
pub known_below : (old new : KnownColumns) (lp : List IR) (n : Node) (p q : IR) (t : Trees IR) → StandsOnce plan_shape lp (n ∷ []) t → slice_get lp n.0 ≡ Some p → slice_get lp n.0 ≡ Some q → (KnowsOver old lp p → KnowsAt new lp (inputs_of p)) → KnowsAt old lp (n ∷ []) → KnowsAt new lp (inputs_of q)
known_below old new lp n p q t h e f below known = known_of lp n p q (KnowsAt new lp) e f (below (knows-over old lp n p (t, h) e known))

-- so is what is known of its inputs
pub known_inputs : (k : KnownColumns) (lp new : List IR) (n : Node) (p : IR) (ns : List Node) → ((q : IR) → slice_get lp n.0 ≡ Some q → KnowsAt k new (inputs_of q)) → slice_get lp n.0 ≡ Some p → inputs_of p ≡ ns → KnowsAt k new ns
known_inputs k lp new n p ns known e same = subst (KnowsAt k new) same (known p e)
