-- The inputs of a node, pruned one after another, each under a projection to the asked names or none.
use Rattle.std.proofs.Common.{◌≡◌, ℕ, zero, suc, ◌+◌, ◌<◌, ◌≤◌, ◌&&◌, ◌||◌, Bool, true, false, not, List, [], ◌∷◌, ◌++◌, length, take, get_or, Some, None, Option, refl, sym, ap, ap₂, ◌∙◌, arith, subst, append-nil, append_assoc, add-one}
use Rattle.std.specs.List.{slice_get, slice_set}
use Rattle.std.proofs.lemmas.List.{take_all}
use Rattle.std.proofs.lemmas.Option.{slice_get-get_or, slice_get_within}
use Rattle.plan_core.specs.declared.arena.Node.{Node}
use Rattle.plan_core.specs.Columns.{Columns}
use Rattle.plan_options.specs.declared.union.UnionOptions.{UnionOptions}
use Rattle.plan_tree.specs.Rose.{Roses, rose, no_roses, more, join, levels}
use Rattle.plan_tree.proofs.Numbers.{size-le}
use Rattle.plan_tree.specs.Stands.{Trees, Stands, StandsOnce, Rewrites}
use Rattle.plan_tree.proofs.TreeLemmas.{opened, nth, height, height_at, height-is, levels-le-size, levels-nth, tallest, tallest-is, Stands-nth}
use Rattle.plan_tree.proofs.ReadLemmas.{trees_at-is}
use Rattle.plan_tree.proofs.Frames.{front, front-more, front-all, front-none, Rewrites-refl, Rewrites-trans, Rewrites-next, Rewrites-back, StandsOnce-set, StandsOnce-next}
use Rattle.plan_expr.specs.declared.aexpr.AExpr.{AExpr}
use Rattle.plan_ir.specs.declared.ir.IR.{IR}
use Rattle.plan_ir.specs.declared.ir.IR.TheVariants as nodes
use Rattle.plan_ir.specs.Parts.{plan_shape, inputs_of, is_invalid, roots_of, roots_in, IsPlan}
use Rattle.plan_ir.specs.Plans.{Op, op_at, plans_of, bare}
use Rattle.plan_expr.specs.Leaves.{Name}
use Rattle.plan_meaning.specs.Typing.{first_schema}
use Rattle.plan_meaning.specs.Counting.{is_closed, is_count, meet_count}
use Rattle.plan_pruned.specs.Pruned.{are_several, asked_columns, asks_plans, covered_each, covered_if, names_alike, pruned_all, rebuilt, top_below, typed_names}
use Rattle.plan_schema.specs.Stored.{stored_all}
use Rattle.plan_pruned.proofs.ListSteps.{take-next}
use Rattle.plan_pruned.proofs.UnionNarrows.{covered_none}
use Rattle.plan_pruned.specs.Renamed.{IsLonger}
use Rattle.plan_prune_parts.specs.Places.{StandExprs, TakePlace}
use Rattle.plan_prune.specs.Prunes.{AreInputs, InputsPruned, Prunes, PrunesEach, PrunesUnder, MarksAt, covered_by}
use Rattle.plan_prune_parts.specs.Tops.{covered_at, with_top}
use Rattle.plan_prune_parts.specs.Said.{columns_at}
use Rattle.plan_prune_steps.specs.Steps.{covering}
use Rattle.plan_prune_parts.proofs.LongerLemmas.{below_exprs, exprs_longer, first_exprs, last_exprs, longer_same, longer_trans, op_longer, own_exprs, plan_trees, plans_longer}
use Rattle.plan_prune_parts.proofs.PlaceLemmas.{place_alone, place_equal, place_both, place_before, place_same, place_trans}
use Rattle.plan_prune.proofs.PruneLemmas.{goes_under, left_open, under}
use Rattle.plan_prune.proofs.SidePlans.{or_assoc, plans-join, roots-join, meet-join, covered_by-join, lists_after, names_after, one_pruned, pruned-join, several_pruned}
use Rattle.plan_prune_parts.proofs.CoverLemmas.{found}

-- the height of what stands over numbers
pub tall : (a : List IR) (ns : List Node) (f : Trees IR) → StandsOnce plan_shape a ns f → tallest plan_shape (height plan_shape (length a) a) ns ≡ levels f
tall a ns f h = tallest-is plan_shape (length a) a ns f h.stands (omega (arith, levels-le-size plan_shape f, size-le plan_shape a ns f h))

-- nothing pruned yet

covered_by_nothing : (covers : Option (List Name)) → no_roses ≡ covered_by covers no_roses
covered_by_nothing (Some names) = refl
covered_by_nothing None = refl

pub each_none : (top : Bool) (covers : Option (List Name)) (lists : List (List Name)) (a : List IR) (ex : List AExpr) (ns : List Node) (f : Trees IR) → PrunesEach top covers lists a a ex ex (take 0 ns) (front plan_shape f 0)
each_none top covers lists a ex ns f =
    rw (front-none plan_shape f) (record {
      trees = no_roses;
      rewrites = Rewrites-refl plan_shape a [] no_roses (record { stands = tt; once = tt });
      exprs = place_same ex [];
      pruned = covered_by_nothing covers;
    })

-- the expressions of the first trees, of those with the next one, and of the next one

front_roots : (f : Trees IR) (j : ℕ) → (rest : List Node) × (roots_in f ≡ roots_in (front plan_shape f j) ++ rest)
front_roots no_roses j = ([], refl)
front_roots (more (rose n p kids) rest) zero = (roots_in (more (rose n p kids) rest), refl)
front_roots (more (rose n p kids) rest) (suc j) =
    let r = front_roots rest j in
    let first : List Node = roots_in (front plan_shape rest j) in (
      r.0,
      ap (λ (l : List Node). roots_of p ++ (roots_in kids ++ l)) r.1
          ∙ ap (λ (l : List Node). roots_of p ++ l) (sym (append_assoc (roots_in kids) first r.0))
          ∙ sym (append_assoc (roots_of p) (roots_in kids ++ first) r.0),
    )

front_exprs : (ex : List AExpr) (f : Trees IR) (j : ℕ) → StandExprs ex (roots_in f) → StandExprs ex (roots_in (front plan_shape f j))
front_exprs ex f j s = let r = front_roots f j in first_exprs ex (roots_in (front plan_shape f j)) r.0 (subst (λ (l : List Node). StandExprs ex l) r.1 s)

next_split : (a : List IR) (ns : List Node) (n : Node) (j : ℕ) (f : Trees IR) → Stands plan_shape a ns f → slice_get ns j ≡ Some n → front plan_shape f (j + 1) ≡ join (front plan_shape f j) (nth plan_shape f j)
next_split a ns n j f h e = let lt : j < length ns = slice_get_within ns j n e in rw (add-one j) (front-more plan_shape a ns f j h lt)

next_exprs : (a : List IR) (ex : List AExpr) (ns : List Node) (n : Node) (j : ℕ) (f : Trees IR) → Stands plan_shape a ns f → slice_get ns j ≡ Some n → StandExprs ex (roots_in f) → StandExprs ex (roots_in (nth plan_shape f j))
next_exprs a ex ns n j f h e s =
    last_exprs ex (roots_in (front plan_shape f j)) (roots_in (nth plan_shape f j))
    (subst (λ (l : List Node). StandExprs ex l) (ap roots_in (next_split a ns n j f h e) ∙ roots-join (front plan_shape f j) (nth plan_shape f j)) (front_exprs ex f (j + 1) s))

-- one more
pub each_next : (top low : Bool) (covers : Option (List Name)) (lists : List (List Name)) (names : List Name) (a b c : List IR) (ex mid grown : List AExpr) (ns : List Node) (n : Node) (j : ℕ) (f : Trees IR) → IsLonger ex mid → IsLonger mid grown → StandsOnce plan_shape a ns f → StandExprs ex (roots_in f) → slice_get ns j ≡ Some n → slice_get lists j ≡ Some names → low ≡ (top && not (meet_count (bare (plans_of ex (front plan_shape f j))))) → PrunesEach top covers lists a b ex mid (take j ns) (front plan_shape f j) → PrunesEach low covers (names ∷ []) b c mid grown (n ∷ []) (nth plan_shape f j) → PrunesEach top covers lists a c ex grown (take (j + 1) ns) (front plan_shape f (j + 1))
each_next top low covers lists names a b c ex mid grown ns n j f longer further h s e at low_is x y =
    let lt : j < length ns = slice_get_within ns j n e in
    let first : Trees IR = front plan_shape f j in
    let next : Trees IR = nth plan_shape f j in
    let longer_front = take-next ns j n e in
    let split : front plan_shape f (j + 1) ≡ join first next = next_split a ns n j f h.stands e in
    let plans = bare (plans_of ex first) in
    let plan = bare (plans_of ex next) in
    let left = lists_after plans lists in
    let own = one_pruned (top && not (meet_count plans)) left names a ex n next (Stands-nth plan_shape a ns f j n h.stands e) (names_after a ex ns f j lists names h.stands lt at) in
    let before : bare (plans_of grown x.trees) ≡ bare (plans_of mid x.trees) = plans_longer mid grown further x.trees (place_alone ex mid (roots_in x.trees) (roots_in first) x.exprs (front_exprs ex f j s)) in
    let read : bare (plans_of mid next) ≡ plan = plans_longer ex mid longer next (next_exprs a ex ns n j f h.stands e s) in
    record {
      trees = join x.trees y.trees;
      rewrites = Rewrites-next plan_shape a b c ns n j f x.trees y.trees h e longer_front x.rewrites y.rewrites;
      exprs =
          let both = place_both ex mid grown (roots_in x.trees) (roots_in first) (roots_in y.trees) (roots_in next) x.exprs y.exprs in
          place_trans ex grown grown (roots_in (join x.trees y.trees)) (roots_in x.trees ++ roots_in y.trees) (roots_in (front plan_shape f (j + 1))) (place_equal grown (roots_in (join x.trees y.trees)) (roots_in x.trees ++ roots_in y.trees) (roots-join x.trees y.trees))
          (place_trans ex ex grown (roots_in x.trees ++ roots_in y.trees) (roots_in first ++ roots_in next) (roots_in (front plan_shape f (j + 1))) both
          (place_equal ex (roots_in first ++ roots_in next) (roots_in (front plan_shape f (j + 1))) (sym (ap roots_in split ∙ roots-join first next))));
      pruned =
          plans-join grown x.trees y.trees
          ∙ ap₂ (λ (u v : Roses (Unit {0}) Op). join u v) (before ∙ x.pruned) (y.pruned ∙ ap₂ (λ (w : Bool) (g : Roses (Unit {0}) Op). covered_by covers (pruned_all w (names ∷ []) g)) low_is read ∙ ap (covered_by covers) own)
          ∙ sym (covered_by-join covers (pruned_all top lists plans) (pruned_all (top && not (meet_count plans)) left plan))
          ∙ ap (covered_by covers) (sym (pruned-join top lists plans plan))
          ∙ ap (λ (g : Roses (Unit {0}) Op). covered_by covers (pruned_all top lists g)) (sym (ap (λ (t : Trees IR). bare (plans_of ex t)) split ∙ plans-join ex first next));
    }

-- one plan, as it was pruned
pub one_plain : (top : Bool) (asked : List Name) (b c : List IR) (ex grown : List AExpr) (n : Node) (t : Trees IR) → Prunes top asked b c ex grown n t → PrunesEach top None (asked ∷ []) b c ex grown (n ∷ []) t
one_plain top asked b c ex grown n t x = record { trees = x.trees; rewrites = x.rewrites; exprs = x.exprs; pruned = x.pruned }

-- and under a projection to names
pub one_covered : (top : Bool) (asked names : List Name) (b c d : List IR) (ex grown : List AExpr) (n : Node) (q : IR) (t : Trees IR) → slice_get c n.0 ≡ Some q → d ≡ covered_at (asked_columns names (columns_at c grown n)) c n → Prunes top asked b c ex grown n t → PrunesEach top (Some names) (asked ∷ []) b d ex grown (n ∷ []) t
one_covered top asked [] b c d ex grown n q t e is x =
    rw is (record { trees = x.trees; rewrites = x.rewrites; exprs = x.exprs; pruned = x.pruned ∙ sym (covered_none (pruned_all top (asked ∷ []) (bare (plans_of ex t)))) })
one_covered top asked (w ∷ names) b c d ex grown n q t e is x =
    let o = opened plan_shape c n q x.trees x.rewrites.stands e in
    let cs : Columns = typed_names (columns_at c grown n) (w ∷ names) in
    let whole : Trees IR = more (rose n q o.kids) no_roses in
    let taken : List IR = slice_set c n.0 nodes.Invalid in
    let m : Node = record { 0 = length taken } in
    let now : d ≡ with_top cs taken n q = is ∙ ap (λ (p : IR). with_top cs taken n p) (found c n.0 q e) in
    let plans : Roses (Unit {0}) Op = bare (plans_of grown whole) in
    let columns : columns_at c grown n ≡ first_schema (stored_all plans) = ap (λ (u : Trees IR). first_schema (stored_all (bare (plans_of grown u)))) (trees_at-is plan_shape c (n ∷ []) x.trees x.rewrites.stands ∙ o.is) in
    let rewritten = goes_under c taken n q q nodes.Invalid o.kids cs (subst (λ (u : Trees IR). StandsOnce plan_shape c (n ∷ []) u) o.is x.rewrites.stands) refl refl o.valid in
    let before : Rewrites plan_shape b c (n ∷ []) t whole = subst (λ (u : Trees IR). Rewrites plan_shape b c (n ∷ []) t u) o.is x.rewrites in
    let roots : TakePlace ex grown (roots_in whole) (roots_in t) = subst (λ (u : Trees IR). TakePlace ex grown (roots_in u) (roots_in t)) o.is x.exprs in
    rw now (record {
      trees = under n m cs q o.kids;
      rewrites = Rewrites-trans plan_shape b c (with_top cs taken n q) (n ∷ []) t whole (under n m cs q o.kids) before rewritten;
      exprs = place_trans ex grown grown (roots_in (under n m cs q o.kids)) (roots_in whole) (roots_in t) (place_equal grown (roots_in (under n m cs q o.kids)) (roots_in whole) (append-nil (roots_in whole))) roots;
      pruned =
          ap (λ (s : Columns). covered_with s plans) columns
          ∙ ap (covered_each (w ∷ names)) (sym (ap (λ (u : Trees IR). bare (plans_of grown u)) o.is) ∙ x.pruned);
    })
  where
    covered_with : Columns → Roses (Unit {0}) Op → Roses (Unit {0}) Op
    covered_with s plans = more (rose tt (op_at grown (nodes.SimpleProjection n (typed_names s (w ∷ names)))) plans) no_roses

-- what a union asks its inputs and puts on top of them, by their numbers and by their plans
pub alike_at : (lp : List IR) (ex : List AExpr) (ns : List Node) (f : Trees IR) (asked : List Name) → Stands plan_shape lp ns f → names_alike asked ns ≡ names_alike asked (stored_all (bare (plans_of ex f)))
alike_at lp ex [] no_roses asked s = refl
alike_at lp ex (n ∷ ns) (more (rose m p kids) rest) asked s = ap (λ (l : List (List Name)). asked ∷ l) (alike_at lp ex ns rest asked s.4)
alike_at lp ex [] (more (rose m p kids) rest) asked s = absurd s
alike_at lp ex (n ∷ ns) no_roses asked s = absurd s

covering_at : (lp : List IR) (ex : List AExpr) (ns : List Node) (f : Trees IR) (asked : List Name) (plans : Roses (Unit {0}) Op) → Stands plan_shape lp ns f → covered_by (covering ns asked) plans ≡ covered_if (are_several (bare (plans_of ex f))) asked plans
covering_at lp ex [] no_roses asked plans s = refl
covering_at lp ex (n ∷ []) (more (rose m p kids) no_roses) asked plans s = refl
covering_at lp ex (n ∷ n1 ∷ ns) (more (rose m p kids) (more (rose m1 p1 kids1) rest)) asked plans s = refl
covering_at lp ex [] (more (rose m p kids) rest) asked plans s = absurd s
covering_at lp ex (n ∷ ns) no_roses asked plans s = absurd s
covering_at lp ex (n ∷ []) (more (rose m p kids) (more (rose m1 p1 kids1) rest)) asked plans s = absurd s.4
covering_at lp ex (n ∷ n1 ∷ ns) (more (rose m p kids) no_roses) asked plans s = absurd s.4

-- from the inputs of a node to the node, which is put back over them, once all are pruned
pub each_finish : (top low : Bool) (asked : List Name) (covers : Option (List Name)) (lists : List (List Name)) (a b c z : List IR) (ex grown : List AExpr) (n : Node) (p q d : IR) (t : Trees IR) → IsLonger ex grown → StandsOnce plan_shape a (n ∷ []) t → StandExprs ex (roots_in t) → slice_get a n.0 ≡ Some p → b ≡ slice_set a n.0 d → z ≡ slice_set c n.0 q → inputs_of q ≡ inputs_of p → is_invalid q ≡ false → TakePlace ex ex (roots_of q) (roots_of p) → is_closed (op_at ex p) ≡ false → ((kids : Trees IR) → StandsOnce plan_shape b (inputs_of p) kids → StandExprs ex (roots_in kids) → (x : PrunesEach low covers lists b c ex grown (inputs_of p) kids) × (rose tt (op_at ex q) (bare (plans_of grown x.trees)) ≡ rebuilt top asked (op_at ex p) (stored_all (bare (plans_of ex kids))) (pruned_all (top_below top (op_at ex p)) (asks_plans asked (op_at ex p) (bare (plans_of ex kids))) (bare (plans_of ex kids))))) → Prunes top asked a z ex grown n t
each_finish top low asked covers lists a b c z ex grown n p q d t longer h s e taken put same valid roots opens below =
    let o = opened plan_shape a n p t h e in
    let under : StandsOnce plan_shape b (inputs_of p) o.kids = rw taken (StandsOnce-set plan_shape a (inputs_of p) o.kids n.0 d o.inputs o.above) in
    let whole : StandExprs ex (roots_in (more (rose n p o.kids) no_roses)) = rw o.is at s in
    let made = below o.kids under (below_exprs ex p o.kids no_roses whole) in
    let x = made.0 in
    let kids : Roses (Unit {0}) Op = bare (plans_of ex o.kids) in
    let same_op : op_at grown q ≡ op_at ex q = op_longer ex grown longer q (place_alone ex ex (roots_of q) (roots_of p) roots (own_exprs ex p o.kids no_roses whole)) in
    rw (put, o.is) (record {
      trees = more (rose n q x.trees) no_roses;
      rewrites = Rewrites-back plan_shape a b c n p q d o.kids x.trees (rw o.is at h) taken x.rewrites same valid;
      exprs = place_both ex ex grown (roots_of q) (roots_of p) (roots_in x.trees ++ []) (roots_in o.kids ++ []) roots (place_before ex grown [] (roots_in x.trees) (roots_in o.kids) x.exprs);
      pruned =
          ap (λ (o : Op). more (rose tt o (bare (plans_of grown x.trees))) no_roses) same_op
          ∙ ap (λ r. more r no_roses) made.1
          ∙ ap (λ (f : Roses (Unit {0}) Op). more (rebuilt top asked (op_at ex p) (stored_all kids) f) no_roses) (left_open (op_at ex p) kids (pruned_all (top_below top (op_at ex p)) (asks_plans asked (op_at ex p) kids) kids) opens);
    })

-- a union stays over its inputs, once all are pruned
module _ (top low : Bool) (asked : List Name) (covers : Option (List Name)) (lists : List (List Name)) (a b c z : List IR) (ex grown : List AExpr) (longer : IsLonger ex grown) (n : Node) (inputs : List Node) (options : UnionOptions) (d : IR) (taken : b ≡ slice_set a n.0 d) (back : z ≡ slice_set c n.0 (nodes.Union inputs options)) (low_is : low ≡ top_below top (op_at ex (nodes.Union inputs options))) (lists_are : lists ≡ names_alike asked inputs) (covers_is : covers ≡ covering inputs asked) (below : (kids : Trees IR) → StandsOnce plan_shape b inputs kids → StandExprs ex (roots_in kids) → PrunesEach low covers lists b c ex grown inputs kids) where
  abbrev whole : IR
  whole = nodes.Union inputs options

  union_built : (f : Trees IR) (s : StandsOnce plan_shape b inputs f) (x : PrunesEach low covers lists b c ex grown inputs f) → rose tt (op_at ex (nodes.Union inputs options)) (bare (plans_of grown x.trees)) ≡ rebuilt top asked (op_at ex (nodes.Union inputs options)) (stored_all (bare (plans_of ex f))) (pruned_all (top_below top (op_at ex (nodes.Union inputs options))) (asks_plans asked (op_at ex (nodes.Union inputs options)) (bare (plans_of ex f))) (bare (plans_of ex f)))
  union_built f s x =
      let kids : Roses (Unit {0}) Op = bare (plans_of ex f) in
      let under : Bool = top_below top (op_at ex whole) in
      let own : List (List Name) = names_alike asked (stored_all kids) in
      let plans : Roses (Unit {0}) Op = pruned_all under own kids in
      ap (λ (g : Roses (Unit {0}) Op). rose tt (op_at ex whole) g)
      (x.pruned
      ∙ ap₂ (λ (w : Bool) (l : List (List Name)). covered_by covers (pruned_all w l kids)) low_is (lists_are ∙ alike_at b ex inputs f asked s.stands)
      ∙ ap (λ (o : Option (List Name)). covered_by o plans) covers_is
      ∙ covering_at b ex inputs f asked plans s.stands
      ∙ ap (λ (w : Bool). covered_if w asked plans) (sym (several_pruned under own kids)))

  pub union_pruned : (t : Trees IR) → StandsOnce plan_shape a (n ∷ []) t → StandExprs ex (roots_in t) → slice_get a n.0 ≡ Some (nodes.Union inputs options) → Prunes top asked a z ex grown n t
  union_pruned t h s e =
      each_finish top low asked covers lists a b c z ex grown n whole whole d t longer h s e taken back refl refl (place_same ex (roots_of whole)) refl
      (λ kids under stand. let y = below kids under stand in (y, union_built kids under y))

-- the mark after a node over inputs, once these were marked: it is set where the node counts rows, and then where its inputs do, which aren't left out
pub marked_twice : (x y z c : Bool) → c ≡ false → ((x || y) || z) ≡ (x || (y || ((not c && z) || false)))
marked_twice true y z c e = refl
marked_twice false true z c e = refl
marked_twice false false true false e = refl
marked_twice false false false false e = refl
marked_twice false false z true e = cc

pub each_marks : (before mid after : Bool) (lp b : List IR) (ex : List AExpr) (n : Node) (inputs : List Node) (p d : IR) → IsPlan lp ex n → slice_get lp n.0 ≡ Some p → b ≡ slice_set lp n.0 d → inputs_of p ≡ inputs → is_closed (op_at ex p) ≡ false → mid ≡ (before || is_count (op_at ex p)) → ((kids : Trees IR) → StandsOnce plan_shape b inputs kids → StandExprs ex (roots_in kids) → after ≡ (mid || meet_count (bare (plans_of ex kids)))) → MarksAt before after lp ex n
each_marks before mid after lp b ex n inputs p d plan e taken own opens is below t h =
    let o = opened plan_shape lp n p t h e in
    let under : StandsOnce plan_shape b (inputs_of p) o.kids = rw taken (StandsOnce-set plan_shape lp (inputs_of p) o.kids n.0 d o.inputs o.above) in
    let at_inputs : StandsOnce plan_shape b inputs o.kids = subst (λ (ns : List Node). StandsOnce plan_shape b ns o.kids) own under in
    let stand : StandExprs ex (roots_in o.kids) = below_exprs ex p o.kids no_roses (rw o.is at (plan_trees lp ex n t plan h)) in
    let k : Bool = meet_count (bare (plans_of ex o.kids)) in
    below o.kids at_inputs stand ∙ ap (λ (m : Bool). m || k) is ∙ marked_twice before (is_count (op_at ex p)) k (is_closed (op_at ex p)) opens ∙ ap (λ (u : Trees IR). before || meet_count (bare (plans_of ex u))) (sym o.is)

-- the items at a place of two lists
pub places : {A B : Type 0} (xs : List A) (ys : List B) (j : ℕ) (x : A) (y : B) → (j < length xs) × (j < length ys) × ((d : A) → x ≡ get_or xs j d) × ((d : B) → y ≡ get_or ys j d) → (slice_get xs j ≡ Some x) × (slice_get ys j ≡ Some y)
places xs ys j x y h = (slice_get-get_or xs j x h.0 ∙ ap Some (sym (h.2 x)), slice_get-get_or ys j y h.1 ∙ ap Some (sym (h.3 y)))

-- the inputs before a place are pruned one after another, while entries are only appended, and the mark is set where it was or where they count rows
pub record SoFar (before after : Bool) (covers : Option (List Name)) (lists : List (List Name)) (old new : List IR) (ex grown : List AExpr) (ns : List Node) (j : ℕ) : Type 0 where
  pub prunes : (f : Trees IR) → StandsOnce plan_shape old ns f → StandExprs ex (roots_in f) → PrunesEach (not before) covers lists old new ex grown (take j ns) (front plan_shape f j)
  pub marks : (f : Trees IR) → StandsOnce plan_shape old ns f → StandExprs ex (roots_in f) → after ≡ (before || meet_count (bare (plans_of ex (front plan_shape f j))))
  pub stays : before ≡ true → after ≡ true
  pub grows : length old ≤ length new
  pub longer : IsLonger ex grown

or_false : (b : Bool) → b ≡ (b || false)
or_false true = refl
or_false false = refl

pub so_far_none : (before : Bool) (covers : Option (List Name)) (lists : List (List Name)) (a : List IR) (ex : List AExpr) (ns : List Node) → SoFar before before covers lists a a ex ex ns 0
so_far_none before covers lists a ex ns = record {
  prunes = λ f h s. each_none (not before) covers lists a ex ns f;
  marks = λ f h s. or_false before ∙ ap (λ (t : Trees IR). before || meet_count (bare (plans_of ex t))) (sym (front-none plan_shape f));
  stays = λ e. e;
  grows = omega arith;
  longer = longer_same ex;
}

marked_so : (before m : Bool) → not (before || m) ≡ (not before && not m)
marked_so true m = refl
marked_so false m = refl

-- with the next input
pub so_far_next : (before between after : Bool) (covers : Option (List Name)) (lists : List (List Name)) (names : List Name) (a b c : List IR) (ex mid grown : List AExpr) (ns : List Node) (n : Node) (j : ℕ) → slice_get ns j ≡ Some n → slice_get lists j ≡ Some names → SoFar before between covers lists a b ex mid ns j → PrunesUnder (not between) covers names b c mid grown n → MarksAt between after b mid n → (between ≡ true → after ≡ true) → length b ≤ length c → IsLonger mid grown → SoFar before after covers lists a c ex grown ns (j + 1)
so_far_next before between after covers lists names a b c ex mid grown ns n j e at x one marks stays grows longer = record {
  prunes = λ f h s.
      let before_it = x.prunes f h s in
      let under = StandsOnce-next plan_shape a b ns n j f before_it.trees h e before_it.rewrites in
      each_next (not before) (not between) covers lists names a b c ex mid grown ns n j f x.longer longer h s e at (ap not (x.marks f h s) ∙ marked_so before (meet_count (bare (plans_of ex (front plan_shape f j))))) before_it (one (nth plan_shape f j) under);
  marks = λ f h s.
      let before_it = x.prunes f h s in
      let under = StandsOnce-next plan_shape a b ns n j f before_it.trees h e before_it.rewrites in
      let split : front plan_shape f (j + 1) ≡ join (front plan_shape f j) (nth plan_shape f j) = next_split a ns n j f h.stands e in
      let first : Bool = meet_count (bare (plans_of ex (front plan_shape f j))) in
      let next : Bool = meet_count (bare (plans_of ex (nth plan_shape f j))) in
      marks (nth plan_shape f j) under
      ∙ ap (λ (u : Roses (Unit {0}) Op). between || meet_count u) (plans_longer ex mid x.longer (nth plan_shape f j) (next_exprs a ex ns n j f h.stands e s))
      ∙ ap (λ (m : Bool). m || next) (x.marks f h s)
      ∙ or_assoc before first next
      ∙ ap (λ (m : Bool). before || m) (sym (ap (λ (t : Trees IR). meet_count (bare (plans_of ex t))) split ∙ ap meet_count (plans-join ex (front plan_shape f j) (nth plan_shape f j)) ∙ meet-join (bare (plans_of ex (front plan_shape f j))) (bare (plans_of ex (nth plan_shape f j)))));
  stays = λ set. stays (x.stays set);
  grows = omega (arith, x.grows, grows);
  longer = longer_trans ex mid grown x.longer longer;
}

-- what a call on the next input asks
pub record AsksNext (a b : List IR) (ex : List AExpr) (ns : List Node) (i : Node) : Type 0 where
  pub low : height_at plan_shape b i ≤ tallest plan_shape (height plan_shape (length a) a) ns
  pub plan : IsPlan b ex i

pub next_asks : (before after : Bool) (covers : Option (List Name)) (lists : List (List Name)) (a b : List IR) (ex grown : List AExpr) (ns : List Node) (i : Node) (j : ℕ) → AreInputs a ex ns → slice_get ns j ≡ Some i → SoFar before after covers lists a b ex grown ns j → AsksNext a b grown ns i
next_asks before after covers lists a b ex grown ns i j inputs at x =
    let f : Trees IR = inputs.0 in
    let h : StandsOnce plan_shape a ns f = inputs.1 in
    let s : StandExprs ex (roots_in f) = inputs.2 in
    let done = x.prunes f h s in
    let under : StandsOnce plan_shape b (i ∷ []) (nth plan_shape f j) = StandsOnce-next plan_shape a b ns i j f done.trees h at done.rewrites in
    let exprs : StandExprs grown (roots_in (nth plan_shape f j)) = exprs_longer ex grown x.longer (roots_in (nth plan_shape f j)) (next_exprs a ex ns i j f h.stands at s) in
    let own : height_at plan_shape b i ≡ levels (nth plan_shape f j) = height-is plan_shape b i (nth plan_shape f j) under in
    record {
      low = omega (arith, own, tall a ns f h, levels-nth plan_shape f j);
      plan = record { nodes = nth plan_shape f j; exprs = exprs.0; stands = record { nodes = under; exprs = exprs.1 } };
    }

-- all inputs, once the last was passed
pub so_far_all : (before after : Bool) (covers : Option (List Name)) (lists : List (List Name)) (a b : List IR) (ex grown : List AExpr) (ns : List Node) (j : ℕ) → length ns ≤ j → SoFar before after covers lists a b ex grown ns j → InputsPruned before after covers lists a b ex grown ns
so_far_all before after covers lists a b ex grown ns j past x = record {
  prunes = λ f h s.
      let all : front plan_shape f j ≡ f = front-all plan_shape a ns f j h.stands past in
      let whole : take j ns ≡ ns = take_all j ns past in
      subst (λ (l : List Node). PrunesEach (not before) covers lists a b ex grown l f) whole (subst (λ (t : Trees IR). PrunesEach (not before) covers lists a b ex grown (take j ns) t) all (x.prunes f h s));
  marks = λ f h s.
      let all : front plan_shape f j ≡ f = front-all plan_shape a ns f j h.stands past in
      x.marks f h s ∙ ap (λ (t : Trees IR). before || meet_count (bare (plans_of ex t))) all;
}
