-- What is known of columns after changes, and of those below functions.
use Rattle.std.proofs.Common.{◌≡◌, ◌≤◌, ◌<◌, ◌+◌, Bool, true, false, cond, ℕ, List, [], ◌∷◌, ◌++◌, drop, length, length-append, Option, Some, None, refl, sym, ap, subst, ◌∙◌, arith, suc, zero}
use Rattle.std.specs.List.{slice_get}
use Rattle.std.specs.Str.{bytes_eq}
use Rattle.std.proofs.lemmas.List.{drop-append-le}
use Rattle.plan_core.specs.declared.data_type.DataType.{DataType}
use Rattle.plan_core.specs.declared.arena.Node.{Node}
use Rattle.plan_core.specs.Columns.{Columns, type_of}
use Rattle.plan_tree.specs.Rose.{Roses, rose, no_roses, more, join}
use Rattle.plan_tree.specs.Read.{trees_at}
use Rattle.plan_tree.specs.Stands.{Trees, StandsOnce}
use Rattle.plan_tree.proofs.ReadLemmas.{trees_at-is, tree_at-is}
use Rattle.plan_tree.proofs.TreeLemmas.{opened, StandsOnce-input}
use Rattle.plan_expr.specs.declared.aexpr.AExpr.{AExpr}
use Rattle.plan_expr.specs.Leaves.{Name}
use Rattle.plan_frame.proofs.NameSets.{named}
use Rattle.plan_ir.specs.declared.functions.FunctionIR.{FunctionIR}
use Rattle.plan_ir.specs.declared.ir.IR.{IR}
use Rattle.plan_ir.specs.declared.ir.IR.TheVariants.{Slice, Filter, Scan, DataFrameScan, SimpleProjection, Select, HStack, Sort, GroupBy, Join, Distinct, MapFunction, Sink, Union, HConcat, Cache, Invalid}
use Rattle.plan_ir.specs.Parts.{inputs_of, plan_shape}
use Rattle.plan_ir.specs.Plans.{Op, slice, filter, scan, frame_scan, simple_projection, select, hstack, sort, group_by, join as join_op, distinct, map_function, sink, union, hconcat, cache, invalid, bare, op_at, plans_of, plans_at}
use Rattle.plan_meaning.specs.Typing.{first_schema, function_checks}
use Rattle.plan_meaning.specs.Functions.{function_schema}
use Rattle.plan_prune_parts.specs.Said.{columns_at}
use Rattle.plan_schema.specs.Stored.{stored_all, stored_by, all_hold}
use Rattle.plan_schema.proofs.StoredNodes.{stored_first, stored_open}
use Rattle.plan_prune_names.specs.declared.known_columns.KnownColumns.{KnownColumns}
use Rattle.plan_prune_names.specs.ByName.{input_shown}
use Rattle.plan_prune_names.specs.Known.{AreBelow, AreLaid, IsMade, IsOver, Hold, KnowsAt, KnowsOver, Lays, Shows, as_changes, before, type_at, type_in}

-- lists that end alike
pub end-same : {A : Type 0} (xs ys : List A) (x y : A) → xs ++ x ∷ [] ≡ ys ++ y ∷ [] → (xs ≡ ys) × (x ≡ y)
end-same [] [] x y e = let q : x ≡ y = cc in (refl, q)
end-same {A} [] (b ∷ ys) x y e = let q : [] ≡ ys ++ y ∷ [] = cc in absurd (no ys q)
  where
    no : (zs : List A) → [] ≡ zs ++ y ∷ [] → ⊥
    no [] q = cc
    no (z ∷ zs) q = cc
end-same {A} (a ∷ xs) [] x y e = let q : xs ++ x ∷ [] ≡ [] = cc in absurd (no xs q)
  where
    no : (zs : List A) → zs ++ x ∷ [] ≡ [] → ⊥
    no [] q = cc
    no (z ∷ zs) q = cc
end-same {A} (a ∷ xs) (b ∷ ys) x y e =
    let p : a ≡ b = cc in
    let q : xs ++ x ∷ [] ≡ ys ++ y ∷ [] = cc in
    let r = end-same xs ys x y q in
    (ap (λ (c : A). c ∷ xs) p ∙ ap (λ (zs : List A). b ∷ zs) r.0, r.1)

none-ends : {A : Type 0} (xs : List A) (x : A) → [] ≡ xs ++ x ∷ [] → ⊥
none-ends [] x e = cc
none-ends (y ∷ xs) x e = cc

drop-all : {A : Type 0} (xs : List A) → drop (length xs) xs ≡ []
drop-all [] = refl
drop-all (x ∷ xs) = drop-all xs

-- types before changes
before-join : (cs ds : List (Name × Option DataType)) (types : Name → Option DataType) (a : Name) → before (cs ++ ds) types a ≡ before cs (before ds types) a
before-join [] ds types a = refl
before-join (c ∷ cs) ds types a = ap (λ (o : Option DataType). cond (bytes_eq a c.0) c.1 o) (before-join cs ds types a)

-- where there is no column now, the changes say what was
before-none : (s : Columns) (types : Name → Option DataType) → ((a : Name) → types a ≡ None) → (a : Name) → before (as_changes s) types a ≡ type_of s a
before-none [] types h a = h a
before-none (c ∷ s) types h a = ap (λ (o : Option DataType). cond (bytes_eq a c.0) (Some c.1) o) (before-none s types h a)

before-last : (cs : List (Name × Option DataType)) (c : Name × Option DataType) (types : Name → Option DataType) (a : Name) → before (cs ++ c ∷ []) types a ≡ before cs (λ b. cond (bytes_eq b c.0) c.1 (types b)) a
before-last cs c types a = before-join cs (c ∷ []) types a

before-same : (cs : List (Name × Option DataType)) (types others : Name → Option DataType) → ((a : Name) → types a ≡ others a) → (a : Name) → before cs types a ≡ before cs others a
before-same [] types others h a = h a
before-same (c ∷ cs) types others h a = ap (λ (o : Option DataType). cond (bytes_eq a c.0) c.1 o) (before-same cs types others h a)

-- a change that is taken back leaves what was
back : (types others : Name → Option DataType) (name : Name) (d : Option DataType) → ((a : Name) → others a ≡ cond (bytes_eq a name) d (types a)) → (a : Name) → cond (bytes_eq a name) (types name) (others a) ≡ types a
back types others name d h a = at (bytes_eq a name) refl (h a)
  where
    at : (t : Bool) → bytes_eq a name ≡ t → others a ≡ cond t d (types a) → cond t (types name) (others a) ≡ types a
    at true q r = ap types (sym (named a name q))
    at false q r = r

pub type-now : (k : KnownColumns) (a : Name) → type_at k (length k.changes.items) a ≡ type_in k a
type-now k a = ap (λ (cs : List (Name × Option DataType)). before cs (type_in k) a) (drop-all k.changes.items)

-- a change on top of others
pub set-over : (old new : KnownColumns) (name : Name) (d : Option DataType) → new.marks.items ≡ old.marks.items → new.changes.items ≡ old.changes.items ++ (name, type_in old name) ∷ [] → ((a : Name) → type_in new a ≡ cond (bytes_eq a name) d (type_in old a)) → IsOver old new
set-over old new name d marks changes put = (
  marks,
  (let e : length new.changes.items ≡ length old.changes.items + 1 = ap (λ (cs : List (Name × Option DataType)). length cs) changes ∙ length-append old.changes.items ((name, type_in old name) ∷ []) in omega (arith, e)),
  λ m a l.
      ap (λ (cs : List (Name × Option DataType)). before cs (type_in new) a) (ap (drop m) changes ∙ drop-append-le m old.changes.items ((name, type_in old name) ∷ []) l)
      ∙ before-last (drop m old.changes.items) (name, type_in old name) (type_in new) a
      ∙ before-same (drop m old.changes.items) (λ b. cond (bytes_eq b name) (type_in old name) (type_in new b)) (type_in old) (back (type_in old) (type_in new) name d put) a,
)

-- all columns taken away
pub clear-over : (old new : KnownColumns) → new.marks.items ≡ old.marks.items → new.changes.items ≡ old.changes.items ++ as_changes old.types → ((a : Name) → type_in new a ≡ None) → IsOver old new
clear-over old new marks changes none = (
  marks,
  (let e : length new.changes.items ≡ length old.changes.items + length (as_changes old.types) = ap (λ (cs : List (Name × Option DataType)). length cs) changes ∙ length-append old.changes.items (as_changes old.types) in omega (arith, e)),
  λ m a l.
      ap (λ (cs : List (Name × Option DataType)). before cs (type_in new) a) (ap (drop m) changes ∙ drop-append-le m old.changes.items (as_changes old.types) l)
      ∙ before-join (drop m old.changes.items) (as_changes old.types) (type_in new) a
      ∙ before-same (drop m old.changes.items) (before (as_changes old.types) (type_in new)) (type_in old) (before-none old.types (type_in new) none) a,
)

pub over-same : (k : KnownColumns) → IsOver k k
over-same k = (refl, omega arith, λ m a l. refl)

pub over-then : (j k l : KnownColumns) → IsOver j k → IsOver k l → IsOver j l
over-then j k l h g = (g.0 ∙ h.0, omega (arith, h.1, g.1), λ m a low. g.2 m a (omega (arith, low, h.1)) ∙ h.2 m a low)

-- the last change taken back
pub undone : (old new : KnownColumns) (name : Name) (d : Option DataType) (cs : List (Name × Option DataType)) → old.changes.items ≡ cs ++ (name, d) ∷ [] → new.changes.items ≡ cs → ((a : Name) → type_in new a ≡ cond (bytes_eq a name) d (type_in old a)) → (m : ℕ) (a : Name) → m < length old.changes.items → type_at new m a ≡ type_at old m a
undone old new name d cs was is put m a l =
    let e : length old.changes.items ≡ length cs + 1 = ap (λ (es : List (Name × Option DataType)). length es) was ∙ length-append cs ((name, d) ∷ []) in
    ap (λ (es : List (Name × Option DataType)). before (drop m es) (type_in new) a) is
    ∙ before-same (drop m cs) (type_in new) (λ b. cond (bytes_eq b name) d (type_in old b)) put a
    ∙ sym (before-last (drop m cs) (name, d) (type_in old) a)
    ∙ ap (λ (es : List (Name × Option DataType)). before es (type_in old) a) (sym (ap (drop m) was ∙ drop-append-le m cs ((name, d) ∷ []) (omega (arith, l, e))))

-- what is below stays where the types do
below-same : (op : Op) (s : Columns) (m : ℕ) (marks : List ℕ) (Laid Other : ℕ → List ℕ → Type 0) → ((n : ℕ) (rest : List ℕ) → n ≤ m → Laid n rest → Other n rest) → AreBelow op s m marks Laid → AreBelow op s m marks Other
below-same (map_function function) s m marks Laid Other h b = λ mark rest e. ((b mark rest e).0, (b mark rest e).1, h mark rest (b mark rest e).1 (b mark rest e).2)
below-same (slice offset len) s m marks Laid Other h b = h m marks (omega arith) b
below-same (filter predicate) s m marks Laid Other h b = h m marks (omega arith) b
below-same (sort keys part options) s m marks Laid Other h b = h m marks (omega arith) b
below-same (distinct options) s m marks Laid Other h b = h m marks (omega arith) b
below-same (sink payload) s m marks Laid Other h b = h m marks (omega arith) b
below-same (union options) s m marks Laid Other h b = h m marks (omega arith) b
below-same (cache id hits) s m marks Laid Other h b = h m marks (omega arith) b
below-same (scan sources info hive predicate output kind options) s m marks Laid Other h b = tt
below-same (frame_scan df schema output) s m marks Laid Other h b = tt
below-same (simple_projection columns) s m marks Laid Other h b = tt
below-same (select es schema options) s m marks Laid Other h b = tt
below-same (hstack es schema options) s m marks Laid Other h b = tt
below-same (group_by keys aggs schema ordered options) s m marks Laid Other h b = tt
below-same (join_op left_on right_on schema told) s m marks Laid Other h b = tt
below-same (hconcat schema options) s m marks Laid Other h b = tt
below-same invalid s m marks Laid Other h b = tt

pub laid-same : (j k : KnownColumns) (most : ℕ) → ((m : ℕ) (a : Name) → m ≤ most → type_at k m a ≡ type_at j m a) → (m : ℕ) (marks : List ℕ) (ts : Roses (Unit {0}) Op) → m ≤ most → AreLaid j m marks ts → AreLaid k m marks ts
laid-same j k most same m marks no_roses l h = λ a. same m a l ∙ h a
laid-same j k most same m marks (more (rose n op ts) rest) l h = (
  λ a. same m a l ∙ h.0 a,
  below-same op (first_schema (stored_all ts)) m marks (λ (mark : ℕ) (below : List ℕ). AreLaid j mark below ts) (λ (mark : ℕ) (below : List ℕ). AreLaid k mark below ts)
      (λ mark below low b. laid-same j k most same mark below ts (omega (arith, low, l)) b) h.1,
)

-- the columns that are laid are those of the plan
laid-shows : (k : KnownColumns) (m : ℕ) (marks : List ℕ) (ts : Roses (Unit {0}) Op) → AreLaid k m marks ts → (a : Name) → type_at k m a ≡ type_of (first_schema (stored_all ts)) a
laid-shows k m marks no_roses h a = h a
laid-shows k m marks (more (rose n op ts) rest) h a = h.0 a

pub lays-shows : (k : KnownColumns) (ts : Roses (Unit {0}) Op) → Lays k ts → Shows k (first_schema (stored_all ts))
lays-shows k ts h a = sym (type-now k a) ∙ laid-shows k (length k.changes.items) k.marks.items ts h a

-- a function on top of what is laid
pub lays-function : (old mid new : KnownColumns) (function : FunctionIR) (ts : Roses (Unit {0}) Op) → IsOver old mid → IsMade function old mid → new.types ≡ mid.types → new.changes.items ≡ mid.changes.items → new.marks.items ≡ mid.marks.items ++ length old.changes.items ∷ [] → Lays old ts → Lays new (more (rose tt (map_function function) ts) no_roses)
lays-function old mid new function ts over made types changes marks h = (
  λ a.
      type-now new a ∙ ap (λ (s : Columns). type_of s a) types
      ∙ (made (first_schema (stored_all ts)) (lays-shows old ts h)).1 a,
  λ mark rest e.
      let is = end-same rest old.marks.items mark (length old.changes.items) (sym e ∙ marks ∙ ap (λ (ms : List ℕ). ms ++ length old.changes.items ∷ []) over.0) in (
        (made (first_schema (stored_all ts)) (lays-shows old ts h)).0,
        (let l : length new.changes.items ≡ length mid.changes.items = ap (λ (cs : List (Name × Option DataType)). length cs) changes in omega (arith, is.1, over.1, l)),
        subst (λ (n : ℕ). AreLaid new n rest ts) (sym is.1)
            (subst (λ (ms : List ℕ). AreLaid new (length old.changes.items) ms ts) (sym is.0)
            (laid-same old new (length old.changes.items) (λ m a low. same m a ∙ over.2 m a low) (length old.changes.items) old.marks.items ts (omega arith) h)),
      ),
)
  where
    same : (m : ℕ) (a : Name) → type_at new m a ≡ type_at mid m a
    same m a =
        ap (λ (cs : List (Name × Option DataType)). before (drop m cs) (type_in new) a) changes
        ∙ before-same (drop m mid.changes.items) (type_in new) (type_in mid) (λ b. ap (λ (s : Columns). type_of s b) types) a

-- what a plan is, by its node
pub plans-open : (lp : List IR) (ex : List AExpr) (n : Node) (p : IR) → ((t : Trees IR) × StandsOnce plan_shape lp (n ∷ []) t) → slice_get lp n.0 ≡ Some p → bare (plans_at lp ex (n ∷ [])) ≡ more (rose tt (op_at ex p) (bare (plans_at lp ex (inputs_of p)))) no_roses
plans-open lp ex n p h e =
    let o = opened plan_shape lp n p h.0 h.1 e in
    let here : trees_at plan_shape lp (n ∷ []) ≡ more (rose n p o.kids) no_roses = trees_at-is plan_shape lp (n ∷ []) h.0 h.1 ∙ o.is in
    let below : trees_at plan_shape lp (inputs_of p) ≡ o.kids = trees_at-is plan_shape lp (inputs_of p) o.kids o.inputs in
    ap (λ (t : Trees IR). bare (plans_of ex t)) here
    ∙ ap (λ (t : Trees IR). more (rose tt (op_at ex p) (bare (plans_of ex t))) no_roses) (sym below)

-- what is laid of the first of some plans is laid of it alone
pub laid-first : (k : KnownColumns) (m : ℕ) (marks : List ℕ) (lp : List IR) (ex : List AExpr) (i : Node) (ns : List Node) → ((t : Trees IR) × StandsOnce plan_shape lp (i ∷ []) t) → AreLaid k m marks (bare (plans_at lp ex (i ∷ ns))) → AreLaid k m marks (bare (plans_at lp ex (i ∷ [])))
laid-first k m marks lp ex i ns h = go h.0 h.1
  where
    go : (t : Trees IR) → StandsOnce plan_shape lp (i ∷ []) t → AreLaid k m marks (bare (plans_at lp ex (i ∷ ns))) → AreLaid k m marks (bare (plans_at lp ex (i ∷ [])))
    go no_roses g laid = absurd g.stands
    go (more (rose j p kids) no_roses) g laid =
        let is = tree_at-is plan_shape lp i (more (rose j p kids) no_roses) g in
        subst (λ (u : Trees IR). AreLaid k m marks (bare (plans_of ex (join u no_roses)))) (sym is)
        (subst (λ (u : Trees IR). AreLaid k m marks (bare (plans_of ex (join u (trees_at plan_shape lp ns))))) is laid)
    go (more (rose j p kids) (more (rose q r below) rest)) g laid = absurd g.stands.4

laid-at : (k : KnownColumns) (m : ℕ) (marks : List ℕ) (lp : List IR) (ex : List AExpr) (i : Node) (ns : List Node) → ((t : Trees IR) × StandsOnce plan_shape lp (i ∷ []) t) → slice_get ns 0 ≡ Some i → AreLaid k m marks (bare (plans_at lp ex ns)) → AreLaid k m marks (bare (plans_at lp ex (i ∷ [])))
laid-at k m marks lp ex i [] stands e h = cc
laid-at k m marks lp ex i (j ∷ ns) stands e h =
    let same : j ≡ i = cc in
    laid-first k m marks lp ex i ns stands (subst (λ (n : Node). AreLaid k m marks (bare (plans_at lp ex (n ∷ ns)))) same h)

laid-alone : (k : KnownColumns) (m : ℕ) (marks : List ℕ) (lp : List IR) (ex : List AExpr) (i : Node) (ns : List Node) → ((t : Trees IR) × StandsOnce plan_shape lp (i ∷ []) t) → AreLaid k m marks (bare (plans_at lp ex (i ∷ []))) → AreLaid k m marks (bare (plans_at lp ex (i ∷ ns)))
laid-alone k m marks lp ex i ns h = go h.0 h.1
  where
    go : (t : Trees IR) → StandsOnce plan_shape lp (i ∷ []) t → AreLaid k m marks (bare (plans_at lp ex (i ∷ []))) → AreLaid k m marks (bare (plans_at lp ex (i ∷ ns)))
    go no_roses g laid = absurd g.stands
    go (more (rose j p kids) no_roses) g laid =
        let is = tree_at-is plan_shape lp i (more (rose j p kids) no_roses) g in
        subst (λ (u : Trees IR). AreLaid k m marks (bare (plans_of ex (join u (trees_at plan_shape lp ns))))) (sym is)
        (subst (λ (u : Trees IR). AreLaid k m marks (bare (plans_of ex (join u no_roses)))) is laid)
    go (more (rose j p kids) (more (rose q r below) rest)) g laid = absurd g.stands.4

-- a node that has the columns of its first input
laid-shown : (k : KnownColumns) (m : ℕ) (marks : List ℕ) (lp : List IR) (ex : List AExpr) (p : IR) (i : Node) → ((t : Trees IR) × StandsOnce plan_shape lp (i ∷ []) t) → input_shown p ≡ Some i → AreLaid k m marks (bare (plans_at lp ex (i ∷ []))) → AreLaid k m marks (more (rose tt (op_at ex p) (bare (plans_at lp ex (inputs_of p)))) no_roses)
laid-shown k m marks lp ex p i stands e h = at p e
  where
    one : (j : Node) → Some j ≡ Some i → AreLaid k m marks (bare (plans_at lp ex (j ∷ [])))
    one j q = let same : i ≡ j = cc in subst (λ (x : Node). AreLaid k m marks (bare (plans_at lp ex (x ∷ [])))) same h

    many : (ns : List Node) → slice_get ns 0 ≡ Some i → AreLaid k m marks (bare (plans_at lp ex ns))
    many [] q = cc
    many (j ∷ ns) q = let same : i ≡ j = cc in subst (λ (x : Node). AreLaid k m marks (bare (plans_at lp ex (x ∷ ns)))) same (laid-alone k m marks lp ex i ns stands h)

    at : (r : IR) → input_shown r ≡ Some i → AreLaid k m marks (more (rose tt (op_at ex r) (bare (plans_at lp ex (inputs_of r)))) no_roses)
    at (Slice j offset len) q = (λ a. laid-shows k m marks _ (one j q) a, one j q)
    at (Filter j predicate) q = (λ a. laid-shows k m marks _ (one j q) a, one j q)
    at (Sort j keys part options) q = (λ a. laid-shows k m marks _ (one j q) a, one j q)
    at (Distinct j options) q = (λ a. laid-shows k m marks _ (one j q) a, one j q)
    at (Sink j payload) q = (λ a. laid-shows k m marks _ (one j q) a, one j q)
    at (Cache j id hits) q = (λ a. laid-shows k m marks _ (one j q) a, one j q)
    at (Union inputs options) q = (λ a. laid-shows k m marks _ (many inputs q) a, many inputs q)
    at (Scan sources info hive predicate output kind options) q = cc
    at (DataFrameScan df schema output) q = cc
    at (SimpleProjection j columns) q = cc
    at (Select j es schema options) q = cc
    at (HStack j es schema options) q = cc
    at (GroupBy j keys aggs schema ordered options) q = cc
    at (Join left right schema left_on right_on options) q = cc
    at (MapFunction j function) q = cc
    at (HConcat inputs schema options) q = cc
    at Invalid q = cc

-- an input whose columns a node has is its first
pub shown-first : (p : IR) (i : Node) → input_shown p ≡ Some i → slice_get (inputs_of p) 0 ≡ Some i
shown-first (Slice j offset len) i e = e
shown-first (Filter j predicate) i e = e
shown-first (Sort j keys part options) i e = e
shown-first (Distinct j options) i e = e
shown-first (Sink j payload) i e = e
shown-first (Cache j id hits) i e = e
shown-first (Union inputs options) i e = e
shown-first (Scan sources info hive predicate output kind options) i e = cc
shown-first (DataFrameScan df schema output) i e = cc
shown-first (SimpleProjection j columns) i e = cc
shown-first (Select j es schema options) i e = cc
shown-first (HStack j es schema options) i e = cc
shown-first (GroupBy j keys aggs schema ordered options) i e = cc
shown-first (Join left right schema left_on right_on options) i e = cc
shown-first (MapFunction j function) i e = cc
shown-first (HConcat inputs schema options) i e = cc
shown-first Invalid i e = cc

pub lays-shown : (k : KnownColumns) (lp : List IR) (ex : List AExpr) (n i : Node) (p : IR) → ((t : Trees IR) × StandsOnce plan_shape lp (n ∷ []) t) → slice_get lp n.0 ≡ Some p → input_shown p ≡ Some i → Lays k (bare (plans_at lp ex (i ∷ []))) → Lays k (bare (plans_at lp ex (n ∷ [])))
lays-shown k lp ex n i p stands e shown h =
    subst (Lays k) (sym (plans-open lp ex n p stands e))
    (laid-shown k (length k.changes.items) k.marks.items lp ex p i (StandsOnce-input plan_shape lp n i p 0 stands e (shown-first p i shown)) shown h)

-- the columns of a node without marks
pub lays-stored : (k : KnownColumns) (lp : List IR) (ex : List AExpr) (n : Node) (p : IR) → ((t : Trees IR) × StandsOnce plan_shape lp (n ∷ []) t) → slice_get lp n.0 ≡ Some p → input_shown p ≡ None → k.marks.items ≡ [] → Shows k (first_schema (stored_all (bare (plans_at lp ex (n ∷ []))))) → Lays k (bare (plans_at lp ex (n ∷ [])))
lays-stored k lp ex n p stands e shown marks shows =
    subst (Lays k) (sym (plans-open lp ex n p stands e)) (types, below p shown refl)
  where
    types : (a : Name) → type_at k (length k.changes.items) a ≡ type_of (stored_by (op_at ex p) (stored_all (bare (plans_at lp ex (inputs_of p))))) a
    types a = type-now k a ∙ shows a ∙ ap (λ (ts : Roses (Unit {0}) Op). type_of (first_schema (stored_all ts)) a) (plans-open lp ex n p stands e)

    none : (ns : List Node) → slice_get ns 0 ≡ None → ((a : Name) → type_at k (length k.changes.items) a ≡ type_of (first_schema (stored_all (bare (plans_at lp ex ns)))) a) → AreLaid k (length k.changes.items) k.marks.items (bare (plans_at lp ex ns))
    none [] q t = t
    none (m ∷ ns) q t = cc

    below : (r : IR) → input_shown r ≡ None → p ≡ r → AreBelow (op_at ex r) (first_schema (stored_all (bare (plans_at lp ex (inputs_of r))))) (length k.changes.items) k.marks.items (λ (mark : ℕ) (rest : List ℕ). AreLaid k mark rest (bare (plans_at lp ex (inputs_of r))))
    below (MapFunction j function) q s = λ mark rest w. absurd (none-ends rest mark (sym marks ∙ w))
    below (Union inputs options) q s = none inputs q (subst (λ (x : IR). (a : Name) → type_at k (length k.changes.items) a ≡ type_of (stored_by (op_at ex x) (stored_all (bare (plans_at lp ex (inputs_of x))))) a) s types)
    below (Slice j offset len) q s = cc
    below (Filter j predicate) q s = cc
    below (Sort j keys part options) q s = cc
    below (Distinct j options) q s = cc
    below (Sink j payload) q s = cc
    below (Cache j id hits) q s = cc
    below (Scan sources info hive predicate output kind options) q s = tt
    below (DataFrameScan df schema output) q s = tt
    below (SimpleProjection j columns) q s = tt
    below (Select j es schema options) q s = tt
    below (HStack j es schema options) q s = tt
    below (GroupBy j keys aggs schema ordered options) q s = tt
    below (Join left right schema left_on right_on options) q s = tt
    below (HConcat inputs schema options) q s = tt
    below Invalid q s = tt

-- what is below a function, once its changes are taken back
pub lays-below : (old new : KnownColumns) (function : FunctionIR) (n : Unit {0}) (ts rest : Roses (Unit {0}) Op) (mark : ℕ) (marks : List ℕ) → old.marks.items ≡ marks ++ mark ∷ [] → new.marks.items ≡ marks → (mark ≤ length old.changes.items → length new.changes.items ≡ mark) → ((m : ℕ) (a : Name) → m ≤ mark → mark ≤ length old.changes.items → type_at new m a ≡ type_at old m a) → Lays old (more (rose n (map_function function) ts) rest) → Lays new ts
lays-below old new function n ts rest mark marks was is len same h =
    let b = h.1 mark marks was in
    subst (λ (m : ℕ). AreLaid new m new.marks.items ts) (sym (len b.1))
    (subst (λ (ms : List ℕ). AreLaid new mark ms ts) (sym is)
    (laid-same old new mark (λ m a low. same m a low b.1) mark marks ts (omega arith) b.2))

-- what is laid, with the same types, changes and marks
pub lays-same : (j k : KnownColumns) (ts : Roses (Unit {0}) Op) → k.types ≡ j.types → k.changes ≡ j.changes → k.marks ≡ j.marks → Lays j ts → Lays k ts
lays-same j k ts types changes marks h =
    let items : k.changes.items ≡ j.changes.items = ap (λ (v : _). v.items) changes in
    let ends : k.marks.items ≡ j.marks.items = ap (λ (v : _). v.items) marks in
    subst (λ (ms : List ℕ). AreLaid k (length k.changes.items) ms ts) (sym ends)
    (subst (λ (m : ℕ). AreLaid k m j.marks.items ts) (sym (ap (λ (cs : List (Name × Option DataType)). length cs) items))
    (laid-same j k (length j.changes.items)
    (λ m a l.
    ap (λ (cs : List (Name × Option DataType)). before (drop m cs) (type_in k) a) items
    ∙ before-same (drop m j.changes.items) (type_in k) (type_in j) (λ b. ap (λ (s : Columns). type_of s b) types) a)
    (length j.changes.items) j.marks.items ts (omega arith) h))

-- nothing that is known
pub nothing-known : (k : KnownColumns) (lp : List IR) (ns : List Node) → k.is_known ≡ false → KnowsAt k lp ns
nothing-known k lp ns none = λ ex yes. let some : k.is_known ≡ true = yes in cc

-- what is laid of a node that has the columns of its first input
laid-inputs : (k : KnownColumns) (m : ℕ) (marks : List ℕ) (lp : List IR) (ex : List AExpr) (p : IR) (i : Node) → input_shown p ≡ Some i → AreLaid k m marks (more (rose tt (op_at ex p) (bare (plans_at lp ex (inputs_of p)))) no_roses) → AreLaid k m marks (bare (plans_at lp ex (inputs_of p)))
laid-inputs k m marks lp ex (Slice j offset len) i e h = h.1
laid-inputs k m marks lp ex (Filter j predicate) i e h = h.1
laid-inputs k m marks lp ex (Sort j keys part options) i e h = h.1
laid-inputs k m marks lp ex (Distinct j options) i e h = h.1
laid-inputs k m marks lp ex (Sink j payload) i e h = h.1
laid-inputs k m marks lp ex (Cache j id hits) i e h = h.1
laid-inputs k m marks lp ex (Union inputs options) i e h = h.1
laid-inputs k m marks lp ex (Scan sources info hive predicate output kind options) i e h = cc
laid-inputs k m marks lp ex (DataFrameScan df schema output) i e h = cc
laid-inputs k m marks lp ex (SimpleProjection j columns) i e h = cc
laid-inputs k m marks lp ex (Select j es schema options) i e h = cc
laid-inputs k m marks lp ex (HStack j es schema options) i e h = cc
laid-inputs k m marks lp ex (GroupBy j keys aggs schema ordered options) i e h = cc
laid-inputs k m marks lp ex (Join left right schema left_on right_on options) i e h = cc
laid-inputs k m marks lp ex (MapFunction j function) i e h = cc
laid-inputs k m marks lp ex (HConcat inputs schema options) i e h = cc
laid-inputs k m marks lp ex Invalid i e h = cc

pub knows-shown : (k : KnownColumns) (lp : List IR) (p : IR) (i : Node) → input_shown p ≡ Some i → KnowsOver k lp p → KnowsAt k lp (inputs_of p)
knows-shown k lp p i e h = λ ex yes. laid-inputs k (length k.changes.items) k.marks.items lp ex p i e (h ex yes)

-- where no check fails on functions at the top of a node that has the columns of an input, none fails on those of the input
pub hold-shown : (lp : List IR) (n i : Node) (p : IR) (count : ℕ) → ((t : Trees IR) × StandsOnce plan_shape lp (n ∷ []) t) → slice_get lp n.0 ≡ Some p → input_shown p ≡ Some i → Hold lp n count → Hold lp i count
hold-shown lp n i p count stands e shown h = λ ex.
    let x = h ex in
    let first = shown-first p i shown in
    let below = laid-inputs x.0 x.1 x.2 lp ex p i shown (subst (AreLaid x.0 x.1 x.2) (plans-open lp ex n p stands e) x.4) in
    (x.0, x.1, x.2, x.3, laid-at x.0 x.1 x.2 lp ex i (inputs_of p) (StandsOnce-input plan_shape lp n i p 0 stands e first) first below)

-- a list that isn't empty has a last item
last-of : (xs : List ℕ) (count : ℕ) → length xs ≡ suc count → (rest : List ℕ) × (x : ℕ) × (xs ≡ rest ++ x ∷ []) × (length rest ≡ count)
last-of [] count e = cc
last-of (x ∷ []) count e = ([], x, refl, (let q : 0 ≡ count = cc in q))
last-of (x ∷ y ∷ xs) zero e = absurd (omega (arith, e))
last-of (x ∷ y ∷ xs) (suc count) e =
    let r = last-of (y ∷ xs) count (omega (arith, e)) in
    (x ∷ r.0, r.1, ap (λ (l : List ℕ). x ∷ l) r.2, omega (arith, r.3))

-- so it is of a function, and its columns are those that it makes
pub hold-function : (lp : List IR) (n i : Node) (function : FunctionIR) (count : ℕ) → ((t : Trees IR) × StandsOnce plan_shape lp (n ∷ []) t) → slice_get lp n.0 ≡ Some (MapFunction i function) → Hold lp n (suc count) → Hold lp i count × ((ex : List AExpr) → columns_at lp ex n ≡ function_schema function (columns_at lp ex i))
hold-function lp n i function count stands e h = (
  λ ex. (let x = h ex in let l = last-of x.2 count x.3 in (x.0, l.1, l.0, l.3, (parts ex).2)),
  λ ex. ap (λ (ts : Roses (Unit {0}) Op). first_schema (stored_all ts)) (plans-open lp ex n (MapFunction i function) stands e) ∙ ap (λ (b : Bool). cond b (function_schema function (columns_at lp ex i)) []) (parts ex).0,
)
  where
    parts : (ex : List AExpr) → (all_hold (function_checks function (columns_at lp ex i)) ≡ true) × ((last-of (h ex).2 count (h ex).3).1 ≤ (h ex).1) × AreLaid (h ex).0 (last-of (h ex).2 count (h ex).3).1 (last-of (h ex).2 count (h ex).3).0 (bare (plans_at lp ex (i ∷ [])))
    parts ex =
        let x = h ex in
        let l = last-of x.2 count x.3 in
        (subst (AreLaid x.0 x.1 x.2) (plans-open lp ex n (MapFunction i function) stands e) x.4).1 l.1 l.0 l.2

-- what is known of the first of some plans is known of it alone
pub knows-first : (k : KnownColumns) (lp : List IR) (i : Node) (ns : List Node) → ((t : Trees IR) × StandsOnce plan_shape lp (i ∷ []) t) → slice_get ns 0 ≡ Some i → KnowsAt k lp ns → KnowsAt k lp (i ∷ [])
knows-first k lp i ns stands e h = λ ex yes. laid-at k (length k.changes.items) k.marks.items lp ex i ns stands e (h ex yes)

-- what is known of a plan is known of its node, over inputs that are the same elsewhere
pub knows-over : (k : KnownColumns) (lp : List IR) (n : Node) (p : IR) → ((t : Trees IR) × StandsOnce plan_shape lp (n ∷ []) t) → slice_get lp n.0 ≡ Some p → KnowsAt k lp (n ∷ []) → KnowsOver k lp p
knows-over k lp n p stands e h = λ ex yes. subst (Lays k) (plans-open lp ex n p stands e) (h ex yes)

-- a node that has the columns of an input says that it has those
shown-by : (ex : List AExpr) (p : IR) (i : Node) (ts : Roses (Unit {0}) Op) → input_shown p ≡ Some i → stored_by (op_at ex p) (stored_all ts) ≡ first_schema (stored_all ts)
shown-by ex (Slice j offset len) i ts e = refl
shown-by ex (Filter j predicate) i ts e = refl
shown-by ex (Sort j keys part options) i ts e = refl
shown-by ex (Distinct j options) i ts e = refl
shown-by ex (Sink j payload) i ts e = refl
shown-by ex (Cache j id hits) i ts e = refl
shown-by ex (Union inputs options) i ts e = refl
shown-by ex (Scan sources info hive predicate output kind options) i ts e = cc
shown-by ex (DataFrameScan df schema output) i ts e = cc
shown-by ex (SimpleProjection j columns) i ts e = cc
shown-by ex (Select j es schema options) i ts e = cc
shown-by ex (HStack j es schema options) i ts e = cc
shown-by ex (GroupBy j keys aggs schema ordered options) i ts e = cc
shown-by ex (Join left right schema left_on right_on options) i ts e = cc
shown-by ex (MapFunction j function) i ts e = cc
shown-by ex (HConcat inputs schema options) i ts e = cc
shown-by ex Invalid i ts e = cc

pub shown-same : (lp : List IR) (ex : List AExpr) (n i : Node) (p : IR) → ((t : Trees IR) × StandsOnce plan_shape lp (n ∷ []) t) → slice_get lp n.0 ≡ Some p → input_shown p ≡ Some i → columns_at lp ex i ≡ columns_at lp ex n
shown-same lp ex n i p stands e shown =
    let first = shown-first p i shown in
    stored_first lp ex i (inputs_of p) (StandsOnce-input plan_shape lp n i p 0 stands e first) first
    ∙ sym (shown-by ex p i (bare (plans_at lp ex (inputs_of p))) shown)
    ∙ stored_open lp ex n p stands e
