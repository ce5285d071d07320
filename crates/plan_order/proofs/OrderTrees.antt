-- What the pass makes of trees in an arena, numbers and all.
use Rattle.std.proofs.Common.{◌≡◌, ℕ, suc, Bool, true, false, not, ◌||◌, List, [], ◌∷◌, ◌++◌, length, if◌then◌else◌, refl, sym, ap, ap₂, ◌∙◌, inl, inr, ◌⊎◌, arith}
use Rattle.plan_core.specs.declared.arena.Node.{Node}
use Rattle.plan_tree.specs.Rose.{Rose, rose, no_roses, more, join}
use Rattle.plan_tree.specs.Stands.{Trees, Reaches, Stands}
use Rattle.plan_expr.specs.declared.aexpr.AExpr.{AExpr}
use Rattle.plan_ir.specs.declared.ir.IR.{IR}
use Rattle.plan_ir.specs.declared.ir.IR.TheVariants as nodes
use Rattle.plan_ir.specs.Parts.{inputs_of, is_invalid, plan_shape, roots_of}
use Rattle.plan_ir.specs.Plans.{op_at}
use Rattle.plan_order_laws.specs.Demands.{demands, is_idle, told_order}
use Rattle.plan_order.specs.DemandTurns.{told_node}

-- whether there are trees
abbrev pub some_trees : Trees IR → Bool
some_trees no_roses = false
some_trees (more r rest) = true

-- the first of some trees at another number; where there is none a node without inputs
abbrev pub moved_up : Node → IR → Trees IR → Rose Node IR
moved_up n p no_roses = rose n p no_roses
moved_up n p (more (rose m q kids) rest) = rose n q kids

-- a tree whose order is demanded or not; of trees the last one's is, or not, and that of those before it is
abbrev mutual
  pub orders : List AExpr → Bool → Rose Node IR → Rose Node IR
  orders ex d (rose n p kids) =
      if is_idle d (op_at ex p) then moved_up n p (orders_in ex (demands d (op_at ex p)) kids) else rose n (told_node d p) (orders_in ex (demands d (op_at ex p)) kids)

  pub orders_in : List AExpr → Bool → Trees IR → Trees IR
  orders_in ex d no_roses = no_roses
  orders_in ex d (more r rest) = more (orders ex (d || some_trees rest) r) (orders_in ex d rest)

-- how many trees there are
abbrev pub count : Trees IR → ℕ
count no_roses = 0
count (more r rest) = suc (count rest)

pub count-orders : (ex : List AExpr) (d : Bool) (f : Trees IR) → count (orders_in ex d f) ≡ count f
count-orders ex d no_roses = refl
count-orders ex d (more r rest) = ap suc (count-orders ex d rest)

pub count-stands : (lp : List IR) (ns : List Node) (f : Trees IR) → Stands plan_shape lp ns f → count f ≡ length ns
count-stands lp [] no_roses s = refl
count-stands lp [] (more (rose m p kids) rest) s = absurd s
count-stands lp (n ∷ ns) no_roses s = absurd s
count-stands lp (n ∷ ns) (more (rose m p kids) rest) s = ap suc (count-stands lp ns rest s.4)

-- trees side by side that stand over two lists of numbers, the first of them over the first list
pub Stands-unjoin : (lp : List IR) (ns ms : List Node) (f g : Trees IR) → count f ≡ length ns → Stands plan_shape lp (ns ++ ms) (join f g) → Stands plan_shape lp ns f × Stands plan_shape lp ms g
Stands-unjoin lp [] ms no_roses g e s = (tt, s)
Stands-unjoin lp [] ms (more r rest) g e s = absurd (omega arith)
Stands-unjoin lp (n ∷ ns) ms no_roses g e s = absurd (omega arith)
Stands-unjoin lp (n ∷ ns) ms (more (rose m p kids) rest) g e s =
    let r = Stands-unjoin lp ns ms rest g (omega arith) s.4 in
    ((s.0, s.1, s.2, s.3, r.0), r.1)

some-join : (f : Trees IR) (r : Rose Node IR) (g : Trees IR) → some_trees (join f (more r g)) ≡ true
some-join no_roses r g = refl
some-join (more q rest) r g = refl

or_true : (b : Bool) → (b || true) ≡ true
or_true true = refl
or_true false = refl

-- where others follow, all trees are told that their order is demanded
pub orders-join : (ex : List AExpr) (d : Bool) (f : Trees IR) (r : Rose Node IR) (g : Trees IR) → orders_in ex d (join f (more r g)) ≡ join (orders_in ex true f) (orders_in ex d (more r g))
orders-join ex d no_roses r g = refl
orders-join ex d (more q rest) r g =
    ap₂ (λ (b : Bool) (x : Trees IR). more (orders ex b q) x) (ap (λ (b : Bool). d || b) (some-join rest r g) ∙ or_true d) (orders-join ex d rest r g)

join-nothing : (f : Trees IR) → join f no_roses ≡ f
join-nothing no_roses = refl
join-nothing (more r rest) = ap (λ (x : Trees IR). more r x) (join-nothing rest)

-- and also where none may follow: the last of the others is then told the demand, or the last of the first where there is no other
pub orders-over : (ex : List AExpr) (d : Bool) (f g : Trees IR) → orders_in ex (d || not (some_trees g)) (join f g) ≡ join (orders_in ex true f) (orders_in ex d g)
orders-over ex d f no_roses = ap₂ (λ (b : Bool) (x : Trees IR). orders_in ex b x) (or_true d) (join-nothing f) ∙ sym (join-nothing (orders_in ex true f))
orders-over ex d f (more r g) = ap (λ (b : Bool). orders_in ex b (join f (more r g))) (or_false d) ∙ orders-join ex d f r g
  where
    or_false : (b : Bool) → (b || false) ≡ b
    or_false true = refl
    or_false false = refl

-- a tree at another number
abbrev pub at_number : Node → Rose Node IR → Rose Node IR
at_number n (rose m p kids) = rose n p kids

moved_up-at : (n i : Node) (p q : IR) (f : Trees IR) → moved_up n q f ≡ at_number n (moved_up i q f)
moved_up-at n i p q no_roses = refl
moved_up-at n i p q (more (rose m r kids) rest) = refl

-- what is made of a tree doesn't depend on its number
pub orders-at : (ex : List AExpr) (d : Bool) (n i : Node) (q : IR) (kids : Trees IR) → orders ex d (rose n q kids) ≡ at_number n (orders ex d (rose i q kids))
orders-at ex d n i q kids = either (is_idle d (op_at ex q)) (orders_in ex (demands d (op_at ex q)) kids)
  where
    either : (b : Bool) (g : Trees IR) → (if b then moved_up n q g else rose n (told_node d q) g) ≡ at_number n (if b then moved_up i q g else rose i (told_node d q) g)
    either true g = moved_up-at n i q q g
    either false g = refl

-- a node without effect over one input
pub orders-idle : (ex : List AExpr) (d : Bool) (n i : Node) (p q : IR) (kids : Trees IR) → is_idle d (op_at ex p) ≡ true → demands d (op_at ex p) ≡ d → orders ex d (rose n p (more (rose i q kids) no_roses)) ≡ orders ex d (rose n q kids)
orders-idle ex d n i p q kids idle same = rw (idle, same) (go (orders ex (d || false) (rose i q kids)) (ap (λ (b : Bool). orders ex b (rose i q kids)) (or_false d))) ∙ sym (orders-at ex d n i q kids)
  where
    or_false : (b : Bool) → (b || false) ≡ b
    or_false true = refl
    or_false false = refl

    go : (r : Rose Node IR) → r ≡ orders ex d (rose i q kids) → moved_up n p (more r no_roses) ≡ at_number n (orders ex d (rose i q kids))
    go (rose m s below) e = ap (at_number n) e

-- a node that stays
pub orders-told : (ex : List AExpr) (d : Bool) (n : Node) (p : IR) (kids : Trees IR) → is_idle d (op_at ex p) ≡ false → orders ex d (rose n p kids) ≡ rose n (told_node d p) (orders_in ex (demands d (op_at ex p)) kids)
orders-told ex d n p kids e = rw e refl

-- what stands at the number of a node is its own, or that of what is below
made-part : (b : Bool) (n : Node) (p q : IR) (g rest : Trees IR) (k : ℕ) → Reaches (more (if b then moved_up n p g else rose n q g) rest) k → (k ≡ n.0) ⊎ (Reaches g k ⊎ Reaches rest k)
made-part false n p q g rest k r = r
made-part true n p q no_roses rest k r = r
made-part true n p q (more (rose m s kids) others) rest k r =
    elim r as (λ _. (k ≡ n.0) ⊎ (Reaches (more (rose m s kids) others) k ⊎ Reaches rest k)) [
      | inl e ↦ inl e
      | inr t ↦ elim t as (λ _. (k ≡ n.0) ⊎ (Reaches (more (rose m s kids) others) k ⊎ Reaches rest k)) [
        | inl u ↦ inr (inl (inr (inl u)))
        | inr v ↦ inr (inr v)
      ]
    ]

-- what is made reaches only what was there
pub orders-part : (ex : List AExpr) (d : Bool) (f : Trees IR) (k : ℕ) → Reaches (orders_in ex d f) k → Reaches f k
orders-part ex d no_roses k r = r
orders-part ex d (more (rose n p kids) rest) k r =
    elim (made-part (is_idle (d || some_trees rest) (op_at ex p)) n p (told_node (d || some_trees rest) p) (orders_in ex (demands (d || some_trees rest) (op_at ex p)) kids) (orders_in ex d rest) k r) as (λ _. Reaches (more (rose n p kids) rest) k) [
      | inl e ↦ inl e
      | inr t ↦ elim t as (λ _. Reaches (more (rose n p kids) rest) k) [
        | inl u ↦ inr (inl (orders-part ex (demands (d || some_trees rest) (op_at ex p)) kids k u))
        | inr v ↦ inr (inr (orders-part ex d rest k v))
      ]
    ]

-- the parts of a node that is told: it has the inputs and the expressions that it had
pub told-inputs : (d : Bool) (p : IR) → inputs_of (told_node d p) ≡ inputs_of p
told-inputs d (nodes.Slice input offset len) = refl
told-inputs d (nodes.Filter input predicate) = refl
told-inputs d (nodes.Scan sources file_info hive_parts predicate output_schema scan_type file_options) = refl
told-inputs d (nodes.DataFrameScan df schema output_schema) = refl
told-inputs d (nodes.SimpleProjection input columns) = refl
told-inputs d (nodes.Select input expr schema options) = refl
told-inputs d (nodes.HStack input exprs schema options) = refl
told-inputs d (nodes.Sort input by_column cut sort_options) = refl
told-inputs d (nodes.GroupBy input keys aggs schema maintain_order options) = refl
told-inputs d (nodes.Join input_left input_right schema left_on right_on options) = refl
told-inputs d (nodes.Distinct input options) = refl
told-inputs d (nodes.MapFunction input function) = refl
told-inputs d (nodes.Sink input payload) = refl
told-inputs d (nodes.Union inputs options) = refl
told-inputs d (nodes.HConcat inputs schema options) = refl
told-inputs d (nodes.Cache input id cache_hits) = refl
told-inputs d nodes.Invalid = refl

pub told-valid : (d : Bool) (p : IR) → is_invalid (told_node d p) ≡ is_invalid p
told-valid d (nodes.Slice input offset len) = refl
told-valid d (nodes.Filter input predicate) = refl
told-valid d (nodes.Scan sources file_info hive_parts predicate output_schema scan_type file_options) = refl
told-valid d (nodes.DataFrameScan df schema output_schema) = refl
told-valid d (nodes.SimpleProjection input columns) = refl
told-valid d (nodes.Select input expr schema options) = refl
told-valid d (nodes.HStack input exprs schema options) = refl
told-valid d (nodes.Sort input by_column cut sort_options) = refl
told-valid d (nodes.GroupBy input keys aggs schema maintain_order options) = refl
told-valid d (nodes.Join input_left input_right schema left_on right_on options) = refl
told-valid d (nodes.Distinct input options) = refl
told-valid d (nodes.MapFunction input function) = refl
told-valid d (nodes.Sink input payload) = refl
told-valid d (nodes.Union inputs options) = refl
told-valid d (nodes.HConcat inputs schema options) = refl
told-valid d (nodes.Cache input id cache_hits) = refl
told-valid d nodes.Invalid = refl

pub told-op : (ex : List AExpr) (d : Bool) (p : IR) → op_at ex (told_node d p) ≡ told_order d (op_at ex p)
told-op ex d (nodes.Slice input offset len) = refl
told-op ex d (nodes.Filter input predicate) = refl
told-op ex d (nodes.Scan sources file_info hive_parts predicate output_schema scan_type file_options) = refl
told-op ex d (nodes.DataFrameScan df schema output_schema) = refl
told-op ex d (nodes.SimpleProjection input columns) = refl
told-op ex d (nodes.Select input expr schema options) = refl
told-op ex d (nodes.HStack input exprs schema options) = refl
told-op ex d (nodes.Sort input by_column cut sort_options) = refl
told-op ex d (nodes.GroupBy input keys aggs schema maintain_order options) = refl
told-op ex d (nodes.Join input_left input_right schema left_on right_on options) = refl
told-op ex d (nodes.Distinct input options) = refl
told-op ex d (nodes.MapFunction input function) = refl
told-op ex d (nodes.Sink input payload) = refl
told-op ex d (nodes.Union inputs options) = refl
told-op ex d (nodes.HConcat inputs schema options) = refl
told-op ex d (nodes.Cache input id cache_hits) = refl
told-op ex d nodes.Invalid = refl

pub told-roots : (d : Bool) (p : IR) → roots_of (told_node d p) ≡ roots_of p
told-roots d (nodes.Slice input offset len) = refl
told-roots d (nodes.Filter input predicate) = refl
told-roots d (nodes.Scan sources file_info hive_parts predicate output_schema scan_type file_options) = refl
told-roots d (nodes.DataFrameScan df schema output_schema) = refl
told-roots d (nodes.SimpleProjection input columns) = refl
told-roots d (nodes.Select input expr schema options) = refl
told-roots d (nodes.HStack input exprs schema options) = refl
told-roots d (nodes.Sort input by_column cut sort_options) = refl
told-roots d (nodes.GroupBy input keys aggs schema maintain_order options) = refl
told-roots d (nodes.Join input_left input_right schema left_on right_on options) = refl
told-roots d (nodes.Distinct input options) = refl
told-roots d (nodes.MapFunction input function) = refl
told-roots d (nodes.Sink input payload) = refl
told-roots d (nodes.Union inputs options) = refl
told-roots d (nodes.HConcat inputs schema options) = refl
told-roots d (nodes.Cache input id cache_hits) = refl
told-roots d nodes.Invalid = refl
