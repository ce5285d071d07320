-- Copies of expressions, made from the end of a walk to its beginning: what stands for the trees that are met from a place on.
use Rattle.std.proofs.Common.{◌≡◌, ℕ, zero, suc, ◌+◌, ◌-◌, ◌<◌, ◌≤◌, List, [], ◌∷◌, ◌++◌, drop, length, reverse, get_or, Option, Some, None, IsSome, MatchOption, Result, Ok, Err, IfOk, refl, sym, ap, ap₂, ◌∙◌, arith, inl, inr, append_assoc, append-nil, length-append}
use Rattle.std.specs.List.{slice_get}
use Rattle.std.proofs.lemmas.List.{drop_all, get_or_default, length-reverse, nil_from_length}
use Rattle.std.proofs.lemmas.Option.{slice_get_within}
use Rattle.std.specs.declared.alloc.AllocError.{AllocError}
use Rattle.plan_core.specs.declared.arena.Node.{Node}
use Rattle.plan_tree.proofs.Frames.{Stands-join, join-left, join-right, Stands-kept, slice_get-append, slice_get-append_last}
use Rattle.plan_tree.proofs.JoinLemmas.{labels-join}
use Rattle.plan_tree.proofs.Numbers.{Reaches-within}
use Rattle.plan_tree.proofs.ReadLemmas.{tree_at-stands}
use Rattle.plan_tree.proofs.SplitLemmas.{Sides, StandsOnce-split}
use Rattle.plan_tree.specs.Read.{tree_at}
use Rattle.plan_tree.specs.Rose.{Rose, Roses, rose, no_roses, more, join, labels, map_roses}
use Rattle.plan_tree.specs.Stands.{Shape, Trees, Reaches, Stands, StandsOnce}
use Rattle.plan_expr.specs.declared.aexpr.AExpr.{AExpr}
use Rattle.plan_expr.specs.Exprs.{ExprOp, column, literal, alias, binary, ternary, aggregate, call, window, len, bare_exprs, expr_op}
use Rattle.plan_expr.specs.Operands.{IsExpr, expr_shape, operands_of}
use Rattle.plan_frame.proofs.ScalarExprs.{item_here}
use Rattle.plan_pruned.specs.Renamed.{IsLonger, IsNext, IsRenamed, renamed_exprs, renamed_op}

module _ {N P : Type 0} where
  -- how many trees stand side by side
  abbrev pub count : Roses N P → ℕ
  count no_roses = 0
  count (more r rest) = suc (count rest)

  -- trees side by side that are alike, of which the first ones are as many, are alike in both parts
  join-parts : (a b x y : Roses N P) → count a ≡ count b → join a x ≡ join b y → (a ≡ b) × (x ≡ y)
  join-parts no_roses no_roses x y n e = (refl, e)
  join-parts no_roses (more r b) x y n e = cc
  join-parts (more r a) no_roses x y n e = cc
  join-parts (more r a) (more s b) x y n e =
      let same : r ≡ s = cc in
      let tail : join a x ≡ join b y = cc in
      let long : count a ≡ count b = cc in
      let parts = join-parts a b x y long tail in
      (ap₂ (λ (t : Rose N P) (ts : Roses N P). more t ts) same parts.0, parts.1)

module _ {N M P Q : Type 0} (f : N → M) (g : P → Q) where
  map-join : (a b : Roses N P) → map_roses f g (join a b) ≡ join (map_roses f g a) (map_roses f g b)
  map-join no_roses b = refl
  map-join (more (rose n p kids) rest) b = ap (λ (l : Roses M Q). more (rose (f n) (g p) (map_roses f g kids)) l) (map-join rest b)

  count-map : (a : Roses N P) → count (map_roses f g a) ≡ count a
  count-map no_roses = refl
  count-map (more (rose n p kids) rest) = ap suc (count-map rest)

module _ {P : Type 0} where
  -- the trees that a walk meets from a place on
  abbrev pub later : Trees P → ℕ → Trees P
  later f zero = f
  later no_roses (suc i) = no_roses
  later (more (rose n p kids) rest) (suc i) = later (join kids rest) i

  labels-later : (f : Trees P) (i : ℕ) → labels (later f i) ≡ drop i (labels f)
  labels-later f zero = refl
  labels-later no_roses (suc i) = refl
  labels-later (more (rose n p kids) rest) (suc i) = labels-later (join kids rest) i ∙ ap (drop i) (labels-join kids rest)

  later-next : (f : Trees P) (i : ℕ) (n : Node) (p : P) (kids rest : Trees P) → later f i ≡ more (rose n p kids) rest → later f (suc i) ≡ join kids rest
  later-next no_roses zero n p kids rest e = cc
  later-next no_roses (suc i) n p kids rest e = cc
  later-next (more (rose m q below) beside) zero n p kids rest e =
      let a : below ≡ kids = cc in
      let b : beside ≡ rest = cc in
      ap₂ join a b
  later-next (more (rose m q below) beside) (suc i) n p kids rest e = later-next (join below beside) i n p kids rest e

  none-from_labels : (f : Trees P) → labels f ≡ [] → f ≡ no_roses
  none-from_labels no_roses e = refl
  none-from_labels (more (rose n p kids) rest) e = cc

  -- from its end on a walk meets none
  pub later-end : (f : Trees P) (i : ℕ) → length (labels f) ≤ i → later f i ≡ no_roses
  later-end f i h = none-from_labels (later f i) (labels-later f i ∙ drop_all i (labels f) h)

module _ {P : Type 0} (S : Shape P) where
  count-stands : (lp : List P) (ns : List Node) (f : Trees P) → Stands S lp ns f → count f ≡ length ns
  count-stands lp [] no_roses s = refl
  count-stands lp [] (more (rose m p kids) rest) s = absurd s
  count-stands lp (n ∷ ns) no_roses s = absurd s
  count-stands lp (n ∷ ns) (more (rose m p kids) rest) s = ap suc (count-stands lp ns rest s.4)

  -- over which numbers trees stand
  record Over (lp : List P) (f : Trees P) : Type 0 where
    roots : List Node
    stands : Stands S lp roots f

  over-later : (lp : List P) (ns : List Node) (f : Trees P) (i : ℕ) → Stands S lp ns f → Over lp (later f i)
  over-later lp ns f zero s = record { roots = ns; stands = s }
  over-later lp ns no_roses (suc i) s = record { roots = []; stands = tt }
  over-later lp [] (more (rose m p kids) rest) (suc i) s = absurd s
  over-later lp (n ∷ ns) (more (rose m p kids) rest) (suc i) s = over-later lp (S.inputs p ++ ns) (join kids rest) i (Stands-join S lp (S.inputs p) ns kids rest s.3 s.4)

  -- the tree that a walk meets at a place, and what is met after its root
  pub record Met (lp : List P) (f : Trees P) (i : ℕ) (n : Node) : Type 0 where
    pub item : P
    pub kids : Trees P
    pub rest : Trees P
    pub is : later f i ≡ more (rose n item kids) rest
    pub entry : slice_get lp n.0 ≡ Some item
    pub long : count kids ≡ length (S.inputs item)

  first-met : (lp : List P) (roots : List Node) (f : Trees P) (i : ℕ) (n : Node) (g : Trees P) (tail : List Node) → later f i ≡ g → Stands S lp roots g → labels g ≡ n ∷ tail → Met lp f i n
  first-met lp roots f i n no_roses tail is s e = cc
  first-met lp [] f i n (more (rose m p kids) rest) tail is s e = absurd s
  first-met lp (r ∷ roots) f i n (more (rose m p kids) rest) tail is s e =
      let here : m ≡ n = cc in
      record {
        item = p;
        kids = kids;
        rest = rest;
        is = rw (← here) is;
        entry = rw (← here, ← s.0) s.1;
        long = count-stands lp (S.inputs p) kids s.3;
      }

  drop-at : {X : Type 0} (xs : List X) (i : ℕ) (x : X) → slice_get xs i ≡ Some x → drop i xs ≡ x ∷ drop (suc i) xs
  drop-at [] i x e = cc
  drop-at {X = X} (y ∷ xs) zero x e = (let same : y ≡ x = cc in ap (λ (z : X). z ∷ xs) same)
  drop-at (y ∷ xs) (suc i) x e = drop-at xs i x e

  pub met : (lp : List P) (ns : List Node) (f : Trees P) (i : ℕ) (n : Node) → Stands S lp ns f → slice_get (labels f) i ≡ Some n → Met lp f i n
  met lp ns f i n s e =
      let o = over-later lp ns f i s in
      first-met lp o.roots f i n (later f i) (drop (suc i) (labels f)) refl o.stands (labels-later f i ∙ drop-at (labels f) i n e)

-- copies of trees: they stand over these numbers, are the same under other names, and are made of new entries
pub record Copied (now : List ℕ → List ℕ) (old new : List AExpr) (f : Trees AExpr) (copies : List Node) : Type 0 where
  pub trees : Trees AExpr
  pub stands : StandsOnce expr_shape new copies trees
  pub same : bare_exprs trees ≡ renamed_exprs now (bare_exprs f)
  pub fresh : (k : ℕ) → Reaches trees k → length old ≤ k
  pub longer : IsLonger old new

pub copied-none : (now : List ℕ → List ℕ) (old : List AExpr) → Copied now old old no_roses []
copied-none now old = record {
  trees = no_roses;
  stands = record { stands = tt; once = tt };
  same = refl;
  fresh = λ k r. absurd r;
  longer = ([], sym (append-nil old));
}

-- as many copies as trees
pub count-copies : (now : List ℕ → List ℕ) (old new : List AExpr) (f : Trees AExpr) (copies : List Node) → Copied now old new f copies → length copies ≡ count f
count-copies now old new f copies c =
    sym (count-stands expr_shape new copies c.trees c.stands.stands)
    ∙ sym (count-map (λ _. tt) expr_op c.trees)
    ∙ ap count c.same
    ∙ count-map (λ u. u) (renamed_op now) (bare_exprs f)
    ∙ count-map (λ _. tt) expr_op f

-- a copy over the copies of its operands stands beside the others
pub copied-next : (now : List ℕ → List ℕ) (old mid new : List AExpr) (n number : Node) (p copy : AExpr) (kids rest : Trees AExpr) (operands others : List Node) → Copied now old mid (join kids rest) (operands ++ others) → length operands ≡ count kids → operands_of copy ≡ operands → expr_op copy ≡ renamed_op now (expr_op p) → number.0 ≡ length mid → new ≡ mid ++ copy ∷ [] → Copied now old new (more (rose n p kids) rest) (number ∷ others)
copied-next now old mid new n number p copy kids rest operands others c long over op last added =
    let sides : Sides expr_shape mid operands others c.trees = StandsOnce-split expr_shape mid operands others c.trees c.stands in
    let apart : join (bare_exprs sides.left) (bare_exprs sides.right) ≡ join (renamed_exprs now (bare_exprs kids)) (renamed_exprs now (bare_exprs rest)) =
    sym (map-join (λ _. tt) expr_op sides.left sides.right)
    ∙ ap bare_exprs (sym sides.is)
    ∙ c.same
    ∙ ap (renamed_exprs now) (map-join (λ _. tt) expr_op kids rest)
    ∙ map-join (λ u. u) (renamed_op now) (bare_exprs kids) (bare_exprs rest) in
    let as_many : count (bare_exprs sides.left) ≡ count (renamed_exprs now (bare_exprs kids)) =
    count-map (λ _. tt) expr_op sides.left
    ∙ count-stands expr_shape mid operands sides.left sides.first.stands
    ∙ long
    ∙ sym (count-map (λ _. tt) expr_op kids)
    ∙ sym (count-map (λ u. u) (renamed_op now) (bare_exprs kids)) in
    let parts = join-parts (bare_exprs sides.left) (renamed_exprs now (bare_exprs kids)) (bare_exprs sides.right) (renamed_exprs now (bare_exprs rest)) as_many apart in
    let kept : (k : ℕ) → k < length mid → slice_get new k ≡ slice_get mid k = λ k lt. ap (λ (l : List AExpr). slice_get l k) added ∙ slice_get-append expr_shape mid (copy ∷ []) k lt in
    let low : (k : ℕ) → Reaches sides.left k → k < length mid = λ k r. Reaches-within expr_shape mid operands sides.left k sides.first.stands r in
    let low_others : (k : ℕ) → Reaches sides.right k → k < length mid = λ k r. Reaches-within expr_shape mid others sides.right k sides.second.stands r in
    let fresh : (k : ℕ) → Reaches (join sides.left sides.right) k → length old ≤ k = rw sides.is at c.fresh in
    let grown : length mid ≡ length old + length c.longer.0 = ap length c.longer.1 ∙ length-append old c.longer.0 in
    record {
      trees = more (rose number copy sides.left) sides.right;
      stands = record {
        stands = (
          refl,
          ap₂ (λ (l : List AExpr) (k : ℕ). slice_get l k) added last ∙ slice_get-append_last expr_shape mid copy,
          refl,
          rw over (Stands-kept expr_shape mid new operands sides.left sides.first.stands (λ k r. kept k (low k r))),
          Stands-kept expr_shape mid new others sides.right sides.second.stands (λ k r. kept k (low_others k r)),
        );
        once = (
          (λ r. let lt = low number.0 r in absurd (omega (arith, last))),
          (λ r. let lt = low_others number.0 r in absurd (omega (arith, last))),
          sides.apart,
          sides.first.once,
          sides.second.once,
        );
      };
      same = ap₂ (λ (r : Rose (Unit {0}) ExprOp) (rs : Roses (Unit {0}) ExprOp). more r rs) (ap₂ (λ (o : ExprOp) (rs : Roses (Unit {0}) ExprOp). rose tt o rs) op parts.0) parts.1;
      fresh = λ k r. elim r as (λ _. length old ≤ k) [
        | inl e ↦ omega (arith, e, last, grown)
        | inr t ↦ elim t as (λ _. length old ≤ k) [ inl u ↦ fresh k (join-left expr_shape sides.left sides.right k u) | inr v ↦ fresh k (join-right expr_shape sides.left sides.right k v) ]
      ];
      longer = (c.longer.0 ++ copy ∷ [], added ∙ ap (λ (l : List AExpr). l ++ copy ∷ []) c.longer.1 ∙ append_assoc old c.longer.0 (copy ∷ []));
    }

count-join : {N P : Type 0} (a b : Roses N P) → count (join a b) ≡ count a + count b
count-join no_roses b = omega arith
count-join (more r a) b = (let more_of = count-join a b in omega (arith, more_of))

-- the expression that a walk meets at a place stands in the longer arena too, and its operands are copied
pub record Ready (new : List AExpr) (n : Node) (copies : List Node) : Type 0 where
  pub within : n.0 < length new
  pub enough : (e : AExpr) → slice_get new n.0 ≡ Some e → length (operands_of e) ≤ length copies

entry-longer : (old new : List AExpr) (n : Node) (p : AExpr) → IsLonger old new → slice_get old n.0 ≡ Some p → slice_get new n.0 ≡ Some p
entry-longer old new n p longer e =
    ap (λ (l : List AExpr). slice_get l n.0) longer.1
    ∙ slice_get-append expr_shape old longer.0 n.0 (slice_get_within old n.0 p e)
    ∙ e

pub ready : (now : List ℕ → List ℕ) (old new : List AExpr) (f : Trees AExpr) (i : ℕ) (n : Node) (copies : List Node) → Copied now old new (later f (suc i)) (reverse copies) → Met expr_shape old f i n → Ready new n copies
ready now old new f i n copies c m =
    let there : slice_get new n.0 ≡ Some m.item = entry-longer old new n m.item c.longer m.entry in
    let many : length (reverse copies) ≡ count m.kids + count m.rest =
    count-copies now old new (later f (suc i)) (reverse copies) c
    ∙ ap count (later-next f i n m.item m.kids m.rest m.is)
    ∙ count-join m.kids m.rest in
    record {
      within = slice_get_within new n.0 m.item there;
      enough = λ e is. (let same : e ≡ m.item = cc in rw same (omega (arith, many, m.long, length-reverse copies)));
    }

pub turned : (now : List ℕ → List ℕ) (old mid new : List AExpr) (f : Trees AExpr) (i : ℕ) (n : Node) (before after : List Node) → Copied now old mid (later f (suc i)) (reverse before) → Met expr_shape old f i n → IsNext now mid new n before after → Copied now old new (later f i) (reverse after)
turned now old mid new f i n before after c m x =
    let there : slice_get mid n.0 ≡ Some m.item = entry-longer old mid n m.item c.longer m.entry in
    let entry : slice_get mid n.0 ≡ Some x.expr = x.entry in
    let same : x.expr ≡ m.item = cc in
    let below : Copied now old mid (join m.kids m.rest) (x.operands ++ x.others) = rw (later-next f i n m.item m.kids m.rest m.is, x.first) at c in
    rw (m.is, x.then)
    (copied-next now old mid new n x.number m.item x.copy m.kids m.rest x.operands x.others below
    (x.long ∙ ap (λ (e : AExpr). length (operands_of e)) same ∙ sym m.long)
    x.over
    (x.op ∙ ap (λ (e : AExpr). renamed_op now (expr_op e)) same)
    x.last
    x.added)

-- the copies of a tree are one
one-copy : (now : List ℕ → List ℕ) (old new : List AExpr) (node : Node) (copies : List Node) → IsExpr old node → Copied now old new (tree_at expr_shape old node) (reverse copies) → length copies ≡ 1
one-copy now old new node copies t c =
    sym (length-reverse copies)
    ∙ count-copies now old new (tree_at expr_shape old node) (reverse copies) c
    ∙ count-stands expr_shape old (node ∷ []) (tree_at expr_shape old node) (tree_at-stands expr_shape old node t.0 t.1).stands

finished : (now : List ℕ → List ℕ) (old new : List AExpr) (node copy : Node) (copies rest : List Node) → IsExpr old node → Copied now old new (tree_at expr_shape old node) (reverse copies) → copies ≡ rest ++ copy ∷ [] → IsRenamed now old new node copy
finished now old new node copy copies rest t c is =
    let one = one-copy now old new node copies t c in
    let long : length copies ≡ length rest + 1 = ap length is ∙ length-append rest (copy ∷ []) in
    let none : rest ≡ [] = nil_from_length rest (omega (arith, one, long)) in
    let alone : reverse copies ≡ copy ∷ [] = ap reverse (is ∙ ap (λ (l : List Node). l ++ copy ∷ []) none) in
    record { trees = c.trees; stands = rw alone at c.stands; same = c.same; fresh = c.fresh }

-- names that are alike rename alike
op-alike : (f g : List ℕ → List ℕ) → ((a : List ℕ) → f a ≡ g a) → (o : ExprOp) → renamed_op f o ≡ renamed_op g o
op-alike f g h (column name) = ap column (h name)
op-alike f g h (literal value) = refl
op-alike f g h (alias name) = refl
op-alike f g h (binary op) = refl
op-alike f g h ternary = refl
op-alike f g h (aggregate op) = refl
op-alike f g h (call function options) = refl
op-alike f g h window = refl
op-alike f g h len = refl

exprs-alike : (f g : List ℕ → List ℕ) → ((a : List ℕ) → f a ≡ g a) → (es : Roses (Unit {0}) ExprOp) → renamed_exprs f es ≡ renamed_exprs g es
exprs-alike f g h no_roses = refl
exprs-alike f g h (more (rose u o kids) rest) =
    ap₂ (λ (r : Rose (Unit {0}) ExprOp) (rs : Roses (Unit {0}) ExprOp). more r rs)
    (ap₂ (λ (x : ExprOp) (ks : Roses (Unit {0}) ExprOp). rose u x ks) (op-alike f g h o) (exprs-alike f g h kids))
    (exprs-alike f g h rest)

pub renamed-alike : (f g : List ℕ → List ℕ) → ((a : List ℕ) → f a ≡ g a) → (old new : List AExpr) (node : Node) (r : Result Node AllocError) → IfOk r (IsRenamed f old new node) → IfOk r (IsRenamed g old new node)
renamed-alike f g h old new node (Ok copy) is = record { trees = is.trees; stands = is.stands; same = is.same ∙ exprs-alike f g h (bare_exprs (tree_at expr_shape old node)); fresh = is.fresh }
renamed-alike f g h old new node (Err e) is = tt

-- what a walk of an expression meets at the place before one
pub met-before : (old : List AExpr) (node : Node) (listed : List Node) (left : ℕ) → IsExpr old node → listed ≡ labels (tree_at expr_shape old node) → 0 < left → left ≤ length listed → Met expr_shape old (tree_at expr_shape old node) (left - 1) (get_or listed (left - 1) (record { 0 = 0 }))
met-before old node listed left t in_order some within =
    let n : Node = get_or listed (left - 1) (record { 0 = 0 }) in
    met expr_shape old (node ∷ []) (tree_at expr_shape old node) (left - 1) n
    (tree_at-stands expr_shape old node t.0 t.1).stands
    (ap (λ (l : List Node). slice_get l (left - 1)) (sym in_order) ∙ item_here listed (left - 1) n (omega (arith, some, within)) (sym (get_or_default listed (left - 1) n (record { 0 = 0 }) (omega (arith, some, within)))))

-- what is copied, counted from the place before
pub copied-before : (now : List ℕ → List ℕ) (old new : List AExpr) (f : Trees AExpr) (left : ℕ) (copies : List Node) → 0 < left → Copied now old new (later f left) copies → Copied now old new (later f (suc (left - 1))) copies
copied-before now old new f left copies some c =
    let up : suc (left - 1) ≡ left = omega (arith, some) in
    rw up c

-- at the end of the walk one copy is there
first-place : (now : List ℕ → List ℕ) (old new : List AExpr) (f : Trees AExpr) (left : ℕ) (copies : List Node) → left ≤ 0 → Copied now old new (later f left) copies → Copied now old new f copies
first-place now old new f left copies none c =
    let is : left ≡ 0 = omega (arith, none) in
    rw is at c

pub some-copy : (now : List ℕ → List ℕ) (old new : List AExpr) (node : Node) (left : ℕ) (copies rest : List Node) (popped : Option Node) → IsExpr old node → left ≤ 0 → Copied now old new (later (tree_at expr_shape old node) left) (reverse copies) → MatchOption popped (copies ≡ [] × rest ≡ []) (λ x. copies ≡ rest ++ x ∷ []) → IsSome popped
some-copy now old new node left copies rest None t none c m =
    let one = one-copy now old new node copies t (first-place now old new (tree_at expr_shape old node) left (reverse copies) none c) in
    let empty : copies ≡ [] = m.0 in
    cc
some-copy now old new node left copies rest (Some x) t none c m = refl

pub last_copy : (now : List ℕ → List ℕ) (old new : List AExpr) (node copy : Node) (left : ℕ) (copies rest : List Node) (popped : Option Node) → IsExpr old node → left ≤ 0 → Copied now old new (later (tree_at expr_shape old node) left) (reverse copies) → MatchOption popped (copies ≡ [] × rest ≡ []) (λ x. copies ≡ rest ++ x ∷ []) → popped ≡ Some copy → IsRenamed now old new node copy
last_copy now old new node copy left copies rest None t none c m e = cc
last_copy now old new node copy left copies rest (Some x) t none c m e =
    let same : x ≡ copy = cc in
    finished now old new node copy copies rest t (first-place now old new (tree_at expr_shape old node) left (reverse copies) none c) (m ∙ ap (λ (n : Node). rest ++ n ∷ []) same)
