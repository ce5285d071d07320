-- What a collapsed join gives under its filter, the cross join may give under its run.
use Rattle.std.proofs.Common.{◌≡◌, ◌∙◌, ◌++◌, ◌<◌, ℕ, Bool, true, false, not, ◌&&◌, cond, List, [], ◌∷◌, map, length, None, refl, sym, ap, ap₂}
use Rattle.std.specs.List.{AllByRecursion, filter as only_where}
use Rattle.plan_core.specs.Names.{has}
use Rattle.plan_options.specs.declared.join.JoinArgs.{JoinArgs}
use Rattle.plan_options.specs.declared.join.JoinCoalesce.TheVariants.{KeepColumns}
use Rattle.plan_options.specs.declared.join.JoinType.{JoinType}
use Rattle.plan_options.specs.declared.join.JoinType.TheVariants.{Inner, Cross}
use Rattle.plan_options.specs.declared.join.MaintainOrderJoin.{MaintainOrderJoin}
use Rattle.plan_options.specs.Join.{coalesces, suffix_of}
use Rattle.plan_expr.specs.Exprs.{Expr}
use Rattle.plan_expr.specs.Leaves.{Name}
use Rattle.plan_join.specs.Naming.{called, drops_left, has_right}
use Rattle.plan_join.specs.declared.origin.Side.{Side}
use Rattle.plan_join.specs.declared.origin.Side.TheVariants as sides
use Rattle.plan_frame.specs.Values.{is_true}
use Rattle.plan_frame.specs.Meaning.{val, value_at}
use Rattle.plan_frame.specs.Frames.{Column, Frame, column_names}
use Rattle.plan_frame.specs.Rows.{filtered}
use Rattle.plan_join.specs.declared.pairs.RowPair.{RowPair}
use Rattle.plan_join.specs.Pairs.{Test}
use Rattle.plan_join.specs.Orders.{ArePicked}
use Rattle.plan_join.specs.Joined.{call, joined, side_column}
use Rattle.plan_join.specs.Sides.{fills, left_out, name_sources, partner, right_out}
use Rattle.plan_collapse_laws.specs.FilteredPairs.{GivesPairs, more_by}
use Rattle.plan_collapse_laws.proofs.Extended.{filtered-pairs}
use Rattle.plan_meaning.specs.JoinChecks.{is_elementwise}
use Rattle.plan_collapse_laws.proofs.FilteredJoins.{filtered-joined}
use Rattle.plan_collapse_laws.specs.FilteredFrames.{all_hold, holds, PutsOutAll, chain}

module _ (args : JoinArgs) (all : PutsOutAll args) (lk rk : List Name) where
  left_all : (names : List Name) → left_out args lk names ≡ only_where (λ (a : Name). true) names
  left_all names = ap (λ (b : Bool). only_where (λ (a : Name). not ((b && drops_left args.how) && has lk a)) names) all.keeps

  right_all : (names : List Name) → right_out args rk names ≡ only_where (λ (a : Name). true) names
  right_all names = ap₂ (λ (r b : Bool). only_where (λ (a : Name). r && not ((b && not (drops_left args.how)) && has rk a)) names) all.rights all.keeps

  -- its frame, by no more than its suffix
  abbrev pub whole_columns : List RowPair → Frame → Frame → List Column
  whole_columns ps f g =
      let left = only_where (λ (a : Name). true) (column_names f.columns) in
      let right = only_where (λ (a : Name). true) (column_names g.columns) in
      map (side_column (λ (a : Name). None) (λ (s : Side × Name). called (suffix_of args) left s.0 s.1) ps f g) (map (λ (a : Name). (sides.Left, a)) left ++ map (λ (a : Name). (sides.Right, a)) right)

  pub whole-joined : (ps : List RowPair) (f g : Frame) → joined args lk rk ps f g ≡ record { height = length ps; columns = whole_columns ps f g }
  whole-joined ps f g =
      ap (λ (cs : List Column). record { height = length ps; columns = cs })
      (ap (λ (b : Bool). map (side_column (λ (a : Name). cond b (partner lk rk a) None) (call args (left_out args lk (column_names f.columns))) ps f g) (name_sources args lk rk (column_names f.columns) (column_names g.columns))) all.filled
      ∙ ap₂ (λ (ls rs : List Name). map (side_column (λ (a : Name). None) (call args ls) ps f g) (map (λ (a : Name). (sides.Left, a)) ls ++ map (λ (a : Name). (sides.Right, a)) rs)) (left_all (column_names f.columns)) (right_all (column_names g.columns)))

-- two joins of one suffix that put out all columns make the same of pairs
pub same-joined : (args other : JoinArgs) → PutsOutAll args → PutsOutAll other → suffix_of args ≡ suffix_of other → (lk rk lj rj : List Name) (ps : List RowPair) (f g : Frame) → joined args lk rk ps f g ≡ joined other lj rj ps f g
same-joined args other a b e lk rk lj rj ps f g =
    whole-joined args a lk rk ps f g
    ∙ ap (λ (suffix : List ℕ). record { height = length ps; columns = map (side_column (λ (a : Name). None) (λ (s : Side × Name). called suffix (only_where (λ (a : Name). true) (column_names f.columns)) s.0 s.1) ps f g) (map (λ (a : Name). (sides.Left, a)) (only_where (λ (a : Name). true) (column_names f.columns)) ++ map (λ (a : Name). (sides.Right, a)) (only_where (λ (a : Name). true) (column_names g.columns))) }) e
    ∙ sym (whole-joined other b lj rj ps f g)

-- a cross join puts out all columns, and so do joins on keys that keep both of each pair
pub cross_all : (args : JoinArgs) → args.how ≡ Cross → PutsOutAll args
cross_all args e = record {
  keeps = ap (λ (h : JoinType). coalesces h args.coalesce) e;
  rights = ap has_right e;
  filled = ap (λ (h : JoinType). fills h args.coalesce) e;
}

pub kept_all : (how : JoinType) → (how ≡ Inner) → (args : JoinArgs) → PutsOutAll (record args { how = how; coalesce = KeepColumns; join_nulls = false })
kept_all how e args = record {
  keeps = ap (λ (h : JoinType). coalesces h KeepColumns) e;
  rights = ap has_right e;
  filled = ap (λ (h : JoinType). fills h KeepColumns) e;
}

twice : {X : Type 0} (p q : X → Bool) (xs : List X) → only_where p (only_where q xs) ≡ only_where (λ (x : X). p x && q x) xs
twice p q [] = refl
twice p q (x ∷ xs) = at (q x) (p x) refl (twice p q xs)
  where
    at : (b c : Bool) → p x ≡ c → only_where p (only_where q xs) ≡ only_where (λ (y : _). p y && q y) xs → only_where p (cond b (x ∷ only_where q xs) (only_where q xs)) ≡ cond (c && b) (x ∷ only_where (λ (y : _). p y && q y) xs) (only_where (λ (y : _). p y && q y) xs)
    at true true e r = ap (λ (t : Bool). cond t (x ∷ only_where p (only_where q xs)) (only_where p (only_where q xs))) e ∙ ap (λ (ys : List _). x ∷ ys) r
    at true false e r = ap (λ (t : Bool). cond t (x ∷ only_where p (only_where q xs)) (only_where p (only_where q xs))) e ∙ r
    at false true e r = r
    at false false e r = r

all_pass : {X : Type 0} (xs : List X) → xs ≡ only_where (λ (x : X). true) xs
all_pass [] = refl
all_pass (x ∷ xs) = ap (λ (ys : List _). x ∷ ys) (all_pass xs)

module _ (args : JoinArgs) (lk rk : List Name) (f g : Frame) where
  -- a chain of filters over a joined frame keeps the pairs that make all of them true
  pub chain-joined : (d : RowPair) (es : List Expr) (ps : List RowPair) → AllByRecursion (λ (e : Expr). is_elementwise e ≡ true) es → chain es (joined args lk rk ps f g) ≡ joined args lk rk (only_where (all_hold args lk rk f g es) ps) f g
  chain-joined d [] ps w = ap (λ (qs : List RowPair). joined args lk rk qs f g) (all_pass ps)
  chain-joined d (e ∷ es) ps w =
      ap (filtered e) (chain-joined d es ps w.1)
      ∙ filtered-joined args lk rk f g e w.0 d (only_where (all_hold args lk rk f g es) ps)
      ∙ ap (λ (qs : List RowPair). joined args lk rk qs f g) (twice (holds args lk rk f g e) (all_hold args lk rk f g es) ps)

-- the step: where run and condition hold of a pair just where the keys match and the rest holds
module _ (args now : JoinArgs) (given : PutsOutAll args) (kept : PutsOutAll now) (suffix : suffix_of now ≡ suffix_of args) (lk rk : List Name) (f g : Frame) (d : RowPair) where
  same_holds : (e : Expr) (p : RowPair) → holds now lk rk f g e p ≡ holds args [] [] f g e p
  same_holds e p = ap (λ (h : Frame). is_true (value_at (val e h) 0)) (same-joined now args kept given suffix lk rk [] [] (p ∷ []) f g)

  where_same : (a b : RowPair → Bool) → ((p : RowPair) → a p ≡ b p) → (ps : List RowPair) → only_where a ps ≡ only_where b ps
  where_same a b same [] = refl
  where_same a b same (p ∷ ps) = ap₂ (λ (t : Bool) (qs : List RowPair). cond t (p ∷ qs) qs) (same p) (where_same a b same ps)

  all_same : (es : List Expr) (p : RowPair) → all_hold now lk rk f g es p ≡ all_hold args [] [] f g es p
  all_same [] p = refl
  all_same (e ∷ es) p = ap₂ (λ (a b : Bool). a && b) (same_holds e p) (all_same es p)

  pub collapsed-frames : (how other : JoinType) (order : MaintainOrderJoin) (own keys : Test) (run rest : List Expr) → GivesPairs how → GivesPairs other → AllByRecursion (λ (e : Expr). is_elementwise e ≡ true) run → AllByRecursion (λ (e : Expr). is_elementwise e ≡ true) rest
      → ((i j : ℕ) → i < f.height → j < g.height → more_by own (all_hold args [] [] f g run) i j ≡ more_by keys (all_hold args [] [] f g rest) i j)
      → (ps : List RowPair) → ArePicked other order keys f.height g.height ps
      → (qs : List RowPair) × ArePicked how order own f.height g.height qs × (chain rest (joined now lk rk ps f g) ≡ chain run (joined args [] [] qs f g))
  collapsed-frames how other order own keys run rest a b wr ws same ps picked =
      let x = filtered-pairs how other order own keys (all_hold args [] [] f g run) (all_hold args [] [] f g rest) f.height g.height a b same ps picked in (
        x.0,
        x.1,
        chain-joined now lk rk f g d rest ps ws
            ∙ same-joined now args kept given suffix lk rk [] [] (only_where (all_hold now lk rk f g rest) ps) f g
            ∙ ap (λ (qs : List RowPair). joined args [] [] qs f g) (where_same (all_hold now lk rk f g rest) (all_hold args [] [] f g rest) (all_same rest) ps ∙ sym x.2)
            ∙ sym (chain-joined args [] [] f g d run x.0 wr),
      )
