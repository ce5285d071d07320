-- When one plan may stand for another: refinement, narrowing, and the form that both have.
use Rattle.std.specs.Prelude.{◌≡◌, true, List, Some, ◌⊎◌, is_some}
use Rattle.plan_core.specs.declared.data_type.DataType.{DataType}
use Rattle.plan_core.specs.Columns.{Columns, type_of}
use Rattle.plan_core.specs.Names.{has}
use Rattle.plan_tree.specs.Rose.{Roses, rose, no_roses, more}
use Rattle.plan_ir.specs.Plans.{Op, Plan}
use Rattle.plan_expr.specs.Leaves.{Name}
use Rattle.plan_meaning.specs.Typing.{schema}
use Rattle.plan_frame.specs.Frames.{Frame, Agree}
use Rattle.plan_meaning.specs.Contents.{Contents, Fits}
use Rattle.plan_meaning.specs.Steps.{May, IsValid}

-- a plan refines another: it is valid with the same columns, fits where the other does, then has a run, and gives only frames that the other may give
pub record Refines (q p : Plan) : Type 0 where
  pub valid : IsValid q
  pub schema : schema q ≡ schema p
  pub fits : (c : Contents) → Fits c p → Fits c q
  pub run : (c : Contents) → Fits c p → (f : Frame) × May c q f
  pub may : (c : Contents) (f : Frame) → Fits c p → May c q f → May c p f

-- plans refine others, one for one
abbrev pub EachRefines : Roses (Unit {0}) Op → Roses (Unit {0}) Op → Type 0
EachRefines no_roses no_roses = Unit {0}
EachRefines (more q qs) (more p ps) = Refines q p × EachRefines qs ps
EachRefines _ _ = ⊥

-- as refinement, up to a relation of columns and one of frames
pub record Relates (S : Columns → Columns → Type 0) (F : Frame → Frame → Type 0) (r p : Plan) : Type 0 where
  pub valid : IsValid r
  pub schema : S (schema r) (schema p)
  pub fits : (c : Contents) → Fits c p → Fits c r
  pub run : (c : Contents) → Fits c p → (f : Frame) × May c r f
  pub may : (c : Contents) (f : Frame) → Fits c p → May c r f → (g : Frame) × May c p g × F f g

-- what a node is asked: everything, some names, or everything since it stands below a cache
pub data Asked : Type 0 where
  all : Asked
  names : List Name → Asked
  cached : Asked

-- columns narrow others at these names: each name has one type in both, and each column is one of the others
pub record Holding (wanted : List Name) (r s : Columns) : Type 0 where
  pub held : (a : Name) → has wanted a ≡ true → (t : DataType) × (type_of r a ≡ Some t) × (type_of s a ≡ Some t)
  pub within : (a : Name) → is_some (type_of r a) ≡ true → is_some (type_of s a) ≡ true

-- columns narrow others at what is asked: they are the same where everything is
abbrev pub NarrowColumns : Asked → Columns → Columns → Type 0
NarrowColumns all r s = r ≡ s
NarrowColumns (names wanted) r s = Holding wanted r s
NarrowColumns cached r s = r ≡ s

-- frames are the same on what is asked
abbrev pub AgreeOn : Asked → Frame → Frame → Type 0
AgreeOn all f g = f ≡ g
AgreeOn (names wanted) f g = Agree wanted f g
AgreeOn cached f g = f ≡ g

-- a plan narrows another at what is asked
abbrev pub Narrows : Plan → Plan → Asked → Type 0
Narrows r p a = Relates (NarrowColumns a) (AgreeOn a) r p

-- plans with one of them in the place of another, at some places
abbrev pub ReplacedAll : Plan → Plan → Roses (Unit {0}) Op → Roses (Unit {0}) Op → Type 0
ReplacedAll q p no_roses no_roses = Unit {0}
ReplacedAll q p no_roses (more t ts) = ⊥
ReplacedAll q p (more u us) no_roses = ⊥
ReplacedAll q p (more (rose m o us) others) (more (rose n op ts) rest) =
    (((rose m o us ≡ q) × (rose n op ts ≡ p)) ⊎ ((o ≡ op) × ReplacedAll q p us ts)) × ReplacedAll q p others rest

-- a plan is another with q in the place of p, at some places
abbrev pub Replaced : Plan → Plan → Plan → Plan → Type 0
Replaced q p u t = ReplacedAll q p (more u no_roses) (more t no_roses)
