-- What calls append to lists.
use Rattle.std.specs.Prelude.{◌≡◌, List, [], ◌++◌, map}

-- the new list is the old one, followed by items that show all but what is left
pub record Appends {X Y : Type 0} (view : X → Y) (old new : List X) (left all : List Y) : Type 0 where
  pub front : List X
  pub whole : map view front ++ left ≡ all
  pub appended : new ≡ old ++ front

-- the new list is the old one, followed by items that show all
abbrev pub AppendsAll : {X Y : Type 0} → (X → Y) → List X → List X → List Y → Type 0
AppendsAll view old new all = Appends view old new [] all

-- the new list is the old one, followed by items that show a front of all
abbrev pub AppendsFront : {X Y : Type 0} → (X → Y) → List X → List X → List Y → Type 0
AppendsFront {X} {Y} view old new all = (left : List Y) × Appends view old new left all
