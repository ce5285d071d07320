-- What an arena ends as, where a `&mut` to an entry is returned.
use Rattle.std.specs.Prelude.{ℕ, List, slice_set}
use Rattle.std.specs.Borrow.{Lends, Fml, RattleType, MutBor}
use Rattle.plan_core.specs.contracts.arena.Arena.{the_row}

module _ (T : RattleType) (a : MutBor (List T.Denot)) where
  -- once the borrow r ends, the entry has the last value written through r
  abbrev pub lends_entry : ℕ → MutBor T.Denot → Fml
  lends_entry i r = Lends (the_row T) T a r (slice_set a.now i)
