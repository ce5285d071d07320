-- What the arena of nodes ends as, where a builder is refused.
use Rattle.std.specs.Prelude.{◌≡◌, List, Result}
use Rattle.std.specs.Borrow.{Fml, MutBor, RestsIfErr}
use Rattle.std.specs.declared.alloc.AllocError.{AllocError}
use Rattle.plan_core.specs.contracts.arena.Arena.{the_row}
use Rattle.plan_ir.specs.declared.ir.IR.{IR}
use Rattle.plan_ir.specs.contracts.ir.IR.{the_row as node_row}
use Rattle.plan_builder.specs.declared.builder.IRBuilder.{IRBuilder}

-- where there is no builder, the arena ends as it was; else it ends as the builder leaves it
abbrev pub rests : MutBor (List IR) → Result IRBuilder AllocError → Fml
rests a r = RestsIfErr (the_row node_row) a (λ (b : IRBuilder). b.lp_arena.ghost_name) r (λ (l : List IR). l ≡ a.now)
