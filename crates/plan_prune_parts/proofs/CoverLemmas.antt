-- A projection on top of what stood at a number.
use Rattle.std.proofs.Common.{◌≡◌, ℕ, List, Some, Option, unwrap_or, sym, ap, ◌∙◌}
use Rattle.std.specs.List.{slice_get, slice_set}
use Rattle.plan_core.specs.declared.arena.Node.{Node}
use Rattle.plan_core.specs.Columns.{Columns}
use Rattle.plan_ir.specs.declared.ir.IR.{IR}
use Rattle.plan_ir.specs.declared.ir.IR.TheVariants as nodes
use Rattle.plan_prune_parts.specs.Tops.{covered_at, with_top}

-- the entry at a number where one stands
pub found : (xs : List IR) (k : ℕ) (p : IR) → slice_get xs k ≡ Some p → unwrap_or (slice_get xs k) nodes.Invalid ≡ p
found xs k p e = ap (λ (o : Option IR). unwrap_or o nodes.Invalid) e

-- a projection that was put on top of what stood at a number
pub cover_placed : (z lp b : List IR) (n : Node) (p d : IR) (cs : Columns) (columns : Option Columns) → z ≡ with_top cs b n p → b ≡ slice_set lp n.0 d → d ≡ nodes.Invalid → slice_get lp n.0 ≡ Some p → columns ≡ Some cs → z ≡ covered_at columns lp n
cover_placed z lp b n p d cs columns is taken none e some =
    is
    ∙ ap (λ (x : List IR). with_top cs x n p) (taken ∙ ap (slice_set lp n.0) none)
    ∙ ap (λ (q : IR). with_top cs (slice_set lp n.0 nodes.Invalid) n q) (sym (found lp n.0 p e))
    ∙ ap (λ (o : Option Columns). covered_at o lp n) (sym some)
