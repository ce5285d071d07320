-- Steps whose order makes no difference.
use Rattle.std.proofs.Common.{◌≡◌, Option, Some, None, refl}
use Rattle.plan_doc_parts.specs.Parts.{◌>>=◌}

-- a step before one that gives nothing gives nothing
pub bind_none : {A B : Type 0} (a : Option A) → ◌≡◌ {A = Option B} (a >>= λ x. None) None
bind_none (Some x) = refl
bind_none None = refl
