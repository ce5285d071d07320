-- A value that may be null.
use Rattle.std.proofs.Common.{◌≡◌, true, false, Option, Some, None, option_map, refl}
use Rattle.std.specs.Prelude.{is_some}
use Rattle.serde_json.specs.Data.{Data, null, boolean, number, string, array, object}
use Rattle.serde_json.specs.Find.{as_null}
use Rattle.plan_doc_parts.specs.Parts.{nullable}

pub nullable_null : {A : Type 0} (f : Data → Option A) (d : Data) → true ≡ is_some (as_null d) → nullable f d ≡ Some None
nullable_null f null e = refl
nullable_null f (boolean b) e = absurd cc
nullable_null f (number n) e = absurd cc
nullable_null f (string s) e = absurd cc
nullable_null f (array ds) e = absurd cc
nullable_null f (object ms) e = absurd cc

pub nullable_other : {A : Type 0} (f : Data → Option A) (d : Data) → false ≡ is_some (as_null d) → nullable f d ≡ option_map Some (f d)
nullable_other f null e = absurd cc
nullable_other f (boolean b) e = refl
nullable_other f (number n) e = refl
nullable_other f (string s) e = refl
nullable_other f (array ds) e = refl
nullable_other f (object ms) e = refl
