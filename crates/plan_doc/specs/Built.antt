-- What is refused of whole documents until it is built. Each definition goes when its form is built.
use Rattle.std.specs.Prelude.{ℕ, ◌==◌, Bool, Option, Some, None, if◌then◌else◌, bit_and}
use Rattle.serde_json.specs.Data.{Data}
use Rattle.plan_doc_parts.specs.Parts.{◌>>=◌, truth_of}

-- the flag of a pass that is not built: COLLAPSE_JOINS
abbrev pub unbuilt_flags : ℕ
unbuilt_flags = 32768

-- flags without it
abbrev pub built_flags : ℕ → Option ℕ
built_flags n = if bit_and n unbuilt_flags == 0 then Some n else None

-- false alone
unfoldable pub unshared_of : Data → Option Bool
unshared_of d = do
  shared ← truth_of d
  if shared then None else Some shared
