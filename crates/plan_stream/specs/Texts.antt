-- What a text leaves in a sink.
use Rattle.std.specs.Prelude.{◌≡◌, ℕ, ◌<◌, ◌≤◌, List, length, take, Bool, true, Result, Ok, Err}
use Rattle.std.specs.Io.KnownBytes.{Appends}
use Rattle.std.specs.declared.option.Option.{Option}
use Rattle.plan_stream.specs.declared.writing.WriteFault.{WriteFault}
use Rattle.plan_stream.specs.declared.writing.WriteFault.TheVariants.{Cut, Unflushed}

-- the known bytes grew by a front of the text
abbrev pub GrowsByFront : Option (List ℕ) → Option (List ℕ) → List ℕ → Type 0
GrowsByFront old new text = (n : ℕ) × (n ≤ length text) × Appends old new (take n text)

-- the known bytes grew by a front of the text that isn't all of it
abbrev pub GrowsByPart : Option (List ℕ) → Option (List ℕ) → List ℕ → Type 0
GrowsByPart old new text = (n : ℕ) × (n < length text) × Appends old new (take n text)

-- At Ok and at a failed flush the text is held whole, and at a failed write a front of it that isn't all of it.
abbrev pub Leaves : Option (List ℕ) → Option (List ℕ) → Bool → List ℕ → Result (Unit {0}) WriteFault → Type 0
Leaves old new clean text (Ok x) = Appends old new text × (clean ≡ true)
Leaves old new clean text (Err Unflushed) = Appends old new text
Leaves old new clean text (Err Cut) = GrowsByPart old new text
