-- Sets of function flags, and the numbers of their bits.
use Rattle.std.specs.Prelude.{◌≡◌, ℕ, ◌-◌, ◌^◌, Bool, ◌==◌}
use Rattle.std.specs.Int.RustNames.{bit_and}
use Rattle.plan_options.specs.declared.flags.FunctionFlags.{FunctionFlags}

-- the number of the bits that are set
abbrev pub bits_of : FunctionFlags → ℕ
bits_of flags = flags.0

-- the set of these bits
abbrev pub flags_with : ℕ → FunctionFlags
flags_with bits = record { 0 = bits }

-- the bits that have a name: all eight
abbrev pub named_bits : ℕ
named_bits = 255

-- the bits that are set where nothing else is said: that of a function that may be used in groups
abbrev pub default_bits : ℕ
default_bits = 1

-- the bit of a function that may give more or fewer values than it is given
abbrev pub changes_length : ℕ
changes_length = 2

-- the bit of a function that gives a single value
abbrev pub returns_scalar : ℕ
returns_scalar = 32

-- no bit is set that has no name
abbrev pub HasNamedBitsOnly : ℕ → Type 0
HasNamedBitsOnly bits = bit_and bits named_bits ≡ bits

-- the bits without those that have no name
abbrev pub named_part : ℕ → ℕ
named_part bits = bit_and bits named_bits

-- the named bits that are not set
abbrev pub named_rest : ℕ → ℕ
named_rest bits = bit_and (2 ^ 8 - 1 - bits) named_bits

-- whether each bit of the second number is set in the first
abbrev pub has_bits : ℕ → ℕ → Bool
has_bits bits asked = bit_and bits asked == asked
