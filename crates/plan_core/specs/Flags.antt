-- Sets of optimiser flags, and the numbers of their bits.
use Rattle.std.specs.Prelude.{◌≡◌, ℕ, ◌-◌, ◌^◌, Bool, ◌==◌}
use Rattle.std.specs.Int.RustNames.{bit_and}
use Rattle.plan_core.specs.declared.flags.OptFlags.{OptFlags}

-- the number of the bits that are set
abbrev pub bits_of : OptFlags → ℕ
bits_of flags = flags.0

-- the set of these bits
abbrev pub flags_with : ℕ → OptFlags
flags_with bits = record { 0 = bits }

-- the bits that have a name: the lowest eighteen but 2
abbrev pub named_bits : ℕ
named_bits = 262141

-- no bit is set that has no name
abbrev pub HasNamedBitsOnly : ℕ → Type 0
HasNamedBitsOnly bits = bit_and bits named_bits ≡ bits

-- the bits without those that have no name
abbrev pub named_part : ℕ → ℕ
named_part bits = bit_and bits named_bits

-- the named bits that are not set
abbrev pub named_rest : ℕ → ℕ
named_rest bits = bit_and (2 ^ 32 - 1 - bits) named_bits

-- whether each bit of the second number is set in the first
abbrev pub has_bits : ℕ → ℕ → Bool
has_bits bits asked = bit_and bits asked == asked
