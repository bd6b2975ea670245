-- The numbers that bound a table. Assumes nothing.
use Rattle.std.specs.Prelude.{ℕ}

-- an empty slot: 2 ^ 64 - 1
abbrev pub vacant : ℕ
vacant = 0xFFFF_FFFF_FFFF_FFFF

-- the factor of the hash
abbrev pub factor : ℕ
factor = 0x9E37_79B9_7F4A_7C15

-- the most rules of a list
abbrev pub most_rules : ℕ
most_rules = 131072

abbrev pub least_slots : ℕ
least_slots = 64

abbrev pub most_slots : ℕ
most_slots = 262144

-- a rule stands at most so many slots after its home
abbrev pub farthest : ℕ
farthest = 64
