-- The numbers that bound a cache, each once. Assumes nothing.
use Rattle.std.specs.Prelude.{ℕ}

abbrev pub least_slots : ℕ
least_slots = 2

-- the most slots, and the most entries
abbrev pub most_slots : ℕ
most_slots = 2097152

-- the capacity rule gives no fewer slots
abbrev pub floor_slots : ℕ
floor_slots = 65536

-- the largest argument of the capacity rule
abbrev pub most_asked : ℕ
most_asked = 1048576
