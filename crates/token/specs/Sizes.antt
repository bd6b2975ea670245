-- The sizes that a table can have. Assumes nothing.
use Rattle.std.specs.Prelude.{Bool, ◌&&◌, ℕ, nat_eq, nat_le}
use Rattle.std.specs.Int.Count.{ones}

-- a power of two, which has a single one among its bits, from the least to the most
unfoldable pub power_within : ℕ → ℕ → ℕ → Bool
power_within least most n = nat_eq (ones n) 1 && nat_le least n && nat_le n most
