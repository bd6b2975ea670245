-- Keys, slots and homes: the only file that knows how a rule is packed and hashed. Assumes nothing.
use Rattle.std.specs.Prelude.{ℕ, ◌+◌, ◌-◌, ◌*◌, ◌/◌, ◌%◌, ◌^◌}
use Rattle.std.specs.Int.Count.{count_trailing_zeros}
use Rattle.pairs.specs.Limits.{factor}

abbrev pub key : ℕ → ℕ → ℕ
key a b = a * 2 ^ 21 + b

-- a stored rule
abbrev pub packed : ℕ → ℕ → ℕ → ℕ
packed a b m = a * 2 ^ 42 + b * 2 ^ 21 + m

abbrev pub key_in : ℕ → ℕ
key_in slot = slot / 2 ^ 21

abbrev pub merged_in : ℕ → ℕ
merged_in slot = slot % 2 ^ 21

-- 64 less the trailing zeros of the slot count
unfoldable pub shift : ℕ → ℕ
shift n = 64 - count_trailing_zeros 64 n

-- where the walk of a key starts: the low 64 bits of its product, shifted
unfoldable pub home : ℕ → ℕ → ℕ
home by k = (k * factor) % 2 ^ 64 / 2 ^ by
