-- The capacity rule. Assumes nothing.
use Rattle.std.specs.Prelude.{Bool, cond, ℕ, zero, suc, ◌*◌, max, ltb}
use Rattle.pretoken_cache.specs.Limits.{floor_slots}
use Rattle.pretoken_cache.specs.Table.{laden}

-- doubled while it is too small, at most k times
unfoldable pub doubled : (ℕ → Bool) → ℕ → ℕ → ℕ
doubled small zero s = s
doubled small (suc k) s = cond (small s) (doubled small k (2 * s)) s

-- so many doublings take 1 to the most slots
abbrev pub doublings : ℕ
doublings = 21

-- x, up to a power of two
unfoldable pub power_from : ℕ → ℕ
power_from x = doubled (λ s. ltb s x) doublings 1

-- start at the larger of the asked slots and the floor, up to a power of two, and double while n entries leave no room for a new one
unfoldable pub required : ℕ → ℕ → ℕ
required n asked = doubled (λ s. laden s n) doublings (power_from (max asked floor_slots))
