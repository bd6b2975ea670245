-- A table of slots: its shape, the walk of a name, its entries and its load. Assumes nothing.
use Rattle.std.specs.Prelude.{Bool, ◌&&◌, cond, List, [], ◌∷◌, ℕ, zero, suc, ◌+◌, ◌-◌, ◌*◌, ◌/◌, ◌%◌, eqb, ltb, length}
use Rattle.token.specs.Sizes.{power_within}
use Rattle.pretoken_cache.specs.declared.Name.{Name}
use Rattle.pretoken_cache.specs.Limits.{least_slots, most_slots}
use Rattle.pretoken_cache.specs.Slot.{width, same, Slot, free, held, slot_at}
use Rattle.pretoken_cache.specs.Walk.{Sight, vacant, mine, other, Walk, walk, around}

-- ---- the shape

unfoldable pub slots : List ℕ → ℕ
slots words = length words / width

-- a power of two from the least to the most
unfoldable pub proper : ℕ → Bool
proper n = power_within least_slots most_slots n

-- the words of so many slots, and no more
unfoldable pub shaped : List ℕ → Bool
shaped words = eqb (length words) (width * slots words) && proper (slots words)

-- ---- the walk of a name

-- home is h, masked to an even slot of n
unfoldable pub home : ℕ → ℕ → ℕ
home n h = h % n - h % n % 2

-- h under this mask is its home
abbrev pub pair_mask : ℕ → ℕ
pair_mask n = n - 2

-- from home on, two on, wrapping, for half the slot count of pairs
unfoldable pub order : ℕ → ℕ → List ℕ
order n h = around n (n / 2) (home n h)

-- what a walk for the name m sees in a slot
unfoldable pub sight : Name → Slot → Sight
sight m free = vacant
sight m (held n v) = cond (same m n) mine other

-- a name is stored if this walk meets it
unfoldable pub seek : List ℕ → Name → Walk
seek words m = walk (λ s. sight m (slot_at words s)) (order (slots words) m.h)

-- the home pair only
unfoldable pub near : List ℕ → Name → Walk
near words m = walk (λ s. sight m (slot_at words s)) (home (slots words) m.h ∷ [])

-- what a walk that looks for no match sees
unfoldable pub blind : Slot → Sight
blind free = vacant
blind (held n v) = other

-- the first empty slot of the walk from h, without looking for matches
unfoldable pub first_empty : List ℕ → ℕ → Walk
first_empty words h = walk (λ s. blind (slot_at words s)) (order (slots words) h)

-- ---- the entries and the load

-- 1 if the slot is taken
unfoldable pub weight : Slot → ℕ
weight free = 0
weight (held n v) = 1

-- the nonempty ones of the first n slots
unfoldable pub taken : (ℕ → Slot) → ℕ → ℕ
taken t zero = 0
taken t (suc n) = weight (t n) + taken t n

-- a new name beside `count` entries is one too many for n slots
unfoldable pub laden : ℕ → ℕ → Bool
laden n count = ltb (n * 3) ((count + 1) * 4)
