-- The walk of a key over the slots, wrapping. Assumes nothing.
use Rattle.std.specs.Prelude.{cond, List, ℕ, zero, suc, ◌+◌, ◌%◌, eqb, ltb, length, get_or}
pub use Rattle.token.specs.Walks.{Walk, hit, empty, full}
use Rattle.pairs.specs.Limits.{vacant, farthest}
use Rattle.pairs.specs.Key.{key_in, shift, home}

-- at most so many slots from i on: the key is tested before emptiness
unfoldable pub walk : List ℕ → ℕ → ℕ → ℕ → Walk
walk s k zero i = full
walk s k (suc fuel) i =
    let rest = walk s k fuel ((i + 1) % length s) in
    cond (eqb (key_in (get_or s i 0)) k) (hit i) (cond (eqb (get_or s i 0) vacant) (empty i) rest)

-- one round from home
abbrev pub round : List ℕ → ℕ → Walk
round s k = walk s k (length s) (home (shift (length s)) k)

-- as many slots as a rule may try: its home and those up to the farthest, and no more than one round
abbrev pub reach : ℕ → ℕ
reach n = cond (ltb n (farthest + 1)) n (farthest + 1)

abbrev pub near : List ℕ → ℕ → Walk
near s k = walk s k (reach (length s)) (home (shift (length s)) k)
