-- A table that holds its slots with their mask and shift. Assumes nothing.
use Rattle.std.specs.Prelude.{◌≡◌, Bool, ◌&&◌, cond, List, ℕ, ◌-◌, eqb, length}
use Rattle.std.specs.Borrow.{Bor}
use Rattle.pairs.specs.Key.{shift}
use Rattle.pairs.specs.Table.{shaped}
use Rattle.pairs.specs.declared.PairRankTable.{PairRankTable}
use Rattle.pairs.specs.Calls.{Rank, refuses, ranking_of}

-- the mask and the shift of n slots, 0 where so many are no table
abbrev pub held_mask : ℕ → ℕ
held_mask n = cond (shaped n) (n - 1) 0

abbrev pub held_shift : ℕ → ℕ
held_shift n = cond (shaped n) (shift n) 0

-- mask and shift are those of n slots
abbrev pub holds : ℕ → ℕ → ℕ → Bool
holds n mask by = eqb mask (held_mask n) && eqb by (held_shift n)

-- a mask or a shift of other slots is a wrong shape
unfoldable pub held_rank : List ℕ → ℕ → ℕ → ℕ → ℕ → Rank
held_rank s mask by a b = cond (holds (length s) mask by) (ranking_of s a b) (refuses 2 0)

-- the table that holds these slots, with their mask and shift
pub record Held (s : Bor (List ℕ)) (t : PairRankTable) : Type 0 where
  pub slots : t.slots ≡ s
  pub mask : t.mask ≡ held_mask (length s.now)
  pub shift : t.shift ≡ held_shift (length s.now)
