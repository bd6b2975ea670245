-- A walk over pairs of slots, a slot and the one after it. Assumes nothing.
use Rattle.std.specs.Prelude.{List, [], ◌∷◌, ℕ, zero, suc, ◌+◌, ◌%◌}
pub use Rattle.token.specs.Walks.{Walk, hit, empty, full}

-- what a walk sees in a slot
pub data Sight : Type 0 where
  vacant mine other : Sight

-- on the pair of slot i: first matches, second matches, first empty, second empty; else on, with `rest`
abbrev pub pair : Sight → Sight → ℕ → Walk → Walk
pair mine y i rest = hit i
pair vacant mine i rest = hit (i + 1)
pair other mine i rest = hit (i + 1)
pair vacant vacant i rest = empty i
pair vacant other i rest = empty i
pair other vacant i rest = empty (i + 1)
pair other other i rest = rest

-- the pairs of the listed slots, in their order
unfoldable pub walk : (ℕ → Sight) → List ℕ → Walk
walk see [] = full
walk see (i ∷ l) = let rest = walk see l in pair (see i) (see (i + 1)) i rest

-- k slots from i on, each two on from the one before, wrapping at n
unfoldable pub around : ℕ → ℕ → ℕ → List ℕ
around n zero i = []
around n (suc k) i = i ∷ around n k ((i + 2) % n)
