-- The numbers of merging's own. Assumes nothing.
use Rattle.std.specs.Prelude.{ℕ}

-- the most ids of a row that is merged by a scan of ranks: longer ones take a heap, and scratch
abbrev pub most_small : ℕ
most_small = 32

-- so many ids has a byte map
abbrev pub map_length : ℕ
map_length = 256

-- what stands before the first place of a short row
abbrev pub no_place : ℕ
no_place = 255
