-- A lookup as one number, for merging. Assumes nothing.
use Rattle.std.specs.Prelude.{List, ℕ}
use Rattle.token.specs.Limits.{no_id}
use Rattle.merging.specs.Merging.{nothing, rule}
use Rattle.pairs.specs.Calls.{Rank, ranks, refuses, ranking_of}

abbrev pub number : Rank → ℕ
number (ranks nothing) = no_id
number (ranks (rule p m)) = m
number (refuses k p) = no_id

-- the merged id, or none
unfoldable pub rank_of : List ℕ → ℕ → ℕ → ℕ
rank_of s a b = number (ranking_of s a b)
