-- The invariant: the pairs up to i are queued.
use mathlib.Core.Path.{◌≡◌}
use Rattle.pairs.specs.Rank.{rank_of}
use Rattle.bpe.specs.Links.{Stays}
use Rattle.bpe.proofs.Queue.{Seeding}
use Rattle.bpe.proofs.long.seed.Given as goal

abbrev pub invariant-loop-i : goal.invariant-loop-i
invariant-loop-i l = Stays l.initial.heap.words l.heap.words × Seeding (rank_of l.slots) l.row l.heap l.i
