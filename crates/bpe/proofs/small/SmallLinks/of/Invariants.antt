-- The invariant: the places up to i are linked, and their pairs have ranks.
use Rattle.std.proofs.Common.{length}
use Rattle.pairs.specs.Rank.{rank_of}
use Rattle.bpe.specs.Limits.{no_place}
use Rattle.bpe.specs.Small.{Sized}
use Rattle.bpe.proofs.Linking.{Linking}
use Rattle.bpe.proofs.Scans.{Ranking}
use Rattle.bpe.proofs.small.SmallLinks.of.Given as goal

abbrev pub invariant-loop-i : goal.invariant-loop-i
invariant-loop-i l = Linking no_place (length l.row) l.l.next l.l.prev l.i × Sized l.l.next l.l.prev l.l.ranks × Ranking (rank_of l.slots) l.row l.l.ranks l.i
