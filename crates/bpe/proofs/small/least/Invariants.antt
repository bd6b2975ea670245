-- The invariant: the least rank up to i, and its first place.
use Rattle.bpe.proofs.Scans.{Leasting}
use Rattle.bpe.proofs.small.least.Given as goal

abbrev pub invariant-loop-i : goal.invariant-loop-i
invariant-loop-i l = Leasting l.ranks l.n l.merged l.place l.i
