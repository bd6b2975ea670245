-- The invariant: the run is on its way. The measure: what is queued, and twice the links.
use Prim.Native.Nat.{◌+◌, ◌*◌}
use lib.ListN.{length}
use Rattle.token.specs.Limits.{no_id}
use Rattle.pairs.specs.Rank.{rank_of}
use Rattle.bpe.specs.Links.{links}
use Rattle.bpe.specs.Long.{Going, Stay}
use Rattle.bpe.proofs.long.drain.Given as goal

abbrev pub invariant-loop-entry : goal.invariant-loop-entry
invariant-loop-entry l = Stay l.initial.links l.initial.heap l.links l.heap × Going (rank_of l.slots) (rank_of l.slots) l.initial.row l.row l.links l.heap

abbrev pub decreases-loop-entry : goal.decreases-loop-entry
decreases-loop-entry l = l.heap.len + 2 * links no_id (length l.initial.row) l.links.next.now
