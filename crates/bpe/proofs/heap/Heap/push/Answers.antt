-- The entry goes behind the last, and up to where it belongs.
use Rattle.bpe.proofs.Order.{pushed}
use Rattle.bpe.proofs.heap.Heap.push.Goals as goal

pub returns-clause-pushed : goal.returns-clause-pushed
returns-clause-pushed c = rw c.from.ensures at (pushed _ _ _ _ c.requires c.sift_up.ensures)
