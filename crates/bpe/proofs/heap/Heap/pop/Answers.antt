-- The first word is the least; the last takes its place and goes down.
use Prim.Native.Nat.{◌-◌}
use native.Mathlib.Omega.{arith}
use Rattle.bpe.proofs.Order.{taken}
use Rattle.bpe.proofs.heap.Heap.pop.Goals as goal

pub returns-clause-took : goal.returns-clause-took
returns-clause-took c =
    let h = c.args.self.now in
    taken h.words.now _ h.len (h.len - 1) _ _ (omega arith) h.fits h.ordered (omega (arith, c.from.ensures)) (omega (arith, c.from.ensures)) c.sift_down.ensures
