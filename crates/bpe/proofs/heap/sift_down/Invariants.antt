use Prim.Native.Nat.{◌-◌}
use Rattle.bpe.specs.Heap.{Down}
use Rattle.bpe.proofs.Order.{Kept}
use Rattle.bpe.proofs.heap.sift_down.Given as goal

abbrev pub invariant-loop-at : goal.invariant-loop-at
invariant-loop-at l = Kept l.initial.heap l.len l.heap × Down l.heap l.len l.at

abbrev pub decreases-loop-at : goal.decreases-loop-at
decreases-loop-at l = l.len - l.at
