use Prim.Native.Nat.{◌+◌, ◌≤◌}
use Rattle.bpe.specs.Heap.{Up}
use Rattle.bpe.proofs.Order.{Kept}
use Rattle.bpe.proofs.heap.sift_up.Given as goal

abbrev pub invariant-loop-at : goal.invariant-loop-at
invariant-loop-at l = (l.at ≤ l.from) × Kept l.initial.heap (l.from + 1) l.heap × Up l.heap (l.from + 1) l.at

abbrev pub decreases-loop-at : goal.decreases-loop-at
decreases-loop-at l = l.at
