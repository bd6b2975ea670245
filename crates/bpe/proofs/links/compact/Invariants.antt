-- The invariant: what stands at the linked places up to `at` is at the front.
use Prim.Native.Nat.{◌-◌}
use lib.ListN.{length}
use Rattle.bpe.proofs.Pack.{Packing}
use Rattle.bpe.proofs.links.compact.Given as goal

abbrev pub invariant-loop-after : goal.invariant-loop-after
invariant-loop-after g l = Packing (goal.F-post g l.next) l.initial.row l.row l.count l.at

abbrev pub decreases-loop-after : goal.decreases-loop-after
decreases-loop-after g l = length l.initial.row - l.at
