-- The invariant: the walk from here is the whole walk. Assumes nothing.
use Rattle.std.proofs.Common.{◌≡◌, ◌<◌, length}
use Rattle.pairs.specs.Key.{home}
use Rattle.pairs.specs.Walk.{walk}
use Rattle.pairs.proofs.PairRankTable.find.Given as goal

abbrev pub invariant-loop-left : goal.invariant-loop-left
invariant-loop-left l = (l.idx < length l.self.slots.now) × (walk l.self.slots.now l.k l.left l.idx ≡ walk l.self.slots.now l.k l.fuel (home l.self.shift l.k))

abbrev pub decreases-loop-left : goal.decreases-loop-left
decreases-loop-left l = l.left
